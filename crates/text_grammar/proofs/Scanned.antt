-- What is read at the front of a text.
use Rattle.std.proofs.Common.{◌≡◌, ℕ, true, List, [], ◌∷◌, ◌++◌, Some, sym, ap, ap₂, ◌∙◌}
use Rattle.std.specs.List.{list_all}
use Rattle.std.proofs.lemmas.Bool.{cond-true, and_from}
use Rattle.nd_base.specs.Text.{is_word, is_word_octet, is_letter}
use Rattle.text_grammar.specs.Tokens.{Word, Spells, ends_run}
use Rattle.text_grammar.specs.Runs.{run, after_run, begins, number_of, IsNatural}
use Rattle.text_grammar.proofs.Classes.{letter_word}
use Rattle.text_grammar.proofs.Runs.{run_joins, run_words, run_ends}
use Rattle.text_grammar.proofs.Numerals.{number_is}

-- ## Words

pub word_first : (text word rest : List ℕ) → begins is_letter text ≡ true → word ≡ run text → rest ≡ after_run text → Spells text (Word word) rest
word_first [] word rest h e f = cc
word_first (c ∷ cs) word rest h e f =
    let w : word ≡ c ∷ run cs = e ∙ cond-true (is_word_octet c) (c ∷ run cs) [] (letter_word c h) in (
      run_joins (c ∷ cs) ∙ ap₂ (λ x (y : List ℕ). x ++ y) (sym e) (sym f),
      ap is_word w ∙ and_from (is_letter c) (list_all is_word_octet (run cs)) h (run_words cs),
      ap ends_run f ∙ run_ends (c ∷ cs),
    )

-- ## Numbers

pub natural_some : (text front rest : List ℕ) (n : ℕ) → front ≡ run text → rest ≡ after_run text → number_of front ≡ Some n → IsNatural text n rest
natural_some text front rest n e f h =
    let p = number_is front n h in
    record { is = run_joins text ∙ ap₂ (λ x (y : List ℕ). x ++ y) (sym e ∙ p.0) (sym f); small = p.1; ended = ap ends_run f ∙ run_ends text }
