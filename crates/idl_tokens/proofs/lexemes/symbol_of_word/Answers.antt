use Rattle.std.proofs.Common.{◌≡◌, ◌∙◌, ap, ℕ}
use Rattle.idl_grammar.specs.Text.{symbol_among, symbol_of_word, words}
use Rattle.idl_tokens.proofs.lexemes.symbol_of_word.Goals as goal

pub returns-in-C706 : goal.returns-in-C706
unfolding symbol_of_word words
returns-in-C706 c = rw c.in-C706.is c.among.ensures

pub returns-in-Windows : goal.returns-in-Windows
unfolding symbol_of_word words
returns-in-Windows c =
    rw c.in-Windows.is (c.among-in-Windows.ensures ∙ ap (λ (n : ℕ). symbol_among words n c.args.octets.now) c.among-otherwise.ensures)
