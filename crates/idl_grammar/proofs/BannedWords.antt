-- Where a file could go on, a word that is banned anywhere is answered as such.
use Rattle.std.proofs.Common.{◌≡◌, ℕ, ◌+◌, ◌<◌, true, [], ◌∷◌, ◌++◌, length, refl, sym, ap, arith, ◌∙◌, Err, inl}
use Rattle.std.proofs.lemmas.List.{get_or-take}
use Rattle.nd_lemmas.proofs.Booleans.{clash}
use Rattle.idl_grammar.specs.Text.{Lexeme, Text, the_end, lexeme_at, is, Ban}
use Rattle.idl_grammar.specs.ReadPhrases.{Passes}
use Rattle.idl_grammar.specs.Answers.{begins, derives, lax, limits_before, is_banned, Answers}
use Rattle.idl_grammar.proofs.Within.{mark_within}
use Rattle.idl_grammar.specs.Symbols as symbol
use Rattle.idl_grammar.specs.Tree.{Tree}
use Rattle.idl_grammar.specs.Grammar.{file}
use Rattle.idl_grammar.proofs.CleanFile.{no_banned_word}
use Rattle.idl_grammar.proofs.Judged.{ended}

-- texts that begin alike have the same tokens there
agrees : (t x : Text) (n i : ℕ) → begins t n x → i < n → lexeme_at x i ≡ lexeme_at t i
agrees t x n i h lt =
    sym (ended x i)
    ∙ (sym (get_or-take n (x ++ the_end ∷ []) i the_end lt)
    ∙ (ap (λ (l : Text). lexeme_at l i) h
    ∙ (get_or-take n (t ++ the_end ∷ []) i the_end lt ∙ ended t i)))

banned_within : (x : Text) (k : ℕ) → is_banned x k ≡ true → k < length x
unfolding is_banned
banned_within x k h = mark_within x k symbol.Banned refl h

banned_same : (t x : Text) (k : ℕ) → lexeme_at x k ≡ lexeme_at t k → is_banned t k ≡ true → is_banned x k ≡ true
unfolding is_banned
banned_same t x k e h = ap (λ (l : Lexeme). is l.symbol symbol.Banned) e ∙ h

pub banned_word_answers : (t : Text) (k : ℕ) → (x : Text) (f : Tree) → begins t k x → derives file (limits_before k) f x → is_banned t k ≡ true → Answers file t (Err (Passes Ban k))
banned_word_answers t k x f b d h = record {
  place = inl (
    record {
      some = (x, f, b, d);
      none = λ y g c e.
          let here : is_banned y k ≡ true = banned_same t y k (agrees t y (k + 1) k c (omega arith)) h in
          clash (is_banned y k) here (no_banned_word lax g y e k (banned_within y k here));
    },
    h,
  );
}
