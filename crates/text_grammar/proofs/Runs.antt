-- Runs of letters, digits and `_`: where they end, and that a run is cut in one way.
use Rattle.std.proofs.Common.{◌≡◌, ℕ, ◌+◌, ◌≤◌, Bool, true, false, not, cond, List, [], ◌∷◌, ◌++◌, length, refl, sym, ap, ◌∙◌, arith}
use Rattle.std.specs.List.{list_all}
use Rattle.std.proofs.lemmas.Bool.{cond-true, and_parts, and_from}
use Rattle.nd_base.specs.Text.{is_word_octet}
use Rattle.text_grammar.specs.Tokens.{is_blank, ends_run, skip}
use Rattle.text_grammar.specs.Runs.{run, after_run}

pub run_joins : (s : List ℕ) → s ≡ run s ++ after_run s
run_joins [] = refl
run_joins (c ∷ cs) = by_test (is_word_octet c) (run_joins cs) where
  by_test : (b : Bool) → cs ≡ run cs ++ after_run cs → c ∷ cs ≡ cond b (c ∷ run cs) [] ++ cond b (after_run cs) (c ∷ cs)
  by_test true h = ap (λ (l : List ℕ). c ∷ l) h
  by_test false h = refl

pub run_words : (s : List ℕ) → list_all is_word_octet (run s) ≡ true
run_words [] = refl
run_words (c ∷ cs) = by_test (is_word_octet c) refl (run_words cs) where
  by_test : (b : Bool) → is_word_octet c ≡ b → list_all is_word_octet (run cs) ≡ true → list_all is_word_octet (cond b (c ∷ run cs) []) ≡ true
  by_test true t h = and_from (is_word_octet c) (list_all is_word_octet (run cs)) t h
  by_test false t h = refl

pub run_ends : (s : List ℕ) → ends_run (after_run s) ≡ true
run_ends [] = refl
run_ends (c ∷ cs) = by_test (is_word_octet c) refl (run_ends cs) where
  by_test : (b : Bool) → is_word_octet c ≡ b → ends_run (after_run cs) ≡ true → ends_run (cond b (after_run cs) (c ∷ cs)) ≡ true
  by_test true t h = h
  by_test false t h = ap not t

none_runs : (rest : List ℕ) → ends_run rest ≡ true → (run rest ≡ []) × (after_run rest ≡ rest)
none_runs [] h = (refl, refl)
none_runs (c ∷ cs) h = by_test (is_word_octet c) h where
  by_test : (b : Bool) → not b ≡ true → (cond b (c ∷ run cs) [] ≡ []) × (cond b (after_run cs) (c ∷ cs) ≡ c ∷ cs)
  by_test true h = cc
  by_test false h = (refl, refl)

-- a run with what ends it is cut there
pub run_again : (ds rest : List ℕ) → list_all is_word_octet ds ≡ true → ends_run rest ≡ true → (run (ds ++ rest) ≡ ds) × (after_run (ds ++ rest) ≡ rest)
run_again [] rest h e = none_runs rest e
run_again (c ∷ cs) rest h e =
    let p = and_parts (is_word_octet c) (list_all is_word_octet cs) h in
    let r = run_again cs rest p.1 e in (
      cond-true (is_word_octet c) (c ∷ run (cs ++ rest)) [] p.0 ∙ ap (λ (l : List ℕ). c ∷ l) r.0,
      cond-true (is_word_octet c) (after_run (cs ++ rest)) (c ∷ (cs ++ rest)) p.0 ∙ r.1,
    )

-- two runs at one place are the same
pub one_run : (ds es rest after : List ℕ) → list_all is_word_octet ds ≡ true → list_all is_word_octet es ≡ true → ends_run rest ≡ true → ends_run after ≡ true
    → ds ++ rest ≡ es ++ after → (ds ≡ es) × (rest ≡ after)
one_run ds es rest after a b c d e =
    let p = run_again ds rest a c in
    let q = run_again es after b d in
    (sym p.0 ∙ ap run e ∙ q.0, sym p.1 ∙ ap after_run e ∙ q.1)

-- ## Blanks

pub skip_less : (s : List ℕ) → length (skip s) ≤ length s
skip_less [] = omega arith
skip_less (c ∷ cs) = by_test (is_blank c) (skip_less cs) where
  by_test : (b : Bool) → length (skip cs) ≤ length cs → length (cond b (skip cs) (c ∷ cs)) ≤ length (c ∷ cs)
  by_test true h = omega arith
  by_test false h = omega arith
