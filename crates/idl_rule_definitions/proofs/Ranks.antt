-- Where a file is in a list.
use Rattle.std.proofs.Common.{◌≡◌, ◌∙◌, ℕ, zero, suc, ◌+◌, ◌<◌, ◌≤◌, Bool, true, false, List, [], ◌∷◌, drop, length, refl, ap, sym, arith, eqb, add-one}
use Rattle.std.proofs.lemmas.List.{drop_all}
use Rattle.idl_scope.specs.Known.{Ended}
use Rattle.idl_rule_definitions.specs.Rules.{rank_in}
use Rattle.idl_rule_definitions.specs.Found.{is_file_at}

here : (files : List Ended) (file n : ℕ) → is_file_at files n file ≡ true → rank_in (drop n files) file ≡ 0
here [] file zero e = absurd (let f : false ≡ true = e in cc)
here [] file (suc n) e = absurd (let f : false ≡ true = e in cc)
here (f ∷ fs) file zero e = ap (λ b. elim b [ true ↦ 0 | false ↦ rank_in fs file + 1 ]) e
here (f ∷ fs) file (suc n) e = here fs file n e

later : (files : List Ended) (file n : ℕ) → n < length files → is_file_at files n file ≡ false → rank_in (drop n files) file ≡ rank_in (drop (suc n) files) file + 1
later [] file n below e = absurd (omega (arith, below))
later (f ∷ fs) file zero below e = ap (λ b. elim b [ true ↦ 0 | false ↦ rank_in fs file + 1 ]) e
later (f ∷ fs) file (suc n) below e = later fs file n (omega (arith, below)) e

-- it is none of the first n
pub found_at : (files : List Ended) (file n : ℕ) → rank_in files file ≡ n + rank_in (drop n files) file → is_file_at files n file ≡ true → n ≡ rank_in files file
found_at files file n h e = let z = here files file n e in omega (arith, h, z)

pub not_at : (files : List Ended) (file n : ℕ) → n < length files → rank_in files file ≡ n + rank_in (drop n files) file → is_file_at files n file ≡ false
    → rank_in files file ≡ n + 1 + rank_in (drop (n + 1) files) file
not_at files file n below h e =
    let z = later files file n below e in
    let there : rank_in files file ≡ n + 1 + rank_in (drop (suc n) files) file = omega (arith, h, z) in
    there ∙ ap (λ k. n + 1 + rank_in (drop k files) file) (sym (add-one n))

pub nowhere : (files : List Ended) (file n : ℕ) → n ≡ length files → rank_in files file ≡ n + rank_in (drop n files) file → length files ≡ rank_in files file
nowhere files file n past h =
    let z : rank_in (drop n files) file ≡ 0 = ap (λ l. rank_in l file) (drop_all n files (omega (arith, past))) in
    omega (arith, h, z, past)
