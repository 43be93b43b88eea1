-- The table of the lengths of a code's structs, as it is filled.
use Rattle.std.proofs.Common.{◌≡◌, ◌⊎◌, inl, inr, ℕ, zero, suc, List, [], ◌∷◌, ◌++◌, length, slice_get, Option, Some, IfSome, ap, sym, ◌∙◌, ◌+◌, subst, rules}
use Rattle.std.proofs.lemmas.List.{length-append}
use Rattle.ndr_code.specs.declared.instr.Instr.{Instr}
use Rattle.ndr_code.specs.declared.lengths.Lengths.{Lengths}
use Rattle.ndr_code.specs.Lengths.{AreLengths, IsLengths}

abbrev Entries : Type 0
Entries = List (Option Lengths)

-- an entry is one of those before, or the last
joined : (ls : Entries) (l : Option Lengths) (at : ℕ) (m : Option Lengths) → slice_get (ls ++ l ∷ []) at ≡ Some m → (slice_get ls at ≡ Some m) ⊎ ((at ≡ length ls) × (l ≡ m))
joined [] l zero m e = inr (λ i. 0, search (rules, e))
joined [] l (suc at) m e = cc
joined (h ∷ ls) l zero m e = inl e
joined (h ∷ ls) l (suc at) m e = later (joined ls l at m e)
  where
    later : (slice_get ls at ≡ Some m) ⊎ ((at ≡ length ls) × (l ≡ m)) → (slice_get (h ∷ ls) (suc at) ≡ Some m) ⊎ ((suc at ≡ length (h ∷ ls)) × (l ≡ m))
    later (inl before) = inl before
    later (inr last) = inr (ap suc last.0, last.1)

-- an empty table is right
pub lengths_none : (code : List Instr) (ls : Entries) → ls ≡ [] → AreLengths code ls
lengths_none code [] e at l i = cc
lengths_none code (h ∷ ls) e at l i = cc

-- one entry more
pub lengths_more : (code : List Instr) (ls ms : Entries) (l : Option Lengths) (pc : ℕ) → AreLengths code ls → length ls ≡ pc → IfSome l (λ x. IsLengths code pc x) → ms ≡ ls ++ l ∷ []
    → AreLengths code ms
lengths_more code ls ms l pc h many e g at x i = found (joined ls l at (Some x) (sym (ap (λ zs. slice_get zs at) g) ∙ i))
  where
    found : (slice_get ls at ≡ Some (Some x)) ⊎ ((at ≡ length ls) × (l ≡ Some x)) → IsLengths code at x
    found (inl before) = h at x before
    found (inr last) = subst (λ n. IsLengths code n x) (sym (last.0 ∙ many)) (subst (λ o. IfSome o (λ y. IsLengths code pc y)) last.1 e)

-- and its length
pub one_longer : (ls ms : Entries) (l : Option Lengths) (pc : ℕ) → length ls ≡ pc → ms ≡ ls ++ l ∷ [] → length ms ≡ pc + 1
one_longer ls ms l pc many g = ap length g ∙ length-append ls (l ∷ []) ∙ ap (λ n. n + 1) many
