-- The table of a code's members, as it is filled.
use Rattle.std.proofs.Common.{◌≡◌, ◌⊎◌, inl, inr, ℕ, zero, suc, List, [], ◌∷◌, ◌++◌, length, slice_get, Option, Some, ap, sym, ◌∙◌, ◌+◌, rules}
use Rattle.std.proofs.lemmas.List.{length-append}
use Rattle.ndr_code.specs.declared.instr.Instr.{Instr}
use Rattle.ndr_code.specs.declared.fields.Field.{Field}
use Rattle.ndr_code.specs.Fields.{AreFields, field_of}

abbrev Fields : Type 0
Fields = List (Option Field)

-- an entry is one of those before, or the last
joined : (fs : Fields) (f : Option Field) (at : ℕ) (g : Option Field) → slice_get (fs ++ f ∷ []) at ≡ Some g → (slice_get fs at ≡ Some g) ⊎ ((at ≡ length fs) × (f ≡ g))
joined [] f zero g e = inr (λ i. 0, search (rules, e))
joined [] f (suc at) g e = cc
joined (h ∷ fs) f zero g e = inl e
joined (h ∷ fs) f (suc at) g e = later (joined fs f at g e)
  where
    later : (slice_get fs at ≡ Some g) ⊎ ((at ≡ length fs) × (f ≡ g)) → (slice_get (h ∷ fs) (suc at) ≡ Some g) ⊎ ((suc at ≡ length (h ∷ fs)) × (f ≡ g))
    later (inl before) = inl before
    later (inr last) = inr (ap suc last.0, last.1)

-- an empty table is right
pub fields_none : (code : List Instr) (fs : Fields) → fs ≡ [] → AreFields code fs
fields_none code [] e at f i = cc
fields_none code (g ∷ fs) e at f i = cc

-- one entry more
pub fields_more : (code : List Instr) (fs gs : Fields) (f : Option Field) (pc : ℕ) → AreFields code fs → length fs ≡ pc → field_of code pc ≡ f → gs ≡ fs ++ f ∷ [] → AreFields code gs
fields_more code fs gs f pc h l e g at x i = found (joined fs f at x (sym (ap (λ zs. slice_get zs at) g) ∙ i))
  where
    found : (slice_get fs at ≡ Some x) ⊎ ((at ≡ length fs) × (f ≡ x)) → field_of code at ≡ x
    found (inl before) = h at x before
    found (inr last) = ap (field_of code) (last.0 ∙ l) ∙ e ∙ last.1

-- and its length
pub one_longer : (fs gs : Fields) (f : Option Field) (pc : ℕ) → length fs ≡ pc → gs ≡ fs ++ f ∷ [] → length gs ≡ pc + 1
one_longer fs gs f pc l g = ap length g ∙ length-append fs (f ∷ []) ∙ ap (λ n. n + 1) l
