-- The types of a legal interface that hold no pipe may be read in place.
use Rattle.std.proofs.Common.{◌≡◌, ℕ, zero, suc, true, List, Option, Some, None, refl, subst}
use Rattle.nd_types.specs.declared.types.TypeDef.{TypeDef}
use Rattle.nd_types.specs.declared.types.TypeDef.TheVariants as def
use Rattle.nd_types.specs.declared.types.TypeId.{TypeId}
use Rattle.nd_types.specs.declared.types.Operation.{Operation}
use Rattle.nd_types.specs.declared.types.Primitive.{Primitive}
use Rattle.nd_types.specs.declared.types.Primitive.TheVariants.{Short}
use Rattle.nd_types.specs.Table.{Table, type_at, carrier}
use Rattle.nd_types.specs.Layout.{parts}
use Rattle.nd_types.specs.Legal.{IsLegal, has_small_bound}
use Rattle.nd_types.proofs.LegalLaws.{passes_at}
use Rattle.nd_value.proofs.Apart.{all_weaker}
use Rattle.nd_grammar.proofs.legal.LegalUsable.{usable_readable}
use Rattle.nd_grammar.specs.ReaderState.{Usable}
use Rattle.nd_grammar.proofs.reader.ReaderInPlace.{Fine, Readable}
use Rattle.ndr_decoder_laws.specs.reader.Points.{TagForm, IsTagForm}
use Rattle.ndr_decoder_laws.specs.steps.Spots.{IsFormed, IsFine}

tag_form : (d : Option TypeDef) (p : Primitive) → carrier d ≡ Some p → (form : TagForm) × IsTagForm d form
tag_form (Some (def.Prim q)) p e = (record { prim = q; values = None }, refl)
tag_form (Some (def.Enum vs)) p e = (record { prim = Short; values = Some vs }, refl)
tag_form None p e = cc
tag_form (Some _) p e = cc

not_zero : (x : TypeId) (b : Option ℕ) → has_small_bound (def.Text x b) ≡ true → b ≡ Some 0 → ⊥
not_zero x b h e = let k : has_small_bound (def.Text x (Some 0)) ≡ true = subst (λ u. has_small_bound (def.Text x u) ≡ true) e h in cc

module _ (table : Table) (operations : List Operation) (legal : IsLegal table operations) where
  formed : (t : ℕ) (d : TypeDef) → type_at table t ≡ Some d → Fine table d → IsFormed table t d
  formed t (def.Text x b) e f = not_zero x b (passes_at has_small_bound table t (def.Text x b) legal.bounds e)
  formed t (def.Union tag enc arms default) e f = tag_form (type_at table tag.0) f.0 f.1
  formed t (def.Pipe x) e f = f
  formed t (def.Prim q) e f = tt
  formed t (def.Enum vs) e f = tt
  formed t (def.Struct ms) e f = tt
  formed t (def.Array x b v) e f = tt
  formed t (def.Pointer c to) e f = tt
  formed t def.Context e f = tt

  fine : (n t : ℕ) → Readable table n t → IsFine table n t
  fine zero t r = r
  fine (suc n) t (d, e, f, inner) =
      record { of = d; is_there = e; formed = formed t d e f; inner = all_weaker (Readable table n) (IsFine table n) (fine n) (parts (Some d)) inner }

  pub usable_fine : (t : ℕ) → Usable table t → IsFine table 32 t
  usable_fine t u = fine 32 t (usable_readable table operations legal t u)
