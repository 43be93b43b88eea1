-- The gap before a value leads to a multiple of 1, 2, 4 or 8.
use Rattle.std.proofs.Common.{◌≡◌, ℕ, true, false, List, [], ◌∷◌, ◌++◌, Option, Some, None, subst}
use Rattle.std.specs.Prelude.{pos}
use Rattle.std.specs.List.{AllByRecursion}
use Rattle.std.proofs.lemmas.Option.{same_Some}
use Rattle.nd_types.specs.declared.types.TypeDef.{TypeDef}
use Rattle.nd_types.specs.declared.types.TypeDef.TheVariants as def
use Rattle.nd_types.specs.declared.types.Arm.{Arm}
use Rattle.nd_types.specs.Table.{Table, type_at}
use Rattle.nd_value.specs.declared.item.Home.{Home}
use Rattle.nd_value.specs.Deferral.{Pending}
use Rattle.nd_value.specs.Tree as tree
use Rattle.nd_value.specs.Tree.{node, none, more, Label}
use Rattle.nd_grammar.specs.Entry.{before_children, entries, tag_entries}
use Rattle.nd_grammar.proofs.reader.EntriesFine.{Fine, FullOk, fine_in_place}
use Rattle.ndr_decoder_laws.specs.reader.Halves.{gap_of, tag_gap}
use Rattle.ndr_decoder_laws.specs.steps.Steps.{IsAlignment}

abbrev any_cell : ℕ → Type 0
any_cell c = Unit {0}

all_pointers : (ps : List Pending) → AllByRecursion (FullOk any_cell) ps
all_pointers [] = tt
all_pointers (p ∷ ps) = ((λ c f e. tt), all_pointers ps)

module _ (table : Table) (h : Home) (t : ℕ) where
  -- the gaps of a node that says this
  own_gaps : (d : TypeDef) → type_at table t ≡ Some d → (l : Label) → AllByRecursion (Fine any_cell) (entries h 0 (before_children table t (Some d) l none) ++ [])
  own_gaps d e l =
      subst (λ o. AllByRecursion (Fine any_cell) (entries h 0 (before_children table t o l none) ++ [])) e
      (fine_in_place any_cell table h (t ∷ []) [] 0 (more (node l none) none) (all_pointers _))

  by_tag : (o : Option TypeDef) (arms : List Arm) (default : Option Arm) (a : ℕ) → tag_gap o ≡ Some a
      → AllByRecursion (Fine any_cell) (entries h 0 (tag_entries o arms default (pos 0)) ++ []) → IsAlignment a
  by_tag (Some (def.Prim p)) arms default a e x = subst IsAlignment (same_Some _ a e) x.0
  by_tag (Some (def.Enum values)) arms default a e x = subst IsAlignment (same_Some _ a e) x.0
  by_tag None arms default a e x = cc
  by_tag (Some _) arms default a e x = cc

  pub gap_alignment : (d : TypeDef) → type_at table t ≡ Some d → (a : ℕ) → gap_of table t (Some d) ≡ Some a → IsAlignment a
  gap_alignment (def.Prim p) there a e = subst IsAlignment (same_Some _ a e) (own_gaps (def.Prim p) there (tree.Num (pos 0))).0
  gap_alignment (def.Enum values) there a e = subst IsAlignment (same_Some _ a e) (own_gaps (def.Enum values) there (tree.Num (pos 0))).0
  gap_alignment (def.Struct members) there a e = subst IsAlignment (same_Some _ a e) (own_gaps (def.Struct members) there tree.Rec).0
  gap_alignment (def.Array elem bound true) there a e = subst IsAlignment (same_Some _ a e) (own_gaps (def.Array elem bound true) there (tree.Arr 0 0)).0
  gap_alignment (def.Array elem bound false) there a e = cc
  gap_alignment (def.Text elem bound) there a e = subst IsAlignment (same_Some _ a e) (own_gaps (def.Text elem bound) there (tree.Text 0 [])).0
  gap_alignment (def.Union tag encapsulated arms default) there a e =
      by_tag (type_at table tag.0) arms default a e (own_gaps (def.Union tag encapsulated arms default) there (tree.Union (pos 0)))
  gap_alignment (def.Pointer class to) there a e = subst IsAlignment (same_Some _ a e) (own_gaps (def.Pointer class to) there (tree.Ptr None)).0
  gap_alignment def.Context there a e = subst IsAlignment (same_Some _ a e) (own_gaps def.Context there (tree.Context 0 [])).0
  gap_alignment (def.Pipe elem) there a e = cc
