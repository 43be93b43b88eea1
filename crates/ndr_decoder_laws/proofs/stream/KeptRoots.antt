-- What is kept of a root's first node says which cell the root names.
use Rattle.std.proofs.Common.{◌≡◌, ℕ, true, List, [], ◌∷◌, Option, Some, None, refl, sym, inl, inr, subst, map}
use Rattle.std.specs.List.{slice_get}
use Rattle.std.proofs.lemmas.Option.{same_Some}
use Rattle.nd_types.specs.declared.types.Class.{Class}
use Rattle.nd_types.specs.declared.types.TypeDef.{TypeDef}
use Rattle.nd_types.specs.declared.types.TypeDef.TheVariants as def
use Rattle.nd_types.specs.declared.types.TypeId.{TypeId}
use Rattle.nd_types.specs.Table.{Table, type_at}
use Rattle.nd_value.specs.declared.item.Home.{Home}
use Rattle.nd_value.specs.Misfit.{has_shape}
use Rattle.nd_value.specs.Tree as tree
use Rattle.nd_value.specs.Tree.{Tree, Trees, node, none, more, Flat, flat}
use Rattle.nd_value.specs.Deferral.{home_pointers}
use Rattle.nd_grammar.specs.Entry.{EntryAt}
use Rattle.nd_grammar.specs.MadeTrees.{MadeTrees, MadeNode}
use Rattle.ndr_decoder_laws.specs.declared.first.First.{First}
use Rattle.ndr_decoder_laws.specs.declared.first.First.TheVariants as first
use Rattle.ndr_decoder_laws.specs.steps.Good.{owed, Kept as IsKept}
use Rattle.ndr_decoder_laws.specs.steps.Steps.{first_of}
use Rattle.ndr_decoder_laws.specs.stream.Between.{named_by, pointer_cell}

pointer_type : (d : Option TypeDef) (c : Option ℕ) (ks : Trees) → has_shape d (tree.Ptr c) ks ≡ true → (class : Class) × (to : TypeId) × (d ≡ Some (def.Pointer class to))
pointer_type (Some (def.Pointer class to)) c ks h = (class, to, refl)
pointer_type (Some (def.Prim p)) c ks h = cc
pointer_type (Some (def.Enum values)) c ks h = cc
pointer_type (Some (def.Struct members)) c ks h = cc
pointer_type (Some (def.Array elem bound varying)) c ks h = cc
pointer_type (Some (def.Text elem bound)) c ks h = cc
pointer_type (Some (def.Union tag enc arms default)) c ks h = cc
pointer_type (Some def.Context) c ks h = cc
pointer_type (Some (def.Pipe elem)) c ks h = cc
pointer_type None c ks h = cc

module _ (table : Table) (h : Home) (t : ℕ) where
  first_pointer : (c : Option ℕ) (ks : Trees) (class : Class) (to : TypeId) → type_at table t ≡ Some (def.Pointer class to)
      → named_by first.Pointer (map (owed table) (home_pointers table h t (node (tree.Ptr c) ks))) ≡ c
  first_pointer c ks class to e = rw e refl

  pointer_named : (c : Option ℕ) (ks : Trees) → MadeNode table (type_at table t) (tree.Ptr c) ks
      → named_by first.Pointer (map (owed table) (home_pointers table h t (node (tree.Ptr c) ks))) ≡ c
  pointer_named c ks (inl e) = cc
  pointer_named c ks (inr f) = let (class, to, e) = pointer_type (type_at table t) c ks f.shape in first_pointer c ks class to e

  by_label : (v : Tree) (place : Option ℕ) → MadeTrees table (t ∷ []) (more v none) → (x : Flat) → slice_get (flat (more v none)) 0 ≡ Some x
      → named_by (first_of x place) (map (owed table) (home_pointers table h t v)) ≡ pointer_cell v
  by_label (node (tree.Num z) ks) place m x e = subst (λ u. named_by (first_of u place) (map (owed table) (home_pointers table h t (node (tree.Num z) ks))) ≡ None) (same_Some _ _ e) refl
  by_label (node (tree.Ptr c) ks) place m x e =
      subst (λ u. named_by (first_of u place) (map (owed table) (home_pointers table h t (node (tree.Ptr c) ks))) ≡ c) (same_Some _ _ e) (pointer_named c ks m.0)
  by_label (node (tree.Arr a b) ks) place m x e = subst (λ u. named_by (first_of u place) (map (owed table) (home_pointers table h t (node (tree.Arr a b) ks))) ≡ None) (same_Some _ _ e) refl
  by_label (node (tree.Text a os) ks) place m x e = subst (λ u. named_by (first_of u place) (map (owed table) (home_pointers table h t (node (tree.Text a os) ks))) ≡ None) (same_Some _ _ e) refl
  by_label (node (tree.Union z) ks) place m x e = subst (λ u. named_by (first_of u place) (map (owed table) (home_pointers table h t (node (tree.Union z) ks))) ≡ None) (same_Some _ _ e) refl
  by_label (node (tree.Context a id) ks) place m x e = subst (λ u. named_by (first_of u place) (map (owed table) (home_pointers table h t (node (tree.Context a id) ks))) ≡ None) (same_Some _ _ e) refl
  by_label (node tree.Rec ks) place m x e = subst (λ u. named_by (first_of u place) (map (owed table) (home_pointers table h t (node tree.Rec ks))) ≡ None) (same_Some _ _ e) refl
  by_label (node tree.Pipe ks) place m x e = subst (λ u. named_by (first_of u place) (map (owed table) (home_pointers table h t (node tree.Pipe ks))) ≡ None) (same_Some _ _ e) refl
  by_label (node tree.Unread ks) place m x e = subst (λ u. named_by (first_of u place) (map (owed table) (home_pointers table h t (node tree.Unread ks))) ≡ None) (same_Some _ _ e) refl

  pub cell_named : (seen : List EntryAt) (max_at : Option ℕ) (v : Tree) (y : First) → MadeTrees table (t ∷ []) (more v none) → IsKept h seen max_at (flat (more v none)) 0 y
      → named_by y (map (owed table) (home_pointers table h t v)) ≡ pointer_cell v
  cell_named seen max_at v y m k =
      subst (λ u. named_by u (map (owed table) (home_pointers table h t v)) ≡ pointer_cell v) (sym k.kept) (by_label v k.place m k.is k.there)
