-- What the tests of one node say of its misfit.
use Rattle.std.proofs.Common.{◌≡◌, ℕ, ◌+◌, ◌<◌, suc, get_or, ℤ, Bool, true, false, ◌&&◌, List, [], ◌∷◌, length, drop, Option, Some, None, refl, ap, sym, ◌∙◌}
use Rattle.std.specs.Prelude.{◌||◌}
use Rattle.std.specs.List.{list_all, list_any, slice_get}
use Rattle.std.specs.Cmp.Derive.{both_true}
use Rattle.std.specs.Ordering.{int_eq}
use Rattle.std.proofs.lemmas.Bool.{eq-eqb, ne_eqb, lt-ltb}
use Rattle.nd_types.specs.declared.types.Field.{Field}
use Rattle.nd_types.specs.declared.types.TypeId.{TypeId}
use Rattle.nd_types.specs.declared.types.TypeDef.TheVariants as def
use Rattle.nd_types.specs.Table.{Table}
use Rattle.nd_value.specs.declared.value.Graph.{Graph}
use Rattle.nd_value.specs.declared.misfit.MisfitReason.TheVariants as misfit
use Rattle.nd_value.specs.Tree as tree
use Rattle.nd_value.specs.Tree.{Tree, Trees, trees, count}
use Rattle.nd_value.specs.Misfit.{has_counts, is_within, unless, misfit_by, is_octet}
use Rattle.nd_lemmas.proofs.Lists.{drop_next as drop-get}

pub count_trees : (ts : List Tree) → count (trees ts) ≡ length ts
count_trees [] = refl
count_trees (t ∷ ts) = ap suc (count_trees ts)

module _ (table : Table) (g : Graph) (elem : TypeId) (bound : Option ℕ) (varying : Bool) (max offset : ℕ) (ks : Trees) (b : Bool) where
  abbrev tested : Bool
  tested = has_counts (Some (def.Array elem bound varying)) (tree.Arr max offset) ks && is_within (tree.Arr max offset) ks

  pub array_fits : b ≡ tested → b ≡ true → None ≡ misfit_by table g (Some (def.Array elem bound varying)) (tree.Arr max offset) ks
  array_fits e t = sym (ap (λ x. unless x misfit.Bound None) (sym e ∙ t))

  pub array_bound : b ≡ tested → b ≡ false → Some misfit.Bound ≡ misfit_by table g (Some (def.Array elem bound varying)) (tree.Arr max offset) ks
  array_bound e t = sym (ap (λ x. unless x misfit.Bound None) (sym e ∙ t))

module _ (table : Table) (g : Graph) (members : List Field) (ks : Trees) where
  pub struct_fits : count ks ≡ length members → None ≡ misfit_by table g (Some (def.Struct members)) tree.Rec ks
  struct_fits e = sym (ap (λ x. unless x misfit.Shape None) (eq-eqb (count ks) (length members) e))

  pub struct_shape : (count ks ≡ length members → ⊥) → Some misfit.Shape ≡ misfit_by table g (Some (def.Struct members)) tree.Rec ks
  struct_shape n = sym (ap (λ x. unless x misfit.Shape None) (ne_eqb (count ks) (length members) n))

module _ (z : ℤ) where
  -- one number further
  pub any_found : (vs : List ℤ) (i : ℕ) (v : ℤ) → slice_get vs i ≡ Some v → int_eq z v ≡ true → list_any (int_eq z) (drop i vs) ≡ true
  any_found vs i v e h = ap (list_any (int_eq z)) (drop-get vs i v e) ∙ ap (λ b. b || list_any (int_eq z) (drop (i + 1) vs)) h

  pub any_next : (vs : List ℤ) (i : ℕ) (v : ℤ) → slice_get vs i ≡ Some v → int_eq z v ≡ false
      → list_any (int_eq z) (drop i vs) ≡ list_any (int_eq z) (drop (i + 1) vs)
  any_next vs i v e h = ap (list_any (int_eq z)) (drop-get vs i v e) ∙ ap (λ b. b || list_any (int_eq z) (drop (i + 1) vs)) h

-- octets that are below 256 one by one
pub octets_are : (os : List ℕ) → ((i : ℕ) → get_or os i 0 < 256) → list_all is_octet os ≡ true
octets_are [] h = refl
octets_are (b ∷ os) h = both_true (lt-ltb b 256 (h 0)) (octets_are os (λ i. h (suc i)))
