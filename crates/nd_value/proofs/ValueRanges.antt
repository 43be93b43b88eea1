-- A value of a type is one that the octets of the type can hold, where enumerators are small.
use Rattle.std.proofs.Common.{◌≡◌, ℕ, ℤ, true, ◌&&◌, List, [], ◌∷◌, Option, Some, None, refl, sym, inl, inr, ◌⊎◌, subst}
use Rattle.std.specs.Prelude.{pos, negsuc, int_le}
use Rattle.std.specs.Ordering.{int_eq}
use Rattle.std.specs.List.{list_all, list_any}
use Rattle.std.proofs.lemmas.Bool.{and_parts, or_cases}
use Rattle.std.proofs.lemmas.Bool.Decides.{Decides-int_eq}
use Rattle.nd_types.specs.declared.types.TypeDef.{TypeDef}
use Rattle.nd_types.specs.declared.types.TypeDef.TheVariants as def
use Rattle.nd_types.specs.declared.types.Primitive.TheVariants.{Short}
use Rattle.nd_types.specs.Table.{Table, type_at, is_value, fits_octets, in_range}
use Rattle.nd_types.specs.Legal.{has_small_values}
use Rattle.nd_types.proofs.LegalLaws.{passes_at}
use Rattle.nd_value.specs.Tree as tree
use Rattle.nd_value.specs.Tree.{Label}
use Rattle.nd_value.specs.Misfit.{has_range}

-- an enumerator is a short
small_fits : (z : ℤ) → (int_le (pos 0) z && int_le z (pos 32767)) ≡ true → in_range Short z ≡ true
small_fits (pos n) h = (and_parts _ _ h).1
small_fits (negsuc n) h = cc

one_of : (z : ℤ) (vs : List ℤ) → list_all (λ v. int_le (pos 0) v && int_le v (pos 32767)) vs ≡ true → list_any (int_eq z) vs ≡ true → in_range Short z ≡ true
one_of z [] a b = cc
one_of z (v ∷ vs) a b = go (or_cases (int_eq z v) (list_any (int_eq z) vs) b) (and_parts _ _ a) (one_of z vs)
  where
    go : (int_eq z v ≡ true) ⊎ (list_any (int_eq z) vs ≡ true)
        → ((int_le (pos 0) v && int_le v (pos 32767)) ≡ true) × (list_all (λ v. int_le (pos 0) v && int_le v (pos 32767)) vs ≡ true)
        → (list_all (λ v. int_le (pos 0) v && int_le v (pos 32767)) vs ≡ true → list_any (int_eq z) vs ≡ true → in_range Short z ≡ true) → in_range Short z ≡ true
    go (inl e) p r = small_fits z (subst (λ u. (int_le (pos 0) u && int_le u (pos 32767)) ≡ true) (sym ((Decides-int_eq z v).0 e)) p.0)
    go (inr e) p r = r p.1 e

module _ (table : Table) (small : list_all has_small_values table ≡ true) where
  value_fits : (t : ℕ) (d : Option TypeDef) → type_at table t ≡ d → (z : ℤ) → is_value d z ≡ true → fits_octets d z ≡ true
  value_fits t (Some (def.Prim p)) e z h = h
  value_fits t (Some (def.Enum vs)) e z h = one_of z vs (passes_at has_small_values table t (def.Enum vs) small e) h
  value_fits t None e z h = cc
  value_fits t (Some _) e z h = cc

  num_fits : (t : ℕ) (d : Option TypeDef) → type_at table t ≡ d → (z : ℤ) → has_range is_value table d (tree.Num z) ≡ true → has_range fits_octets table d (tree.Num z) ≡ true
  num_fits t (Some (def.Union tag enc arms default)) e z h = cc
  num_fits t (Some (def.Prim p)) e z h = h
  num_fits t (Some (def.Enum vs)) e z h = value_fits t (Some (def.Enum vs)) e z h
  num_fits t None e z h = cc
  num_fits t (Some _) e z h = cc

  tag_fits : (d : Option TypeDef) (v : ℤ) → has_range is_value table d (tree.Union v) ≡ true → has_range fits_octets table d (tree.Union v) ≡ true
  tag_fits (Some (def.Union tag enc arms default)) v h = value_fits tag.0 (type_at table tag.0) refl v h
  tag_fits None v h = refl
  tag_fits (Some _) v h = refl

  other_fits : (d : Option TypeDef) (l : Label) → ((v : ℤ) → l ≡ tree.Union v → ⊥) → ((z : ℤ) → l ≡ tree.Num z → ⊥) → has_range fits_octets table d l ≡ true
  other_fits d (tree.Num z) a b = absurd (b z refl)
  other_fits d (tree.Union v) a b = absurd (a v refl)
  other_fits (Some (def.Union tag enc arms default)) _ a b = refl
  other_fits d _ a b = refl

  pub range_fits : (t : ℕ) (d : Option TypeDef) → type_at table t ≡ d → (l : Label) → has_range is_value table d l ≡ true → has_range fits_octets table d l ≡ true
  range_fits t d e (tree.Num z) h = num_fits t d e z h
  range_fits t d e (tree.Union v) h = tag_fits d v h
  range_fits t d e tree.Rec h = other_fits d tree.Rec (λ v f. cc) (λ z f. cc)
  range_fits t d e (tree.Arr m o) h = other_fits d (tree.Arr m o) (λ v f. cc) (λ z f. cc)
  range_fits t d e (tree.Text m os) h = other_fits d (tree.Text m os) (λ v f. cc) (λ z f. cc)
  range_fits t d e (tree.Ptr c) h = other_fits d (tree.Ptr c) (λ v f. cc) (λ z f. cc)
  range_fits t d e (tree.Context a i) h = other_fits d (tree.Context a i) (λ v f. cc) (λ z f. cc)
  range_fits t d e tree.Pipe h = other_fits d tree.Pipe (λ v f. cc) (λ z f. cc)
  range_fits t d e tree.Unread h = other_fits d tree.Unread (λ v f. cc) (λ z f. cc)
