-- A node under two tied tables has the same misfit, where cells are of related types too.
use Rattle.std.proofs.Common.{◌≡◌, ℕ, ◌+◌, ◌<◌, zero, suc, ℤ, Bool, true, false, not, ◌&&◌, eqb, leb, List, [], ◌∷◌, ◌++◌, Option, Some, None, refl, ap, ap₂, sym, ◌∙◌, subst, map, length, arith}
use Rattle.std.specs.Prelude.{slice_get}
use Rattle.std.proofs.lemmas.Bool.{eqb-true, eq-eqb}
use Rattle.std.proofs.lemmas.Option.{same_Some}
use Rattle.nd_types.specs.declared.types.TypeId.{TypeId}
use Rattle.nd_types.specs.declared.types.TypeDef.{TypeDef}
use Rattle.nd_types.specs.declared.types.TypeDef.TheVariants as def
use Rattle.nd_types.specs.declared.types.Field.{Field}
use Rattle.nd_types.specs.declared.types.Class.TheVariants as class
use Rattle.nd_types.specs.declared.types.Arm.{Arm}
use Rattle.nd_types.specs.Table.{Table, type_at, selected, is_value}
use Rattle.nd_types.specs.Layout.{type_list, arm_type}
use Rattle.nd_value.specs.declared.value.Graph.{Graph}
use Rattle.nd_value.specs.declared.misfit.MisfitReason.{MisfitReason}
use Rattle.nd_value.specs.declared.misfit.MisfitReason.TheVariants as misfit
use Rattle.nd_value.specs.Tree as tree
use Rattle.nd_value.specs.Tree.{Tree, Trees, node, none, more, Label, count, Referent}
use Rattle.nd_value.specs.Setting.{cell_of_number, cell_at, cell_tree}
use Rattle.nd_value.specs.Misfit.{arm_fits, has_shape, has_range, is_no_null_ref, names_cell, has_type, names_pointee, has_counts, is_within, has_no_zero, selects, has_arm, unless, misfit_by}
use Rattle.idl_compat.specs.Comparison.{OneByOne, BothOrNone, AlikeFields, AlikeArms, AlikeDefaults, AlikeTypes, alike_prims, alike_enums, alike_structs, alike_arrays, alike_texts, alike_unions}
use Rattle.idl_compat.specs.Comparison.{alike_pointers, alike_contexts, alike_pipes}
use Rattle.idl_compat.proofs.Tied.{IsTied}
use Rattle.idl_compat.proofs.Nodes.{selected_alike}
use Rattle.idl_compat.proofs.Streams.{graph_of}

-- a cell under both tables
pub data AlikeCell (R : ℕ → ℕ → Type 0) : Referent → Referent → Type 0 where
  alike_cell : (t u : ℕ) (v : Tree) → R t u → AlikeCell R (record { of = t; val = v }) (record { of = u; val = v })

-- two that are there and related, or two that are absent
abbrev pub BothFound : {X : Type 0} → (X → X → Type 0) → Option X → Option X → Type 0
BothFound P None None = Unit {0}
BothFound P (Some x) (Some y) = P x y
BothFound P _ _ = ⊥

pub as_many : {X Y : Type 0} (P : X → Y → Type 0) (xs : List X) (ys : List Y) → OneByOne P xs ys → length xs ≡ length ys
as_many P [] [] a = refl
as_many P [] (y ∷ ys) a = absurd a
as_many P (x ∷ xs) [] a = absurd a
as_many P (x ∷ xs) (y ∷ ys) a = ap suc (as_many P xs ys a.1)

pub slices_alike : {X : Type 0} (P : X → X → Type 0) (xs ys : List X) → OneByOne P xs ys → (i : ℕ) → BothFound P (slice_get xs i) (slice_get ys i)
slices_alike P [] [] a i = tt
slices_alike P [] (y ∷ ys) a i = absurd a
slices_alike P (x ∷ xs) [] a i = absurd a
slices_alike P (x ∷ xs) (y ∷ ys) a zero = a.0
slices_alike P (x ∷ xs) (y ∷ ys) a (suc i) = slices_alike P xs ys a.1 i

same_tests : (a b : Bool) → (a ≡ true → b ≡ true) → (b ≡ true → a ≡ true) → a ≡ b
same_tests true b f g = sym (f refl)
same_tests false true f g = let e : false ≡ true = g refl in cc
same_tests false false f g = refl

unless_same : (a b : Bool) → a ≡ b → (r : MisfitReason) (x y : Option MisfitReason) → x ≡ y → unless a r x ≡ unless b r y
unless_same a b e r x y f = ap₂ (λ c z. unless c r z) e f

module _ (R : ℕ → ℕ → Type 0) (old new : Table) (k : IsTied R old new) (roots : List Tree) (cells cells' : List Referent) (cs : OneByOne (AlikeCell R) cells cells') where
  abbrev g : Graph
  g = graph_of roots cells

  abbrev h : Graph
  h = graph_of roots cells'

  found_alike : (c : ℕ) → BothFound (AlikeCell R) (cell_of_number g c) (cell_of_number h c)
  found_alike zero = tt
  found_alike (suc i) = slices_alike (AlikeCell R) cells cells' cs i

  val_same : (x y : Referent) → AlikeCell R x y → x.val ≡ y.val
  val_same _ _ (alike_cell t u v r) = refl

  tree_same : (x y : Option Referent) → BothFound (AlikeCell R) x y → cell_tree x ≡ cell_tree y
  tree_same None None a = refl
  tree_same None (Some y) a = absurd a
  tree_same (Some x) None a = absurd a
  tree_same (Some x) (Some y) a = val_same x y a

  pub cell_same : (c : ℕ) → cell_at g c ≡ cell_at h c
  cell_same c = tree_same (cell_of_number g c) (cell_of_number h c) (found_alike c)

  eqb_alike : (a b c d : ℕ) → R a b → R c d → eqb a c ≡ eqb b d
  eqb_alike a b c d r r' =
      same_tests (eqb a c) (eqb b d)
      (λ e. eq-eqb b d (k.one_new a b d r (subst (λ x. R x d) (sym (eqb-true a c e)) r')))
      (λ e. eq-eqb a c (k.one_old a c b r (subst (λ y. R c y) (sym (eqb-true b d e)) r')))

  type_alike : (t u : ℕ) → R t u → (x y : Option Referent) → BothFound (AlikeCell R) x y → has_type x t ≡ has_type y u
  type_alike t u r None None a = refl
  type_alike t u r None (Some y) a = absurd a
  type_alike t u r (Some x) None a = absurd a
  type_alike t u r (Some x) (Some y) a = by x y a
    where
      by : (x y : Referent) → AlikeCell R x y → eqb x.of t ≡ eqb y.of u
      by _ _ (alike_cell a b v r') = eqb_alike a b t u r' r

  listed : (a b : Option TypeId) → BothOrNone R a b → length (type_list a) ≡ length (type_list b)
  listed None None x = refl
  listed None (Some b) x = absurd x
  listed (Some a) None x = absurd x
  listed (Some a) (Some b) x = refl

  arm_fits_alike : (a b : Option Arm) → AlikeDefaults R a b → (ks : Trees) → arm_fits a ks ≡ arm_fits b ks
  arm_fits_alike None None x ks = refl
  arm_fits_alike None (Some b) x ks = absurd x
  arm_fits_alike (Some a) None x ks = absurd x
  arm_fits_alike (Some a) (Some b) x ks = ap (λ n. eqb (count ks) n) (listed a.of b.of x)

  selects_alike : (a b : Option Arm) → AlikeDefaults R a b → selects a ≡ selects b
  selects_alike None None x = refl
  selects_alike None (Some b) x = absurd x
  selects_alike (Some a) None x = absurd x
  selects_alike (Some a) (Some b) x = refl

  shape_alike : {d e : Option TypeDef} → AlikeTypes R d e → (l : Label) (ks : Trees) → has_shape d l ks ≡ has_shape e l ks
  shape_alike (alike_prims p) l ks = refl
  shape_alike (alike_enums vs) l ks = refl
  shape_alike (alike_structs fs gs a) tree.Rec ks = ap (λ n. eqb (count ks) n) (as_many (AlikeFields R) fs gs a)
  shape_alike (alike_structs fs gs a) _ ks = refl
  shape_alike (alike_arrays t u b v a) l ks = refl
  shape_alike (alike_texts t u b a) l ks = refl
  shape_alike (alike_unions t u n xs ys d e a b c) (tree.Union v) ks = arm_fits_alike (selected xs d v) (selected ys e v) (selected_alike R xs ys d e b c v) ks
  shape_alike (alike_unions t u n xs ys d e a b c) _ ks = refl
  shape_alike (alike_pointers c t u a) l ks = refl
  shape_alike alike_contexts l ks = refl
  shape_alike (alike_pipes t u a) l ks = refl

  value_alike : {d e : Option TypeDef} → AlikeTypes R d e → (z : ℤ) → is_value d z ≡ is_value e z
  value_alike (alike_prims p) z = refl
  value_alike (alike_enums vs) z = refl
  value_alike (alike_structs fs gs a) z = refl
  value_alike (alike_arrays t u b v a) z = refl
  value_alike (alike_texts t u b a) z = refl
  value_alike (alike_unions t u n xs ys d e a b c) z = refl
  value_alike (alike_pointers c t u a) z = refl
  value_alike alike_contexts z = refl
  value_alike (alike_pipes t u a) z = refl

  range_alike : {d e : Option TypeDef} → AlikeTypes R d e → (l : Label) → has_range is_value old d l ≡ has_range is_value new e l
  range_alike (alike_unions t u n xs ys d e a b c) (tree.Union v) = value_alike (k.alike t.0 u.0 a) v
  range_alike (alike_unions t u n xs ys d e a b c) (tree.Num z) = refl
  range_alike (alike_unions t u n xs ys d e a b c) _ = refl
  range_alike (alike_prims p) l = refl
  range_alike (alike_enums vs) l = refl
  range_alike (alike_structs fs gs a) l = refl
  range_alike (alike_arrays t u b v a) l = refl
  range_alike (alike_texts t u b a) l = refl
  range_alike (alike_pointers c t u a) l = refl
  range_alike alike_contexts l = refl
  range_alike (alike_pipes t u a) l = refl

  null_alike : {d e : Option TypeDef} → AlikeTypes R d e → (l : Label) → is_no_null_ref d l ≡ is_no_null_ref e l
  null_alike (alike_prims p) l = refl
  null_alike (alike_enums vs) l = refl
  null_alike (alike_structs fs gs a) l = refl
  null_alike (alike_arrays t u b v a) l = refl
  null_alike (alike_texts t u b a) l = refl
  null_alike (alike_unions t u n xs ys d e a b c) l = refl
  null_alike (alike_pointers class.Ref t u a) (tree.Ptr None) = refl
  null_alike (alike_pointers class.Ref t u a) (tree.Ptr (Some c)) = refl
  null_alike (alike_pointers class.Ref t u a) _ = refl
  null_alike (alike_pointers class.Unique t u a) l = refl
  null_alike (alike_pointers class.Full t u a) l = refl
  null_alike alike_contexts l = refl
  null_alike (alike_pipes t u a) l = refl

  cell_named : (l : Label) → names_cell g l ≡ names_cell h l
  cell_named (tree.Ptr None) = refl
  cell_named (tree.Ptr (Some c)) = ap (λ n. not (eqb c 0) && leb c n) (as_many (AlikeCell R) cells cells' cs)
  cell_named _ = refl

  pointee_alike : {d e : Option TypeDef} → AlikeTypes R d e → (l : Label) → names_pointee g d l ≡ names_pointee h e l
  pointee_alike (alike_pointers k' t u a) (tree.Ptr None) = refl
  pointee_alike (alike_pointers k' t u a) (tree.Ptr (Some c)) = type_alike t.0 u.0 a (cell_of_number g c) (cell_of_number h c) (found_alike c)
  pointee_alike (alike_pointers k' t u a) _ = refl
  pointee_alike (alike_prims p) l = refl
  pointee_alike (alike_enums vs) l = refl
  pointee_alike (alike_structs fs gs a) l = refl
  pointee_alike (alike_arrays t u b v a) l = refl
  pointee_alike (alike_texts t u b a) l = refl
  pointee_alike (alike_unions t u n xs ys d e a b c) l = refl
  pointee_alike alike_contexts l = refl
  pointee_alike (alike_pipes t u a) l = refl

  counts_alike : {d e : Option TypeDef} → AlikeTypes R d e → (l : Label) (ks : Trees) → has_counts d l ks ≡ has_counts e l ks
  counts_alike (alike_prims p) l ks = refl
  counts_alike (alike_enums vs) l ks = refl
  counts_alike (alike_structs fs gs a) l ks = refl
  counts_alike (alike_arrays t u b v a) l ks = refl
  counts_alike (alike_texts t u b a) l ks = refl
  counts_alike (alike_unions t u n xs ys d e a b c) l ks = refl
  counts_alike (alike_pointers c t u a) l ks = refl
  counts_alike alike_contexts l ks = refl
  counts_alike (alike_pipes t u a) l ks = refl

  arm_alike : {d e : Option TypeDef} → AlikeTypes R d e → (l : Label) → has_arm d l ≡ has_arm e l
  arm_alike (alike_unions t u n xs ys d e a b c) (tree.Union v) = selects_alike (selected xs d v) (selected ys e v) (selected_alike R xs ys d e b c v)
  arm_alike (alike_unions t u n xs ys d e a b c) _ = refl
  arm_alike (alike_prims p) l = refl
  arm_alike (alike_enums vs) l = refl
  arm_alike (alike_structs fs gs a) l = refl
  arm_alike (alike_arrays t u b v a) l = refl
  arm_alike (alike_texts t u b a) l = refl
  arm_alike (alike_pointers c t u a) l = refl
  arm_alike alike_contexts l = refl
  arm_alike (alike_pipes t u a) l = refl

  pub misfit_alike : {d e : Option TypeDef} → AlikeTypes R d e → (l : Label) (ks : Trees) → misfit_by old g d l ks ≡ misfit_by new h e l ks
  misfit_alike a l ks =
      unless_same _ _ (shape_alike a l ks) misfit.Shape _ _ (unless_same _ _ (range_alike a l) misfit.Range _ _ (unless_same _ _ (null_alike a l) misfit.NullRef _ _
      (unless_same _ _ (cell_named l) misfit.NoCell _ _ (unless_same _ _ (pointee_alike a l) misfit.CellType _ _
      (unless_same _ _ (ap (λ b. b && is_within l ks) (counts_alike a l ks)) misfit.Bound _ _ (unless_same _ _ refl misfit.Zero _ _
      (unless_same _ _ (arm_alike a l) misfit.NoArm _ _ refl)))))))
