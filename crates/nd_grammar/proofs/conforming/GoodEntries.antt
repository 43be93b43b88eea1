-- The entries of a conforming graph's stream: none of them is refused where octets spell them.
use Rattle.std.proofs.Common.{◌≡◌, ℕ, ◌+◌, ◌<◌, ◌≤◌, ℤ, Bool, true, false, List, [], ◌∷◌, length, Option, Some, None, refl, sym, arith}
use Rattle.std.specs.Prelude.{eqb}
use Rattle.std.specs.List.{AllByRecursion, list_any}
use Rattle.std.proofs.lemmas.Bool.{not-true, leb-true}
use Rattle.nd_types.specs.declared.types.TypeDef.{TypeDef}
use Rattle.nd_types.specs.declared.types.TypeDef.TheVariants as def
use Rattle.nd_types.specs.declared.types.Class.{Class}
use Rattle.nd_types.specs.declared.types.Class.TheVariants.{Ref, Unique, Full}
use Rattle.nd_types.specs.declared.types.Arm.{Arm}
use Rattle.nd_types.specs.Table.{Table, type_at, selected, is_value}
use Rattle.nd_types.specs.Layout.{hoists}
use Rattle.nd_value.specs.declared.value.Graph.{Graph}
use Rattle.nd_value.specs.declared.item.Home.{Home}
use Rattle.nd_value.specs.Tree as tree
use Rattle.nd_value.specs.Tree.{Tree, Trees, node, none, more, Label, Referent, count, node_count, is_pointer}
use Rattle.nd_value.specs.Agreement.{Agreement}
use Rattle.nd_value.specs.Setting.{cell_of_number}
use Rattle.nd_value.specs.Nodes.{child_types, child_agreements, first_agreements, rest_agreements}
use Rattle.nd_value.specs.Conforms.{IsAgreed}
use Rattle.nd_types.specs.declared.types.TypeId.{TypeId}
use Rattle.nd_types.specs.Kinds.{is_pipe}
use Rattle.nd_value.specs.Misfit.{selects, has_shape, has_range, names_cell, names_pointee, is_within, has_no_zero, has_arm}
use Rattle.nd_value.proofs.Apart.{all_append}
use Rattle.nd_value.proofs.Orderly.{pointee_of_cell}
use Rattle.nd_value.proofs.NodeFacts.{IsFit}
use Rattle.nd_grammar.specs.Entry.{Kind, Entry, Offset, Actual, Number, Num, Tag, Text, Test, Unread, before_children, entries, counts, tag_entries, in_place, tests, own_tests, child_tests, hoisted}
use Rattle.nd_grammar.specs.Entry.{hoisted_max, whole_value}
use Rattle.nd_grammar.specs.Refusal.{is_enumerator, is_selected}
use Rattle.nd_grammar.proofs.conforming.GoodTrees.{Agrees, GoodTrees}
use Rattle.nd_grammar.specs.ReaderState.{IsNoPipe}

-- what is in place holds no pipe
pub record HoldsNoPipe (table : Table) : Type 0 where
  pub children : (t : ℕ) (l : Label) (ks : Trees) → IsNoPipe table t → AllByRecursion (IsNoPipe table) (child_types (type_at table t) l ks)
  pub pointee : (t : ℕ) (k : Class) (to : TypeId) → type_at table t ≡ Some (def.Pointer k to) → IsNoPipe table t → IsNoPipe table to.0
  pub element : (t : ℕ) (e : TypeId) → type_at table t ≡ Some (def.Pipe e) → IsNoPipe table e.0

-- what keeps an entry that is spelt from being refused
abbrev pub IsGood : Graph → Kind → Type 0
IsGood g (Num p values z) = is_enumerator values z ≡ true
IsGood g (Tag p values arms default z) = (is_enumerator values z ≡ true) × (is_selected (selected arms default z) ≡ true)
IsGood g (Offset true v) = v ≡ 0
IsGood g (Actual of_text offset limit v) = (of_text ≡ true → 0 < v) × (offset + v ≤ limit)
IsGood g (Text octets) = list_any (eqb 0) octets ≡ false
IsGood g (Number Full to (Some c)) = (x : Referent) × (cell_of_number g c ≡ Some x) × (x.of ≡ to)
IsGood g (Test a wanted found) = wanted ≡ found
IsGood g Unread = ⊥
IsGood g _ = Unit {0}

abbrev pub GoodEntry : Graph → Entry → Type 0
GoodEntry g m = IsGood g m.kind

good_entries : (g : Graph) (h : Home) (n : ℕ) (xs : List Kind) → AllByRecursion (IsGood g) xs → AllByRecursion (GoodEntry g) (entries h n xs)
good_entries g h n [] a = tt
good_entries g h n (x ∷ xs) a = (a.0, good_entries g h n xs a.1)

selects_is : (o : Option Arm) → selects o ≡ true → is_selected o ≡ true
selects_is None e = cc
selects_is (Some a) e = refl

good_tag : (g : Graph) (d : Option TypeDef) (arms : List Arm) (default : Option Arm) (v : ℤ) → is_value d v ≡ true → selects (selected arms default v) ≡ true
    → AllByRecursion (IsGood g) (tag_entries d arms default v)
good_tag g (Some (def.Prim p)) arms default v e s = (tt, ((refl, selects_is _ s), tt))
good_tag g (Some (def.Enum vs)) arms default v e s = (tt, ((e, selects_is _ s), tt))
good_tag g None arms default v e s = cc
good_tag g (Some _) arms default v e s = cc

good_counts : (g : Graph) (varying : Bool) (m o n : ℕ) → o + n ≤ m → AllByRecursion (IsGood g) (counts varying m o n)
good_counts g false m o n h = tt
good_counts g true m o n h = (tt, (tt, (((λ e. absurd (cc)), h), tt)))

good_number : (g : Graph) (k : Class) (to : TypeId) (c : Option ℕ) → names_cell g (tree.Ptr c) ≡ true → names_pointee g (Some (def.Pointer k to)) (tree.Ptr c) ≡ true
    → IsGood g (Number k to.0 c)
good_number g Full to None a b = tt
good_number g Ref to None a b = tt
good_number g Unique to None a b = tt
good_number g Full to (Some c) a b = pointee_of_cell g Full to c a b
good_number g Ref to (Some c) a b = tt
good_number g Unique to (Some c) a b = tt

-- what is before the children of a node that fits
good_before : (table : Table) (g : Graph) (t : ℕ) (d : Option TypeDef) (l : Label) (ks : Trees)
    → has_shape d l ks ≡ true → has_range is_value table d l ≡ true → names_cell g l ≡ true → names_pointee g d l ≡ true
    → is_within l ks ≡ true → has_no_zero l ≡ true → has_arm d l ≡ true
    → is_pipe d ≡ false
    → AllByRecursion (IsGood g) (before_children table t d l ks)
good_before table g t (Some (def.Prim p)) (tree.Num z) ks a b c e f z0 m q = (tt, (refl, tt))
good_before table g t (Some (def.Enum vs)) (tree.Num z) ks a b c e f z0 m q = (tt, (b, tt))
good_before table g t (Some (def.Struct ms)) tree.Rec ks a b c e f z0 m q = (tt, tt)
good_before table g t (Some (def.Array x n v)) (tree.Arr mx o) ks a b c e f z0 m q = good_counts g v mx o (count ks) (leb-true _ _ f)
good_before table g t (Some (def.Text x n)) (tree.Text mx os) ks a b c e f z0 m q =
    let h : length os + 1 ≤ mx = leb-true _ _ f in
    (tt, (refl, (((λ y. omega arith), omega arith), (not-true _ z0, tt))))
good_before table g t (Some (def.Union tag enc arms default)) (tree.Union v) ks a b c e f z0 m q = good_tag g (type_at table tag.0) arms default v b m
good_before table g t (Some (def.Pointer k to)) (tree.Ptr p) ks a b c e f z0 m q = (tt, (good_number g k to p c e, tt))
good_before table g t (Some def.Context) (tree.Context x i) ks a b c e f z0 m q = (tt, (tt, tt))
good_before table g t (Some (def.Pipe x)) l ks a b c e f z0 m q = cc
good_before table g t _ _ ks a b c e f z0 m q = cc

-- the agreements of a value that hold are good tests
pub good_tests : (g : Graph) (h : Home) (n : ℕ) (t : Tree) (ags : List Agreement) → AllByRecursion (IsAgreed t) ags → AllByRecursion (GoodEntry g) (tests h n t ags)
good_tests g h n t [] a = tt
good_tests g h n t (x ∷ ags) a = (sym a.0, good_tests g h n t ags a.1)

good_own : (g : Graph) (h : Home) (n : ℕ) (l : Label) (ks : Trees) (ags : List Agreement) → Agrees g l ks ags
    → AllByRecursion (GoodEntry g) (own_tests (is_pointer l) h n (node l ks) ags)
good_own g h n (tree.Ptr c) ks ags a = tt
good_own g h n (tree.Num z) ks ags a = good_tests g h n (node (tree.Num z) ks) ags a.0
good_own g h n tree.Rec ks ags a = good_tests g h n (node tree.Rec ks) ags a.0
good_own g h n (tree.Arr m o) ks ags a = good_tests g h n (node (tree.Arr m o) ks) ags a.0
good_own g h n (tree.Text m os) ks ags a = good_tests g h n (node (tree.Text m os) ks) ags a.0
good_own g h n (tree.Union v) ks ags a = good_tests g h n (node (tree.Union v) ks) ags a.0
good_own g h n (tree.Context x i) ks ags a = good_tests g h n (node (tree.Context x i) ks) ags a.0
good_own g h n tree.Pipe ks ags a = good_tests g h n (node tree.Pipe ks) ags a.0
good_own g h n tree.Unread ks ags a = good_tests g h n (node tree.Unread ks) ags a.0

module _ (table : Table) (none_inside : HoldsNoPipe table) (g : Graph) (h : Home) where
  good_child_tests : (types : List ℕ) (ags : List (List Agreement)) (n : ℕ) (ts : Trees) → GoodTrees table g types ags ts
      → AllByRecursion (GoodEntry g) (child_tests h ags n ts)
  good_child_tests [] ags n none a = tt
  good_child_tests [] ags n (more t ts) a = absurd a
  good_child_tests (t ∷ types) ags n none a = absurd a
  good_child_tests (t ∷ types) ags n (more (node l ks) ts) a =
      all_append (GoodEntry g) (own_tests (is_pointer l) h n (node l ks) (first_agreements ags)) (child_tests h (rest_agreements ags) (n + 1 + node_count ks) ts)
      (good_own g h n l ks (first_agreements ags) a.1) (good_child_tests types (rest_agreements ags) (n + 1 + node_count ks) ts a.3)

  -- values in their places
  pub good_in_place : (types : List ℕ) (ags : List (List Agreement)) (n : ℕ) (ts : Trees) → AllByRecursion (IsNoPipe table) types → GoodTrees table g types ags ts
      → AllByRecursion (GoodEntry g) (in_place table h types n ts)
  good_in_place [] ags n none p a = tt
  good_in_place [] ags n (more t ts) p a = absurd a
  good_in_place (t ∷ types) ags n none p a = absurd a
  good_in_place (t ∷ types) ags n (more (node l ks) ts) p a =
      let d : Option TypeDef = type_at table t in
      let f : IsFit table g t l ks = a.0 in
      all_append (GoodEntry g) (entries h n (before_children table t d l ks)) _
      (good_entries g h n (before_children table t d l ks) (good_before table g t d l ks f.shape f.range f.cell f.pointee f.within f.no_zero f.arm p.0.itself))
      (all_append (GoodEntry g) (in_place table h (child_types d l ks) (n + 1) ks) _
      (good_in_place (child_types d l ks) (child_agreements d ks) (n + 1) ks (none_inside.children t l ks p.0) a.2)
      (all_append (GoodEntry g) (child_tests h (child_agreements d ks) (n + 1) ks) (in_place table h types (n + 1 + node_count ks) ts)
      (good_child_tests (child_types d l ks) (child_agreements d ks) (n + 1) ks a.2)
      (good_in_place types (rest_agreements ags) (n + 1 + node_count ks) ts p.1 a.3)))

  good_hoisted : (b : Bool) (l : Label) (m : ℕ) → AllByRecursion (IsGood g) (hoisted b l m)
  good_hoisted false l m = tt
  good_hoisted true tree.Unread m = tt
  good_hoisted true (tree.Num z) m = (tt, (tt, tt))
  good_hoisted true _ m = (tt, (tt, tt))

  -- whole values
  pub good_whole : (t : ℕ) (ags : List (List Agreement)) (v : Tree) → IsNoPipe table t → GoodTrees table g (t ∷ []) ags (more v none)
      → AllByRecursion (GoodEntry g) (whole_value table h t v)
  good_whole t ags (node l ks) p a =
      all_append (GoodEntry g) (entries h 0 (hoisted (hoists table t) l (hoisted_max 0 (more (node l ks) none)))) (in_place table h (t ∷ []) 0 (more (node l ks) none))
      (good_entries g h 0 _ (good_hoisted (hoists table t) l (hoisted_max 0 (more (node l ks) none))))
      (good_in_place (t ∷ []) ags 0 (more (node l ks) none) (p, tt) a)
