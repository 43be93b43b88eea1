-- The entries of a conforming graph's stream can be written so that they are read back.
use Rattle.std.proofs.Common.{◌≡◌, ℕ, ◌+◌, ◌^◌, ◌<◌, ◌≤◌, ℤ, Bool, true, false, List, [], ◌∷◌, ◌++◌, length, Option, Some, None, refl, arith, subst}
use Rattle.std.specs.Prelude.{flat_map}
use Rattle.std.specs.List.{AllByRecursion}
use Rattle.std.proofs.lemmas.Grind.{flat_map-append}
use Rattle.std.proofs.lemmas.Bool.{and_parts, eqb-true, leb-true, ltb-true}
use Rattle.nd_types.specs.declared.types.TypeDef.{TypeDef}
use Rattle.nd_types.specs.declared.types.Arm.{Arm}
use Rattle.nd_types.specs.declared.types.TypeDef.TheVariants as def
use Rattle.nd_types.specs.declared.types.Operation.{Operation}
use Rattle.nd_types.specs.Table.{Table, type_at, fits_octets}
use Rattle.nd_types.specs.Layout.{hoists}
use Rattle.nd_types.specs.Kinds.{is_pipe}
use Rattle.nd_types.specs.Legal.{IsLegal}
use Rattle.nd_value.specs.declared.value.Graph.{Graph}
use Rattle.nd_value.specs.declared.item.Home.{Home}
use Rattle.nd_value.specs.Tree as tree
use Rattle.nd_value.specs.Tree.{Tree, Trees, node, none, more, Label, count, node_count, is_pointer, cell_in}
use Rattle.nd_value.specs.Agreement.{Agreement}
use Rattle.nd_value.specs.Nodes.{TypedNode, nodes_of, child_types, child_agreements, first_agreements, rest_agreements}
use Rattle.nd_value.specs.Deferral.{Pending, pointer, pointer_by, home_pointers}
use Rattle.nd_value.specs.Misfit.{has_shape, has_range, has_machine_values, is_within, is_count}
use Rattle.nd_value.proofs.Apart.{all_append, all_left, all_right}
use Rattle.nd_value.proofs.NodeFacts.{IsFit, fit_children}
use Rattle.nd_grammar.specs.Entry.{Kind, before_children, entries, counts, tag_entries, in_place, tests, own_tests, child_tests, hoisted, hoisted_max, own_max, whole_value}
use Rattle.nd_value.proofs.ValueRanges.{range_fits}
use Rattle.nd_grammar.proofs.conforming.GoodEntries.{HoldsNoPipe}
use Rattle.nd_grammar.specs.ReaderState.{IsNoPipe}
use Rattle.nd_grammar.proofs.written.WrittenEntries.{Counted, CanWrite, Writable}

-- a node that fits, with values of the program
pub record IsWritable (table : Table) (g : Graph) (of : ℕ) (l : Label) (ks : Trees) : Type 0 where
  pub fit : IsFit table g of l ks
  pub machine : has_machine_values l ≡ true

abbrev pub WritableTrees : Table → Graph → List ℕ → Trees → Type 0
WritableTrees table g [] none = Unit {0}
WritableTrees table g (t ∷ types) (more (node l ks) ts) =
    IsWritable table g t l ks × WritableTrees table g (child_types (type_at table t) l ks) ks × WritableTrees table g types ts
WritableTrees table g _ _ = ⊥

abbrev pub WritableNode : Table → Graph → TypedNode → Type 0
WritableNode table g x = IsWritable table g x.of x.label x.kids

pub writable_trees : (table : Table) (g : Graph) (types : List ℕ) (ags : List (List Agreement)) (n : ℕ) (ts : Trees) → count ts ≡ length types
    → AllByRecursion (WritableNode table g) (nodes_of table types ags n ts) → WritableTrees table g types ts
writable_trees table g [] ags n none e a = tt
writable_trees table g [] ags n (more t ts) e a = absurd (omega arith)
writable_trees table g (t ∷ types) ags n none e a = absurd (omega arith)
writable_trees table g (t ∷ types) ags n (more (node l ks) ts) e a =
    let d : Option TypeDef = type_at table t in
    let rest : List TypedNode = nodes_of table types (rest_agreements ags) (n + 1 + node_count ks) ts in
    let kids : List TypedNode = nodes_of table (child_types d l ks) (child_agreements d ks) (n + 1) ks in (
      a.0,
      writable_trees table g (child_types d l ks) (child_agreements d ks) (n + 1) ks (fit_children d l ks a.0.fit.shape a.0.fit.arm) (all_left (WritableNode table g) kids rest a.1),
      writable_trees table g types (rest_agreements ags) (n + 1 + node_count ks) ts (omega arith) (all_right (WritableNode table g) kids rest a.1),
    )

pub count_below : (n : ℕ) → is_count n ≡ true → n < 2 ^ 32
count_below n h = ltb-true n (2 ^ 32) h

-- maximum counts are of 32 bits
pub own_below : (l : Label) (m : ℕ) → has_machine_values l ≡ true → m < 2 ^ 32 → own_max l m < 2 ^ 32
own_below (tree.Arr mx o) m h b = count_below mx (and_parts _ _ h).0
own_below (tree.Text mx os) m h b = count_below mx (and_parts _ _ h).0
own_below (tree.Num z) m h b = b
own_below tree.Rec m h b = b
own_below (tree.Union v) m h b = b
own_below (tree.Ptr c) m h b = b
own_below (tree.Context a i) m h b = b
own_below tree.Pipe m h b = b
own_below tree.Unread m h b = b

pub max_below : (table : Table) (g : Graph) (types : List ℕ) (m : ℕ) (ts : Trees) → WritableTrees table g types ts → m < 2 ^ 32 → hoisted_max m ts < 2 ^ 32
max_below table g [] m none a b = b
max_below table g [] m (more t ts) a b = absurd a
max_below table g (t ∷ types) m none a b = absurd a
max_below table g (t ∷ types) m (more (node l ks) ts) a b =
    max_below table g types (own_max l (hoisted_max 0 ks)) ts a.2
    (own_below l (hoisted_max 0 ks) a.0.machine (max_below table g (child_types (type_at table t) l ks) 0 ks a.1 (omega arith)))

module _ (table : Table) (operations : List Operation) (legal : IsLegal table operations) (none_inside : HoldsNoPipe table) (g : Graph) (nums : ℕ → ℕ) where
  -- the cell of a pointer has a number
  abbrev pub PointerCounted : Pending → Type 0
  PointerCounted p = (c : ℕ) → p.cell ≡ Some c → Counted nums c

  pub writable_entries : (h : Home) (n : ℕ) (xs : List Kind) → AllByRecursion (CanWrite nums) xs → AllByRecursion (Writable nums) (entries h n xs)
  writable_entries h n [] a = tt
  writable_entries h n (x ∷ xs) a = (a.0, writable_entries h n xs a.1)

  pub writable_tests : (h : Home) (n : ℕ) (t : Tree) (ags : List Agreement) → AllByRecursion (Writable nums) (tests h n t ags)
  writable_tests h n t [] = tt
  writable_tests h n t (a ∷ ags) = (tt, writable_tests h n t ags)

  writable_own : (b : Bool) (h : Home) (n : ℕ) (t : Tree) (ags : List Agreement) → AllByRecursion (Writable nums) (own_tests b h n t ags)
  writable_own true h n t ags = tt
  writable_own false h n t ags = writable_tests h n t ags

  writable_child_tests : (h : Home) (ags : List (List Agreement)) (n : ℕ) (ts : Trees) → AllByRecursion (Writable nums) (child_tests h ags n ts)
  writable_child_tests h ags n none = tt
  writable_child_tests h ags n (more (node l ks) ts) =
      all_append (Writable nums) (own_tests (is_pointer l) h n (node l ks) (first_agreements ags)) (child_tests h (rest_agreements ags) (n + 1 + node_count ks) ts)
      (writable_own (is_pointer l) h n (node l ks) (first_agreements ags)) (writable_child_tests h (rest_agreements ags) (n + 1 + node_count ks) ts)

  array_counts : (v : Bool) (m o n : ℕ) → o < 2 ^ 32 → n < 2 ^ 32 → AllByRecursion (CanWrite nums) (counts v m o n)
  array_counts false m o n a b = tt
  array_counts true m o n a b = (tt, (a, (b, tt)))

  tag_writable : (dt : Option TypeDef) (arms : List Arm) (default : Option Arm) (v : ℤ) → fits_octets dt v ≡ true → AllByRecursion (CanWrite nums) (tag_entries dt arms default v)
  tag_writable (Some (def.Prim p)) arms default v f = (tt, (f, tt))
  tag_writable (Some (def.Enum vs)) arms default v f = (tt, (f, tt))
  tag_writable None arms default v f = cc
  tag_writable (Some _) arms default v f = cc

  before_writable : (t : ℕ) (d : Option TypeDef) (l : Label) (ks : Trees) (h : Home) (n : ℕ) (ags : List Agreement) → has_range fits_octets table d l ≡ true → is_within l ks ≡ true
      → has_machine_values l ≡ true → is_pipe d ≡ false → AllByRecursion PointerCounted (pointer_by d (is_pointer l) (cell_in l) h n ags) → has_shape d l ks ≡ true
      → AllByRecursion (CanWrite nums) (before_children table t d l ks)
  before_writable t (Some (def.Prim p)) (tree.Num z) ks h n ags r w m q a s = (tt, (r, tt))
  before_writable t (Some (def.Enum vs)) (tree.Num z) ks h n ags r w m q a s = (tt, (r, tt))
  before_writable t (Some (def.Struct ms)) tree.Rec ks h n ags r w m q a s = (tt, tt)
  before_writable t (Some (def.Array e b v)) (tree.Arr mx o) ks h n ags r w m q a s =
      let (x, y) = and_parts _ _ m in
      let lx : mx < 2 ^ 32 = count_below mx x in
      let k : o + count ks ≤ mx = leb-true (o + count ks) mx w in
      array_counts v mx o (count ks) (count_below o y) (omega arith)
  before_writable t (Some (def.Text e b)) (tree.Text mx os) ks h n ags r w m q a s =
      let (x, y) = and_parts _ _ m in
      let lx : mx < 2 ^ 32 = count_below mx x in
      let k : length os + 1 ≤ mx = leb-true (length os + 1) mx w in
      (tt, (omega arith, (omega arith, (tt, tt))))
  before_writable t (Some (def.Union tag enc arms default)) (tree.Union v) ks h n ags r w m q a s = tag_writable (type_at table tag.0) arms default v r
  before_writable t (Some (def.Pointer k to)) (tree.Ptr c) ks h n ags r w m q a s = (tt, (a.0, tt))
  before_writable t (Some def.Context) (tree.Context x i) ks h n ags r w m q a s =
      let (u, v) = and_parts _ _ m in
      let (y, z) = and_parts _ _ u in
      (tt, ((count_below x y, eqb-true (length i) 16 z), tt))
  before_writable t (Some (def.Pipe e)) l ks h n ags r w m q a s = cc
  before_writable t _ _ ks h n ags r w m q a s = cc

  parted : (f : TypedNode → List Pending) (xs ys : List TypedNode) → AllByRecursion PointerCounted (flat_map f (xs ++ ys))
      → AllByRecursion PointerCounted (flat_map f xs) × AllByRecursion PointerCounted (flat_map f ys)
  parted f xs ys a =
      let b : AllByRecursion PointerCounted (flat_map f xs ++ flat_map f ys) = subst (AllByRecursion PointerCounted) (flat_map-append f xs ys) a in
      (all_left PointerCounted (flat_map f xs) (flat_map f ys) b, all_right PointerCounted (flat_map f xs) (flat_map f ys) b)

  -- values in their places
  pub in_place_writable : (h : Home) (types : List ℕ) (ags : List (List Agreement)) (n : ℕ) (ts : Trees) → AllByRecursion (IsNoPipe table) types → WritableTrees table g types ts
      → AllByRecursion PointerCounted (flat_map (pointer table h) (nodes_of table types ags n ts)) → AllByRecursion (Writable nums) (in_place table h types n ts)
  in_place_writable h [] ags n none p m a = tt
  in_place_writable h [] ags n (more t ts) p m a = absurd m
  in_place_writable h (t ∷ types) ags n none p m a = absurd m
  in_place_writable h (t ∷ types) ags n (more (node l ks) ts) p m a =
      let d : Option TypeDef = type_at table t in
      let own : List Pending = pointer_by d (is_pointer l) (cell_in l) h n (first_agreements ags) in
      let K : List TypedNode = nodes_of table (child_types d l ks) (child_agreements d ks) (n + 1) ks in
      let R : List TypedNode = nodes_of table types (rest_agreements ags) (n + 1 + node_count ks) ts in
      let f : IsFit table g t l ks = m.0.fit in
      let (b, c) = parted (pointer table h) K R (all_right PointerCounted own (flat_map (pointer table h) (K ++ R)) a) in
      all_append (Writable nums) (entries h n (before_children table t d l ks)) _
      (writable_entries h n (before_children table t d l ks)
      (before_writable t d l ks h n (first_agreements ags) (range_fits table legal.enumerators t d refl l f.range) f.within m.0.machine p.0.itself
      (all_left PointerCounted own (flat_map (pointer table h) (K ++ R)) a) f.shape))
      (all_append (Writable nums) (in_place table h (child_types d l ks) (n + 1) ks) _
      (in_place_writable h (child_types d l ks) (child_agreements d ks) (n + 1) ks (none_inside.children t l ks p.0) m.1 b)
      (all_append (Writable nums) (child_tests h (child_agreements d ks) (n + 1) ks) (in_place table h types (n + 1 + node_count ks) ts)
      (writable_child_tests h (child_agreements d ks) (n + 1) ks)
      (in_place_writable h types (rest_agreements ags) (n + 1 + node_count ks) ts p.1 m.2 c)))

  writable_hoisted : (b : Bool) (l : Label) (m : ℕ) → m < 2 ^ 32 → AllByRecursion (CanWrite nums) (hoisted b l m)
  writable_hoisted false l m h = tt
  writable_hoisted true tree.Unread m h = tt
  writable_hoisted true (tree.Num z) m h = (tt, (h, tt))
  writable_hoisted true _ m h = (tt, (h, tt))

  -- whole values
  pub whole_writable : (h : Home) (t : ℕ) (v : Tree) → IsNoPipe table t → WritableTrees table g (t ∷ []) (more v none) → AllByRecursion PointerCounted (home_pointers table h t v)
      → AllByRecursion (Writable nums) (whole_value table h t v)
  whole_writable h t (node l ks) p m a =
      all_append (Writable nums) (entries h 0 (hoisted (hoists table t) l (hoisted_max 0 (more (node l ks) none)))) (in_place table h (t ∷ []) 0 (more (node l ks) none))
      (writable_entries h 0 _ (writable_hoisted (hoists table t) l (hoisted_max 0 (more (node l ks) none)) (max_below table g (t ∷ []) 0 (more (node l ks) none) m (omega arith))))
      (in_place_writable h (t ∷ []) [] 0 (more (node l ks) none) (p, tt) m a)
