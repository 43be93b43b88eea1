-- Values whose entries are spelt and not refused: their nodes fit, and their agreements hold.
use Rattle.std.proofs.Common.{◌≡◌, ℕ, ◌+◌, ℤ, Bool, true, false, List, [], ◌∷◌, ◌++◌, length, Option, Some, None, refl, ap, inl, inr, arith, subst}
use Rattle.std.specs.Prelude.{flat_map, leb, not}
use Rattle.std.specs.List.{AllByRecursion}
use Rattle.std.proofs.lemmas.Grind.{flat_map-append}
use Rattle.std.proofs.lemmas.Bool.{and_from, and_parts, eqb-true, le-leb}
use Rattle.nd_types.specs.declared.types.TypeDef.{TypeDef}
use Rattle.nd_types.specs.declared.types.TypeId.{TypeId}
use Rattle.nd_types.specs.declared.types.Arm.{Arm}
use Rattle.nd_types.specs.declared.types.TypeDef.TheVariants as def
use Rattle.nd_types.specs.Table.{Table, type_at, selected, is_value, fits_octets}
use Rattle.nd_value.specs.declared.value.Graph.{Graph}
use Rattle.nd_value.specs.declared.item.Home.{Home}
use Rattle.nd_value.specs.declared.misfit.MisfitReason.{MisfitReason}
use Rattle.nd_value.specs.Tree as tree
use Rattle.nd_value.specs.Tree.{Tree, Trees, node, none, more, Label, count, node_count, is_pointer, cell_in}
use Rattle.nd_value.specs.Agreement.{Agreement}
use Rattle.nd_value.specs.Setting.{cell_at}
use Rattle.nd_value.specs.Nodes.{TypedNode, nodes_of, child_types, child_agreements, first_agreements, rest_agreements}
use Rattle.nd_value.specs.Deferral.{Pending, pointer, pointer_by}
use Rattle.nd_value.specs.Misfit.{misfit_of, unless, has_shape, has_range, has_counts, is_within, has_no_zero, has_arm, selects}
use Rattle.nd_value.specs.Conforms.{IsAgreed, AgreesAt}
use Rattle.nd_value.proofs.Apart.{all_append, all_left, all_right}
use Rattle.nd_grammar.specs.Entry.{Kind, Entry, before_children, entries, tag_entries, in_place, tests, own_tests, child_tests}
use Rattle.nd_grammar.specs.Refusal.{is_selected}
use Rattle.nd_grammar.proofs.reader.MadeTrees.{CellFits, CellKnown, label_known, all_flat_left}
use Rattle.nd_grammar.specs.MadeTrees.{FitsAlone, MadeNode, MadeTrees}
use Rattle.nd_grammar.proofs.conforming.Passed.{HasPassed, Passed}

pub passed_kinds : (h : Home) (n : ℕ) (xs : List Kind) → AllByRecursion Passed (entries h n xs) → AllByRecursion HasPassed xs
passed_kinds h n [] a = tt
passed_kinds h n (x ∷ xs) a = (a.0, passed_kinds h n xs a.1)

pub unread_entry : (table : Table) (t : ℕ) (d : Option TypeDef) (ks : Trees) → AllByRecursion HasPassed (before_children table t d tree.Unread ks) → ⊥
unread_entry table t (Some (def.Prim p)) ks a = a.0
unread_entry table t (Some (def.Enum vs)) ks a = a.0
unread_entry table t (Some (def.Struct ms)) ks a = a.0
unread_entry table t (Some (def.Array e b v)) ks a = a.0
unread_entry table t (Some (def.Text e b)) ks a = a.0
unread_entry table t (Some (def.Union tag enc arms default)) ks a = a.0
unread_entry table t (Some (def.Pointer k to)) ks a = a.0
unread_entry table t (Some def.Context) ks a = a.0
unread_entry table t (Some (def.Pipe e)) ks a = a.0
unread_entry table t None ks a = a.0

unless_from : (b : Bool) (r : MisfitReason) (o : Option MisfitReason) → b ≡ true → o ≡ None → unless b r o ≡ None
unless_from true r o e f = f
unless_from false r o e f = cc

selects_if : (o : Option Arm) → is_selected o ≡ true → selects o ≡ true
selects_if None e = cc
selects_if (Some a) e = refl

-- what the entries of a node add to its form
pub record Rest (table : Table) (d : Option TypeDef) (l : Label) (ks : Trees) : Type 0 where
  pub range : has_range is_value table d l ≡ true
  pub within : is_within l ks ≡ true
  pub no_zero : has_no_zero l ≡ true
  pub arm : has_arm d l ≡ true

module _ (table : Table) where
  tag_rest : (dt : Option TypeDef) (arms : List Arm) (default : Option Arm) (v : ℤ) → fits_octets dt v ≡ true → AllByRecursion HasPassed (tag_entries dt arms default v)
      → (is_value dt v ≡ true) × (is_selected (selected arms default v) ≡ true)
  tag_rest (Some (def.Prim p)) arms default v f a = (f, a.1.0.1)
  tag_rest (Some (def.Enum vs)) arms default v f a = (a.1.0.0, a.1.0.1)
  tag_rest None arms default v f a = absurd a.0
  tag_rest (Some _) arms default v f a = absurd a.0

  array_within : (varying : Bool) (e : TypeId) (b : Option ℕ) (m o : ℕ) (ks : Trees) → has_counts (Some (def.Array e b varying)) (tree.Arr m o) ks ≡ true
      → AllByRecursion HasPassed (before_children table 0 (Some (def.Array e b varying)) (tree.Arr m o) ks) → leb (o + count ks) m ≡ true
  array_within true e b m o ks c a = le-leb (o + count ks) m a.1.1.0
  array_within false e b m o ks c a =
      let (x, y) = and_parts _ _ c in
      let (u, v) = and_parts _ _ x in
      let p : o ≡ 0 = eqb-true o 0 v in
      let q : count ks ≡ m = eqb-true (count ks) m y in
      le-leb (o + count ks) m (omega arith)

  node_rest : (t : ℕ) (d : Option TypeDef) (l : Label) (ks : Trees) → FitsAlone table d l ks → AllByRecursion HasPassed (before_children table t d l ks) → has_shape d l ks ≡ true → Rest table d l ks
  node_rest t (Some (def.Prim p)) (tree.Num z) ks f a s = record { range = f.range; within = refl; no_zero = refl; arm = refl }
  node_rest t (Some (def.Enum vs)) (tree.Num z) ks f a s = record { range = a.1.0; within = refl; no_zero = refl; arm = refl }
  node_rest t (Some (def.Struct ms)) tree.Rec ks f a s = record { range = refl; within = refl; no_zero = refl; arm = refl }
  node_rest t (Some (def.Array e b v)) (tree.Arr m o) ks f a s = record { range = refl; within = array_within v e b m o ks f.counts a; no_zero = refl; arm = refl }
  node_rest t (Some (def.Text e b)) (tree.Text m os) ks f a s =
      record { range = refl; within = le-leb (length os + 1) m (let h = a.1.1.0 in omega arith); no_zero = ap not a.1.1.1.0; arm = refl }
  node_rest t (Some (def.Union tag enc arms default)) (tree.Union v) ks f a s =
      let (x, y) = tag_rest (type_at table tag.0) arms default v f.range a in
      record { range = x; within = refl; no_zero = refl; arm = selects_if (selected arms default v) y }
  node_rest t (Some (def.Pointer k to)) (tree.Ptr c) ks f a s = record { range = refl; within = refl; no_zero = refl; arm = refl }
  node_rest t (Some def.Context) (tree.Context x i) ks f a s = record { range = refl; within = refl; no_zero = refl; arm = refl }
  node_rest t (Some (def.Pipe e)) l ks f a s = absurd a.0
  node_rest t _ _ ks f a s = cc

module _ (table : Table) (g : Graph) where
  pub misfit_none : (n t : ℕ) (ags : List Agreement) (l : Label) (ks : Trees) → FitsAlone table (type_at table t) l ks → CellKnown g (type_at table t) l → Rest table (type_at table t) l ks
      → misfit_of table g (record { node = n; of = t; agreements = ags; label = l; kids = ks }) ≡ None
  misfit_none n t ags l ks f k r =
      unless_from _ _ _ f.shape (unless_from _ _ _ r.range (unless_from _ _ _ f.no_null (unless_from _ _ _ k.cell (unless_from _ _ _ k.pointee
      (unless_from _ _ _ (and_from _ _ f.counts r.within) (unless_from _ _ _ r.no_zero (unless_from _ _ _ r.arm refl)))))))

  node_fits : (n t : ℕ) (ags ags' : List Agreement) (l : Label) (ks : Trees) (h : Home) → MadeNode table (type_at table t) l ks
      → AllByRecursion (CellFits g.cells) (pointer_by (type_at table t) (is_pointer l) (cell_in l) h n ags')
      → AllByRecursion HasPassed (before_children table t (type_at table t) l ks)
      → misfit_of table g (record { node = n; of = t; agreements = ags; label = l; kids = ks }) ≡ None
  node_fits n t ags ags' l ks h (inl e) a p = absurd (unread_entry table t (type_at table t) ks (subst (λ u. AllByRecursion HasPassed (before_children table t (type_at table t) u ks)) e p))
  node_fits n t ags ags' l ks h (inr f) a p =
      misfit_none n t ags l ks f (label_known g (type_at table t) l ks h n ags' f.shape a) (node_rest table t (type_at table t) l ks f p f.shape)

  abbrev pub IsFitNode : TypedNode → Type 0
  IsFitNode x = misfit_of table g x ≡ None

  -- the nodes of values in their places
  pub in_place_fits : (h : Home) (types : List ℕ) (ags ags' : List (List Agreement)) (n : ℕ) (ts : Trees) → MadeTrees table types ts
      → AllByRecursion (CellFits g.cells) (flat_map (pointer table h) (nodes_of table types ags' n ts)) → AllByRecursion Passed (in_place table h types n ts)
      → AllByRecursion IsFitNode (nodes_of table types ags n ts)
  in_place_fits h [] ags ags' n none m a p = tt
  in_place_fits h [] ags ags' n (more t ts) m a p = absurd m
  in_place_fits h (t ∷ types) ags ags' n none m a p = absurd m
  in_place_fits h (t ∷ types) ags ags' n (more (node l ks) ts) m a p =
      let d : Option TypeDef = type_at table t in
      let own : List Pending = pointer_by d (is_pointer l) (cell_in l) h n (first_agreements ags') in
      let K : List TypedNode = nodes_of table (child_types d l ks) (child_agreements d ks) (n + 1) ks in
      let R : List TypedNode = nodes_of table types (rest_agreements ags) (n + 1 + node_count ks) ts in
      let R' : List TypedNode = nodes_of table types (rest_agreements ags') (n + 1 + node_count ks) ts in
      let B : List Entry = entries h n (before_children table t d l ks) in
      let I : List Entry = in_place table h (child_types d l ks) (n + 1) ks in
      let C : List Entry = child_tests h (child_agreements d ks) (n + 1) ks in
      let O : List Entry = in_place table h types (n + 1 + node_count ks) ts in
      let (b, c) = all_flat_left g (pointer table h) K R' (all_right (CellFits g.cells) own (flat_map (pointer table h) (K ++ R')) a) in
      let q = all_right Passed B (I ++ (C ++ O)) p in (
        node_fits n t (first_agreements ags) (first_agreements ags') l ks h m.0 (all_left (CellFits g.cells) own (flat_map (pointer table h) (K ++ R')) a)
            (passed_kinds h n (before_children table t d l ks) (all_left Passed B (I ++ (C ++ O)) p)),
        all_append IsFitNode K R (in_place_fits h (child_types d l ks) (child_agreements d ks) (child_agreements d ks) (n + 1) ks m.1 b (all_left Passed I (C ++ O) q))
            (in_place_fits h types (rest_agreements ags) (rest_agreements ags') (n + 1 + node_count ks) ts m.2 c (all_right Passed C O (all_right Passed I (C ++ O) q))),
      )

  -- a pointer's agreements hold in its cell
  abbrev pub PendingAgrees : Pending → Type 0
  PendingAgrees p = (c : ℕ) → p.cell ≡ Some c → AllByRecursion (IsAgreed (cell_at g c)) p.agreements

  pub tests_agree : (h : Home) (n : ℕ) (t : Tree) (ags : List Agreement) → AllByRecursion Passed (tests h n t ags) → AllByRecursion (IsAgreed t) ags
  tests_agree h n t [] a = tt
  tests_agree h n t (x ∷ ags) a = (a.0, tests_agree h n t ags a.1)

  pointer_agrees : (d : Option TypeDef) (n t c : ℕ) (ags : List Agreement) (ks : Trees) (h : Home) → has_shape d (tree.Ptr (Some c)) ks ≡ true
      → AllByRecursion PendingAgrees (pointer_by d true (Some c) h n ags) → AllByRecursion (IsAgreed (cell_at g c)) ags
  pointer_agrees (Some (def.Pointer k to)) n t c ags ks h s a = a.0 c refl
  pointer_agrees None n t c ags ks h s a = cc
  pointer_agrees (Some (def.Prim p)) n t c ags ks h s a = cc
  pointer_agrees (Some _) n t c ags ks h s a = cc

  shape_of : (d : Option TypeDef) (c : Option ℕ) (ks : Trees) → MadeNode table d (tree.Ptr c) ks → has_shape d (tree.Ptr c) ks ≡ true
  shape_of d c ks (inl e) = cc
  shape_of d c ks (inr f) = f.shape

  -- a node's own agreements
  pub node_agrees : (d : Option TypeDef) (n t : ℕ) (ags : List Agreement) (l : Label) (ks : Trees) (h : Home) → MadeNode table d l ks
      → AllByRecursion PendingAgrees (pointer_by d (is_pointer l) (cell_in l) h n ags) → AllByRecursion Passed (own_tests (is_pointer l) h n (node l ks) ags)
      → AgreesAt g (record { node = n; of = t; agreements = ags; label = l; kids = ks })
  node_agrees d n t ags (tree.Ptr None) ks h m a p = tt
  node_agrees d n t ags (tree.Ptr (Some c)) ks h m a p = (pointer_agrees d n t c ags ks h (shape_of d (Some c) ks m) a, tt)
  node_agrees d n t ags (tree.Num z) ks h m a p = (tests_agree h n (node (tree.Num z) ks) ags p, tt)
  node_agrees d n t ags tree.Rec ks h m a p = (tests_agree h n (node tree.Rec ks) ags p, tt)
  node_agrees d n t ags (tree.Arr x o) ks h m a p = (tests_agree h n (node (tree.Arr x o) ks) ags p, tt)
  node_agrees d n t ags (tree.Text x os) ks h m a p = (tests_agree h n (node (tree.Text x os) ks) ags p, tt)
  node_agrees d n t ags (tree.Union v) ks h m a p = (tests_agree h n (node (tree.Union v) ks) ags p, tt)
  node_agrees d n t ags (tree.Context x i) ks h m a p = (tests_agree h n (node (tree.Context x i) ks) ags p, tt)
  node_agrees d n t ags tree.Pipe ks h m a p = (tests_agree h n (node tree.Pipe ks) ags p, tt)
  node_agrees d n t ags tree.Unread ks h m a p = (tests_agree h n (node tree.Unread ks) ags p, tt)

  parted : (f : TypedNode → List Pending) (xs ys : List TypedNode) → AllByRecursion PendingAgrees (flat_map f (xs ++ ys))
      → AllByRecursion PendingAgrees (flat_map f xs) × AllByRecursion PendingAgrees (flat_map f ys)
  parted f xs ys a =
      let b : AllByRecursion PendingAgrees (flat_map f xs ++ flat_map f ys) = subst (AllByRecursion PendingAgrees) (flat_map-append f xs ys) a in
      (all_left PendingAgrees (flat_map f xs) (flat_map f ys) b, all_right PendingAgrees (flat_map f xs) (flat_map f ys) b)

  -- the agreements of values in their places
  pub in_place_agrees : (h : Home) (types : List ℕ) (ags : List (List Agreement)) (n : ℕ) (ts : Trees) → MadeTrees table types ts
      → AllByRecursion PendingAgrees (flat_map (pointer table h) (nodes_of table types ags n ts)) → AllByRecursion Passed (in_place table h types n ts)
      → AllByRecursion Passed (child_tests h ags n ts) → AllByRecursion (AgreesAt g) (nodes_of table types ags n ts)
  in_place_agrees h [] ags n none m a p q = tt
  in_place_agrees h [] ags n (more t ts) m a p q = absurd m
  in_place_agrees h (t ∷ types) ags n none m a p q = absurd m
  in_place_agrees h (t ∷ types) ags n (more (node l ks) ts) m a p q =
      let d : Option TypeDef = type_at table t in
      let own : List Pending = pointer_by d (is_pointer l) (cell_in l) h n (first_agreements ags) in
      let K : List TypedNode = nodes_of table (child_types d l ks) (child_agreements d ks) (n + 1) ks in
      let R : List TypedNode = nodes_of table types (rest_agreements ags) (n + 1 + node_count ks) ts in
      let B : List Entry = entries h n (before_children table t d l ks) in
      let I : List Entry = in_place table h (child_types d l ks) (n + 1) ks in
      let C : List Entry = child_tests h (child_agreements d ks) (n + 1) ks in
      let O : List Entry = in_place table h types (n + 1 + node_count ks) ts in
      let W : List Entry = own_tests (is_pointer l) h n (node l ks) (first_agreements ags) in
      let Z : List Entry = child_tests h (rest_agreements ags) (n + 1 + node_count ks) ts in
      let (b, c) = parted (pointer table h) K R (all_right PendingAgrees own (flat_map (pointer table h) (K ++ R)) a) in
      let r = all_right Passed B (I ++ (C ++ O)) p in
      let s = all_right Passed I (C ++ O) r in (
        node_agrees d n t (first_agreements ags) l ks h m.0 (all_left PendingAgrees own (flat_map (pointer table h) (K ++ R)) a) (all_left Passed W Z q),
        all_append (AgreesAt g) K R (in_place_agrees h (child_types d l ks) (child_agreements d ks) (n + 1) ks m.1 b (all_left Passed I (C ++ O) r) (all_left Passed C O s))
            (in_place_agrees h types (rest_agreements ags) (n + 1 + node_count ks) ts m.2 c (all_right Passed C O s) (all_right Passed W Z q)),
      )
