-- What is known of trees that the reader makes: the nodes of a partial graph.
use Rattle.std.proofs.Common.{◌≡◌, ℕ, ◌+◌, ◌^◌, ◌<◌, zero, suc, true, false, List, [], ◌∷◌, ◌++◌, length, Option, Some, None, refl, ap, sym, ◌∙◌, inl, inr, arith, subst}
use Rattle.std.specs.Prelude.{eqb, leb, not, ◌&&◌, flat_map}
use Rattle.std.specs.List.{AllByRecursion, slice_get}
use Rattle.std.proofs.lemmas.Bool.{and_from, eq-eqb, le-leb, lt-ltb, or_left, or_right}
use Rattle.std.proofs.lemmas.Option.{slice_get_within}
use Rattle.nd_types.specs.declared.types.TypeDef.{TypeDef}
use Rattle.nd_types.specs.declared.types.TypeDef.TheVariants as def
use Rattle.nd_types.specs.Table.{Table, type_at}
use Rattle.nd_value.specs.declared.value.Graph.{Graph}
use Rattle.nd_value.specs.declared.item.Home.{Home}
use Rattle.nd_value.specs.Tree as tree
use Rattle.nd_value.specs.Tree.{Tree, Trees, node, none, more, Label, Referent, count, node_count, is_pointer, cell_in}
use Rattle.nd_value.specs.Agreement.{Agreement}
use Rattle.nd_value.specs.Nodes.{TypedNode, nodes_of, child_types, child_agreements, first_agreements, rest_agreements}
use Rattle.nd_value.specs.Deferral.{Pending, pointer, pointer_by}
use Rattle.nd_value.specs.Misfit.{has_shape, has_machine_values, names_cell, names_pointee, has_type, is_partial_node, is_unread}
use Rattle.nd_value.proofs.Apart.{all_append, all_left, all_right}
use Rattle.nd_value.proofs.Waiting.{not_equal}
use Rattle.nd_grammar.specs.MadeTrees.{has_own_values, MadeNode, MadeTrees, MadeTree}
use Rattle.nd_grammar.proofs.next.HoistedMaxes.{no_children as unread_types}

pub one_made : (table : Table) (t : ℕ) (v : Tree) → MadeTree table (type_at table t) v → MadeTrees table (t ∷ []) (more v none)
one_made table t (node l ks) m = (m.0, m.1, tt)

pub made_more : (table : Table) (t : ℕ) (types : List ℕ) (v : Tree) (ts : Trees) → MadeTree table (type_at table t) v → MadeTrees table types ts
    → MadeTrees table (t ∷ types) (more v ts)
made_more table t types (node l ks) ts m n = (m.0, m.1, n)

pub made_count : (table : Table) (types : List ℕ) (ts : Trees) → MadeTrees table types ts → count ts ≡ length types
made_count table [] none m = refl
made_count table [] (more t ts) m = absurd m
made_count table (t ∷ types) none m = absurd m
made_count table (t ∷ types) (more (node l ks) ts) m = ap suc (made_count table types ts m.2)

-- an unread value is made, of any type
pub unread_made : (table : Table) (d : Option TypeDef) → MadeTree table d (node tree.Unread none)
unread_made table d = (inl refl, subst (λ u. MadeTrees table u none) (sym (unread_types d none)) tt)

-- What is known of a node's cell: it is there, of the pointer's referent's type.
pub record CellOf (cells : List Referent) (to c : ℕ) : Type 0 where
  pub index : ℕ
  pub is : c ≡ suc index
  pub cell : Referent
  pub there : slice_get cells index ≡ Some cell
  pub of : cell.of ≡ to
  pub small : c < 2 ^ 32

abbrev pub CellFits : List Referent → Pending → Type 0
CellFits cells p = (c : ℕ) → p.cell ≡ Some c → CellOf cells p.to c

-- the cell of a pointer that has the form of its type
pub record CellKnown (g : Graph) (d : Option TypeDef) (l : Label) : Type 0 where
  pub cell : names_cell g l ≡ true
  pub pointee : names_pointee g d l ≡ true
  pub small : has_own_values l ≡ true → has_machine_values l ≡ true

module _ (g : Graph) where
  no_cell : (d : Option TypeDef) (l : Label) → is_pointer l ≡ false → CellKnown g d l
  no_cell (Some (def.Pointer k to)) (tree.Ptr c) e = cc
  no_cell (Some (def.Pointer k to)) (tree.Num z) e = record { cell = refl; pointee = refl; small = λ h. h }
  no_cell (Some (def.Pointer k to)) tree.Rec e = record { cell = refl; pointee = refl; small = λ h. h }
  no_cell (Some (def.Pointer k to)) (tree.Arr m o) e = record { cell = refl; pointee = refl; small = λ h. h }
  no_cell (Some (def.Pointer k to)) (tree.Text m os) e = record { cell = refl; pointee = refl; small = λ h. h }
  no_cell (Some (def.Pointer k to)) (tree.Union v) e = record { cell = refl; pointee = refl; small = λ h. h }
  no_cell (Some (def.Pointer k to)) (tree.Context a i) e = record { cell = refl; pointee = refl; small = λ h. h }
  no_cell (Some (def.Pointer k to)) tree.Pipe e = record { cell = refl; pointee = refl; small = λ h. h }
  no_cell (Some (def.Pointer k to)) tree.Unread e = record { cell = refl; pointee = refl; small = λ h. h }
  no_cell d (tree.Ptr c) e = cc
  no_cell d (tree.Num z) e = record { cell = refl; pointee = refl; small = λ h. h }
  no_cell d tree.Rec e = record { cell = refl; pointee = refl; small = λ h. h }
  no_cell d (tree.Arr m o) e = record { cell = refl; pointee = refl; small = λ h. h }
  no_cell d (tree.Text m os) e = record { cell = refl; pointee = refl; small = λ h. h }
  no_cell d (tree.Union v) e = record { cell = refl; pointee = refl; small = λ h. h }
  no_cell d (tree.Context a i) e = record { cell = refl; pointee = refl; small = λ h. h }
  no_cell d tree.Pipe e = record { cell = refl; pointee = refl; small = λ h. h }
  no_cell d tree.Unread e = record { cell = refl; pointee = refl; small = λ h. h }

  in_cells : (cells : List Referent) (i : ℕ) (x : Referent) → slice_get cells i ≡ Some x → (not (eqb (suc i) 0) && leb (suc i) (length cells)) ≡ true
  in_cells cells i x e =
      let h = slice_get_within cells i x e in
      and_from (not (eqb (suc i) 0)) (leb (suc i) (length cells)) (ap not (not_equal (suc i) 0 (λ f. omega arith))) (le-leb (suc i) (length cells) (omega arith))

  pointer_known : (d : Option TypeDef) (p : Option ℕ) (ks : Trees) (h : Home) (n : ℕ) (ags : List Agreement) → has_shape d (tree.Ptr p) ks ≡ true
      → AllByRecursion (CellFits g.cells) (pointer_by d true p h n ags) → CellKnown g d (tree.Ptr p)
  pointer_known (Some (def.Pointer k to)) None ks h n ags s a = record { cell = refl; pointee = refl; small = λ z. refl }
  pointer_known (Some (def.Pointer k to)) (Some zero) ks h n ags s a = let z = a.0 zero refl in let e = z.is in cc
  pointer_known (Some (def.Pointer k to)) (Some (suc j)) ks h n ags s a =
      let z : CellOf g.cells to.0 (suc j) = a.0 (suc j) refl in
      let q : j ≡ z.index = omega (arith, z.is) in
      let f : slice_get g.cells j ≡ Some z.cell = ap (slice_get g.cells) q ∙ z.there in
      record {
        cell = in_cells g.cells j z.cell f;
        pointee = ap (λ o. has_type o to.0) f ∙ eq-eqb z.cell.of to.0 z.of;
        small = λ u. lt-ltb (suc j) (2 ^ 32) z.small;
      }
  pointer_known None p ks h n ags s a = cc
  pointer_known (Some (def.Prim q)) p ks h n ags s a = cc
  pointer_known (Some _) p ks h n ags s a = cc

  pub label_known : (d : Option TypeDef) (l : Label) (ks : Trees) (h : Home) (n : ℕ) (ags : List Agreement) → has_shape d l ks ≡ true
      → AllByRecursion (CellFits g.cells) (pointer_by d (is_pointer l) (cell_in l) h n ags) → CellKnown g d l
  label_known d (tree.Ptr p) ks h n ags s a = pointer_known d p ks h n ags s a
  label_known d (tree.Num z) ks h n ags s a = no_cell d (tree.Num z) refl
  label_known d tree.Rec ks h n ags s a = no_cell d tree.Rec refl
  label_known d (tree.Arr m o) ks h n ags s a = no_cell d (tree.Arr m o) refl
  label_known d (tree.Text m os) ks h n ags s a = no_cell d (tree.Text m os) refl
  label_known d (tree.Union v) ks h n ags s a = no_cell d (tree.Union v) refl
  label_known d (tree.Context x i) ks h n ags s a = no_cell d (tree.Context x i) refl
  label_known d tree.Pipe ks h n ags s a = no_cell d tree.Pipe refl
  label_known d tree.Unread ks h n ags s a = no_cell d tree.Unread refl

  -- a node of a partial graph, with values of the program
  pub record IsPartialNode (table : Table) (x : TypedNode) : Type 0 where
    pub local : is_partial_node table g x ≡ true
    pub machine : has_machine_values x.label ≡ true

  unread_alone : (l : Label) (ks : Trees) → l ≡ tree.Unread → count ks ≡ 0 → is_unread l ks ≡ true
  unread_alone l none e c = ap (λ u. is_unread u none) e
  unread_alone l (more t ts) e c = absurd (omega arith)

  made_node : (table : Table) (n t : ℕ) (ags ags' : List Agreement) (l : Label) (ks : Trees) (h : Home) → MadeNode table (type_at table t) l ks
      → count ks ≡ length (child_types (type_at table t) l ks)
      → AllByRecursion (CellFits g.cells) (pointer_by (type_at table t) (is_pointer l) (cell_in l) h n ags')
      → IsPartialNode table (record { node = n; of = t; agreements = ags; label = l; kids = ks })
  made_node table n t ags ags' l ks h (inl e) c a = record {
    local = or_left (is_unread l ks) _ (unread_alone l ks e (c ∙ ap (λ u. length (child_types (type_at table t) u ks)) e ∙ ap length (unread_types (type_at table t) ks)));
    machine = ap has_machine_values e;
  }
  made_node table n t ags ags' l ks h (inr f) c a =
      let k : CellKnown g (type_at table t) l = label_known (type_at table t) l ks h n ags' f.shape a in
      record {
        local = or_right (is_unread l ks) _
            (and_from _ _ (and_from _ _ (and_from _ _ (and_from _ _ (and_from _ _ (and_from _ _ f.shape (eq-eqb (count ks) (length (child_types (type_at table t) l ks)) c))
            f.range) f.no_null) k.cell) k.pointee) f.counts);
        machine = k.small f.machine;
      }

  pub all_flat_left : (f : TypedNode → List Pending) (xs ys : List TypedNode) → AllByRecursion (CellFits g.cells) (flat_map f (xs ++ ys))
      → AllByRecursion (CellFits g.cells) (flat_map f xs) × AllByRecursion (CellFits g.cells) (flat_map f ys)
  all_flat_left f [] ys a = (tt, a)
  all_flat_left f (x ∷ xs) ys a =
      let (b, c) = all_flat_left f xs ys (all_right (CellFits g.cells) (f x) (flat_map f (xs ++ ys)) a) in
      (all_append (CellFits g.cells) (f x) (flat_map f xs) (all_left (CellFits g.cells) (f x) (flat_map f (xs ++ ys)) a) b, c)

  -- the nodes of trees that are made, where their pointers' cells are there, whatever agreements govern them
  pub made_nodes : (table : Table) (h : Home) (types : List ℕ) (ags ags' : List (List Agreement)) (n : ℕ) (ts : Trees) → MadeTrees table types ts
      → AllByRecursion (CellFits g.cells) (flat_map (pointer table h) (nodes_of table types ags' n ts))
      → AllByRecursion (IsPartialNode table) (nodes_of table types ags n ts)
  made_nodes table h [] ags ags' n none m a = tt
  made_nodes table h [] ags ags' n (more t ts) m a = absurd m
  made_nodes table h (t ∷ types) ags ags' n none m a = absurd m
  made_nodes table h (t ∷ types) ags ags' n (more (node l ks) ts) m a =
      let d : Option TypeDef = type_at table t in
      let own : List Pending = pointer_by d (is_pointer l) (cell_in l) h n (first_agreements ags') in
      let K : List TypedNode = nodes_of table (child_types d l ks) (child_agreements d ks) (n + 1) ks in
      let R : List TypedNode = nodes_of table types (rest_agreements ags) (n + 1 + node_count ks) ts in
      let R' : List TypedNode = nodes_of table types (rest_agreements ags') (n + 1 + node_count ks) ts in
      let (b, c) = all_flat_left (pointer table h) K R' (all_right (CellFits g.cells) own (flat_map (pointer table h) (K ++ R')) a) in (
        made_node table n t (first_agreements ags) (first_agreements ags') l ks h m.0 (made_count table (child_types d l ks) ks m.1)
            (all_left (CellFits g.cells) own (flat_map (pointer table h) (K ++ R')) a),
        all_append (IsPartialNode table) K R (made_nodes table h (child_types d l ks) (child_agreements d ks) (child_agreements d ks) (n + 1) ks m.1 b)
            (made_nodes table h types (rest_agreements ags) (rest_agreements ags') (n + 1 + node_count ks) ts m.2 c),
      )
