-- Values of a graph that conforms: each node has the form of its type.
-- `t` is a type's number, `v` a value, `l` a label, `ks` are its children.
use Rattle.std.proofs.Common.{◌≡◌, ℕ, ◌+◌, true, List, [], ◌∷◌, ◌++◌, length, map, None, refl, arith}
use Rattle.std.specs.List.{list_all, AllByRecursion}
use Rattle.std.specs.Cmp.Derive.{both_true}
use Rattle.std.proofs.lemmas.Bool.{and_parts}
use Rattle.nd_types.specs.Table.{Table, type_at}
use Rattle.nd_types.specs.declared.types.Operation.{Operation}
use Rattle.nd_types.specs.Roots.{Root, named_root}
use Rattle.nd_value.specs.declared.value.Graph.{Graph}
use Rattle.nd_value.specs.declared.item.Home.TheVariants as home
use Rattle.nd_value.specs.Tree.{Tree, Trees, node, none, more, count, node_count, Referent}
use Rattle.nd_value.specs.Agreement.{Agreement, root_agreements}
use Rattle.nd_value.specs.Nodes.{TypedNode, child_types, child_agreements, first_agreements, rest_agreements, nodes_of, governed_nodes, home_nodes}
use Rattle.nd_value.specs.Setting.{Setting, root_list, cell_home}
use Rattle.nd_value.specs.Conforms.{HomeNode, in_home, root_nodes, cell_nodes, Conforms}
use Rattle.nd_value.specs.Misfit.{misfit_of, has_arm}
use Rattle.nd_value.proofs.Apart.{all_left, all_right, all_map}
use Rattle.nd_value.proofs.NodeFacts.{fit_node, fit_children}
use Rattle.text_grammar.specs.Sound.{is_sound_node}
use Rattle.text_printer.specs.Walks.{Begins, RootsBegin, CellsBegin}
use Rattle.text_printer.proofs.Sound.{all_parts, shape_of}

sound_node : (table : Table) (g : Graph) (x : TypedNode) → misfit_of table g x ≡ None → is_sound_node table x ≡ true
sound_node table g x e =
    let f = fit_node table g x e in
    both_true (both_true (both_true (both_true (both_true f.shape f.range) f.counts) f.within) f.no_zero) f.arm

pub sound_nodes : (table : Table) (g : Graph) (xs : List TypedNode) → AllByRecursion (λ x. misfit_of table g x ≡ None) xs → list_all (is_sound_node table) xs ≡ true
sound_nodes table g [] h = refl
sound_nodes table g (x ∷ xs) h = both_true (sound_node table g x h.0) (sound_nodes table g xs h.1)

arm_of : (table : Table) (x : TypedNode) → is_sound_node table x ≡ true → has_arm (type_at table x.of) x.label ≡ true
arm_of table x h = (and_parts _ (has_arm (type_at table x.of) x.label) h).1

-- values that break no rule by themselves come one after the other, each node with as many children as its type says
pub sound_begins : (table : Table) (types : List ℕ) (ags : List (List Agreement)) (n : ℕ) (ts : Trees) → list_all (is_sound_node table) (nodes_of table types ags n ts) ≡ true
    → count ts ≡ length types → Begins table types ts
sound_begins table [] ags n none h e = tt
sound_begins table (t ∷ types) ags n none h e = cc
sound_begins table [] ags n (more t ts) h e = tt
sound_begins table (t ∷ types) ags n (more (node l ks) ts) h e =
    let d = type_at table t in
    let x : TypedNode = record { node = n; of = t; agreements = first_agreements ags; label = l; kids = ks } in
    let inner = nodes_of table (child_types d l ks) (child_agreements d ks) (n + 1) ks in
    let outer = nodes_of table types (rest_agreements ags) (n + 1 + node_count ks) ts in
    let (a, b) = and_parts (is_sound_node table x) (list_all (is_sound_node table) (inner ++ outer)) h in
    let c = all_parts (is_sound_node table) inner outer b in
    let k = fit_children d l ks (shape_of table x a) (arm_of table x a) in
    let m : count ts ≡ length types = omega (arith, e) in
    ((k, sound_begins table (child_types d l ks) (child_agreements d ks) (n + 1) ks c.0 k), sound_begins table types (rest_agreements ags) (n + 1 + node_count ks) ts c.1 m)

-- ## Roots and cells

-- the values of roots break no rule by themselves
abbrev pub RootsSound : Table → List Root → List Tree → Type 0
RootsSound table (r ∷ rs) (v ∷ vs) =
    ((ags : List (List Agreement)) × (list_all (is_sound_node table) (nodes_of table (r.of ∷ []) ags 0 (more v none)) ≡ true)) × RootsSound table rs vs
RootsSound table _ _ = Unit {0}

abbrev pub CellsSound : Table → List Referent → Type 0
CellsSound table [] = Unit {0}
CellsSound table (x ∷ xs) = (list_all (is_sound_node table) (home_nodes table x.of x.val) ≡ true) × CellsSound table xs

pub roots_begin : (table : Table) (o : Operation) (rs : List Root) (vs : List Tree) → RootsSound table rs vs → RootsBegin table (map (named_root o) rs) vs
roots_begin table o [] vs h = tt
roots_begin table o (r ∷ rs) [] h = tt
roots_begin table o (r ∷ rs) (v ∷ vs) h = (sound_begins table (r.of ∷ []) h.0.0 0 (more v none) h.0.1 refl, roots_begin table o rs vs h.1)

pub cells_begin : (table : Table) (xs : List Referent) → CellsSound table xs → CellsBegin table xs
cells_begin table [] h = tt
cells_begin table (x ∷ xs) h = (sound_begins table (x.of ∷ []) [] 0 (more x.val none) h.0 refl, cells_begin table xs h.1)

module _ (w : Setting) (g : Graph) where
  abbrev Fits : HomeNode → Type 0
  Fits x = misfit_of w.table g x.typed ≡ None

  abbrev Node : TypedNode → Type 0
  Node x = misfit_of w.table g x ≡ None

  roots_sound : (i : ℕ) (rs : List Root) (vs : List Tree) → AllByRecursion Fits (root_nodes w g i rs vs) → RootsSound w.table rs vs
  roots_sound i [] vs h = tt
  roots_sound i (r ∷ rs) [] h = tt
  roots_sound i (r ∷ rs) (v ∷ vs) h =
      let ags = root_agreements w g r.vars in
      let first = map (in_home (home.Root i)) (governed_nodes w.table r.of ags v) in
      let rest = root_nodes w g (i + 1) rs vs in
      let own : AllByRecursion Node (governed_nodes w.table r.of ags v) = all_map Fits (in_home (home.Root i)) (governed_nodes w.table r.of ags v) (all_left Fits first rest h) in
      ((ags ∷ [], sound_nodes w.table g (governed_nodes w.table r.of ags v) own), roots_sound (i + 1) rs vs (all_right Fits first rest h))

  cells_sound : (c : ℕ) (xs : List Referent) → AllByRecursion Fits (cell_nodes w.table c xs) → CellsSound w.table xs
  cells_sound c [] h = tt
  cells_sound c (x ∷ xs) h =
      let first = map (in_home (cell_home c)) (home_nodes w.table x.of x.val) in
      let rest = cell_nodes w.table (c + 1) xs in
      let own : AllByRecursion Node (home_nodes w.table x.of x.val) = all_map Fits (in_home (cell_home c)) (home_nodes w.table x.of x.val) (all_left Fits first rest h) in
      (sound_nodes w.table g (home_nodes w.table x.of x.val) own, cells_sound (c + 1) xs (all_right Fits first rest h))

  -- no value of a graph that conforms breaks a rule by itself
  pub conforming_sound : Conforms w g → RootsSound w.table (root_list w) g.roots × CellsSound w.table g.cells
  conforming_sound k =
      let roots = root_nodes w g 0 (root_list w) g.roots in
      let cells = cell_nodes w.table 1 g.cells in
      (roots_sound 0 (root_list w) g.roots (all_left Fits roots cells k.local), cells_sound 1 g.cells (all_right Fits roots cells k.local))
