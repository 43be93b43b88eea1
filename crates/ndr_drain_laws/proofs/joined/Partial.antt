-- The graph of a stream of which a chunk was begun is a partial graph.
use Rattle.std.proofs.Common.{◌≡◌, ◌∙◌, ap, ap₂, sym, subst, refl, ℕ, ◌+◌, zero, suc, Bool, true, ◌&&◌, List, [], ◌∷◌, ◌++◌, length, length-append, take, map, replicate, Option, Some, None, inl, inr}
use Rattle.std.proofs.Common.{◌⊎◌, arith}
use Rattle.std.specs.Prelude.{eqb, ◌||◌}
use Rattle.std.specs.List.{AllByRecursion, list_all, slice_get}
use Rattle.std.proofs.lemmas.Bool.{and_from, and_parts, eq-eqb, or_right}
use Rattle.std.proofs.lemmas.List.{length-replicate}
use Rattle.nd_base.specs.declared.octets.Order.{Order}
use Rattle.nd_types.specs.declared.types.Operation.{Operation}
use Rattle.nd_types.specs.declared.types.TypeDef.{TypeDef}
use Rattle.nd_types.specs.declared.types.TypeDef.TheVariants as def
use Rattle.nd_types.specs.Legal.{IsLegal}
use Rattle.nd_types.specs.Roots.{Root}
use Rattle.nd_types.specs.Table.{Table, type_at, fits_octets}
use Rattle.nd_value.specs.Agreement.{Agreement, root_agreements}
use Rattle.nd_value.specs.declared.item.Home.{Home}
use Rattle.nd_value.specs.declared.item.Home.TheVariants as home
use Rattle.nd_value.specs.declared.value.Graph.{Graph}
use Rattle.nd_value.specs.Tree as tree
use Rattle.nd_value.specs.Tree.{Tree, Trees, node, count, trees, Label}
use Rattle.nd_value.specs.Conforms.{AllEarlier, Conforms, IsPartial, ShareOnlyIfFull, HomeNode, in_home, root_nodes, all_nodes, cell_pointers}
use Rattle.nd_value.specs.Deferral.{before_pipes, root_type}
use Rattle.nd_value.specs.Misfit.{misfit_of, has_machine_values, has_counts, has_range, has_shape, is_no_null_ref, is_partial_node, is_unread, names_cell, names_pointee}
use Rattle.nd_value.specs.Nodes.{TypedNode, child_agreements, child_types, governed_nodes, home_nodes, nodes_of}
use Rattle.nd_value.specs.Setting.{Setting, root_list, unread}
use Rattle.nd_value.proofs.Apart.{all_append, all_weaker}
use Rattle.nd_value.proofs.NodeFacts.{IsFit, IsRead, IsReadOrNot, all_of_list, fit_is_read, fit_node, read_node}
use Rattle.nd_value.proofs.ValueRanges.{range_fits}
use Rattle.nd_grammar.specs.LegalSide.{IsLegalSide}
use Rattle.nd_grammar.proofs.ConformingPartial.{conforming_is_partial}
use Rattle.nd_grammar.proofs.next.NextStream.{IsPipeRoot}
use Rattle.ndr_drain_laws.specs.parts.Parts.{AreParts, IsElement, Part, Spot, after_all, elem_at, elem_by, no_graph, pipes_by, spot_after, with_pipes}
use Rattle.ndr_drain_laws.proofs.parts.Conforming.{each, pointers, same_cell}
use Rattle.ndr_drain_laws.proofs.parts.Elements.{NamesNone, cell_alike, cell_same, in_pipe, names_none_by, pointee_alike, pointee_same}
use Rattle.ndr_drain_laws.proofs.parts.Streams.{Same}
use Rattle.ndr_drain_laws.proofs.joined.Begun.{last_pipes, pipes_then}
use Rattle.nd_lemmas.proofs.Lists.{list_all_from as list_of_all}

-- ## Nodes that may be unread

abbrev partial_with : Table → Option TypeDef → Label → Trees → Bool → Bool → Bool
partial_with table d l ks x y =
    is_unread l ks || has_shape d l ks && eqb (count ks) (length (child_types d l ks)) && has_range fits_octets table d l && is_no_null_ref d l && x && y && has_counts d l ks

-- A node is unread or has the form of its type, in every graph.
pub record IsPartNode (table : Table) (of : ℕ) (ags : List Agreement) (l : Label) (ks : Trees) : Type 0 where
  pub machine_values : has_machine_values l ≡ true
  pub partial : (g : Graph) → partial_with table (type_at table of) l ks (names_cell g l) (names_pointee g (type_at table of) l) ≡ true

abbrev pub PartNode : Table → TypedNode → Type 0
PartNode table x = IsPartNode table x.of x.agreements x.label x.kids

pub names_none : (table : Table) (x : TypedNode) → is_partial_node table no_graph x ≡ true → NamesNone x.label
names_none table x e = go (read_node table no_graph x e)
  where
    go : IsReadOrNot table no_graph x.of x.label x.kids → NamesNone x.label
    go (inl u) = λ c k. (let z : tree.Unread ≡ tree.Ptr (Some c) = sym u ∙ k in absurd (cc))
    go (inr r) = names_none_by x.label r.cell

part_node : (table : Table) (x : TypedNode) → has_machine_values x.label ≡ true → is_partial_node table no_graph x ≡ true → PartNode table x
part_node table x m e =
    let n : NamesNone x.label = names_none table x e in
    let d : Option TypeDef = type_at table x.of in
    record {
      machine_values = m;
      partial = λ g. ap₂ (partial_with table d x.label x.kids) (cell_alike g no_graph x.label n) (pointee_alike g no_graph d x.label n) ∙ e;
    }

-- a value of a type, each of whose nodes may be unread
abbrev pub IsPartElement : Table → ℕ → Tree → Type 0
IsPartElement table t v = AllByRecursion (PartNode table) (home_nodes table t v)

part_nodes : (table : Table) (xs : List TypedNode) → list_all (λ x. has_machine_values x.label) xs ≡ true → list_all (is_partial_node table no_graph) xs ≡ true
    → AllByRecursion (PartNode table) xs
part_nodes table [] m e = tt
part_nodes table (x ∷ xs) m e =
    let (a, b) = and_parts (has_machine_values x.label) (list_all (λ x. has_machine_values x.label) xs) m in
    let (c, d) = and_parts (is_partial_node table no_graph x) (list_all (is_partial_node table no_graph) xs) e in
    (part_node table x a c, part_nodes table xs b d)

pub part_elements : (table : Table) (t : ℕ) (vs : List Tree) → AllByRecursion (λ v. list_all (is_partial_node table no_graph) (home_nodes table t v) ≡ true) vs
    → AllByRecursion (λ v. list_all (λ x. has_machine_values x.label) (home_nodes table t v) ≡ true) vs → AllByRecursion (IsPartElement table t) vs
part_elements table t [] a b = tt
part_elements table t (v ∷ vs) a b = (part_nodes table (home_nodes table t v) b.0 a.0, part_elements table t vs a.1 b.1)

module _ (table : Table) (operations : List Operation) (legal : IsLegal table operations) where
  -- a node that fits is no unread one
  fit_partial : (x : TypedNode) → misfit_of table no_graph x ≡ None → is_partial_node table no_graph x ≡ true
  fit_partial x e =
      let f : IsFit table no_graph x.of x.label x.kids = fit_node table no_graph x e in
      let r : IsRead table no_graph x.of x.label x.kids = fit_is_read table no_graph x.of x.label x.kids f in
      let d : Option TypeDef = type_at table x.of in
      or_right (is_unread x.label x.kids) _
      (and_from _ _ (and_from _ _ (and_from _ _ (and_from _ _ (and_from _ _ (and_from _ _ r.shape (eq-eqb (count x.kids) (length (child_types d x.label x.kids)) r.children))
      (range_fits table legal.enumerators x.of d refl x.label f.range)) r.no_null) r.cell) r.pointee) r.counts)

  fit_nodes : (xs : List TypedNode) → list_all (λ x. has_machine_values x.label) xs ≡ true → AllByRecursion (λ x. misfit_of table no_graph x ≡ None) xs
      → AllByRecursion (PartNode table) xs
  fit_nodes [] m a = tt
  fit_nodes (x ∷ xs) m a =
      let (p, q) = and_parts (has_machine_values x.label) (list_all (λ x. has_machine_values x.label) xs) m in
      (part_node table x p (fit_partial x a.0), fit_nodes xs q a.1)

  element_part : (t : ℕ) (v : Tree) → IsElement table t v → IsPartElement table t v
  element_part t v e = fit_nodes (home_nodes table t v) e.machine_values e.local

-- ## Pipes

-- a pipe was not reached, or has elements that may be unread in part
abbrev pub IsPartPipe : Setting → ℕ → Tree → Type 0
IsPartPipe w i v = (v ≡ unread) ⊎ ((vs : List Tree) × (v ≡ node tree.Pipe (trees vs)) × AllByRecursion (IsPartElement w.table (elem_at w i)) vs)

abbrev pub PartPipes : Setting → ℕ → List Tree → Type 0
PartPipes w i [] = Unit {0}
PartPipes w i (v ∷ vs) = IsPartPipe w i v × PartPipes w (i + 1) vs

unread_pipes : (w : Setting) (i m : ℕ) → PartPipes w i (replicate m unread)
unread_pipes w i zero = tt
unread_pipes w i (suc m) = (inl refl, unread_pipes w (i + 1) m)

module _ (w : Setting) (side : IsLegalSide w) (order : Order) (els : List Tree) (m : ℕ) where
  abbrev Elements : Spot → List Tree → Type 0
  Elements s vs = AllByRecursion (IsPartElement w.table (elem_at w s.root)) vs

  abbrev Rest : List Part → Type 0
  Rest ps = (s : Spot) (vs : List Tree) → AreParts w order s ps → Elements s vs → Elements (after_all s ps) els → PartPipes w s.root (pipes_then (last_pipes els m) vs ps)

  by_elements : (s : Spot) (vs : List Tree) (n : ℕ) (us : List Tree) (ps : List Part) → Rest ps → AreParts w order (spot_after s n us) ps → Elements s us → Elements s vs
      → Elements (after_all (spot_after s n us) ps) els → PartPipes w s.root (pipes_by (λ xs. pipes_then (last_pipes els m) xs ps) vs us)
  by_elements s vs n [] ps rest a u v e = (inr (vs, refl, v), rest (spot_after s n []) [] a tt e)
  by_elements s vs n (x ∷ us) ps rest a u v e =
      rest (spot_after s n (x ∷ us)) (vs ++ x ∷ us) a (all_append (IsPartElement w.table (elem_at w s.root)) vs (x ∷ us) v u) e

  pub part_pipes : (ps : List Part) → Rest ps
  part_pipes [] s vs a v e = (inr (vs ++ els, refl, all_append (IsPartElement w.table (elem_at w s.root)) vs els v e), unread_pipes w (s.root + 1) m)
  part_pipes (p ∷ ps) s vs a v e =
      by_elements s vs (length p.octets) p.elements ps (λ s' vs' a' v' e'. part_pipes ps s' vs' a' v' e') a.1
      (all_weaker (IsElement w.table (elem_at w s.root)) (IsPartElement w.table (elem_at w s.root)) (λ t i. element_part w.table side.operations side.legal (elem_at w s.root) t i)
      p.elements a.0.elements) v e

-- the nodes of a pipe
pipe_nodes : (w : Setting) (i : ℕ) (r : Root) (p : IsPipeRoot w.table r) → elem_at w i ≡ p.elem.0 → (v : Tree) → IsPartPipe w i v
    → AllByRecursion (PartNode w.table) (governed_nodes w.table r.of [] v)
pipe_nodes w i r p e v (inl u) =
    subst (λ x. AllByRecursion (PartNode w.table) (governed_nodes w.table r.of [] x)) (sym u) (record { machine_values = refl; partial = λ g. refl }, tt)
pipe_nodes w i r p e v (inr (vs, is, a)) =
    let ks : Trees = trees vs in
    let elements : AllByRecursion (IsPartElement w.table p.elem.0) vs = subst (λ u. AllByRecursion (IsPartElement w.table u) vs) e a in
    let nodes : Option TypeDef → List TypedNode = λ d. nodes_of w.table (child_types d tree.Pipe ks) (child_agreements d ks) 1 ks ++ [] in
    let kids : AllByRecursion (PartNode w.table) (nodes (Some (def.Pipe p.elem))) =
    all_append (PartNode w.table) (nodes_of w.table (replicate (count ks) p.elem.0) [] 1 ks) [] (in_pipe w.table (IsPartNode w.table) p.elem.0 1 vs elements) tt in
    let many : eqb (count ks) (length (replicate (count ks) p.elem.0)) ≡ true = eq-eqb (count ks) (length (replicate (count ks) p.elem.0)) (sym (length-replicate (count ks) p.elem.0)) in
    let whole : (g : Graph) → partial_with w.table (Some (def.Pipe p.elem)) tree.Pipe ks (names_cell g tree.Pipe) (names_pointee g (Some (def.Pipe p.elem)) tree.Pipe) ≡ true =
    λ g. ap (λ b. true && b && true && true && true && true && true) many in
    let own : IsPartNode w.table r.of [] tree.Pipe ks = record {
      machine_values = refl;
      partial = λ g. subst (λ d. partial_with w.table d tree.Pipe ks (names_cell g tree.Pipe) (names_pointee g d tree.Pipe) ≡ true) (sym p.type_is) (whole g);
    } in
    subst (λ x. AllByRecursion (PartNode w.table) (governed_nodes w.table r.of [] x)) (sym is)
    (own, subst (λ d. AllByRecursion (PartNode w.table) (nodes d)) (sym p.type_is) kids)

module _ (w : Setting) where
  abbrev PartAt : HomeNode → Type 0
  PartAt x = PartNode w.table x.typed

  in_homes : (h : Home) (xs : List TypedNode) → AllByRecursion (PartNode w.table) xs → AllByRecursion PartAt (map (in_home h) xs)
  in_homes h [] a = tt
  in_homes h (x ∷ xs) a = (a.0, in_homes h xs a.1)

  -- the nodes of all pipes from one on
  pipes_nodes : (k : Graph) (i : ℕ) (rs : List Root) (vs : List Tree) → AllByRecursion (IsPipeRoot w.table) rs
      → ((j : ℕ) (r : Root) → slice_get rs j ≡ Some r → slice_get (root_list w) (i + j) ≡ Some r) → PartPipes w i vs → AllByRecursion PartAt (root_nodes w k i rs vs)
  pipes_nodes k i [] vs a e g = tt
  pipes_nodes k i (r ∷ rs) [] a e g = tt
  pipes_nodes k i (r ∷ rs) (v ∷ vs) a e g =
      let there : slice_get (root_list w) i ≡ Some r = ap (slice_get (root_list w)) (omega arith) ∙ e 0 r refl in
      let t : elem_at w i ≡ a.0.elem.0 = ap (λ o. elem_by (type_at w.table (root_type o))) there ∙ ap elem_by a.0.type_is in
      let own : AllByRecursion (PartNode w.table) (governed_nodes w.table r.of (root_agreements w k r.vars) v) =
      subst (λ u. AllByRecursion (PartNode w.table) (governed_nodes w.table r.of (root_agreements w k u) v)) (sym a.0.no_vars) (pipe_nodes w i r a.0 t v g.0) in
      all_append PartAt (map (in_home (home.Root i)) (governed_nodes w.table r.of (root_agreements w k r.vars) v)) (root_nodes w k (i + 1) rs vs)
      (in_homes (home.Root i) (governed_nodes w.table r.of (root_agreements w k r.vars) v) own)
      (pipes_nodes k (i + 1) rs vs a.1 (λ j q f. ap (slice_get (root_list w)) (omega arith) ∙ e (suc j) q f) g.1)

-- ## The graph

-- A graph that conforms, with other pipes, some of whose nodes may be unread, is a partial graph.
pub partial_graph : (w : Setting) → IsLegalSide w → (g : Graph) → Conforms w g → (pipes : List Tree) → Same w g (with_pipes w g pipes)
    → before_pipes (root_list w) + length pipes ≡ length (root_list w) → PartPipes w (before_pipes (root_list w)) pipes → IsPartial w (with_pipes w g pipes)
partial_graph w side g c pipes s as_many ok =
    let G : Graph = with_pipes w g pipes in
    let U : List Tree = take (before_pipes (root_list w)) g.roots in
    let was : IsPartial w g = conforming_is_partial w side g c in
    let there : (i : ℕ) (rs : List Root) → i ≡ before_pipes (root_list w) → AllByRecursion (IsPipeRoot w.table) rs
    → ((j : ℕ) (r : Root) → slice_get rs j ≡ Some r → slice_get (root_list w) (i + j) ≡ Some r) → AllByRecursion (PartAt w) (root_nodes w G i rs pipes) =
    λ i rs e a f. pipes_nodes w G i rs pipes a f (subst (λ u. PartPipes w u pipes) (sym e) ok) in
    let alike : (x : TypedNode) → is_partial_node w.table g x ≡ is_partial_node w.table G x =
    λ x. ap₂ (partial_with w.table (type_at w.table x.of) x.label x.kids) (cell_same g G (same_cell w side g pipes s) refl x.label)
    (pointee_same g G (same_cell w side g pipes s) refl (type_at w.table x.of) x.label) in
    record {
      all_roots = length-append U pipes ∙ ap (λ k. k + length pipes) s.first_roots ∙ as_many;
      machine_values = list_of_all (λ (x : HomeNode). has_machine_values x.typed.label) (all_nodes w G)
          (each w side g pipes s (λ x. has_machine_values x.typed.label ≡ true) (λ x. has_machine_values x.typed.label ≡ true) (λ x e. e)
          (λ i rs e a f. all_weaker (PartAt w) (λ x. has_machine_values x.typed.label ≡ true) (λ x p. p.machine_values) (root_nodes w G i rs pipes) (there i rs e a f))
          (all_of_list (λ (x : HomeNode). has_machine_values x.typed.label) (all_nodes w g) was.machine_values));
      local = list_of_all (λ (x : HomeNode). is_partial_node w.table G x.typed) (all_nodes w G)
          (each w side g pipes s (λ x. is_partial_node w.table g x.typed ≡ true) (λ x. is_partial_node w.table G x.typed ≡ true) (λ x e. sym (alike x.typed) ∙ e)
          (λ i rs e a f. all_weaker (PartAt w) (λ x. is_partial_node w.table G x.typed ≡ true) (λ x p. p.partial G) (root_nodes w G i rs pipes) (there i rs e a f))
          (all_of_list (λ (x : HomeNode). is_partial_node w.table g x.typed) (all_nodes w g) was.local));
      unshared = subst (λ u. AllEarlier ShareOnlyIfFull (u ++ cell_pointers w.table 1 g.cells)) (pointers w side g pipes s) was.unshared;
    }
