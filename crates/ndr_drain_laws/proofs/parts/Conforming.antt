-- The graph that a head and chunks make conforms.
use Rattle.std.proofs.Common.{◌≡◌, ◌<◌, ◌≤◌, ◌∙◌, ap, ap₂, sym, subst, refl, ℕ, ◌+◌, ◌^◌, zero, suc, true, List, [], ◌∷◌, ◌++◌, length, length-append, take, drop, map, append_assoc, replicate, Option}
use Rattle.std.proofs.Common.{Some, None, arith}
use Rattle.std.specs.List.{AllByRecursion, list_all, slice_get}
use Rattle.std.proofs.lemmas.Bool.{and_from, and_parts}
use Rattle.std.proofs.lemmas.List.{append-nil}
use Rattle.nd_base.specs.declared.octets.Order.{Order}
use Rattle.nd_types.specs.declared.types.AttrVar.{AttrVar}
use Rattle.nd_types.specs.declared.types.TypeDef.{TypeDef}
use Rattle.nd_types.specs.declared.types.TypeDef.TheVariants as def
use Rattle.nd_types.specs.Roots.{Root}
use Rattle.nd_types.specs.Table.{Table, type_at}
use Rattle.nd_value.specs.declared.item.Home.{Home}
use Rattle.nd_value.specs.declared.item.Home.TheVariants as home
use Rattle.nd_value.specs.declared.value.Graph.{Graph}
use Rattle.nd_value.specs.Tree as tree
use Rattle.nd_value.specs.Tree.{Tree, Trees, node, none, more, count, node_count, trees}
use Rattle.nd_value.specs.Conforms.{AllEarlier, Conforms, AgreesAt, FewNodes, ShareOnlyIfFull, HomeNode, in_home, root_nodes, cell_nodes, all_nodes, root_pointers, cell_pointers}
use Rattle.nd_value.specs.Deferral.{before_pipes, root_type}
use Rattle.nd_value.specs.Misfit.{misfit_by, misfit_of, has_machine_values}
use Rattle.nd_value.specs.Nodes.{TypedNode, child_agreements, child_types, governed_nodes, home_nodes, nodes_of}
use Rattle.nd_value.specs.Setting.{Setting, root_list, cell_of_number, Among}
use Rattle.nd_value.specs.Agreement.{root_agreements}
use Rattle.nd_value.proofs.Apart.{all_append, all_left, all_right, all_weaker}
use Rattle.nd_grammar.specs.LegalSide.{IsLegalSide}
use Rattle.nd_grammar.proofs.LegalSides.{laid_out}
use Rattle.nd_grammar.proofs.next.Mapped.{pipe_pointers}
use Rattle.nd_grammar.proofs.next.NextStream.{IsPipeRoot, drop_at}
use Rattle.nd_grammar.proofs.reader.ReaderReached.{Keeps, still_reached}
use Rattle.nd_grammar.proofs.reader.ReaderStream.{root_parts}
use Rattle.ndr_drain_laws.specs.parts.Parts.{AreParts, AreReadTo, IsElement, Part, Spot, after_all, elem_at, elem_by, first_spot, pipes_by, pipes_of, spot_after, with_pipes}
use Rattle.ndr_drain_laws.proofs.parts.Elements.{Alone, IsAlone, element_alone, in_pipe, same_agrees, same_misfit}
use Rattle.ndr_drain_laws.proofs.parts.Chunks.{parts_entries}
use Rattle.ndr_drain_laws.proofs.parts.Streams.{AreJoined, Same, all_joined, pipe_tops, same}

-- ## The pipes that chunks make

nodes_append : (us vs : List Tree) → node_count (trees (us ++ vs)) ≡ node_count (trees us) + node_count (trees vs)
nodes_append [] vs = omega arith
nodes_append (node l ks ∷ us) vs = let e : node_count (trees (us ++ vs)) ≡ node_count (trees us) + node_count (trees vs) = nodes_append us vs in omega (arith, e)

-- A pipe's elements conform, and its nodes are few.
pub record IsGoodPipe (w : Setting) (i : ℕ) (v : Tree) : Type 0 where
  pub elements : List Tree
  pub is : v ≡ node tree.Pipe (trees elements)
  pub good : AllByRecursion (IsElement w.table (elem_at w i)) elements
  pub few : 1 + node_count (trees elements) < 2 ^ 32

abbrev pub GoodPipes : Setting → ℕ → List Tree → Type 0
GoodPipes w i [] = Unit {0}
GoodPipes w i (v ∷ vs) = IsGoodPipe w i v × GoodPipes w (i + 1) vs

-- of the pipe at a spot these elements were read
pub record HasRead (w : Setting) (s : Spot) (vs : List Tree) : Type 0 where
  pub good : AllByRecursion (IsElement w.table (elem_at w s.root)) vs
  pub nodes : s.node ≡ 1 + node_count (trees vs)
  pub few : s.node < 2 ^ 32

module _ (w : Setting) (order : Order) where
  abbrev Rest : List Part → Type 0
  Rest ps = (s : Spot) (vs : List Tree) → AreParts w order s ps → HasRead w s vs → GoodPipes w s.root (pipes_of vs ps)

  by_elements : (s : Spot) (vs : List Tree) (n : ℕ) (els : List Tree) (ps : List Part) → Rest ps → AreParts w order (spot_after s n els) ps
      → AllByRecursion (IsElement w.table (elem_at w s.root)) els → (spot_after s n els).node < 2 ^ 32 → HasRead w s vs → GoodPipes w s.root (pipes_by (λ us. pipes_of us ps) vs els)
  by_elements s vs n [] ps rest a g f h = (
    record { elements = vs; is = refl; good = h.good; few = omega (arith, h.nodes, h.few) },
    rest (spot_after s n []) [] a (record { good = tt; nodes = refl; few = f }),
  )
  by_elements s vs n (u ∷ us) ps rest a g f h =
      let e : node_count (trees (vs ++ u ∷ us)) ≡ node_count (trees vs) + node_count (trees (u ∷ us)) = nodes_append vs (u ∷ us) in
      rest (spot_after s n (u ∷ us)) (vs ++ u ∷ us) a (record {
        good = all_append (IsElement w.table (elem_at w s.root)) vs (u ∷ us) h.good g;
        nodes = omega (arith, e, h.nodes);
        few = f;
      })

  good_pipes : (ps : List Part) → Rest ps
  good_pipes [] s vs a h = tt
  good_pipes (p ∷ ps) s vs a h = by_elements s vs (length p.octets) p.elements ps (λ s' vs' a' h'. good_pipes ps s' vs' a' h') a.1 a.0.elements a.0.few_nodes h

-- ## The nodes of roots

-- the nodes of roots, in two parts
node_parts : (w : Setting) (k : Graph) (i : ℕ) (rs : List Root) (us vs : List Tree)
    → root_nodes w k i rs (us ++ vs) ≡ root_nodes w k i rs us ++ root_nodes w k (i + length us) (drop (length us) rs) vs
node_parts w k i [] [] vs = refl
node_parts w k i (r ∷ rs) [] vs = let z : i + 0 ≡ i = omega arith in ap (λ n. root_nodes w k n (r ∷ rs) vs) (sym z)
node_parts w k i [] (u ∷ us) vs = refl
node_parts w k i (r ∷ rs) (u ∷ us) vs =
    let z : i + 1 + length us ≡ i + suc (length us) = omega arith in
    let H : List HomeNode = map (in_home (home.Root i)) (governed_nodes w.table r.of (root_agreements w k r.vars) u) in
    ap (λ x. H ++ x) (node_parts w k (i + 1) rs us vs) ∙ sym (append_assoc H (root_nodes w k (i + 1) rs us) _)
    ∙ ap (λ n. (H ++ root_nodes w k (i + 1) rs us) ++ root_nodes w k n (drop (length us) rs) vs) z

-- roots have the same nodes in graphs whose parameters have the same agreements
same_nodes : (w : Setting) (g h : Graph) → ((vars : List AttrVar) → root_agreements w g vars ≡ root_agreements w h vars) → (i : ℕ) (rs : List Root) (us : List Tree)
    → root_nodes w g i rs us ≡ root_nodes w h i rs us
same_nodes w g h e i [] us = refl
same_nodes w g h e i (r ∷ rs) [] = refl
same_nodes w g h e i (r ∷ rs) (u ∷ us) =
    ap₂ (λ a x. map (in_home (home.Root i)) (governed_nodes w.table r.of a u) ++ x) (e r.vars) (same_nodes w g h e (i + 1) rs us)

-- the nodes of a pipe name no cell
pipe_alone : (w : Setting) (i : ℕ) (r : Root) (p : IsPipeRoot w.table r) → elem_at w i ≡ p.elem.0 → (v : Tree) → IsGoodPipe w i v
    → AllByRecursion (Alone w.table) (governed_nodes w.table r.of [] v)
pipe_alone w i r p e v g =
    let E : List Tree = g.elements in
    let ks : Trees = trees E in
    let H : ℕ → Tree → Type 0 = λ t v. AllByRecursion (Alone w.table) (home_nodes w.table t v) in
    let elements : AllByRecursion (H p.elem.0) E =
    subst (λ u. AllByRecursion (H u) E) e (all_weaker (IsElement w.table (elem_at w i)) (H (elem_at w i)) (λ v a. element_alone w.table (elem_at w i) v a) E g.good) in
    let nodes : Option TypeDef → List TypedNode = λ d. nodes_of w.table (child_types d tree.Pipe ks) (child_agreements d ks) 1 ks ++ [] in
    let kids : AllByRecursion (Alone w.table) (nodes (Some (def.Pipe p.elem))) =
    all_append (Alone w.table) (nodes_of w.table (replicate (count ks) p.elem.0) [] 1 ks) [] (in_pipe w.table (IsAlone w.table) p.elem.0 1 E elements) tt in
    let own : IsAlone w.table r.of [] tree.Pipe ks = record {
      machine_values = refl;
      fits = λ k. ap (λ d. misfit_by w.table k d tree.Pipe ks) p.type_is;
      agrees = λ k n. (tt, tt);
    } in
    subst (λ v. AllByRecursion (Alone w.table) (governed_nodes w.table r.of [] v)) (sym g.is)
    (own, subst (λ d. AllByRecursion (Alone w.table) (nodes d)) (sym p.type_is) kids)

module _ (w : Setting) where
  abbrev AloneAt : HomeNode → Type 0
  AloneAt x = Alone w.table x.typed

  in_homes : (h : Home) (xs : List TypedNode) → AllByRecursion (Alone w.table) xs → AllByRecursion AloneAt (map (in_home h) xs)
  in_homes h [] a = tt
  in_homes h (x ∷ xs) a = (a.0, in_homes h xs a.1)

  -- the nodes of all pipes from one on
  pipes_alone : (k : Graph) (i : ℕ) (rs : List Root) (vs : List Tree) → AllByRecursion (IsPipeRoot w.table) rs
      → ((j : ℕ) (r : Root) → slice_get rs j ≡ Some r → slice_get (root_list w) (i + j) ≡ Some r) → GoodPipes w i vs → AllByRecursion AloneAt (root_nodes w k i rs vs)
  pipes_alone k i [] vs a e g = tt
  pipes_alone k i (r ∷ rs) [] a e g = tt
  pipes_alone k i (r ∷ rs) (v ∷ vs) a e g =
      let there : slice_get (root_list w) i ≡ Some r = ap (slice_get (root_list w)) (omega arith) ∙ e 0 r refl in
      let t : elem_at w i ≡ a.0.elem.0 = ap (λ o. elem_by (type_at w.table (root_type o))) there ∙ ap elem_by a.0.type_is in
      let own : AllByRecursion (Alone w.table) (governed_nodes w.table r.of (root_agreements w k r.vars) v) =
      subst (λ u. AllByRecursion (Alone w.table) (governed_nodes w.table r.of (root_agreements w k u) v)) (sym a.0.no_vars) (pipe_alone w i r a.0 t v g.0) in
      all_append AloneAt (map (in_home (home.Root i)) (governed_nodes w.table r.of (root_agreements w k r.vars) v)) (root_nodes w k (i + 1) rs vs)
      (in_homes (home.Root i) (governed_nodes w.table r.of (root_agreements w k r.vars) v) own)
      (pipes_alone k (i + 1) rs vs a.1 (λ j q f. ap (slice_get (root_list w)) (omega arith) ∙ e (suc j) q f) g.1)

  -- pipes have no pointers
  no_root_pointers : IsLegalSide w → (i : ℕ) (rs : List Root) (vs : List Tree) → AllByRecursion (IsPipeRoot w.table) rs → root_pointers w.table i rs vs ≡ []
  no_root_pointers side i [] vs a = refl
  no_root_pointers side i (r ∷ rs) [] a = refl
  no_root_pointers side i (r ∷ rs) (v ∷ vs) a =
      ap₂ (λ x y. x ++ y) (pipe_pointers w.table (home.Root i) r.of a.0.elem v a.0.type_is ((laid_out w side).elements r.of a.0.elem a.0.type_is)) (no_root_pointers side (i + 1) rs vs a.1)

  few_pipes : (i : ℕ) (vs : List Tree) → GoodPipes w i vs → FewNodes vs
  few_pipes i [] g = tt
  few_pipes i (v ∷ vs) g = (subst (λ v. node_count (more v none) < 2 ^ 32) (sym g.0.is) (omega (arith, g.0.few)), few_pipes (i + 1) vs g.1)

pub machine_list : (table : Table) (xs : List HomeNode) → AllByRecursion (λ (x : HomeNode). has_machine_values x.typed.label ≡ true) xs → list_all (λ x. has_machine_values x.typed.label) xs ≡ true
machine_list table [] a = refl
machine_list table (x ∷ xs) a = and_from (has_machine_values x.typed.label) (list_all (λ x. has_machine_values x.typed.label) xs) a.0 (machine_list table xs a.1)

pub machine_each : (xs : List HomeNode) → list_all (λ x. has_machine_values x.typed.label) xs ≡ true → AllByRecursion (λ (x : HomeNode). has_machine_values x.typed.label ≡ true) xs
machine_each [] e = tt
machine_each (x ∷ xs) e = let (p, q) = and_parts (has_machine_values x.typed.label) (list_all (λ x. has_machine_values x.typed.label) xs) e in (p, machine_each xs q)

-- the nodes and the pointers of a graph with other pipes
module _ (w : Setting) (side : IsLegalSide w) (g : Graph) (pipes : List Tree) (s : Same w g (with_pipes w g pipes)) where
  abbrev n : ℕ
  n = before_pipes (root_list w)

  abbrev rl : List Root
  rl = root_list w

  abbrev U : List Tree
  U = take n g.roots

  abbrev P : List Tree
  P = drop n g.roots

  abbrev G : Graph
  G = with_pipes w g pipes

  pub same_cell : (c : ℕ) → cell_of_number g c ≡ cell_of_number G c
  same_cell zero = refl
  same_cell (suc i) = refl

  pipe_roots : AllByRecursion (IsPipeRoot w.table) (drop (length U) rl)
  pipe_roots = subst (λ k. AllByRecursion (IsPipeRoot w.table) (drop k rl)) (sym s.first_roots) (laid_out w side).pipes

  there : (j : ℕ) (r : Root) → slice_get (drop (length U) rl) j ≡ Some r → slice_get rl (0 + length U + j) ≡ Some r
  there j r e = let z : 0 + length U + j ≡ length U + j = omega arith in ap (slice_get rl) z ∙ sym (drop_at (length U) rl j) ∙ e

  -- What is true of each node of the graph that is kept, and of each node of the pipes, is true of each node.
  pub each : (Q R : HomeNode → Type 0) → ((x : HomeNode) → Q x → R x)
      → ((i : ℕ) (rs : List Root) → i ≡ n → AllByRecursion (IsPipeRoot w.table) rs → ((j : ℕ) (r : Root) → slice_get rs j ≡ Some r → slice_get (root_list w) (i + j) ≡ Some r)
      → AllByRecursion R (root_nodes w G i rs pipes))
      → AllByRecursion Q (all_nodes w g) → AllByRecursion R (all_nodes w G)
  each Q R f k a =
      let N : List HomeNode = root_nodes w g 0 rl g.roots in
      let C : List HomeNode = cell_nodes w.table 1 g.cells in
      let X : List HomeNode = root_nodes w g 0 rl U in
      let Y : Graph → List Tree → List HomeNode = λ h vs. root_nodes w h (0 + length U) (drop (length U) rl) vs in
      let cells : AllByRecursion R C = all_weaker Q R f C (all_right Q N C a) in
      let heads : AllByRecursion R X = all_weaker Q R f X (all_left Q X (Y g P)
      (subst (AllByRecursion Q) (ap (root_nodes w g 0 rl) (sym s.roots_are) ∙ node_parts w g 0 rl U P) (all_left Q N C a))) in
      let pipes_ok : AllByRecursion R (Y G pipes) = k (0 + length U) (drop (length U) rl) (omega (arith, s.first_roots)) pipe_roots there in
      all_append R (root_nodes w G 0 rl (U ++ pipes)) C
      (subst (AllByRecursion R) (sym (node_parts w G 0 rl U pipes))
      (all_append R (root_nodes w G 0 rl U) (Y G pipes) (subst (AllByRecursion R) (same_nodes w g G s.agreements 0 rl U) heads) pipes_ok)) cells

  bare : (vs : List Tree) → root_pointers w.table 0 rl (U ++ vs) ≡ root_pointers w.table 0 rl U
  bare vs =
      root_parts w.table 0 rl U vs ∙ ap (λ u. root_pointers w.table 0 rl U ++ u) (no_root_pointers w side (0 + length U) (drop (length U) rl) vs pipe_roots)
      ∙ append-nil (root_pointers w.table 0 rl U)

  pub pointers : root_pointers w.table 0 rl g.roots ≡ root_pointers w.table 0 rl (U ++ pipes)
  pointers = ap (root_pointers w.table 0 rl) (sym s.roots_are) ∙ bare P ∙ sym (bare pipes)

  pub kept : Keeps w g G
  kept = record {
    roots = λ p m. subst (λ u. Among u p) pointers m;
    cells = λ b x e p m. (x, sym (same_cell b) ∙ e, m);
  }

-- The graph with pipes whose elements conform.
module _ (w : Setting) (side : IsLegalSide w) (order : Order) (head : List ℕ) (g : Graph) (parts : List Part) (it : AreReadTo w order head g parts)
    (all : length (root_list w) ≤ (after_all (first_spot w head) parts).root) where
  abbrev made : List Tree
  made = pipes_of [] parts

  abbrev H : Graph
  H = with_pipes w g made

  good : GoodPipes w (before_pipes (root_list w)) made
  good = good_pipes w order parts (first_spot w head) [] it.are_parts (record { good = tt; nodes = refl; few = omega arith })

  j : AreJoined w made (parts_entries w (first_spot w head) parts)
  j = all_joined w side order head parts it.are_parts all

  s : Same w g H
  s = same w side order head g it.is_head it.empty it.conforms made (pipe_tops parts []) (parts_entries w (first_spot w head) parts) j

  -- what is true of each node of the graph that is kept, and of each node that names no cell, is true of each node
  all_nodes_are : (Q R : HomeNode → Type 0) → ((x : HomeNode) → Q x → R x) → ((x : HomeNode) → Alone w.table x.typed → R x) → AllByRecursion Q (all_nodes w g)
      → AllByRecursion R (all_nodes w H)
  all_nodes_are Q R f k a =
      each w side g made s Q R f (λ i rs e pipe_roots there.
      all_weaker (AloneAt w) R k (root_nodes w H i rs made) (pipes_alone w H i rs made pipe_roots there (subst (λ u. GoodPipes w u made) (sym e) good))) a

  pub conforming : Conforms w H
  conforming =
      let U : List Tree = take (before_pipes (root_list w)) g.roots in
      let P : List Tree = drop (before_pipes (root_list w)) g.roots in
      record {
        all_roots = length-append U made ∙ ap (λ k. k + length made) s.first_roots ∙ j.as_many;
        machine_values = machine_list w.table (all_nodes w H)
            (all_nodes_are (λ x. has_machine_values x.typed.label ≡ true) (λ x. has_machine_values x.typed.label ≡ true) (λ x e. e) (λ x a. a.machine_values)
            (machine_each (all_nodes w g) it.conforms.machine_values));
        local = all_nodes_are (λ x. misfit_of w.table g x.typed ≡ None) (λ x. misfit_of w.table H x.typed ≡ None)
            (λ x e. sym (same_misfit g H (same_cell w side g made s) refl w.table x.typed) ∙ e) (λ x a. a.fits H) it.conforms.local;
        unshared = subst (λ u. AllEarlier ShareOnlyIfFull (u ++ cell_pointers w.table 1 g.cells)) (pointers w side g made s) it.conforms.unshared;
        reached = λ c a b. still_reached w g H (kept w side g made s) (it.conforms.reached c a b);
        agreed = all_nodes_are (λ x. AgreesAt g x.typed) (λ x. AgreesAt H x.typed) (λ x a. same_agrees g H (same_cell w side g made s) refl x.typed a)
            (λ x a. a.agrees H x.typed.node) it.conforms.agreed;
        few_cells = it.conforms.few_cells;
        few_nodes =
            (let F : Tree → Type 0 = λ t. node_count (more t none) < 2 ^ 32 in
            let C : List Tree = map (λ c. c.val) g.cells in
            let roots : AllByRecursion F g.roots = all_left F g.roots C it.conforms.few_nodes in
            all_append F (U ++ made) C
            (all_append F U made (all_left F U P (subst (AllByRecursion F) (sym s.roots_are) roots)) (few_pipes w (before_pipes (root_list w)) made good))
            (all_right F g.roots C it.conforms.few_nodes));
      }
