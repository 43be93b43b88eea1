-- The graph at the end of a home, whose nodes are those of a value.
use Rattle.std.proofs.Common.{◌≡◌, ◌≤◌, ◌<◌, ℕ, [], ◌∷◌, ◌++◌, length, Some, refl, ap, ap₂, sym, ◌∙◌, map}
use Rattle.std.specs.Prelude.{slice_set}
use Rattle.nd_value.specs.declared.item.Home.{Home}
use Rattle.nd_value.specs.declared.item.Home.TheVariants as home
use Rattle.nd_value.specs.declared.value.Graph.{Graph}
use Rattle.nd_value.specs.Setting.{cell_at, cell_home, set_cell}
use Rattle.nd_value.specs.Tree.{Tree, more, none, flat}
use Rattle.nd_flat.specs.Building.{Building, closed, opened, put, with_nodes, with_root}
use Rattle.nd_flat.specs.Forest.{tree_in}
use Rattle.nd_flat.proofs.Forests.{tree-of}
use Rattle.nd_flat.proofs.Homes.{root_closed}
use Rattle.nd_grammar.specs.Reader.{Names}
use Rattle.ndr_decoder_laws.specs.stream.Between.{RootAdded, CellFilled}
use Rattle.ndr_decoder_laws.proofs.stream.Cells.{same_types, value_same, value_other}
use Rattle.ndr_decoder_stream.specs.Ends.{HomeRan}

its_tree : (n : Building) (v : Tree) → n.nodes ≡ flat (more v none) → tree_in n.nodes ≡ v
its_tree n v e = ap tree_in e ∙ tree-of v

-- the value of a home is put into the graph
closed_is : (n : Building) (h : Home) (v : Tree) → n.home ≡ Some h → n.nodes ≡ flat (more v none) → closed n ≡ put (Some h) v n.graph
closed_is n h v e f = ap₂ (λ o t. put o t n.graph) e (its_tree n v f)

pub root_ends : (b n : Building) (v : Tree) → HomeRan (opened (home.Root (length b.graph.roots)) (with_root (closed b)) b) n → n.nodes ≡ flat (more v none)
    → RootAdded v (map (λ c. c.of) n.graph.cells) (closed b) (closed n)
root_ends b n v r e =
    let i : ℕ = length b.graph.roots in
    let o : Building = opened (home.Root i) (with_root (closed b)) b in
    let k : closed n ≡ record { roots = slice_set n.graph.roots i v; cells = n.graph.cells } = closed_is n (home.Root i) v r.open_home e in
    let z : closed (with_nodes (o.nodes ++ flat (more v none)) o) ≡ record { roots = (closed b).roots ++ v ∷ []; cells = (closed b).cells } =
    root_closed b v (with_nodes (o.nodes ++ flat (more v none)) o) refl in
    let t : tree_in (flat (more v none)) ≡ v = tree-of v in
    record {
      roots = ap (λ (g : Graph). g.roots) k ∙ ap (λ rs. slice_set rs i v) r.roots ∙ ap (λ u. slice_set o.graph.roots i u) (sym t) ∙ ap (λ (g : Graph). g.roots) z;
      types_are = ap (λ (g : Graph). map (λ c. c.of) g.cells) k;
      values = λ c. ap (λ (g : Graph). cell_at g c) k ∙ r.values c;
    }

pub cell_ends : (b n : Building) (c : ℕ) (v : Tree) → HomeRan (opened (cell_home c) (closed b) b) n → n.nodes ≡ flat (more v none) → 0 < c → c ≤ length n.graph.cells
    → CellFilled (closed b).roots c v (map (λ x. x.of) n.graph.cells) (closed b) (closed n)
cell_ends b n c v r e above there =
    let names : Names = record { cells = n.graph.cells; numbers = [] } in
    let k : closed n ≡ record { roots = n.graph.roots; cells = set_cell c v n.graph.cells } = closed_is n (cell_home c) v r.open_home e in
    record {
      roots_are = ap (λ (g : Graph). g.roots) k ∙ r.roots;
      types_are = ap (λ (g : Graph). map (λ x. x.of) g.cells) k ∙ same_types c v n.graph.cells;
      value = ap (λ (g : Graph). cell_at g c) k ∙ value_same n.graph.roots c v names above there;
      others = λ d f. ap (λ (g : Graph). cell_at g d) k ∙ value_other n.graph.roots n.graph.roots c d v names f ∙ r.values d;
    }
