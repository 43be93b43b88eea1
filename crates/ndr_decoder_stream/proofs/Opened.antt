-- A graph whose open home is closed has the cells that it had.
use Rattle.std.proofs.Common.{◌≡◌, ℕ, List, [], ◌∷◌, ◌++◌, length, Option, Some, None, refl, ap, sym, ◌∙◌, map}
use Rattle.std.proofs.lemmas.List.{length-map}
use Rattle.nd_value.specs.declared.item.Home.{Home}
use Rattle.nd_value.specs.declared.item.Home.TheVariants as home
use Rattle.nd_value.specs.declared.value.Graph.{Graph}
use Rattle.nd_value.specs.Setting.{unread, cell_home}
use Rattle.nd_value.specs.Tree as tree
use Rattle.nd_value.specs.Tree.{Flat, Tree, node, none, more, flat}
use Rattle.nd_flat.specs.Building.{Building, closed, opened, put, raised, with_cell, with_graph, with_node, with_nodes, with_root}
use Rattle.nd_flat.proofs.Homes.{root_closed}
use Rattle.ndr_decoder_stream.specs.Ends.{with_reference}
use Rattle.nd_flat.specs.Forest.{tree_in}
use Rattle.ndr_decoder_laws.proofs.stream.Cells.{same_types}

put_types : (o : Option Home) (t : Tree) (g : Graph) → map (λ c. c.of) (put o t g).cells ≡ map (λ c. c.of) g.cells
put_types None t g = refl
put_types (Some (home.Root i)) t g = refl
put_types (Some (home.Cell c)) t g = same_types c.0 t g.cells

pub closed_types : (b : Building) → map (λ c. c.of) (closed b).cells ≡ map (λ c. c.of) b.graph.cells
closed_types b = put_types b.home (tree_in b.nodes) b.graph

pub closed_length : (b : Building) → length (closed b).cells ≡ length b.graph.cells
closed_length b = sym (length-map (closed b).cells (λ c. c.of)) ∙ ap length (closed_types b) ∙ length-map b.graph.cells (λ c. c.of)

-- a root that is a reference pointer, and its cell
pub reference_opened : (b : Building) (c to : ℕ)
    → (let o : Building = opened (home.Root (length b.graph.roots)) (with_root (closed b)) b in
    closed (with_node (tree.Ptr (Some c), 0) (with_graph (with_cell to o.graph) o)) ≡ with_reference c to (closed b))
reference_opened b c to =
    let o : Building = opened (home.Root (length b.graph.roots)) (with_root (closed b)) b in
    let t : Tree = node (tree.Ptr (Some c)) none in
    let z : closed (with_nodes (o.nodes ++ flat (more t none)) o) ≡ record { roots = (closed b).roots ++ t ∷ []; cells = (closed b).cells } =
    root_closed b t (with_nodes (o.nodes ++ flat (more t none)) o) refl in
    ap (λ rs. record { roots = rs; cells = (closed b).cells ++ record { of = to; val = unread } ∷ [] }) (ap (λ (g : Graph). g.roots) z)

pub opened_length : (b o : Building) → o ≡ opened (home.Root (length b.graph.roots)) (with_root (closed b)) b → length o.graph.cells ≡ length b.graph.cells
opened_length b o e = ap (λ (u : Building). length u.graph.cells) e ∙ closed_length b

-- the builder after these calls
pub reference_built : (b o r n new : Building) (c to : ℕ) → o ≡ opened (home.Root (length b.graph.roots)) (with_root (closed b)) b → r ≡ with_graph (with_cell to o.graph) o
    → n ≡ with_node (tree.Ptr (Some c), 0) r → new ≡ opened (cell_home c) (closed n) n → new ≡ opened (cell_home c) (with_reference c to (closed b)) b
reference_built b o r n new c to e f g h =
    let O : Building = opened (home.Root (length b.graph.roots)) (with_root (closed b)) b in
    let whole : n ≡ with_node (tree.Ptr (Some c), 0) (with_graph (with_cell to O.graph) O) =
    g ∙ ap (with_node (tree.Ptr (Some c), 0)) (f ∙ ap (λ (u : Building). with_graph (with_cell to u.graph) u) e) in
    h ∙ ap (λ (u : Building). opened (cell_home c) (closed u) u) whole ∙ ap (λ (x : Graph). opened (cell_home c) x b) (reference_opened b c to)

-- a chunk of a pipe begins with as many nodes
pub raised_length : (k : ℕ) (fs : List Flat) → length fs ≡ length (raised k fs)
raised_length k [] = refl
raised_length k (f ∷ fs) = refl
