-- What reading a home does to a builder: the laws that a decoder takes.
-- `b` is a builder, `t` the tree of the value that was read, `c` a cell's number.
use Rattle.std.proofs.Common.{◌≡◌, ℕ, ◌+◌, List, [], ◌∷◌, ◌++◌, length, set, Option, Some, None, refl, ap, ap₂, sym, ◌∙◌, subst}
use Rattle.std.proofs.Math.Seq.{set-append_seam}
use Rattle.nd_value.specs.declared.value.Graph.{Graph}
use Rattle.nd_value.specs.declared.item.Home.{Home}
use Rattle.nd_value.specs.declared.item.Home.TheVariants as home
use Rattle.nd_value.specs.Tree.{Tree, Referent, none, more, flat}
use Rattle.nd_value.specs.Setting.{unread, cell_home, set_cell}
use Rattle.nd_flat.specs.Forest.{tree_in}
use Rattle.nd_flat.specs.Building.{Building, put, closed, opened, with_root, with_nodes, CanClose}
use Rattle.nd_flat.proofs.Forests.{tree-of, whole-of}
use Rattle.nd_flat.proofs.Closing.{count_set}

put_count : (h : Option Home) (t : Tree) (g : Graph) → length (put h t g).roots ≡ length g.roots
put_count None t g = refl
put_count (Some (home.Root i)) t g = count_set g.roots i t
put_count (Some (home.Cell c)) t g = refl

abbrev mk : List Tree → List Referent → Graph
mk rs cs = record { roots = rs; cells = cs }

-- The nodes of a whole value were put into the home that is open, which had none: nothing is missing.
pub value_closes : (b : Building) (h : Home) (g : Graph) (t : Tree) (new : Building)
    → new ≡ with_nodes ((opened h g b).nodes ++ flat (more t none)) (opened h g b) → CanClose new
value_closes b h g t new e = subst CanClose (sym e) (whole-of t (flat (more t none)) refl)

-- a root was opened and read: it comes after the roots
pub root_closed : (b : Building) (t : Tree) (new : Building)
    → (let o : Building = opened (home.Root (length b.graph.roots)) (with_root (closed b)) b in new ≡ with_nodes (o.nodes ++ flat (more t none)) o)
    → closed new ≡ record { roots = (closed b).roots ++ t ∷ []; cells = (closed b).cells }
root_closed b t new e =
    let rs : List Tree = (closed b).roots in
    let n : length b.graph.roots ≡ length rs = sym (put_count b.home (tree_in b.nodes) b.graph) in
    ap closed e
    ∙ ap₂ (λ i u. mk (set (rs ++ unread ∷ []) i u) (closed b).cells) n (tree-of t)
    ∙ ap (λ xs. mk xs (closed b).cells) (set-append_seam rs unread [] t)

-- a cell was opened and read: it has its value
pub cell_closed : (b : Building) (c : ℕ) (t : Tree) (new : Building)
    → (let o : Building = opened (cell_home c) (closed b) b in new ≡ with_nodes (o.nodes ++ flat (more t none)) o)
    → closed new ≡ record { roots = (closed b).roots; cells = set_cell c t (closed b).cells }
cell_closed b c t new e = ap closed e ∙ ap (λ u. mk (closed b).roots (set_cell c u (closed b).cells)) (tree-of t)
