-- Homes that were opened and built, one after the other: what a builder's graph comes to.
-- `t` is the tree of the value that was added, `c` a cell's number, `h` a home, `g` a graph.
use Rattle.std.proofs.Common.{◌≡◌, ℕ, ◌++◌, length, ap, ◌∙◌}
use Rattle.nd_value.specs.declared.value.Graph.{Graph}
use Rattle.nd_value.specs.declared.item.Home.{Home}
use Rattle.nd_value.specs.declared.item.Home.TheVariants as home
use Rattle.nd_value.specs.Tree.{Tree, none, more, flat}
use Rattle.nd_value.specs.Setting.{cell_home}
use Rattle.nd_flat.specs.Building.{Building, closed, opened, with_root, with_nodes}
use Rattle.nd_flat.specs.Built.{Adds, Frame, Rooted, Filled}
use Rattle.nd_flat.proofs.Homes.{root_closed, cell_closed, value_closes}

pub frame_on : (a b c : Building) → Frame a b → Frame b c → Frame a c
frame_on a b c f g = record { op = g.op ∙ f.op; side = g.side ∙ f.side; interface = g.interface ∙ f.interface; given = g.given ∙ f.given }

frame_opened : (h : Home) (g : Graph) (t : Tree) (old new : Building) → new ≡ with_nodes ((opened h g old).nodes ++ flat (more t none)) (opened h g old) → Frame old new
frame_opened h g t old new e = record {
  op = ap (λ (b : Building). b.op) e;
  side = ap (λ (b : Building). b.side) e;
  interface = ap (λ (b : Building). b.interface) e;
  given = ap (λ (b : Building). b.given) e;
}

put_in : (h : Home) (g : Graph) (t : Tree) (old mid new : Building) → mid ≡ opened h g old → Adds (more t none) mid new
    → new ≡ with_nodes ((opened h g old).nodes ++ flat (more t none)) (opened h g old)
put_in h g t old mid new m a = a ∙ ap (λ (b : Building). with_nodes (b.nodes ++ flat (more t none)) b) m

pub rooted : (t : Tree) (old mid new : Building) → mid ≡ opened (home.Root (length old.graph.roots)) (with_root (closed old)) old → Adds (more t none) mid new → Rooted t old new
rooted t old mid new m a =
    let h : Home = home.Root (length old.graph.roots) in
    let e : new ≡ with_nodes ((opened h (with_root (closed old)) old).nodes ++ flat (more t none)) (opened h (with_root (closed old)) old) =
    put_in h (with_root (closed old)) t old mid new m a in
    record { whole = value_closes old h (with_root (closed old)) t new e; graph = root_closed old t new e; frame = frame_opened h (with_root (closed old)) t old new e }

pub filled : (c : ℕ) (t : Tree) (old mid new : Building) → mid ≡ opened (cell_home c) (closed old) old → Adds (more t none) mid new → Filled c t old new
filled c t old mid new m a =
    let e : new ≡ with_nodes ((opened (cell_home c) (closed old) old).nodes ++ flat (more t none)) (opened (cell_home c) (closed old) old) =
    put_in (cell_home c) (closed old) t old mid new m a in
    record { whole = value_closes old (cell_home c) (closed old) t new e; graph = cell_closed old c t new e; frame = frame_opened (cell_home c) (closed old) t old new e }
