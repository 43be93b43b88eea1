use Rattle.std.proofs.Common.{ap, ◌∙◌, subst, sym, map, length, List}
use Rattle.nd_value.specs.declared.value.Graph.{Graph}
use Rattle.nd_value.specs.Names.{AreThere}
use Rattle.nd_flat.specs.declared.node.Node.{Node}
use Rattle.nd_flat.specs.declared.flat.CellSpan.{CellSpan}
use Rattle.nd_flat.specs.Renumbered.{renumbered_graph}
use Rattle.nd_flat.specs.RenumberedNodes.{renumbered_node, cell_span}
use Rattle.nd_flat.proofs.Renumbering.{kept_as, seen_as}
use Rattle.nd_flat.proofs.flat.FlatGraph.renumbered.Goals as goal

pub invariant_of-result : goal.invariant_of-result
invariant_of-result c =
    let s = c.self.inside in
    kept_as c.args.numbers.now s.octets c.in_ok-octets.octets s.nodes.items c.in_ok-nodes.nodes.items s.roots.items c.in_ok-roots.roots.items s.cells.items
    c.in_ok-cells.cells.items c.args.cells.now (c.in_ok-octets.ensures ∙ c.as_slice-2.ensures)
    (c.in_ok-nodes.ensures ∙ ap (λ (ns : List Node). map (renumbered_node c.args.numbers.now) ns) c.as_slice.ensures.value)
    (c.in_ok-roots.ensures.ok ∙ c.as_slice-3.ensures)
    (c.in_ok-cells.ensures ∙ ap (λ (cs : List CellSpan). map (cell_span cs) c.args.cells.now) c.as_slice-4.ensures.value)
    (subst (λ (g : Graph). AreThere (length g.cells) c.args.cells.now) (sym c.self.view_is) c.requires) c.self.invariant

pub returns : goal.returns
returns c =
    let s = c.self.inside in
    seen_as c.args.numbers.now s.octets c.in_ok-octets.octets s.nodes.items c.in_ok-nodes.nodes.items s.roots.items c.in_ok-roots.roots.items s.cells.items
    c.in_ok-cells.cells.items c.args.cells.now (c.in_ok-octets.ensures ∙ c.as_slice-2.ensures)
    (c.in_ok-nodes.ensures ∙ ap (λ (ns : List Node). map (renumbered_node c.args.numbers.now) ns) c.as_slice.ensures.value)
    (c.in_ok-roots.ensures.ok ∙ c.as_slice-3.ensures)
    (c.in_ok-cells.ensures ∙ ap (λ (cs : List CellSpan). map (cell_span cs) c.args.cells.now) c.as_slice-4.ensures.value)
    (subst (λ (g : Graph). AreThere (length g.cells) c.args.cells.now) (sym c.self.view_is) c.requires)
    ∙ ap (renumbered_graph c.args.numbers.now c.args.cells.now) c.self.view_is
