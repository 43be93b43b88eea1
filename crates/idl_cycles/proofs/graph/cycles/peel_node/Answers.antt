use Rattle.std.proofs.Common.{sym, ap, ◌∙◌}
use Rattle.std.specs.List.{list_all}
use Rattle.idl_cycles.specs.GraphCycles.{is_peeled_in}
use Rattle.idl_cycles.proofs.GraphPeeling.{peeled_more}
use Rattle.idl_cycles.proofs.graph.cycles.peel_node.Goals as goal

pub returns : goal.returns
returns c =
    peeled_more c.args.graph.now c.args.peeled.now c.args.node c.requires.within c.requires.peeled (sym c.is_peeled.ensures ∙ c.if-is_peeled.false)
    (ap (list_all (is_peeled_in c.args.peeled.now)) (sym c.parts.ensures) ∙ sym c.are_peeled.ensures ∙ c.if-not-are_peeled.false)
