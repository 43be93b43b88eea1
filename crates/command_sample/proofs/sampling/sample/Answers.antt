use Rattle.std.proofs.Common.{◌∙◌, length, sym, ap, subst}
use Rattle.nd_value.specs.declared.value.Graph.{Graph}
use Rattle.nd_value.specs.Canon.{Same}
use Rattle.command_sample.specs.Nodes.{sample_graph}
use Rattle.command_sample.specs.Values.{values_sum}
use Rattle.command_sample.proofs.Sums.{cells_are, sum_is}
use Rattle.command_sample.specs.Steps.{AreSampleOctets}
use Rattle.command_sample.proofs.Lines.{lines_ok}
use Rattle.command_sample.proofs.sampling.sample.Goals as goal

pub returns : goal.returns
returns c =
    let seed = c.args.seed in
    let n = c.args.count in
    let fit = c.in_ok-drawn.ensures.fit in
    let decoded = c.in_ok-decoded.decoded.graph in
    let are : AreSampleOctets c.in_ok-octets.octets seed n = c.in_ok-octets.ensures seed n fit in
    let same : Same (sample_graph seed n) decoded = c.in_ok-decoded.ensures seed n are in
    let both : Same c.in_ok-drawn.drawn.graph decoded = subst (λ (g : Graph). Same g decoded) (sym fit.graph) same in
    lines_ok seed n c.cell_count.result (length c.as_slice-length.result.now) c.values_sum.result c.in_ok-same.same c.lines.result
    (c.cell_count.ensures ∙ ap (λ (g : Graph). length g.cells) c.flat.ensures.graph ∙ cells_are seed n decoded same)
    (ap length c.as_slice-length.ensures ∙ are.long)
    (c.values_sum.ensures ∙ ap (λ (g : Graph). values_sum g.cells) c.flat-2.ensures.graph ∙ sum_is seed n decoded same)
    (c.in_ok-same.ensures.1 both)
    c.lines.ensures
