use Rattle.std.proofs.Common.{◌∙◌, ◌++◌, ap, option_map}
use Rattle.nd_value.specs.Fitting.{setting_beside}
use Rattle.command_refusals.specs.declared.refusal.OctetsFault.TheVariants.{Refused}
use Rattle.command_decode.specs.Decoded.{fault_line, gaps_line}
use Rattle.command_decode.proofs.TraceSteps.{legal_side, refused_is}
use Rattle.ndr_explain.proofs.Lines.{two}
use Rattle.command_decode.proofs.held.refused.Goals as goal

pub returns : goal.returns
returns c o there front =
    let q = option_map (λ f. f.now.graph) c.args.given in
    refused_is (setting_beside c.args.interface.now o c.args.side q) c.args.order c.args.octets.now c.args.place c.args.reason c.args.items.now.items front
    c.in_ok-traced.traced.lines c.in_ok-traced.traced.path c.in_ok-lines.lines c.count_filled_gaps-gaps.result
    (c.in_ok-traced.ensures o there (legal_side c.args.interface.now c.args.op o c.args.side q there) front.fetched front.more front.split front.bad front.numbered front.items_are)
    c.count_filled_gaps-gaps.ensures
    (two c.in_ok-traced.traced.lines c.in_ok-ended.ended c.in_ok-lines.lines (fault_line c.args.place (Refused c.args.reason) c.in_ok-traced.traced.path)
    (gaps_line c.count_filled_gaps-gaps.result)
    (c.in_ok-ended.ensures ∙ ap (λ path. c.in_ok-traced.traced.lines ++ fault_line c.args.place (Refused c.args.reason) path) c.as_slice.ensures) c.in_ok-lines.ensures)
