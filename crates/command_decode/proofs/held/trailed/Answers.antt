use Rattle.std.proofs.Common.{ap}
use Rattle.command_refusals.specs.declared.refusal.OctetsFault.TheVariants.{Trailing}
use Rattle.command_decode.specs.Decoded.{gaps_line, trailing_line}
use Rattle.command_decode.specs.declared.held.Traced.TheVariants as traced
use Rattle.ndr_explain.proofs.Lines.{two}
use Rattle.command_decode.proofs.held.trailed.Goals as goal

pub returns : goal.returns
returns c =
    ap (λ lines. traced.Refused lines c.args.place Trailing)
    (two c.args.lines c.in_ok-ended.ended c.in_ok-lines.lines (trailing_line c.args.place) (gaps_line c.args.gaps) c.in_ok-ended.ensures c.in_ok-lines.ensures)
