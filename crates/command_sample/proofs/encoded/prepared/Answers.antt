use Rattle.std.proofs.Common.{◌∙◌, Err, ap}
use Rattle.command_sample.proofs.Fits.{never_long}
use Rattle.command_sample.proofs.encoded.prepared.Goals as goal

pub unreachable-requires : goal.unreachable-requires
unreachable-requires c =
    let p = c.requires.of in
    never_long c.args.fit.now p.0 p.1 p.2 c.in-Err-TooLong.field-0-0
    (c.for_graph.ensures.long c.in-Err-TooLong.field-0-0 (c.in-Err-TooLong.is ∙ ap (λ e. Err e) c.in-Err-TooLong.field-0-is))
