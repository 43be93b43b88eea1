use Rattle.std.proofs.Common.{ap, ◌+◌, ◌∙◌, arith}
use Rattle.ndr_encoder_output.proofs.Rows.{written_long}
use Rattle.ndr_encoder_output.proofs.row.write_row.Goals as goal

pub write_raw-requires : goal.write_raw-requires
write_raw-requires c =
    let r = c.args.row.now in
    let long = written_long c.args.order r.order c.args.prim r.of r.count r.octets.now (c.is_written.ensures c.if-is_written.true) in
    omega (arith, c.requires.room, long)

pub returns-then-is_written-clause-end : goal.returns-then-is_written-clause-end
returns-then-is_written-clause-end c =
    let r = c.args.row.now in
    c.write_raw.ensures.end
    ∙ ap (λ k. c.args.at + k) (written_long c.args.order r.order c.args.prim r.of r.count r.octets.now (c.is_written.ensures c.if-is_written.true))
