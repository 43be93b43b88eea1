use Rattle.std.proofs.Common.{◌<◌, length, arith}
use Rattle.ndr_decoder_stream.proofs.Deferred.{got, only_given}
use Rattle.ndr_decoder_stream.proofs.pending.only_one.Goals as goal

pub returns-clause-pending : goal.returns-clause-pending
returns-clause-pending c ws us os =
    let item = c.in-Some.ensures.item in
    let l : 0 < length c.args.fresh.now = omega (arith, item) in
    only_given ws us c.args.fresh.now os c.in-Some.owed.now c.same_cell.result c.requires.few c.requires.none (got c.args.fresh.now 0 c.in-Some.owed.now l item.1) c.same_cell.ensures
