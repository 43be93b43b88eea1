use Rattle.std.proofs.lemmas.Option.{slice_get-get_or}
use Rattle.ndr_decode.proofs.Tried.{one_refused}
use Rattle.ndr_decode.proofs.worklist.try_each.Goals as goal

pub returns-in_err-try_in : goal.returns-in_err-try_in
returns-in_err-try_in c =
    one_refused c.args.kept c.args.wanted.now c.loop-at.at _ c.from_residual.result c.in_err-try_in.field-0.0
    (slice_get-get_or c.args.wanted.now c.loop-at.at _ c.loop-at-test.true) c.loop-at.invariant c.from_residual.ensures.1 c.in_err-try_in.ensures
