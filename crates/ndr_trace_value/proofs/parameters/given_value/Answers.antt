use Rattle.std.proofs.lemmas.Option.{slice_get_within}
use Rattle.ndr_trace_value.proofs.parameters.given_value.Goals as goal

pub params-root-items-requires : goal.params-root-items-requires
params-root-items-requires c = slice_get_within c.args.ground.now.interface.now.operations c.args.ground.now.op _ c.in-Some-get.ensures.some
