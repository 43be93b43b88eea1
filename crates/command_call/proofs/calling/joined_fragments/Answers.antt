use Rattle.std.proofs.Common.{subst}
use Rattle.nd_base.specs.Over.{source_over}
use Rattle.rpc_pdu.specs.Fragments.{HasNumber, IsJoined}
use Rattle.command_call.proofs.calling.joined_fragments.Goals as goal

pub returns-in-Ok-clause-joined : goal.returns-in-Ok-clause-joined
returns-in-Ok-clause-joined g c =
    subst (λ w. IsJoined w (source_over g.S.Source.seen c.args.input.now c.join.new.source) c.in-Ok.joined) c.wanted.ensures c.in-Ok.ensures.joined

pub returns-in-Ok-clause-number : goal.returns-in-Ok-clause-number
returns-in-Ok-clause-number g c = subst (λ w. HasNumber w c.in-Ok.joined.opnum) c.wanted.ensures c.in-Ok.ensures.number
