use Rattle.std.proofs.KnownBytes.{Consumes-nil}
use Rattle.ndr_decoder_state.specs.Seen.{state_of}
use Rattle.ndr_decoder_value.proofs.Moving.{moves_none}
use Rattle.ndr_decoder_value.proofs.running.take_lead.Goals as goal

pub returns-clause-turns : goal.returns-clause-turns
returns-clause-turns g c =
    moves_none c.args.values.now c.args.order c.args.code.now c.args.machine.now.home (state_of c.args.machine.now) (g.S.Source.seen c.args.source.now).left
    (g.S.Source.seen c.args.source.now).ended (g.S.Source.seen c.args.source.now).faults c.args.items.now (g.L.Ledger.number c.args.steps.now) c.args.machine.now.cells
    (Consumes-nil (g.S.Source.seen c.args.source.now).left)
