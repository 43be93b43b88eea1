use Rattle.std.proofs.Common.{refl}
use Rattle.ndr_decoder_state.specs.Seen.{state_of}
use Rattle.ndr_decoder_fast.proofs.TextSteps.{nothing_read}
use Rattle.ndr_decoder_fast.proofs.strings.leap_octets.Goals as goal

pub returns-then-count-gt-SHORT-clause-reads : goal.returns-then-count-gt-SHORT-clause-reads
returns-then-count-gt-SHORT-clause-reads g c =
    nothing_read c.args.order c.args.bound (g.S.Source.seen c.args.source.now).left (g.S.Source.seen c.args.source.now).left (g.S.Source.seen c.args.source.now).ended
    (g.S.Source.seen c.args.source.now).faults (g.S.Source.seen c.args.source.now).faults (state_of c.args.machine.now) (g.L.Ledger.number c.args.steps.now) tt refl
