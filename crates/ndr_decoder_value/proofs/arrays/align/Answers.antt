use Rattle.std.proofs.Common.{ap}
use Rattle.ndr_decoder_laws.specs.steps.Steps.{State}
use Rattle.ndr_decoder_value.proofs.Noting.{same_cells, gap_noted}
use Rattle.ndr_decoder_value.proofs.arrays.align.Goals as goal

pub returns-clause-noted : goal.returns-clause-noted
returns-clause-noted g c =
    gap_noted c.args.machine.now.home c.args.machine.now.at c.args.octets.now c.args.items.now c.note_gap.new.items _ _ _ _ c.in_ok-note_gap.ensures.ok
    c.in_ok-note_gap.ensures.ticks (same_cells c.args.machine.now c.pass.new.self (ap (λ (s : State). s.cells) c.pass.ensures.is))
