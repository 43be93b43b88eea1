use Rattle.std.proofs.Common.{◌≡◌}
use Rattle.ndr_decoder_state.specs.Seen.{outside, state_of}
use Rattle.ndr_decoder_fast.proofs.StructReading.{IsReading}
use Rattle.ndr_decoder_fast.proofs.structs.read_struct.Given as goal

abbrev pub invariant-loop-left : goal.invariant-loop-left
invariant-loop-left g l =
    IsReading l.values l.order l.code l.fn.machine.home (state_of l.fn.machine) (g.L.Ledger.number l.fn.steps) l.octets l.from l.left (g.L.Ledger.number l.steps) (state_of l.machine)
    × (outside l.machine ≡ outside l.fn.machine)

abbrev pub decreases-loop-left : goal.decreases-loop-left
decreases-loop-left g l = l.left
