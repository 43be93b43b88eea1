use Rattle.std.proofs.Common.{◌≡◌, length}
use Rattle.ndr_code.specs.Lengths.{AreLengths}
use Rattle.ndr_code.proofs.lengths.look_lengths_up.Given as goal

abbrev pub invariant-loop-at : goal.invariant-loop-at
invariant-loop-at l = AreLengths l.code l.lengths.items × (length l.lengths.items ≡ l.at)
