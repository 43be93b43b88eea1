use Rattle.ndr_plan.proofs.SidesAdded.{HasBefore}
use Rattle.ndr_plan.proofs.making.parts.Given as goal

-- the operations before this one are made
abbrev pub invariant-loop-at : goal.invariant-loop-at
invariant-loop-at l = HasBefore l.interface.types l.interface.operations l.at l.parts
