use Rattle.nd_types.specs.declared.types.Arm.{Arm}
use Rattle.library_types.specs.Low.{low}
use Rattle.library_types.proofs.Searching.{NoneBefore}
use Rattle.library_types.proofs.parts.labelled_at.Given as goal

abbrev pub invariant-loop-at : goal.invariant-loop-at
invariant-loop-at l = NoneBefore Arm (λ a. low a.label) l.arms l.fn.tag l.at
