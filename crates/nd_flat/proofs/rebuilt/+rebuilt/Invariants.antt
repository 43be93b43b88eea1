use Rattle.std.proofs.Common.{◌+◌, ◌-◌, ◌*◌, length}
use Rattle.nd_value.specs.Tree.{flat}
use Rattle.nd_flat.proofs.Rebuilding.{Coming}
use Rattle.nd_flat.proofs.rebuilt.+rebuilt.Given as goal

abbrev pub decreases-value : goal.decreases-value
decreases-value l = 3 * length (flat l.walk.now)

abbrev pub decreases-by_form : goal.decreases-by_form
decreases-by_form l = 3 * length (flat l.walk.now) + 2

abbrev pub decreases-values : goal.decreases-values
decreases-values l = 3 * length (flat l.walk.now) + 1

abbrev pub decreases-arm : goal.decreases-arm
decreases-arm l = 3 * length (flat l.walk.now) + 1

abbrev pub invariant-values-loop-at : goal.invariant-values-loop-at
invariant-values-loop-at l = Coming l.number l.initial.walk (l.number - l._at) l.walk l.vals
