use Rattle.std.proofs.Common.{ℕ, ◌≤◌}
use Rattle.idl_compat.specs.Matching.{AreExpanded}
use Rattle.idl_compat_place.specs.declared.origins.Origin.TheVariants as origin
use Rattle.idl_compat_place.specs.declared.steps.Step.TheVariants as step
use Rattle.idl_compat_place.specs.Trails.{IsTrail, HasWalked, AreBefore}
use Rattle.idl_compat_place.proofs.trail.Trail.walk_types.Given as goal

-- the types of the pairs so far are alike, and the walk comes to what those of the next pair name
abbrev pub invariant-loop-at : goal.invariant-loop-at
invariant-loop-at l = ((k n base : ℕ) → IsTrail l.older l.newer k n base l.fn.self → base ≤ l.from → AreExpanded l.older.types l.newer.types l.fn.self.pairing.pairs l.from
    → HasWalked l.older l.newer k n base (λ m. AreExpanded l.older.types l.newer.types m l.at) l.fn.self l.self × (l.from ≤ l.at))
    × ((base : ℕ) → AreBefore base l.fn.self.origins (origin.Step l.from (step.Nth 0)) → AreBefore base l.self.origins (origin.Step l.at (step.Nth 0)))
