use Rattle.std.proofs.Common.{◌≡◌, ℕ, ◌≤◌, Some}
use Rattle.std.specs.Prelude.{slice_get}
use Rattle.nd_types.specs.declared.interface.Interface.{Interface}
use Rattle.nd_types.specs.Table.{type_at}
use Rattle.idl_compat.specs.declared.pairs.TypePair.{TypePair}
use Rattle.idl_compat_place.specs.declared.origins.Origin.TheVariants as origin
use Rattle.idl_compat_place.specs.declared.steps.Step.TheVariants as step
use Rattle.idl_compat_place.specs.Trails.{IsTrail, HasWalked, AreBefore}
use Rattle.idl_compat_place.proofs.Walked.{ArePaired}
use Rattle.idl_compat_place.proofs.trail.Trail.walk_parts.Given as goal

-- the parts so far are paired, and the walk comes to the next
abbrev pub invariant-loop-number : goal.invariant-loop-number
invariant-loop-number l = ((i j : Interface) (k n base : ℕ) (pair : TypePair) → IsTrail i j k n base l.fn.self → base ≤ l.from → slice_get l.fn.self.pairing.pairs l.from ≡ Some pair
    → type_at i.types pair.old.0 ≡ Some l.older → type_at j.types pair.new.0 ≡ Some l.newer
    → HasWalked i j k n base (ArePaired i j k n base l.older l.newer l.from pair l.number) l.fn.self l.self)
    × ((base : ℕ) → AreBefore base l.fn.self.origins (origin.Step l.from (step.Nth 0)) → AreBefore base l.self.origins (origin.Step l.from (step.Nth l.number)))
