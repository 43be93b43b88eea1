use Rattle.std.proofs.Common.{◌≡◌, ◌++◌, drop, map}
use Rattle.ndr_code.specs.declared.instr.Instr.TheVariants as op
use Rattle.ndr_plan.specs.Addresses.{place_in}
use Rattle.nd_types.specs.declared.types.Arm.{Arm}
use Rattle.ndr_code.specs.Code.{arm_run}
use Rattle.ndr_plan.proofs.type_code.push_arms.Given as goal

-- what is written, with what is left
abbrev pub invariant-loop-at : goal.invariant-loop-at
invariant-loop-at l =
    l.code ++ map (λ (a : Arm). op.Arm a.label (arm_run (place_in l.addresses) a.of)) (drop l.at l.arms) ≡ l.initial.code
    ++ map (λ (a : Arm). op.Arm a.label (arm_run (place_in l.addresses) a.of)) l.arms
