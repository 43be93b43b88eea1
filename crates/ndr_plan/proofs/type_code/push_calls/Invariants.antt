use Rattle.std.proofs.Common.{◌≡◌, ◌++◌, drop, map}
use Rattle.ndr_code.specs.declared.instr.Instr.TheVariants as op
use Rattle.ndr_plan.specs.Addresses.{place_in}
use Rattle.nd_types.specs.declared.types.Field.{Field}
use Rattle.ndr_plan.proofs.type_code.push_calls.Given as goal

-- what is written, with what is left
abbrev pub invariant-loop-at : goal.invariant-loop-at
invariant-loop-at l =
    l.code ++ map (λ (f : Field). op.Call (place_in l.addresses f.of.0)) (drop l.at l.members) ≡ l.initial.code ++ map (λ (f : Field). op.Call (place_in l.addresses f.of.0)) l.members
