use Rattle.std.proofs.Common.{◌≡◌, ◌++◌, drop, map}
use Rattle.ndr_code.specs.declared.instr.Instr.TheVariants as op
use Rattle.nd_types.specs.declared.types.AttrVar.{AttrVar}
use Rattle.ndr_plan.proofs.type_code.push_field_checks.Given as goal

-- what is written, with what is left
abbrev pub invariant-loop-at : goal.invariant-loop-at
invariant-loop-at l = l.code ++ map (λ (a : AttrVar). op.Check a.attr l.field a.var a.star) (drop l.at l.vars) ≡ l.initial.code ++ map (λ (a : AttrVar). op.Check a.attr l.field a.var a.star) l.vars
