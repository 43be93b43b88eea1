use Rattle.std.proofs.Common.{◌≡◌, false, Some, rules, sym, ◌∙◌}
use Rattle.std.specs.Prelude.{◌==◌}
use Rattle.ndr_code.specs.declared.instr.Instr.TheVariants.{Align}
use Rattle.ndr_encoder_output.proofs.Following.{some_after, some_bare}
use Rattle.ndr_encoder_output.proofs.members.member_of.Goals as goal

pub returns-else-to-eq1 : goal.returns-else-to-eq1
returns-else-to-eq1 c =
    let some : (c.in-Some-Align.to == 1) ≡ false = search rules in
    let first : c.instr_at-first.result ≡ Some (Align c.in-Some-Align.to) = search rules in
    some_after c.args.code.now c.args.run c.in-Some-Align.to c.instr_at-second.result c.instr_at-third.result c.member_after.result
    (sym c.instr_at-first.ensures.value ∙ first) some (sym c.instr_at-second.ensures.value) (sym c.instr_at-third.ensures.value)
    c.member_after.ensures.member c.member_after.ensures.gap c.member_after.ensures.end

pub returns-in_default : goal.returns-in_default
returns-in_default c =
    some_bare c.args.code.now c.args.run c.instr_at-first.result c.instr_at-second.result c.member_after-in_default.result
    (sym c.instr_at-first.ensures.value) (sym c.instr_at-second.ensures.value)
    c.member_after-in_default.ensures.member c.member_after-in_default.ensures.gap c.member_after-in_default.ensures.end
