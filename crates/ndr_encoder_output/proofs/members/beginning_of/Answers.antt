use Rattle.std.proofs.Common.{◌≡◌, false, Some, rules, ap, sym, ◌∙◌}
use Rattle.std.specs.Prelude.{◌==◌}
use Rattle.ndr_encoder_output.proofs.Following.{begun_after, begun_bare}
use Rattle.ndr_encoder_output.proofs.members.beginning_of.Goals as goal

pub returns-else-not-is_record : goal.returns-else-not-is_record
returns-else-not-is_record c =
    let some : (c.in-Some-Align.to == 1) ≡ false = search rules in
    begun_after c.args.code.now c.args.start c.in-Some-Align.to (sym c.instr_at.ensures.value ∙ c.in-Some-Align.is ∙ ap (λ i. Some i) c.in-Some-Align.field-0-is) some
    (c.is_record.ensures c.if-not-is_record.false)

pub returns-else-not-is_record-2 : goal.returns-else-not-is_record-2
returns-else-not-is_record-2 c = begun_bare c.args.code.now c.args.start (c.is_record-in_default.ensures c.if-not-is_record-2.false)
