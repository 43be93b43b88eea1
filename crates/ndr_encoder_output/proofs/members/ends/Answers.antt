use Rattle.std.proofs.Common.{Some, ap, sym, ◌∙◌, subst}
use Rattle.ndr_encoder_output.specs.Structs.{HasClosed}
use Rattle.ndr_encoder_output.proofs.Following.{checked_ended}
use Rattle.ndr_encoder_output.proofs.members.ends.Goals as goal

pub returns-in-Some-Check : goal.returns-in-Some-Check
returns-in-Some-Check c = λ h.
    checked_ended c.args.code.now c.args.at c.in-Some-Check.field-0-0 c.in-Some-Check.field-0-1 c.in-Some-Check.field-0-2 c.in-Some-Check.field-0-3
    (sym c.instr_at.ensures.value ∙ c.in-Some-Check.is ∙ ap (λ i. Some i) c.in-Some-Check.field-0-is) (subst (HasClosed c.args.code.now) c.past_checks.ensures (c.closes.ensures h))
