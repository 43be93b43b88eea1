use Rattle.std.proofs.Common.{Some, ap, sym, ◌∙◌}
use Rattle.ndr_encoder_output.proofs.Following.{closed}
use Rattle.ndr_encoder_output.proofs.members.closes.Goals as goal

pub returns-in-Some-Close : goal.returns-in-Some-Close
returns-in-Some-Close c = λ h.
    closed c.args.code.now c.args.at (sym c.instr_at.ensures.value ∙ c.in-Some-Close.is ∙ ap (λ i. Some i) c.in-Some-Close.field-0-is)
    (sym c.instr_at-in-Some-Close.ensures.value ∙ c.is_ret.ensures h)
