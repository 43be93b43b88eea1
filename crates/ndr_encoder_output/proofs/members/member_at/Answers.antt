use Rattle.std.proofs.Common.{Some, ap, sym, ◌∙◌}
use Rattle.ndr_encoder_output.proofs.Following.{some_called}
use Rattle.ndr_encoder_output.proofs.members.member_at.Goals as goal

pub returns-in-Some-Call-clause-member : goal.returns-in-Some-Call-clause-member
returns-in-Some-Call-clause-member c =
    some_called c.args.code.now c.args.at c.in-Some-Call.run' c.member_of.result
    (sym c.instr_at.ensures.value ∙ c.in-Some-Call.is ∙ ap (λ i. Some i) c.in-Some-Call.field-0-is) c.member_of.ensures
