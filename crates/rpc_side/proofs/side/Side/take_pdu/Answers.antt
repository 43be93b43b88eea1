use Rattle.std.proofs.Common.{◌∙◌, ◌+◌, ◌%◌, ◌^◌, length, ap}
use Rattle.rpc_side.proofs.Streaming.{same_kept, on_err, nothing_now, one_now, two_now}
use Rattle.rpc_side.proofs.side.Side.take_pdu.Goals as goal

pub returns-in_err-reports-clause-kept : goal.returns-in_err-reports-clause-kept
returns-in_err-reports-clause-kept c =
    on_err c.from_residual.result _ (λ stream handed st. same_kept stream handed c.step.new.self c.args.self.now c.in_err-reports.ensures.kept st)

pub returns-in-Nothing-clause-next : goal.returns-in-Nothing-clause-next
returns-in-Nothing-clause-next c =
    nothing_now c.args.self.now c.requires.whole.0 c.in-Ok.octets c.clear.new.self ((c.args.self.now.at + length c.as_slice.result.now) % 2 ^ 64) c.in_ok-reports.reports
    c.step.new.self c.requires.whole.1 c.requires.none_due (c.in-Ok.ensures ∙ c.octets.ensures) c.clear.ensures
    (ap (λ os. (c.args.self.now.at + length os) % 2 ^ 64) (c.as_slice.ensures ∙ c.in-Ok.ensures ∙ c.octets.ensures)) c.in_ok-reports.ensures.stepped
    c.in-Nothing.is

pub returns-in-One-clause-next : goal.returns-in-One-clause-next
returns-in-One-clause-next c =
    one_now c.args.self.now c.requires.whole.0 c.in-Ok.octets c.clear.new.self ((c.args.self.now.at + length c.as_slice.result.now) % 2 ^ 64) c.in_ok-reports.reports
    c.in-One.report c.step.new.self c.requires.whole.1 c.requires.none_due (c.in-Ok.ensures ∙ c.octets.ensures) c.clear.ensures
    (ap (λ os. (c.args.self.now.at + length os) % 2 ^ 64) (c.as_slice.ensures ∙ c.in-Ok.ensures ∙ c.octets.ensures)) c.in_ok-reports.ensures.stepped
    c.in-One.is

pub returns-in-Two-clause-next : goal.returns-in-Two-clause-next
returns-in-Two-clause-next c =
    two_now c.args.self.now c.requires.whole.0 c.in-Ok.octets c.clear.new.self ((c.args.self.now.at + length c.as_slice.result.now) % 2 ^ 64) c.in_ok-reports.reports
    c.in-Two.report c.in-Two.other c.step.new.self c.requires.whole.1 c.requires.none_due (c.in-Ok.ensures ∙ c.octets.ensures) c.clear.ensures
    (ap (λ os. (c.args.self.now.at + length os) % 2 ^ 64) (c.as_slice.ensures ∙ c.in-Ok.ensures ∙ c.octets.ensures)) c.in_ok-reports.ensures.stepped
    c.in-Two.is
