use Rattle.std.proofs.Common.{◌∙◌, ◌-◌, ap, sym}
use Rattle.ndr_trace_value.proofs.LastSteps.{at_last_place}
use Rattle.ndr_trace_value.proofs.counted.last_of.Goals as goal

pub returns-in_default : goal.returns-in_default
returns-in_default c = sym c.in_default.ensures.none ∙ at_last_place c.args.members.now _ (c.saturating_sub.ensures ∙ ap (λ n. n - 1) c.len.ensures)

pub returns : goal.returns
returns c = sym c.in-Some.ensures.some ∙ at_last_place c.args.members.now _ (c.saturating_sub.ensures ∙ ap (λ n. n - 1) c.len.ensures)
