use Rattle.std.proofs.Common.{◌∙◌, ◌++◌, codes, append_assoc, ap}
use Rattle.ndr_trace.proofs.tracing.finish_at.Goals as goal

pub returns-clause-path : goal.returns-clause-path
returns-clause-path c = (
  c.in_ok-variable.variable,
  c.in_ok-variable.ensures.own,
  c.in_ok-variable.ensures.kept,
  c.in_ok-variable.ensures.pointed,
  c.in_ok-variable.ensures.beside,
  c.in_ok-append-2.ensures.ok ∙ ap (λ q. c.append.new.self ++ q) c.as_slice.ensures ∙ ap (λ q. q ++ c.in_ok-variable.variable) c.in_ok-append.ensures.ok
      ∙ append_assoc c.args.path (codes " ") c.in_ok-variable.variable,
)
