use Rattle.std.proofs.Common.{◌∙◌, [], ◌∷◌, ap}
use Rattle.rpc_side.proofs.Stepping.{close_step}
use Rattle.rpc_side.proofs.calls.OpenCalls.closing.Goals as goal

pub returns-in_ok-fragments-in-Some-clause-stepped : goal.returns-in_ok-fragments-in-Some-clause-stepped
returns-in_ok-fragments-in-Some-clause-stepped c = λ limits k keeps.
    close_step limits c.args.call c.args.pdu c.in_ok-fragments-in-Some.fragments k c.one-in-Some.result c.close.new.self
    (c.in_ok-fragments-in-Some.ensures.closed k keeps) (c.one-in-Some.ensures ∙ ap (λ r. r ∷ []) c.ended-in-Some.ensures)
