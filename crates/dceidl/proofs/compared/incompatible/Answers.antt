use Rattle.std.proofs.Common.{subst}
use Rattle.command_compile.specs.Compat.{IsBeside}
use Rattle.dceidl.proofs.Places.{told_at}
use Rattle.dceidl.proofs.compared.incompatible.Goals as goal

pub returns-in-Some : goal.returns-in-Some
returns-in-Some c = λ f old new h.
    told_at f old new c.args.why.refusal c.in-Some.text (subst (λ p. IsBeside f old new c.args.why.refusal p) c.in-Some.is h.beside) c.status-status.result c.in-Ok.line
    c.status-status.ensures c.in-Ok.ensures
