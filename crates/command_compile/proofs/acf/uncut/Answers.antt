use Rattle.std.proofs.Common.{subst}
use Rattle.nd_base.specs.Text.{position_of}
use Rattle.idl_lexer.specs.Verdict.{IsFault}
use Rattle.command_refusals.specs.declared.refusal.IdlReason.TheVariants as reason
use Rattle.command_compile.specs.Idl.{reported_by}
use Rattle.command_compile.proofs.Judged.{uncut_told}
use Rattle.command_compile.proofs.acf.uncut.Goals as goal

pub returns-in-At : goal.returns-in-At
returns-in-At c fault =
    uncut_told c.args.name.now c.args.text.now c.in-At.at c.in-At.kind c.or_memory.result (subst (λ f. IsFault c.args.text.now f) c.in-At.is fault)
    (c.or_memory.ensures (reported_by c.args.name.now (position_of c.args.text.now c.in-At.at) (reason.Lexical c.in-At.kind)) c.report_in.ensures)
