use Rattle.std.proofs.Common.{◌≡◌, subst, sym}
use Rattle.std.specs.Prelude.{IfOk}
use Rattle.command_line.specs.Commands.{command_of}
use Rattle.command_line.specs.Words.{idl_of, op_of}
use Rattle.command_refusals.specs.Lines.{line_of}
use Rattle.command_line.specs.declared.command.Command as words
use Rattle.dceidl.proofs.top.command_line.Goals as goal

pub returns-in-Compat : goal.returns-in-Compat
returns-in-Compat c =
    let P : words.Command → Type 0 = λ k. IfOk c.line-in-Compat.result (λ l. l ≡ line_of (idl_of (command_of k)) (op_of (command_of k)) c.args.refusal.now) in
    subst P (sym c.in-Compat.is) c.line-in-Compat.ensures

pub returns-in-Help : goal.returns-in-Help
returns-in-Help c =
    let P : words.Command → Type 0 = λ k. IfOk c.line-in-Help.result (λ l. l ≡ line_of (idl_of (command_of k)) (op_of (command_of k)) c.args.refusal.now) in
    subst P (sym c.in-Help.is) c.line-in-Help.ensures

pub returns-in-Sample : goal.returns-in-Sample
returns-in-Sample c =
    let P : words.Command → Type 0 = λ k. IfOk c.line-in-Sample.result (λ l. l ≡ line_of (idl_of (command_of k)) (op_of (command_of k)) c.args.refusal.now) in
    subst P (sym c.in-Sample.is) c.line-in-Sample.ensures

pub returns-in-Version : goal.returns-in-Version
returns-in-Version c =
    let P : words.Command → Type 0 = λ k. IfOk c.line-in-Version.result (λ l. l ≡ line_of (idl_of (command_of k)) (op_of (command_of k)) c.args.refusal.now) in
    subst P (sym c.in-Version.is) c.line-in-Version.ensures
