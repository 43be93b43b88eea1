use Rattle.nd_base.specs.Text.{position_of}
use Rattle.command_refusals.specs.declared.refusal.IdlReason.TheVariants as reason
use Rattle.command_compile.specs.Idl.{reported_by, word_at}
use Rattle.command_compile.proofs.Judged.{told_syntax, told_deep, told_banned}
use Rattle.command_compile.proofs.acf.unread.Goals as goal

pub returns-in-Syntax : goal.returns-in-Syntax
returns-in-Syntax c =
    told_syntax c.args.name.now c.args.text.now c.args.tokens.now c.in-Syntax.token c.at.result c.at.ensures c.args.fault c.or_memory.result c.in-Syntax.is
    (c.or_memory.ensures (reported_by c.args.name.now (position_of c.args.text.now c.at.result) reason.Syntax) c.report_in.ensures)

pub returns-in-Deep : goal.returns-in-Deep
returns-in-Deep c =
    told_deep c.args.name.now c.args.text.now c.args.tokens.now c.in-Deep.token c.at-in-Deep.result c.at-in-Deep.ensures c.args.fault c.or_memory-in-Deep.result c.in-Deep.is
    (c.or_memory-in-Deep.ensures (reported_by c.args.name.now (position_of c.args.text.now c.at-in-Deep.result) reason.Deep) c.report_in-in-Deep.ensures)

pub returns-in-Banned : goal.returns-in-Banned
returns-in-Banned c =
    told_banned c.args.name.now c.args.text.now c.args.tokens.now c.in-Banned.token c.at-in-Banned.result c.at-in-Banned.ensures c.args.fault
    c.or_memory-in-Banned.result c.in-Banned.is
    (c.or_memory-in-Banned.ensures
    (reported_by c.args.name.now (position_of c.args.text.now c.at-in-Banned.result) (reason.Banned (word_at c.args.text.now c.at-in-Banned.result)))
    c.report_banned.ensures)
