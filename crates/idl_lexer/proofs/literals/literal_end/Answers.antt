use Rattle.std.proofs.Common.{arith}
use Rattle.idl_lexer.proofs.LiteralEnds.{reaches_more, is_end, is_bad}
use Rattle.idl_lexer.proofs.literals.literal_end.Goals as goal

pub returns-in-Closed : goal.returns-in-Closed
returns-in-Closed c = is_end c.args.text.now c.args.start c.args.first c.loop-at.due c.loop-at.at c.loop-at.invariant (omega arith) c.in-Closed.ensures

pub returns-in-Bad : goal.returns-in-Bad
returns-in-Bad c = is_bad c.args.text.now c.args.start c.args.first c.loop-at.due c.loop-at.at c.loop-at.invariant (omega arith) c.if-octet-eq10.false c.in-Bad.ensures

pub loop-at-preserved : goal.loop-at-preserved
loop-at-preserved c = reaches_more c.args.text.now c.args.start c.args.first c.loop-at.due c.loop-at.at c.in-Goes.next c.loop-at.invariant (omega arith) c.if-octet-eq10.false c.in-Goes.ensures
