use Rattle.std.proofs.Common.{arith}
use Rattle.idl_lexer.proofs.Values.{ends_past, ends_within}
use Rattle.idl_lexer.proofs.numbers.digits_value.Goals as goal

pub returns-in-None : goal.returns-in-None
returns-in-None c = ends_past c.args.base c.loop-digit.value c.args.digits.now c.loop-digit.digit-index _ c.requires.some (omega arith) c.in-None.ensures c.loop-digit.invariant.0

pub returns : goal.returns
returns c = ends_within c.args.base c.loop-digit.value c.args.digits.now c.loop-digit.digit-index _ c.loop-digit.invariant.1 (omega arith) c.loop-digit.invariant.0
