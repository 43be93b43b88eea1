use Rattle.std.proofs.Common.{arith}
use Rattle.ndr_decoder_fast.proofs.FirstZeros.{refused_before, refused_unended, not_refused}
use Rattle.ndr_decoder_fast.proofs.zeros.refused_at.Goals as goal

pub returns-then-zero-last : goal.returns-then-zero-last
returns-then-zero-last c = refused_before c.args.at c.find_zero-zero.result c.args.octets.now c.find_zero-zero.ensures.is (omega arith)

pub returns-then-zero-last-2 : goal.returns-then-zero-last-2
returns-then-zero-last-2 c = refused_unended c.args.at c.find_zero-zero.result c.args.octets.now c.find_zero-zero.ensures.is c.requires.some (omega arith)

pub returns : goal.returns
returns c = not_refused c.args.at c.find_zero-zero.result c.args.octets.now c.find_zero-zero.ensures.is c.requires.some (omega arith) (omega arith)
