use Rattle.std.proofs.Common.{arith}
use Rattle.nd_misfits.proofs.NodeTests.{octets_are}
use Rattle.nd_misfits.proofs.node.octets_within.Goals as goal

pub returns : goal.returns
returns c = octets_are c.args.octets.now (λ i. omega (arith, c.type_inv.octets i))
