use Rattle.std.proofs.Common.{arith}
use Rattle.ndr_encoder_output.proofs.Rows.{octets_by_index}
use Rattle.ndr_encoder_output.proofs.row.are_octets.Goals as goal

pub returns : goal.returns
returns c = octets_by_index c.args.octets.now (λ k. omega (arith, c.type_inv.octets k))
