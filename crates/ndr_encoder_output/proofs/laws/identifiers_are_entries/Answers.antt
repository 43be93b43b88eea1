use Rattle.std.proofs.Common.{refl}
use Rattle.ndr_encoder_output.proofs.laws.identifiers_are_entries.Goals as goal

pub returns-clause-written : goal.returns-clause-written
returns-clause-written c order id = refl

pub returns-clause-read : goal.returns-clause-read
returns-clause-read c order octets os = refl
