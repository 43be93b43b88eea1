use Rattle.idl_legal_laws.proofs.fields.Facts.{legal_fields}
use Rattle.idl_legal_laws.proofs.laws.rules.fields_are_legal.Goals as goal

pub returns : goal.returns
returns c = legal_fields
