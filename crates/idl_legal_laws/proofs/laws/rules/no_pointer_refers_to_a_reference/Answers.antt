use Rattle.idl_legal_laws.proofs.Referents.{table_referents}
use Rattle.idl_legal_laws.proofs.laws.rules.no_pointer_refers_to_a_reference.Goals as goal

pub returns : goal.returns
returns c = table_referents
