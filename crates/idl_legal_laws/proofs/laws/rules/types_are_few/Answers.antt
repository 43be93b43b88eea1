use Rattle.idl_legal_laws.proofs.Few.{few_types}
use Rattle.idl_legal_laws.proofs.laws.rules.types_are_few.Goals as goal

pub returns : goal.returns
returns c = few_types
