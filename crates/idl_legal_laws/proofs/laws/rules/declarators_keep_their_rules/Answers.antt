use Rattle.idl_legal_laws.proofs.Kept.{keeps_use}
use Rattle.idl_legal_laws.proofs.laws.rules.declarators_keep_their_rules.Goals as goal

pub returns : goal.returns
returns c = keeps_use
