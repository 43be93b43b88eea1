use Rattle.idl_rule_definitions.specs.Rules.{breaches}
use Rattle.idl_rule_definitions.proofs.Order.{least}
use Rattle.idl_legal_laws.proofs.laws.rules.least_rule_is_told.Goals as goal

pub returns : goal.returns
returns c w = least w (breaches w)
