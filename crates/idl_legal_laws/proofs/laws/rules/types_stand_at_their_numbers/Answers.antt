use Rattle.idl_rule_definitions.proofs.Needed.{all_numbered}
use Rattle.idl_legal_laws.proofs.Numbers.{at_its_number}
use Rattle.idl_legal_laws.proofs.laws.rules.types_stand_at_their_numbers.Goals as goal

pub returns-clause-needed : goal.returns-clause-needed
returns-clause-needed c = all_numbered

pub returns-clause-stands : goal.returns-clause-stands
returns-clause-stands c = at_its_number
