use Rattle.command_decode.proofs.Steps.{fault_is}
use Rattle.command_decode.proofs.ExplainSteps.{logged_is}
use Rattle.command_decode.proofs.explaining.decode.Goals as goal

pub returns-in-Ok-clause-logged : goal.returns-in-Ok-clause-logged
returns-in-Ok-clause-logged g c o there = logged_is _ _ _ _ _ _ c.requires.empty (c.in-Ok.ensures.decoded o there)

pub returns-clause-refused : goal.returns-clause-refused
returns-clause-refused g c o there = fault_is _ _ _ _ _ _ _ c.in-Err-Bad.field-0-is (c.in-Err-Bad.ensures.fault o there)
