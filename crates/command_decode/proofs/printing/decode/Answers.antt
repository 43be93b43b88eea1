use Rattle.command_decode.proofs.Steps.{taken_is, fault_is}
use Rattle.command_decode.proofs.printing.decode.Goals as goal

pub returns-in-Ok-clause-taken : goal.returns-in-Ok-clause-taken
returns-in-Ok-clause-taken g c o there = taken_is _ _ _ _ _ _ (c.in-Ok.ensures.decoded o there)

pub returns-clause-refused : goal.returns-clause-refused
returns-clause-refused g c o there = fault_is _ _ _ _ _ _ _ c.in-Err-Bad.field-0-is (c.in-Err-Bad.ensures.fault o there)
