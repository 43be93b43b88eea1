use Rattle.idl_check.proofs.AcfLast as laws
use Rattle.idl_check.proofs.laws.attribute_files_come_last.Goals as goal

pub returns-clause-behind : goal.returns-clause-behind
returns-clause-behind c = laws.acf_behind

pub returns-clause-least : goal.returns-clause-least
returns-clause-least c = laws.least_of_all

pub returns-clause-alone : goal.returns-clause-alone
returns-clause-alone c = laws.none_beside
