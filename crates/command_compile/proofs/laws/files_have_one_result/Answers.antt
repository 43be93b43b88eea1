use Rattle.command_compile.proofs.Results.{each_result, one_result}
use Rattle.command_compile.proofs.laws.files_have_one_result.Goals as goal

pub returns-clause-some : goal.returns-clause-some
returns-clause-some c = each_result

pub returns-clause-one : goal.returns-clause-one
returns-clause-one c = one_result
