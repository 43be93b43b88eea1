use Rattle.command_compile.proofs.JudgedFiles.{each_resolved, each_outcome}
use Rattle.command_compile.proofs.MeantNames.{meant_named}
use Rattle.command_compile.proofs.laws.files_are_judged.Goals as goal

pub returns-clause-resolved : goal.returns-clause-resolved
returns-clause-resolved c = each_resolved

pub returns-clause-named : goal.returns-clause-named
returns-clause-named c language = meant_named {language = language}

pub returns-clause-outcome : goal.returns-clause-outcome
returns-clause-outcome c = each_outcome
