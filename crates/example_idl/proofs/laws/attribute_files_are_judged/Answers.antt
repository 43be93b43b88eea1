use Rattle.example_idl.proofs.AcfJudged as laws
use Rattle.example_idl.proofs.laws.attribute_files_are_judged.Goals as goal

pub returns-clause-directory : goal.returns-clause-directory
returns-clause-directory c = laws.directory_judged

pub returns-clause-other : goal.returns-clause-other
returns-clause-other c = laws.other_judged

pub returns-clause-names : goal.returns-clause-names
returns-clause-names c = laws.names_judged

pub returns-clause-places : goal.returns-clause-places
returns-clause-places c = laws.places_judged

pub returns-clause-lesser : goal.returns-clause-lesser
returns-clause-lesser c = laws.lesser_judged
