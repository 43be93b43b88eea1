use Rattle.idl_legal_laws.proofs.legal.All.{all_legal}
use Rattle.example_idl.proofs.LegalTexts as texts
use Rattle.example_idl.proofs.laws.worked_meanings_are_legal.Goals as goal

pub returns-clause-sum : goal.returns-clause-sum
returns-clause-sum c = texts.sum_is_legal all_legal

pub returns-clause-directory : goal.returns-clause-directory
returns-clause-directory c = texts.directory_is_legal all_legal
