use Rattle.idl_legal_laws.proofs.legal.All.{all_legal}
use Rattle.idl_legal_laws.proofs.legal.Meanings as meanings
use Rattle.idl_legal_laws.proofs.laws.legal.meaning_is_legal.Goals as goal

pub returns-clause-tables : goal.returns-clause-tables
returns-clause-tables c = all_legal

pub returns-clause-meanings : goal.returns-clause-meanings
returns-clause-meanings c = meanings.of_meaning all_legal
