use Rattle.example_idl.proofs.Judged as laws
use Rattle.example_idl.proofs.laws.small_texts_are_judged.Goals as goal

pub returns-clause-broken : goal.returns-clause-broken
returns-clause-broken c = laws.all_broken

pub returns-clause-kept : goal.returns-clause-kept
returns-clause-kept c = laws.all_kept
