use Rattle.idl_constructs.proofs.Split.{lists_in, others_in}
use Rattle.idl_constructs.proofs.Judgement.{told_by_lists, told_by_others, none_broken}
use Rattle.idl_rules.proofs.laws.breaches_are_in_two.Goals as goal

pub returns-clause-lists : goal.returns-clause-lists
returns-clause-lists c = lists_in

pub returns-clause-others : goal.returns-clause-others
returns-clause-others c = others_in
