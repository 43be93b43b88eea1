use Rattle.nd_types.proofs.Rounds as laws
use Rattle.nd_types.proofs.laws.rounds_come_to_the_layout.Goals as goal

pub returns-clause-align : goal.returns-clause-align
returns-clause-align c = laws.align_is

pub returns-clause-hoists : goal.returns-clause-hoists
returns-clause-hoists c = laws.hoists_is

pub returns-clause-settled : goal.returns-clause-settled
returns-clause-settled c = laws.settled
