use Rattle.idl_compat.proofs.OneAnswer as answers
use Rattle.idl_compat.proofs.laws.one_answer.Goals as goal

pub returns-clause-at_most : goal.returns-clause-at_most
returns-clause-at_most c old new a b h k = answers.same old new a b h k

pub returns-clause-not_none : goal.returns-clause-not_none
returns-clause-not_none c old new f = answers.not_none old new f
