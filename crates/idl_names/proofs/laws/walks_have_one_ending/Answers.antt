use Rattle.idl_names.proofs.Once.{one_ending, one_told_ending}
use Rattle.idl_names.proofs.laws.walks_have_one_ending.Goals as goal

pub returns-clause-decided : goal.returns-clause-decided
returns-clause-decided c = λ held s dues a b p q v w. one_ending held p q v w

pub returns-clause-told : goal.returns-clause-told
returns-clause-told c = λ held fails s dues a b p q v w fv fw. one_told_ending held fails p q v w fv fw
