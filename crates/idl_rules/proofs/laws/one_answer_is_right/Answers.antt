use Rattle.std.proofs.Common.{sym, ◌∙◌}
use Rattle.std.proofs.lemmas.Option.{same_Some}
use Rattle.idl_rules.proofs.laws.one_answer_is_right.Goals as goal

pub returns-clause-told : goal.returns-clause-told
returns-clause-told c w rule other place elsewhere h i = same_Some _ _ (sym h ∙ i)

pub returns-clause-not_both : goal.returns-clause-not_both
returns-clause-not_both c w i rule place h told = let e = sym h.keeps ∙ told in cc
