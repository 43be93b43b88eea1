use Rattle.std.proofs.Common.{◌≡◌, ◌∙◌, [], ◌∷◌, sym}
use Rattle.std.proofs.lemmas.Option.{same_Some}
use Rattle.nd_types.specs.Meant.{meant_by}
use Rattle.idl_check.proofs.laws.one_answer_is_right.Goals as goal

pub returns-clause-told : goal.returns-clause-told
returns-clause-told c w f rule other place elsewhere h i = same_Some _ _ (sym h ∙ i)

pub returns-clause-not_both : goal.returns-clause-not_both
returns-clause-not_both c w f i rule place h told = let e = sym h.keeps ∙ told in cc

pub returns-clause-meant : goal.returns-clause-meant
returns-clause-meant c w f g i j h k = let e : meant_by i ∷ [] ≡ meant_by j ∷ [] = sym h.means ∙ k.means in cc
