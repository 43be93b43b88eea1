use Rattle.idl_compat_place.proofs.Operated.{other_params}
use Rattle.idl_compat_place.proofs.wanted.wanted_params.Goals as goal

pub returns-then-branch : goal.returns-then-branch
returns-then-branch c = λ o q n is is'. other_params c.args.old.now c.args.new.now o q n is is' c.in_ok-are_other_params.field-0 c.in_ok-are_other_params.ensures c.if-branch.true
