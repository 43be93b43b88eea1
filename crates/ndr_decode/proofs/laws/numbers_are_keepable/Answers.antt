use Rattle.ndr_decode.proofs.Numbers.{kept_keepable}
use Rattle.ndr_decode.proofs.laws.numbers_are_keepable.Goals as goal

pub returns : goal.returns
returns c = λ w side order fetched noted direct b s before ag seen kp v star z is. kept_keepable w side order fetched noted direct b s before ag seen kp v star z is
