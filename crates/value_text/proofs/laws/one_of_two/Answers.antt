use Rattle.value_text.proofs.Endings.{one_of_two}
use Rattle.value_text.proofs.laws.one_of_two.Goals as goal

pub returns : goal.returns
returns c = one_of_two
