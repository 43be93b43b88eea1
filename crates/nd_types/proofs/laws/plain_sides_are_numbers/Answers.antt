use Rattle.nd_types.proofs.NumberSides.{plain_numbers}
use Rattle.nd_types.proofs.laws.plain_sides_are_numbers.Goals as goal

pub returns : goal.returns
returns c = plain_numbers
