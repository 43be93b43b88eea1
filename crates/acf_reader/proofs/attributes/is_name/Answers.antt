use Rattle.acf_reader.specs.Symbols.{names}
use Rattle.acf_reader.proofs.attributes.is_name.Goals as goal

pub returns-else-inside : goal.returns-else-inside
unfolding names
returns-else-inside c = rw c.if-inside.false c.begins-else-inside.ensures
