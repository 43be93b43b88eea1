use Rattle.idl_grammar.specs.Expressions.{names}
use Rattle.idl_tokens.proofs.parser.is_name_symbol.Goals as goal

pub returns-else-inside : goal.returns-else-inside
unfolding names
returns-else-inside c = rw c.if-inside.false c.is_among-else-inside.ensures
