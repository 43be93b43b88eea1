use Rattle.std.proofs.Common.{sym, ◌∙◌}
use Rattle.idl_declared_types.specs.Kinds.{type_by}
use Rattle.idl_typing.proofs.Wanted.{integer_basic, integer_none}
use Rattle.idl_typing.proofs.variables.is_integer.Goals as goal

pub returns-in-Some : goal.returns-in-Some
returns-in-Some c ts = c.is_integer_primitive.ensures ∙ integer_basic (type_by ts c.args.kind) c.in-Some.primitive (c.in-Some.ensures ts)

pub returns-in-None : goal.returns-in-None
returns-in-None c ts = integer_none (type_by ts c.args.kind) (c.in-None.ensures ts)
