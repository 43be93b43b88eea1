use Rattle.idl_declared_types.proofs.NameLists.{within_stands}
use Rattle.idl_declared_types.proofs.typing.declared_type.Goals as goal

pub with_declarator-requires : goal.with_declarator-requires
with_declarator-requires c = within_stands c.type_before.new.kinds c.in_ok-before.before _ c.in_ok-before.ensures.stands
