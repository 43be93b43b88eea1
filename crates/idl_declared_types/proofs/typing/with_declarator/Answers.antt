use Rattle.idl_declared_types.proofs.NameLists.{within_stands}
use Rattle.idl_declared_types.proofs.typing.with_declarator.Goals as goal

pub with_dimensions-requires : goal.with_dimensions-requires
with_dimensions-requires c = within_stands c.with_stars.new.kinds c.in_ok-of.of _ c.in_ok-of.ensures.stands
