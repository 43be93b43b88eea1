use Rattle.std.proofs.Common.{arith}
use Rattle.idl_declared_types.proofs.NameLists.{within_stands, le-keeps}
use Rattle.idl_typing.proofs.types.note_declared.Goals as goal

pub with_attributes-requires : goal.with_attributes-requires
with_attributes-requires c = within_stands c.declared_type.new.kinds c.in_ok-declared_as.declared_as _ c.in_ok-declared_as.ensures.stands

pub returns-clause-within : goal.returns-clause-within
returns-clause-within c = (
  within_stands c.with_attributes.new.kinds c.in_ok-declared_as.declared_as _ (c.in_ok-of.ensures.keeps _ _ c.in_ok-declared_as.ensures.stands),
  within_stands c.with_attributes.new.kinds c.in_ok-of.of _ c.in_ok-of.ensures.stands,
)
