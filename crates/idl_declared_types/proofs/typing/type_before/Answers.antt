use Rattle.std.proofs.lemmas.Bool.{lt-ltb}
use Rattle.idl_declared_types.proofs.NameLists.{within_stands}
use Rattle.idl_declared_types.proofs.typing.type_before.Goals as goal

pub add-requires : goal.add-requires
add-requires c = lt-ltb _ _ (within_stands c.written.new.kinds c.in_ok-element.element _ c.in_ok-element.ensures.stands)
