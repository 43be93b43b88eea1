use Rattle.std.proofs.lemmas.Bool.{lt-ltb}
use Rattle.idl_declared_types.proofs.NameLists.{within_stands}
use Rattle.idl_declared_types.proofs.typing.pointer_with.Goals as goal

pub add-requires : goal.add-requires
add-requires c = lt-ltb _ _ (within_stands c.pointee_with.new.kinds c.in_ok-to.to _ c.in_ok-to.ensures.stands)
