use Rattle.std.proofs.lemmas.Bool.{lt-ltb}
use Rattle.idl_declared_types.proofs.NameLists.{within_stands}
use Rattle.idl_typing.proofs.types.tag_number.Goals as goal

pub returns-clause-within : goal.returns-clause-within
returns-clause-within c = lt-ltb _ _ (within_stands c.switch.new.kinds c.in_ok-number.number _ c.in_ok-number.ensures.stands)
