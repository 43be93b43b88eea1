use Rattle.idl_typing.proofs.NotedTypes.{noted_within}
use Rattle.idl_typing.proofs.types.note_switch.Goals as goal

pub returns-clause-within : goal.returns-clause-within
returns-clause-within c = noted_within c.switch.new.kinds c.in_ok-of.of _ c.note.result c.in_ok-of.ensures.stands c.note.ensures
