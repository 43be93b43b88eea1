use Rattle.idl_declared_types.proofs.NameLists.{within_stands}
use Rattle.idl_typing.proofs.NotedTypes.{noted_within}
use Rattle.idl_typing.proofs.types.note_labels.Goals as goal

pub returns-in_default-clause-within : goal.returns-in_default-clause-within
returns-in_default-clause-within c = noted_within c.add.new.self c.in_ok-of.of _ c.note.result c.in_ok-of.ensures.stands c.note.ensures

pub returns-clause-within : goal.returns-clause-within
returns-clause-within c =
    let within = within_stands c.switch.new.kinds c.in_ok-of-2.of _ c.in_ok-of-2.ensures.stands in
    (within, within)
