use Rattle.std.proofs.Common.{◌∙◌, ap}
use Rattle.idl_declared_types.specs.Kinds.{type_at, seen_types}
use Rattle.idl_declared_types.proofs.KindLists.{type_at-stands}
use Rattle.idl_typing.proofs.NotedTypes.{noted_within}
use Rattle.idl_typing.proofs.types.note_body.Goals as goal

pub returns-clause-typed : goal.returns-clause-typed
returns-clause-typed c names =
    ap (λ x. type_at c.add.new.self x.of) c.note.ensures
    ∙ type_at-stands c.add.new.self c.in_ok-of.of _ c.in_ok-of.ensures.stands
    ∙ c.body_kind.ensures.seen names (seen_types c.args.kinds.now)

pub returns-clause-within : goal.returns-clause-within
returns-clause-within c = noted_within c.add.new.self c.in_ok-of.of _ c.note.result c.in_ok-of.ensures.stands c.note.ensures
