use Rattle.std.proofs.Common.{sym, subst, IfOk}
use Rattle.idl_scope.specs.Seen.{known_in}
use Rattle.idl_constructs.specs.declared.nodes.Node.{Node}
use Rattle.idl_declared_types.specs.SeenNames.{seen_names}
use Rattle.idl_declared_types.specs.SeenTypes.{bare, IsTyped}
use Rattle.idl_typing.proofs.NotedTypes.{ok_then}
use Rattle.idl_typing.proofs.types.noted.Goals as goal

pub returns-in-Body-clause-typed : goal.returns-in-Body-clause-typed
returns-in-Body-clause-typed c =
    let known = known_in c.args.scope.now in
    let names = seen_names c.args.kinds.now c.args.names.now in
    subst (λ (n : Node). IfOk c.note_body.result (IsTyped (bare known) names c.note_body.new.kinds c.args.nodes.now.lists.items n)) (sym c.in-Body.is)
    (ok_then c.note_body.result c.note_body.ensures.typed (λ t h. h names))
