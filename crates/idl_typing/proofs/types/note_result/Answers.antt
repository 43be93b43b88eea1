use Rattle.std.proofs.Common.{sym, subst, []}
use Rattle.idl_scope.specs.Seen.{known_in}
use Rattle.idl_grammar.specs.Seen.{seen_type}
use Rattle.idl_declared_types.specs.declared.types.Typed.{Typed}
use Rattle.idl_rule_definitions.specs.Scene.{use_of}
use Rattle.idl_declared_types.specs.SeenNames.{seen_names}
use Rattle.idl_constructs.specs.SeenNodes.{seen_construct, seen_result}
use Rattle.idl_declared_types.specs.SeenTypes.{bare, IsTypedUse}
use Rattle.idl_typing.proofs.NotedTypes.{result_is, noted_within}
use Rattle.idl_typing.proofs.types.note_result.Goals as goal

pub returns-clause-typed : goal.returns-clause-typed
returns-clause-typed c =
    let known = known_in c.args.scope.now in
    let names = seen_names c.args.kinds.now c.args.names.now in
    let is = result_is known names c.written.new.kinds (seen_construct c.args.it.now.construct) (seen_type c.args.it.now.of.now) c.args.it.now.name.now c.in_ok-of.of c.in_ok-of.ensures.stands in
    subst (λ (t : Typed). IsTypedUse (bare known) c.written.new.kinds (use_of known names [] 0 (seen_result c.args.it.now)) t) (sym c.note.ensures) is

pub returns-clause-within : goal.returns-clause-within
returns-clause-within c = noted_within c.written.new.kinds c.in_ok-of.of _ c.note.result c.in_ok-of.ensures.stands c.note.ensures
