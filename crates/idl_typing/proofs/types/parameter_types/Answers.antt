use Rattle.std.proofs.Common.{◌≡◌, map, sym, ap, ◌∙◌}
use Rattle.idl_scope.specs.Seen.{known_in}
use Rattle.idl_rule_definitions.specs.Types.{type_of}
use Rattle.idl_declared_types.specs.SeenNames.{seen_names}
use Rattle.idl_constructs.specs.SeenNodes.{or_empty}
use Rattle.idl_typing.proofs.NotedTypes.{ok_then}
use Rattle.idl_typing.proofs.types.parameter_types.Goals as goal

pub returns-in-Some-clause-types : goal.returns-in-Some-clause-types
returns-in-Some-clause-types c =
    ok_then c.part_types.result c.part_types.ensures.types
    (λ v h. h ∙ ap (λ o. map (type_of (known_in c.args.scope.now) (seen_names c.args.kinds.now c.args.names.now)) (or_empty o)) c.in-Some.ensures)

pub returns-in-None-clause-types : goal.returns-in-None-clause-types
returns-in-None-clause-types c =
    ap (map _) c.new.ensures.items ∙ ap (λ o. map (type_of (known_in c.args.scope.now) (seen_names c.args.kinds.now c.args.names.now)) (or_empty o)) c.in-None.ensures
