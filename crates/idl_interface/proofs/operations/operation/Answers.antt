use Rattle.std.proofs.Common.{◌∙◌, ◌^◌, ◌<◌, Some, map, length, slice_get, sym, ap, subst, arith, option_map}
use Rattle.std.proofs.lemmas.List.{length-map}
use Rattle.idl_constructs.specs.SeenNodes.{seen_declared, or_empty}
use Rattle.idl_interface.specs.Made.{parameters_at, scene_in}
use Rattle.idl_interface.proofs.Defining.{ok_is}
use Rattle.idl_interface.proofs.Operating.{has_node, has_operation_node, made_is}
use Rattle.idl_interface.proofs.operations.operation.Goals as goal

pub unreachable-requires : goal.unreachable-requires
unreachable-requires c =
    has_node (slice_get c.args.program.now.nodes.now.items.items c.args.noted.now.node) c.requires.noted (sym c.node_at.ensures ∙ ap (option_map (λ n. n.now)) c.in_default.is)

pub unreachable-requires-in_default-node : goal.unreachable-requires-in_default-node
unreachable-requires-in_default-node c =
    has_operation_node (slice_get c.args.program.now.nodes.now.items.items c.args.noted.now.node) _ c.requires.noted
    (sym c.node_at.ensures ∙ ap (option_map (λ n. n.now)) c.in-Some.is) c.in_default-node.not-Operation

pub operation_of-requires-clause-few : goal.operation_of-requires-clause-few
operation_of-requires-clause-few c =
    let n = c.args.program.now.nodes.now in
    let list = c.or_empty-list.result.now in
    let same = ap length (c.or_empty-list.ensures ∙ ap or_empty c.list.ensures) in
    let there = sym c.node_at.ensures ∙ ap (option_map (λ n. n.now)) c.in-Some.is ∙ ap Some c.in-Operation.is in
    let few = subst (λ x. length (parameters_at n.lists.items x) < 2 ^ 32) there c.requires.few in
    let count = length-map list seen_declared in
    omega (arith, few, same, count)

pub returns-clause-made : goal.returns-clause-made
returns-clause-made c = λ o h.
    let p = c.args.program.now in
    ok_is c.operation_of.result _ _
    (made_is (scene_in p) p.nodes.now p.types.now.kinds p.numbers.now o c.in-Operation.it c.in-Operation.parameters (map seen_declared c.or_empty-list.result.now) c.args.noted.now
    c.requires.program.numbers h (sym c.node_at.ensures ∙ ap (option_map (λ n. n.now)) c.in-Some.is ∙ ap Some c.in-Operation.is)
    (c.or_empty-list.ensures ∙ ap or_empty c.list.ensures))
    c.operation_of.ensures.made
