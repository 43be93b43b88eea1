use Rattle.std.proofs.Common.{◌∙◌, Some, sym, ap, option_map}
use Rattle.idl_interface.specs.Made.{scene_in}
use Rattle.idl_interface.proofs.Defining.{no_body, not_noted, has_node, has_body_node, found_is}
use Rattle.idl_interface.proofs.definitions.body_at.Goals as goal

pub returns-in_default : goal.returns-in_default
returns-in_default c =
    let p = c.args.program.now in
    no_body (scene_in p) p.nodes.now p.types.now c.args.place c.requires.types (sym c.body_of.ensures ∙ c.in_default.is)

pub returns-in_default-noted_at : goal.returns-in_default-noted_at
returns-in_default-noted_at c =
    let p = c.args.program.now in
    not_noted (scene_in p) p.nodes.now p.types.now c.args.place c.in-Some.number c.requires.types (sym c.body_of.ensures ∙ c.in-Some.is)
    (sym c.noted_at.ensures ∙ ap (option_map (λ b. b.now)) c.in_default-noted_at.is)

pub unreachable-requires : goal.unreachable-requires
unreachable-requires c =
    let p = c.args.program.now in
    has_node (scene_in p) p.nodes.now p.types.now c.in-Some.number _ c.requires.types
    (sym c.noted_at.ensures ∙ ap (option_map (λ b. b.now)) c.in-Some-noted_at.is)
    (sym c.node_at.ensures ∙ ap (option_map (λ n. n.now)) c.in_default-node_at.is)

pub unreachable-requires-in_default-node : goal.unreachable-requires-in_default-node
unreachable-requires-in_default-node c =
    let p = c.args.program.now in
    has_body_node (scene_in p) p.nodes.now p.types.now c.in-Some.number _ _ c.requires.types
    (sym c.noted_at.ensures ∙ ap (option_map (λ b. b.now)) c.in-Some-noted_at.is)
    (sym c.node_at.ensures ∙ ap (option_map (λ n. n.now)) c.in-Some-node_at.is)
    c.in_default-node.not-Body

pub returns : goal.returns
returns c =
    let p = c.args.program.now in
    found_is (scene_in p) p.nodes.now p.types.now c.args.place c.in-Some.number _ c.requires.types c.requires.tags
    (sym c.body_of.ensures ∙ c.in-Some.is)
    (sym c.noted_at.ensures ∙ ap (option_map (λ b. b.now)) c.in-Some-noted_at.is)
    (sym c.node_at.ensures ∙ ap (option_map (λ n. n.now)) c.in-Some-node_at.is ∙ ap Some c.in-Body.is)
