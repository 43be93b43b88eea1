use Rattle.std.proofs.lemmas.Result.{on_ok_weaker}
use Rattle.std.proofs.Common.{◌++◌}
use Rattle.idl_grammar.specs.Seen.{seen_type}
use Rattle.idl_rule_definitions.specs.Nodes.{attribute_nodes, switch_nodes, type_nodes}
use Rattle.idl_constructs.specs.SeenNodes.{seen_construct}
use Rattle.idl_constructs.proofs.Adding.{adds_both}
use Rattle.idl_constructs.proofs.exports.declaration.Goals as goal

pub returns : goal.returns
returns c =
    let k = seen_construct c.args.construct.now in
    let a = c.args.nodes.now in
    let b = c.switch.new.nodes in
    on_ok_weaker c.type_spec.result
    (λ x. adds_both a b c.type_spec.new.nodes (attribute_nodes k ++ switch_nodes k) (type_nodes k (seen_type c.args.of.now))
    (adds_both a c.attributes.new.nodes b (attribute_nodes k) (switch_nodes k) c.in_ok-attributes.ensures c.in_ok-switch.ensures) x)
    c.type_spec.ensures
