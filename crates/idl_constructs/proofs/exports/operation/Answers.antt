use Rattle.std.proofs.Common.{◌≡◌, ◌∙◌, [], ◌∷◌, ◌++◌, Some, map, refl, ap}
use Rattle.std.proofs.lemmas.Result.{on_ok_weaker}
use Rattle.idl_grammar.specs.Seen.{seen_type, seen_parameter}
use Rattle.idl_constructs.specs.declared.nodes.Node.TheVariants as node
use Rattle.idl_rule_definitions.specs.Nodes.{DeclaratorNode, OperationNode, attribute_nodes, type_nodes, result_of, parameter_nodes, declared_parameters, operation_nodes}
use Rattle.idl_constructs.specs.SeenNodes.{seen_construct, list_found}
use Rattle.idl_constructs.specs.Growing.{Adds}
use Rattle.idl_constructs.proofs.Adding.{adds_as, adds_both, pushed, pushed_of}
use Rattle.idl_constructs.proofs.Bodies.{operation_is}
use Rattle.idl_constructs.proofs.exports.operation.Goals as goal

pub returns : goal.returns
returns c =
    let it = c.args.it in
    let k = seen_construct it.construct in
    let t = seen_type it.of.now in
    let name = it.name.now in
    let ps = map seen_parameter c.args.list.now in
    let all = declared_parameters k ps in
    let a = c.args.nodes.now in
    let b = c.attributes.new.nodes in
    let d = c.type_spec.new.nodes in
    let e = c.push.new.self in
    let f = c.push_list.new.self in
    let g = c.parameters.new.nodes in
    let h = c.push-2.new.self in
    let one = attribute_nodes k in
    let two = type_nodes k t in
    let three = DeclaratorNode [] 0 (result_of k t name) ∷ [] in
    let four = parameter_nodes k all 0 ps in
    let five = OperationNode k name all t ∷ [] in
    let number = c.in_ok-number.number in
    let found : list_found f.lists.items number ≡ Some all = c.in_ok-number.ensures.number ∙ ap Some c.in_ok-declared.ensures in
    let parameters : Adds f g four = c.in_ok-parameters.ensures all found in
    let first : Adds a d (one ++ two) = adds_both a b d one two c.in_ok-attributes.ensures c.in_ok-type_spec.ensures in
    let second : Adds a e (one ++ two ++ three) = adds_both a d e (one ++ two) three first (pushed d e (node.Result it) three (λ later. refl) c.in_ok-push.ensures) in
    let third : Adds a g (one ++ two ++ three ++ four) = adds_both a e g (one ++ two ++ three) four second (adds_both e f g [] four c.in_ok-number.ensures.adds parameters) in
    on_ok_weaker c.push-2.result
    (λ x. adds_as a h (one ++ two ++ three ++ four ++ five) (operation_nodes k t name ps) (operation_is k t name ps)
    (adds_both a g h (one ++ two ++ three ++ four) five third
    (pushed_of g h (node.Operation it number) number (λ l. OperationNode k name l t ∷ []) (λ later. refl) x all (parameters.lists.kept number all found))))
    c.push-2.ensures
