use Rattle.std.proofs.Common.{◌∙◌, [], ◌∷◌, ◌++◌, ap}
use Rattle.std.proofs.lemmas.Result.{on_ok_weaker}
use Rattle.idl_grammar.specs.Seen.{seen_type, seen_declarator}
use Rattle.idl_rule_definitions.specs.Nodes.{DeclaratorNode, attribute_nodes, type_nodes, declared}
use Rattle.idl_constructs.specs.SeenNodes.{seen_construct, seen_declared}
use Rattle.idl_constructs.specs.Growing.{Adds}
use Rattle.idl_constructs.proofs.Adding.{adds_as, adds_both, of_all, of_both}
use Rattle.idl_constructs.proofs.Rests as rests
use Rattle.idl_constructs.proofs.exports.parameter.Goals as goal

pub returns : goal.returns
returns c =
    let k = seen_construct c.args.construct.now in
    let p = c.args.parameter.now in
    let i = seen_construct c.inside-inner.result in
    let of = seen_type p.of in
    let r = seen_declared c.declared-it.result in
    let a = c.args.nodes.now in
    let b = c.attributes.new.nodes in
    let d = c.type_spec.new.nodes in
    let f = c.listed.new.nodes in
    let front : Adds a d (attribute_nodes i ++ type_nodes i of) = adds_both a b d (attribute_nodes i) (type_nodes i of) c.in_ok-attributes.ensures c.in_ok-type_spec.ensures in
    on_ok_weaker c.listed.result
    (λ x all h. adds_as a f (attribute_nodes i ++ type_nodes i of ++ (DeclaratorNode all c.args.index r ∷ [])) (rests.one_parameter k all c.args.index p)
    (ap (λ s. attribute_nodes i ++ type_nodes i of ++ (DeclaratorNode all c.args.index s ∷ [])) c.declared-it.ensures
    ∙ ap (λ j. attribute_nodes j ++ type_nodes j of ++ (DeclaratorNode all c.args.index (declared j of (seen_declarator p.declarator)) ∷ [])) c.inside-inner.ensures)
    (of_both a d f c.args.list (λ _. attribute_nodes i ++ type_nodes i of) (λ l. DeclaratorNode l c.args.index r ∷ []) (of_all a d c.args.list (attribute_nodes i ++ type_nodes i of) front) x all h))
    c.listed.ensures
