use Rattle.std.proofs.lemmas.Result.{on_ok_weaker}
use Rattle.std.proofs.Common.{◌∙◌, [], ◌∷◌, ◌++◌, eqb, refl, ap}
use Rattle.idl_scope.specs.Seen.{seen_file}
use Rattle.idl_constructs.specs.declared.nodes.Node.TheVariants as node
use Rattle.idl_rule_definitions.specs.Nodes.{HeaderNode, attribute_nodes, file_nodes}
use Rattle.idl_constructs.specs.SeenNodes.{seen_construct}
use Rattle.idl_constructs.specs.Growing.{Adds}
use Rattle.idl_constructs.proofs.Adding.{adds_as, adds_both, pushed}
use Rattle.idl_constructs.proofs.Rests as rests
use Rattle.idl_constructs.proofs.exports.file.Goals as goal

pub returns : goal.returns
returns c =
    let f = c.args.file.now in
    let m = eqb f.file 0 in
    let k = seen_construct c.header_of-header.result in
    let xs = c.as_slice.result.now in
    let a = c.args.nodes.now in
    let b = c.push.new.self in
    let d = c.attributes.new.nodes in
    let e = c.exports.new.nodes in
    let head = HeaderNode k k.at ∷ [] in
    let begun : Adds a b head = pushed a b (node.Header c.header_of-header.result) head (λ later. refl) c.in_ok-push.ensures in
    let front : Adds a d (head ++ attribute_nodes k) = adds_both a b d head (attribute_nodes k) begun c.in_ok-attributes.ensures in
    on_ok_weaker c.exports.result
    (λ x. adds_as a e (head ++ attribute_nodes k ++ rests.exports_from m k xs) (file_nodes (seen_file f))
    (ap (λ ys. head ++ attribute_nodes k ++ rests.exports_from m k ys) c.as_slice.ensures.value
    ∙ ap (λ j. (HeaderNode j j.at ∷ []) ++ attribute_nodes j ++ rests.exports_from m j f.tree.exports.items) c.header_of-header.ensures)
    (adds_both a d e (head ++ attribute_nodes k) (rests.exports_from m k xs) front x))
    c.exports.ensures
