use Rattle.std.proofs.Common.{[], ◌∷◌, refl}
use Rattle.std.proofs.lemmas.Result.{on_ok_weaker}
use Rattle.idl_constructs.specs.declared.nodes.Node.TheVariants as node
use Rattle.idl_rule_definitions.specs.Nodes.{DeclaratorNode}
use Rattle.idl_constructs.specs.SeenNodes.{seen_declared}
use Rattle.idl_constructs.proofs.Adding.{pushed_of}
use Rattle.idl_constructs.proofs.walk.listed.Goals as goal

pub returns : goal.returns
returns c =
    let a = c.args in
    on_ok_weaker c.push.result
    (λ x. pushed_of a.nodes.now c.push.new.self (node.Declarator a.list a.index a.it) a.list (λ all. DeclaratorNode all a.index (seen_declared a.it) ∷ []) (λ later. refl) x) c.push.ensures
