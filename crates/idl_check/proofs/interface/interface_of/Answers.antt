use Rattle.std.proofs.Common.{◌≡◌, ◌∙◌, Option, Some, None, Err, option_map, refl, ap, sym, subst}
use Rattle.idl_scope.specs.Seen.{known_in}
use Rattle.idl_rule_definitions.specs.declared.fault.RuleFault.{RuleFault}
use Rattle.idl_rule_definitions.specs.Answers.{Answers}
use Rattle.idl_rule_definitions.specs.Checked.{world_of}
use Rattle.idl_rule_definitions.specs.Rules.{first_broken}
use Rattle.idl_rule_definitions.specs.Found.{seen_breach}
use Rattle.idl_rule_definitions.specs.Nodes.{nodes}
use Rattle.idl_rule_definitions.specs.Scene.{Scene, scene_of}
use Rattle.idl_constructs.specs.SeenNodes.{seen_nodes}
use Rattle.idl_declared_types.specs.SeenNumbers.{AreNumbers}
use Rattle.idl_declared_types.specs.SeenOperations.{HasTags, HasOperations}
use Rattle.idl_declared_types.specs.SeenTypes.{scene_seen, IsTypes}
use Rattle.idl_declared_types.proofs.Fronts.{scene_is}
use Rattle.idl_constructs.proofs.Judgement.{nodes_are, told_by_lists, told_over, none_broken, memory_answers}
use Rattle.idl_check.proofs.interface.interface_of.Goals as goal

pub returns-in-Some : goal.returns-in-Some
returns-in-Some c =
    let w = world_of c.args.scope.now in
    let n = c.in_ok-nodes.nodes in
    let seen : seen_nodes n ≡ nodes w = c.in_ok-nodes.ensures ∙ nodes_are w in
    let told = ap (option_map seen_breach) (sym c.in-Some.is) ∙ c.in_ok-first.ensures w refl in
    subst (λ (e : RuleFault). Answers w (Err e)) (sym c.broken.ensures) (told_by_lists w (seen_nodes n) (seen_breach c.in-Some.first) seen told)

pub returns-in-Some-2 : goal.returns-in-Some-2
returns-in-Some-2 c =
    let w = world_of c.args.scope.now in
    let n = c.in_ok-nodes.nodes in
    let seen : seen_nodes n ≡ nodes w = c.in_ok-nodes.ensures ∙ nodes_are w in
    let none = ap (option_map seen_breach) (sym c.in_default.is) ∙ c.in_ok-first.ensures w refl in
    let typed = c.in_ok-types.ensures.types in
    let told = ap (option_map seen_breach) (sym c.in-Some-2.is) ∙ c.in_ok-first-2.ensures typed (c.in_ok-numbers.ensures (known_in c.args.scope.now) typed) in
    subst (λ (e : RuleFault). Answers w (Err e)) (sym c.broken-in-Some-2.ensures)
    (sym (told_over w (scene_seen (known_in c.args.scope.now) n) (seen_nodes n) (Some (seen_breach c.in-Some-2.first)) (scene_is w n seen) seen none told))

pub interface-requires-clause-kept : goal.interface-requires-clause-kept
interface-requires-clause-kept c =
    let w = world_of c.args.scope.now in
    let n = c.in_ok-nodes.nodes in
    let seen : seen_nodes n ≡ nodes w = c.in_ok-nodes.ensures ∙ nodes_are w in
    let none = ap (option_map seen_breach) (sym c.in_default.is) ∙ c.in_ok-first.ensures w refl in
    let typed = c.in_ok-types.ensures.types in
    let told = ap (option_map seen_breach) (sym c.in_default-2.is) ∙ c.in_ok-first-2.ensures typed (c.in_ok-numbers.ensures (known_in c.args.scope.now) typed) in
    none_broken w (sym (told_over w (scene_seen (known_in c.args.scope.now) n) (seen_nodes n) None (scene_is w n seen) seen none told))

pub interface-requires-clause-types : goal.interface-requires-clause-types
interface-requires-clause-types c =
    let w = world_of c.args.scope.now in
    let n = c.in_ok-nodes.nodes in
    subst (λ (s : Scene). IsTypes s n c.in_ok-types.types) (scene_is w n (c.in_ok-nodes.ensures ∙ nodes_are w)) c.in_ok-types.ensures.types

pub interface-requires-clause-tags : goal.interface-requires-clause-tags
interface-requires-clause-tags c =
    let w = world_of c.args.scope.now in
    let n = c.in_ok-nodes.nodes in
    subst (λ (s : Scene). HasTags s c.in_ok-types.types) (scene_is w n (c.in_ok-nodes.ensures ∙ nodes_are w)) c.in_ok-types.ensures.tags

pub interface-requires-clause-operations : goal.interface-requires-clause-operations
interface-requires-clause-operations c =
    let w = world_of c.args.scope.now in
    let n = c.in_ok-nodes.nodes in
    subst (λ (s : Scene). HasOperations s n c.in_ok-types.types) (scene_is w n (c.in_ok-nodes.ensures ∙ nodes_are w)) c.in_ok-types.ensures.operations

pub interface-requires-clause-numbers : goal.interface-requires-clause-numbers
interface-requires-clause-numbers c =
    let w = world_of c.args.scope.now in
    let n = c.in_ok-nodes.nodes in
    subst (λ (s : Scene). AreNumbers s c.in_ok-types.types.kinds c.in_ok-numbers.numbers) (scene_is w n (c.in_ok-nodes.ensures ∙ nodes_are w))
    (c.in_ok-numbers.ensures (known_in c.args.scope.now) c.in_ok-types.ensures.types)

pub returns-in_err-interface : goal.returns-in_err-interface
returns-in_err-interface c = memory_answers (world_of c.args.scope.now) c.from_residual-in_err-interface.result c.from_residual-in_err-interface.ensures.1

pub returns : goal.returns
returns c =
    let w = world_of c.args.scope.now in
    let n = c.in_ok-nodes.nodes in
    let seen : seen_nodes n ≡ nodes w = c.in_ok-nodes.ensures ∙ nodes_are w in
    let none = ap (option_map seen_breach) (sym c.in_default.is) ∙ c.in_ok-first.ensures w refl in
    let typed = c.in_ok-types.ensures.types in
    let told = ap (option_map seen_breach) (sym c.in_default-2.is) ∙ c.in_ok-first-2.ensures typed (c.in_ok-numbers.ensures (known_in c.args.scope.now) typed) in
    record {
      keeps = sym (told_over w (scene_seen (known_in c.args.scope.now) n) (seen_nodes n) None (scene_is w n seen) seen none told);
      means = c.in_ok-interface.ensures;
    }
