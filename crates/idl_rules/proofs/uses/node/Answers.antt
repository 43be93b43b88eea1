use Rattle.std.proofs.Common.{◌≡◌, ◌∙◌, [], ◌∷◌, option_map, refl, ap, sym, subst}
use Rattle.idl_grammar.specs.Seen.{seen_type}
use Rattle.idl_scope.specs.Seen.{seen_files}
use Rattle.idl_rule_definitions.specs.Found.{seen_breach}
use Rattle.idl_declared_types.specs.Kinds.{type_at}
use Rattle.idl_rule_definitions.specs.Nodes.{SwitchNode, EmptyArmNode, DeclaratorNode, TypeNode}
use Rattle.idl_constructs.specs.SeenNodes.{seen_construct, seen_declared, seen_result, list_at}
use Rattle.idl_declared_types.specs.SeenTypes.{IsTyped, IsTypedUse}
use Rattle.idl_rule_definitions.specs.Types.{switch_type}
use Rattle.idl_rule_definitions.specs.Scene.{Body, use_of}
use Rattle.idl_rule_definitions.specs.DeclarationRules.{has_no_body}
use Rattle.idl_rule_definitions.specs.Noted.{noted, of_others}
use Rattle.idl_rules.specs.Asked.{switch_breaches}
use Rattle.idl_rules.specs.Asked.{program_breaches}
use Rattle.idl_rule_definitions.proofs.OtherNotes.{other_one, kept}
use Rattle.idl_rules.proofs.UseNotes.{use_kept, switch_kept, arm_kept, more_others}
use Rattle.idl_rules.proofs.uses.node.Goals as goal

pub returns-in-Attributes-clause-first : goal.returns-in-Attributes-clause-first
returns-in-Attributes-clause-first c w s names files known are types typed =
    subst (λ n. option_map seen_breach c.second_classes.new.finder.first ≡ noted w (option_map seen_breach c.args.finder.now.first) (program_breaches s names c.args.nodes.now.lists.items n))
    (sym c.in-Attributes.is) (c.second_classes.ensures.first w s names files)

pub returns-in-Switch-clause-first : goal.returns-in-Switch-clause-first
returns-in-Switch-clause-first c w s names files known are types typed =
    let start = option_map seen_breach c.args.finder.now.first in
    let co = seen_construct c.in-Switch.construct in
    let of = c.in-Switch.of.now in
    let h = subst (λ n. IsTyped s names c.args.types.now.kinds c.args.nodes.now.lists.items n c.args.typed.now) c.in-Switch.is typed in
    let t = ap (λ k. type_at k c.args.typed.now.of) c.requires ∙ h in
    subst (λ n. option_map seen_breach c.note_switch.new.finder.first ≡ noted w start (program_breaches s names c.args.nodes.now.lists.items n))
    (sym c.in-Switch.is)
    (c.note_switch.ensures.first w s files are
    ∙ ap (λ x. noted w start (switch_breaches co x)) t
    ∙ ap (λ l. noted w start l) (sym (other_one s names (SwitchNode co of) ∙ switch_kept of_others refl more_others co (switch_type names of))))

pub returns-in-Body-clause-first : goal.returns-in-Body-clause-first
returns-in-Body-clause-first c w s names files known are types typed =
    let h = subst (λ n. IsTyped s names c.args.types.now.kinds c.args.nodes.now.lists.items n c.args.typed.now) c.in-Body.is typed in
    let b : Body = record { construct = seen_construct c.in-Body.construct; names = names; body = seen_type c.in-Body.body.now } in
    subst (λ n. option_map seen_breach c.note_body.new.finder.first ≡ noted w (option_map seen_breach c.args.finder.now.first) (program_breaches s names c.args.nodes.now.lists.items n))
    (sym c.in-Body.is) (c.note_body.ensures.first w s b files are refl refl (ap (λ k. type_at k c.args.typed.now.of) c.requires ∙ h))

pub returns-in-Enumerators-clause-first : goal.returns-in-Enumerators-clause-first
returns-in-Enumerators-clause-first c w s names files known are types typed =
    subst (λ n. option_map seen_breach c.enumerators.new.finder.first ≡ noted w (option_map seen_breach c.args.finder.now.first) (program_breaches s names c.args.nodes.now.lists.items n))
    (sym c.in-Enumerators.is) (c.enumerators.ensures.first w s names files known)

pub returns-in_ok-labels-in-Labels-clause-first : goal.returns-in_ok-labels-in-Labels-clause-first
returns-in_ok-labels-in-Labels-clause-first c w s names files known are types typed =
    let h = subst (λ n. IsTyped s names c.args.types.now.kinds c.args.nodes.now.lists.items n c.args.typed.now) c.in-Labels.is typed in
    subst (λ n. option_map seen_breach c.labels.new.finder.first ≡ noted w (option_map seen_breach c.args.finder.now.first) (program_breaches s names c.args.nodes.now.lists.items n))
    (sym c.in-Labels.is) (c.in_ok-labels-in-Labels.ensures.first w s c.args.nodes.now names files known types h)

pub returns-in-EmptyArm-clause-first : goal.returns-in-EmptyArm-clause-first
returns-in-EmptyArm-clause-first c w s names files known are types typed =
    let start = option_map seen_breach c.args.finder.now.first in
    let co = seen_construct c.in-EmptyArm.construct in
    subst (λ n. option_map seen_breach c.note_empty_arm.new.finder.first ≡ noted w start (program_breaches s names c.args.nodes.now.lists.items n))
    (sym c.in-EmptyArm.is)
    (c.note_empty_arm.ensures.first w files ∙ ap (λ l. noted w start l) (sym (other_one s names (EmptyArmNode co) ∙ arm_kept of_others refl more_others co)))

pub returns-in-Declarator-clause-first : goal.returns-in-Declarator-clause-first
returns-in-Declarator-clause-first c w s names files known are types typed =
    let start = option_map seen_breach c.args.finder.now.first in
    let h = subst (λ n. IsTyped s names c.args.types.now.kinds c.args.nodes.now.lists.items n c.args.typed.now) c.in-Declarator.is typed in
    let list = list_at c.args.nodes.now.lists.items c.in-Declarator.list in
    let it = seen_declared c.in-Declarator.it in
    let u = use_of s.known names list c.in-Declarator.index it in
    let asked = c.asked_listed.ensures s names c.args.judge.now.kinds.now known (subst (λ k. IsTypedUse s k u c.args.typed.now) (sym c.requires) h) in
    subst (λ n. option_map seen_breach c.note_use.new.finder.first ≡ noted w start (program_breaches s names c.args.nodes.now.lists.items n))
    (sym c.in-Declarator.is)
    (c.note_use.ensures.first w s u files are asked
    ∙ ap (λ l. noted w start l) (sym (other_one s names (DeclaratorNode list c.in-Declarator.index it) ∙ use_kept of_others refl more_others s u)))

pub returns-in-Result-clause-first : goal.returns-in-Result-clause-first
returns-in-Result-clause-first c w s names files known are types typed =
    let start = option_map seen_breach c.args.finder.now.first in
    let h = subst (λ n. IsTyped s names c.args.types.now.kinds c.args.nodes.now.lists.items n c.args.typed.now) c.in-Result.is typed in
    let it = seen_result c.in-Result.it in
    let u = use_of s.known names [] 0 it in
    let asked = c.asked_result.ensures s names c.args.judge.now.kinds.now (subst (λ k. IsTypedUse s k u c.args.typed.now) (sym c.requires) h) in
    subst (λ n. option_map seen_breach c.note_use-in-Result.new.finder.first ≡ noted w start (program_breaches s names c.args.nodes.now.lists.items n))
    (sym c.in-Result.is)
    (c.note_use-in-Result.ensures.first w s u files are asked
    ∙ ap (λ l. noted w start l) (sym (other_one s names (DeclaratorNode [] 0 it) ∙ use_kept of_others refl more_others s u)))

pub returns-in-Constant-clause-first : goal.returns-in-Constant-clause-first
returns-in-Constant-clause-first c w s names files known are types typed =
    subst (λ n. option_map seen_breach c.constant.new.finder.first ≡ noted w (option_map seen_breach c.args.finder.now.first) (program_breaches s names c.args.nodes.now.lists.items n))
    (sym c.in-Constant.is) (c.constant.ensures.first w s names files known)

pub returns-in-Type-clause-first : goal.returns-in-Type-clause-first
returns-in-Type-clause-first c w s names files known are types typed =
    let start = option_map seen_breach c.args.finder.now.first in
    let co = seen_construct c.in-Type.construct in
    let of = seen_type c.in-Type.of.now in
    subst (λ n. option_map seen_breach c.note.new.finder.first ≡ noted w start (program_breaches s names c.args.nodes.now.lists.items n))
    (sym c.in-Type.is)
    (c.note.ensures.next w start [] co (has_no_body of) files refl c.has_no_body.ensures refl
    ∙ ap (λ l. noted w start l) (sym (other_one s names (TypeNode co of) ∙ kept co 5 co.at (has_no_body of) refl)))
