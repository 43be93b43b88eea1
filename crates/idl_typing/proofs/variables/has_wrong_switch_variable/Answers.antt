use Rattle.std.proofs.Common.{◌≡◌, [], ◌∷◌, ◌++◌, length, refl, sym, ap, ◌∙◌}
use Rattle.std.specs.List.{list_any}
use Rattle.std.proofs.lemmas.Option.{slice_get_read}
use Rattle.idl_grammar.specs.Seen.{seen_attribute, seen_kind}
use Rattle.idl_scope.specs.Seen.{known_in}
use Rattle.idl_rule_definitions.specs.Attributes.{sizes, lengths, switch_is_word, variable_said}
use Rattle.idl_declared_types.specs.SeenNames.{seen_names}
use Rattle.idl_constructs.specs.SeenNodes.{seen_declared, list_at}
use Rattle.idl_rule_definitions.specs.VariableRules.{variable_if, is_integer, may_be_switched}
use Rattle.idl_typing.specs.Lookups.{fails_in}
use Rattle.idl_declared_types.proofs.NameLists.{are_within-keeps, seen_names-keeps}
use Rattle.idl_typing.proofs.VariableSteps.{wrong_switch_is, none_says, one_says}
use Rattle.idl_typing.proofs.variables.has_wrong_switch_variable.Goals as goal

pub says_wrong_switch-requires-clause-within : goal.says_wrong_switch-requires-clause-within
says_wrong_switch-requires-clause-within c = are_within-keeps c.args.kinds.now c.loop-attribute.kinds c.args.names.now c.loop-attribute.invariant.keeps c.requires.within

pub returns-then-branch-clause-wrong : goal.returns-then-branch-clause-wrong
returns-then-branch-clause-wrong c =
    let known = known_in c.args.scope.now in
    let names = seen_names c.args.kinds.now c.args.names.now in
    let list = list_at c.args.nodes.now.lists.items c.args.slot.list in
    let xs = c.args.it.now.construct.attributes.now in
    let i = c.loop-attribute.attribute-index in
    let x = c.attribute-item.result in
    let here = slice_get_read xs (length xs) i x refl c.loop-attribute-test.true c.attribute-item.is in
    let e = seen_names-keeps c.args.kinds.now c.loop-attribute.kinds c.args.names.now c.loop-attribute.invariant.keeps c.requires.within in
    let says =
    ap (λ n. list_any (fails_in known n may_be_switched list) (variable_if (switch_is_word ∷ []) (variable_said (seen_kind x.kind)))) (sym e) ∙ sym c.in_ok-says_wrong_switch.ensures.wrong
    ∙ c.if-branch.true in
    sym (wrong_switch_is known names list c.args.slot.index (seen_declared c.args.it.now)
    ∙ one_says (fails_in known names may_be_switched list) (switch_is_word ∷ []) seen_attribute xs i x _ here c.loop-attribute.invariant.same says)

pub loop-attribute-preserved : goal.loop-attribute-preserved
loop-attribute-preserved c =
    let known = known_in c.args.scope.now in
    let names = seen_names c.args.kinds.now c.args.names.now in
    let list = list_at c.args.nodes.now.lists.items c.args.slot.list in
    let xs = c.args.it.now.construct.attributes.now in
    let i = c.loop-attribute.attribute-index in
    let x = c.attribute-item.result in
    let here = slice_get_read xs (length xs) i x refl c.loop-attribute-test.true c.attribute-item.is in
    let e = seen_names-keeps c.args.kinds.now c.loop-attribute.kinds c.args.names.now c.loop-attribute.invariant.keeps c.requires.within in
    let says =
    ap (λ n. list_any (fails_in known n may_be_switched list) (variable_if (switch_is_word ∷ []) (variable_said (seen_kind x.kind)))) (sym e) ∙ sym c.in_ok-says_wrong_switch.ensures.wrong
    ∙ c.if-branch.false in
    record {
      keeps = λ n t h. c.in_ok-says_wrong_switch.ensures.keeps n t (c.loop-attribute.invariant.keeps n t h);
      same = none_says (fails_in known names may_be_switched list) (switch_is_word ∷ []) seen_attribute xs i x _ here c.loop-attribute.invariant.same says;
    }
