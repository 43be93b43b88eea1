use Rattle.std.proofs.Common.{◌≡◌, ℕ, ◌<◌, true, false, eqb, length, option_map, refl, sym, ap, ◌∙◌, arith, true≢false}
use Rattle.std.proofs.lemmas.Bool.{eqb-true}
use Rattle.idl_grammar.specs.Seen.{seen_bound}
use Rattle.idl_scope.specs.Seen.{known_in}
use Rattle.idl_rule_definitions.specs.DeclarationRules.{is_parameter}
use Rattle.idl_declared_types.specs.SeenNames.{seen_names}
use Rattle.idl_constructs.specs.SeenNodes.{seen_declared}
use Rattle.idl_typing.proofs.Wanted.{with_dimensions_fails, with_stars_fails}
use Rattle.idl_typing.proofs.variables.is_right.Goals as goal

pub returns-then-not-is_empty-clause-right : goal.returns-then-not-is_empty-clause-right
returns-then-not-is_empty-clause-right c =
    let d = seen_declared c.args.it.now in
    let some : length c.args.it.now.declarator.now.dimensions.items ≡ 0 → ⊥ =
    λ z. true≢false (sym (c.if-not-is_empty.ensures ∙ ap (λ n. eqb n 0) (ap length c.as_slice-dimensions.ensures.value ∙ z))) in
    with_dimensions_fails (known_in c.args.scope.now) (seen_names c.args.kinds.now c.args.names.now) d c.args.wanted c.args.star (is_parameter d.construct.position) (option_map seen_bound)
    c.args.it.now.declarator.now.dimensions.items refl some

pub returns-then-stars-gt1-clause-right : goal.returns-then-stars-gt1-clause-right
returns-then-stars-gt1-clause-right c =
    let d = seen_declared c.args.it.now in
    let none : length c.args.it.now.declarator.now.dimensions.items ≡ 0 =
    sym (ap length c.as_slice-dimensions.ensures.value) ∙ eqb-true (length c.as_slice-dimensions.result.now) 0 (sym c.if-not-is_empty.ensures) in
    let many : 1 < length c.args.it.now.declarator.now.stars.items = omega (arith, ap length c.as_slice-stars.ensures.value, c.if-stars-gt1.true) in
    with_stars_fails (known_in c.args.scope.now) (seen_names c.args.kinds.now c.args.names.now) d c.args.wanted c.args.star (is_parameter d.construct.position) (option_map seen_bound)
    c.args.it.now.declarator.now.dimensions.items c.args.it.now.declarator.now.stars.items refl none refl many
