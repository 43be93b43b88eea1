use Rattle.std.proofs.Common.{◌≡◌, ◌∙◌, None, map, sym, ap, subst}
use Rattle.std.specs.Prelude.{MatchOption}
use Rattle.nd_types.specs.declared.types.TypeDef.TheVariants as def
use Rattle.idl_grammar.specs.Seen.{seen_type, seen_enumerator}
use Rattle.idl_scope.specs.Seen.{known_in}
use Rattle.idl_rule_definitions.specs.Nodes.{number_of}
use Rattle.idl_rule_definitions.specs.Checked.{world_of}
use Rattle.idl_rule_definitions.specs.Scene.{body_of}
use Rattle.idl_rule_definitions.specs.Meaning.{or_zero}
use Rattle.idl_interface.specs.Made.{IsFound, scene_in}
use Rattle.idl_interface.proofs.Defining.{ok_is, known_is, enum_made, other_enum}
use Rattle.idl_interface.proofs.Named.{enum_named}
use Rattle.idl_interface.proofs.definitions.enum_at.Goals as goal

pub returns-clause-named : goal.returns-clause-named
returns-clause-named c = enum_named c.enum_of.result _ c.enum_of.ensures

pub returns-clause-made : goal.returns-clause-made
returns-clause-made c =
    let p = c.args.program.now in
    let s = scene_in p in
    let ks = p.types.now.kinds in
    let place = c.args.place in
    let u = c.in-Enum in
    let h = subst (λ o. MatchOption o (body_of s place ≡ None) (IsFound s ks place)) c.in-Some.is c.body_at.ensures in
    ok_is c.enum_of.result _ _
    (ap (λ es. def.Enum (map (λ e. or_zero (number_of (known_in p.scope.now) e.name.octets)) (map seen_enumerator es))) c.as_slice.ensures.value
    ∙ (ap (λ k. def.Enum (map (λ e. or_zero (number_of k e.name.octets)) (map seen_enumerator u.enumerators.items))) (sym (known_is (world_of p.scope.now)))
    ∙ enum_made s ks place c.in-Some.found u.at u.tag (map seen_enumerator u.enumerators.items) h (ap seen_type u.is)))
    c.enum_of.ensures

pub returns-in_default-body-clause-made : goal.returns-in_default-body-clause-made
returns-in_default-body-clause-made c =
    let p = c.args.program.now in
    let s = scene_in p in
    let ks = p.types.now.kinds in
    let place = c.args.place in
    let h = subst (λ o. MatchOption o (body_of s place ≡ None) (IsFound s ks place)) c.in-Some.is c.body_at.ensures in
    c.nothing-in_default-body.ensures ∙ other_enum s ks place c.in-Some.found h c.in_default-body.not-Enum
