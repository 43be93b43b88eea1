use Rattle.std.proofs.Common.{◌≡◌, ◌∙◌, None, refl, sym, ap, subst}
use Rattle.std.specs.Prelude.{MatchOption}
use Rattle.idl_grammar.specs.Seen.{seen_type}
use Rattle.idl_scope.specs.Seen.{known_in}
use Rattle.idl_rule_definitions.specs.Checked.{world_of}
use Rattle.idl_rule_definitions.specs.Scene.{body_of}
use Rattle.idl_interface.specs.Made.{is_encapsulated, IsFound, scene_in}
use Rattle.idl_interface.proofs.Defining.{ok_is, known_is, union_with, union_made_as, other_union}
use Rattle.idl_interface.proofs.definitions.union_at.Goals as goal

pub returns-then-is_union-clause-made : goal.returns-then-is_union-clause-made
returns-then-is_union-clause-made c =
    let p = c.args.program.now in
    let s = scene_in p in
    let ks = p.types.now.kinds in
    let place = c.args.place in
    let found = c.in-Some.found in
    let h = subst (λ o. MatchOption o (body_of s place ≡ None) (IsFound s ks place)) c.in-Some.is c.body_at.ensures in
    ok_is c.union_of.result _ _
    (ap (λ b. union_with ks p.numbers.now (known_in p.scope.now) b found) c.is_encapsulated.ensures
    ∙ ap (λ k. union_with ks p.numbers.now k (is_encapsulated (seen_type found.body.now)) found) (sym (known_is (world_of p.scope.now)))
    ∙ union_made_as s ks p.numbers.now place found (seen_type found.body.now) c.requires.numbers h refl (sym c.is_union.ensures ∙ c.if-is_union.true))
    c.union_of.ensures.made

pub returns-clause-made : goal.returns-clause-made
returns-clause-made c =
    let p = c.args.program.now in
    let s = scene_in p in
    let ks = p.types.now.kinds in
    let place = c.args.place in
    let h = subst (λ o. MatchOption o (body_of s place ≡ None) (IsFound s ks place)) c.in-Some.is c.body_at.ensures in
    c.nothing-2.ensures ∙ other_union s ks place c.in-Some.found h (sym c.is_union.ensures ∙ c.if-is_union.false)
