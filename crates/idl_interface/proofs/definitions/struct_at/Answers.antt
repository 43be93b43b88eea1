use Rattle.std.proofs.Common.{◌≡◌, ◌∙◌, None, refl, sym, subst}
use Rattle.std.specs.Prelude.{MatchOption}
use Rattle.idl_grammar.specs.Seen.{seen_type}
use Rattle.idl_rule_definitions.specs.Scene.{body_of}
use Rattle.idl_interface.specs.Made.{IsFound, scene_in}
use Rattle.idl_interface.proofs.Defining.{ok_is, struct_made_as, other_struct}
use Rattle.idl_interface.proofs.Limits.{struct_few}
use Rattle.idl_interface.proofs.definitions.struct_at.Goals as goal

pub struct_of-requires-clause-few : goal.struct_of-requires-clause-few
struct_of-requires-clause-few c =
    let p = c.args.program.now in
    let s = scene_in p in
    let ks = p.types.now.kinds in
    let place = c.args.place in
    let found = c.in-Some.found in
    let h = subst (λ o. MatchOption o (body_of s place ≡ None) (IsFound s ks place)) c.in-Some.is c.body_at.ensures in
    struct_few s ks place found (seen_type found.body.now) h refl (sym c.is_struct.ensures ∙ c.if-is_struct.true) c.requires.few

pub returns-then-is_struct-clause-made : goal.returns-then-is_struct-clause-made
returns-then-is_struct-clause-made c =
    let p = c.args.program.now in
    let s = scene_in p in
    let ks = p.types.now.kinds in
    let place = c.args.place in
    let found = c.in-Some.found in
    let h = subst (λ o. MatchOption o (body_of s place ≡ None) (IsFound s ks place)) c.in-Some.is c.body_at.ensures in
    ok_is c.struct_of.result _ _
    (struct_made_as s ks p.numbers.now place found (seen_type found.body.now) c.requires.program.numbers h refl (sym c.is_struct.ensures ∙ c.if-is_struct.true))
    c.struct_of.ensures.made

pub returns-clause-made : goal.returns-clause-made
returns-clause-made c =
    let p = c.args.program.now in
    let s = scene_in p in
    let ks = p.types.now.kinds in
    let place = c.args.place in
    let h = subst (λ o. MatchOption o (body_of s place ≡ None) (IsFound s ks place)) c.in-Some.is c.body_at.ensures in
    c.nothing-2.ensures ∙ other_struct s ks place c.in-Some.found h (sym c.is_struct.ensures ∙ c.if-is_struct.false)
