use Rattle.std.proofs.Common.{◌≡◌, ℕ, ◌+◌, List, [], ◌∷◌, ◌++◌, true, length, Some, None, slice_get, sym, ap, ◌∙◌, refl, subst}
use Rattle.std.proofs.lemmas.Option.{slice_get_read}
use Rattle.nd_base.specs.declared.octets.Place.{Place}
use Rattle.idl_grammar.specs.Seen.{seen_type}
use Rattle.idl_scope.specs.Seen.{known_in}
use Rattle.idl_declared_types.specs.declared.types.BodyTypes.{BodyTypes}
use Rattle.idl_rule_definitions.specs.Scene.{Body, parts_declared}
use Rattle.idl_declared_types.specs.SeenNames.{seen_names}
use Rattle.idl_constructs.specs.SeenNodes.{seen_construct}
use Rattle.idl_declared_types.specs.SeenTypes.{names_at, bare, body_at, IsBody}
use Rattle.idl_typing.specs.ReadTypes.{BodiesRead, TagsRead}
use Rattle.idl_typing.proofs.Agreed.{types_same, tag_same}
use Rattle.idl_typing.proofs.NotedTypes.{on_ok_both, on_ok_then}
use Rattle.idl_typing.proofs.ReadOperations.{tags_none, tags_keeps, tags_next}
use Rattle.idl_typing.proofs.ReadBodies.{bodies_read_next, bodies_read_none, bodies_read_keeps, not_body}
use Rattle.idl_typing.proofs.types.read_body.Goals as goal

pub returns-in_default : goal.returns-in_default
returns-in_default c =
    let n = c.args.nodes.now in
    let known = known_in c.args.scope.now in
    let here = slice_get_read n.items.items (length n.items.items) c.args.index c.index.result.now refl c.requires.within c.index.ensures in
    record {
      bodies = bodies_read_none known n c.args.index c.args.types.now.kinds c.args.types.now.bodies.items c.args.types.now.by_place c.index.result.now here
          (not_body (names_at known n c.args.index) c.index.result.now c.in_default.not-Body) c.requires.bodies;
      tags = tags_none known n c.args.index c.args.types.now.kinds c.args.types.now.bodies.items c.index.result.now here
          (not_body (names_at known n c.args.index) c.index.result.now c.in_default.not-Body) c.requires.tags;
      typed = refl;
      operations = refl;
      keeps = λ k t h. h;
    }

pub returns-clause-bodies : goal.returns-clause-bodies
returns-clause-bodies c =
    let n = c.args.nodes.now in
    let known = known_in c.args.scope.now in
    let i = c.args.index in
    let ks = c.body_types.new.kinds in
    let b = c.in_ok-noted.noted in
    let names = names_at known n i in
    let here = slice_get_read n.items.items (length n.items.items) i c.index.result.now refl c.requires.within c.index.ensures in
    let body : Body = record { construct = seen_construct c.in-Body.construct; names = names; body = seen_type c.in-Body.body.now } in
    let at : body_at names (Some c.index.result.now) ≡ Some body = ap (λ o. body_at names (Some o)) c.in-Body.is in
    let place : b.node ≡ i = c.in_ok-noted.ensures.node in
    let is : IsBody (bare known) n ks body b = record {
      place = c.in_ok-noted.ensures.place;
      nonencapsulated = c.in_ok-noted.ensures.nonencapsulated;
      parts = c.in_ok-noted.ensures.parts
          ∙ types_same known (seen_names c.args.types.now.kinds c.args.names.now) names (parts_declared (seen_construct c.in-Body.construct) (seen_type c.in-Body.body.now))
          (λ x. sym (c.requires.names.agree x));
      values = c.in_ok-noted.ensures.values;
      node = ap (λ k. body_at (names_at known n k) (slice_get n.items.items k)) place ∙ ap (λ o. body_at names o) here ∙ at;
    } in
    let before = bodies_read_keeps known n _ c.args.types.now.kinds ks c.args.types.now.bodies.items c.args.types.now.by_place c.in_ok-noted.ensures.keeps c.requires.bodies in
    let next = bodies_read_next known n i ks c.args.types.now.bodies.items c.args.types.now.by_place c.index.result.now body b here at before is c.in_ok-noted.ensures.within in
    on_ok_both c.push_body.result c.push_body.ensures.bodies c.push_body.ensures.places (λ e f.
    subst (λ (l : List BodyTypes). BodiesRead known n (i + 1) ks l c.push_body.new.by_place) (sym e)
    (subst (λ (p : List (Place × ℕ)). BodiesRead known n (i + 1) ks (c.args.types.now.bodies.items ++ b ∷ []) p) (sym f) next))

pub returns-clause-tags : goal.returns-clause-tags
returns-clause-tags c =
    let n = c.args.nodes.now in
    let known = known_in c.args.scope.now in
    let i = c.args.index in
    let ks = c.body_types.new.kinds in
    let b = c.in_ok-noted.noted in
    let names = names_at known n i in
    let here = slice_get_read n.items.items (length n.items.items) i c.index.result.now refl c.requires.within c.index.ensures in
    let body : Body = record { construct = seen_construct c.in-Body.construct; names = names; body = seen_type c.in-Body.body.now } in
    let at : body_at names (Some c.index.result.now) ≡ Some body = ap (λ o. body_at names (Some o)) c.in-Body.is in
    let tag = c.in_ok-noted.ensures.tag
    ∙ tag_same (seen_construct c.in-Body.construct) (seen_names c.args.types.now.kinds c.args.names.now) names (seen_type c.in-Body.body.now) (λ x. sym (c.requires.names.agree x)) in
    let before = tags_keeps _ c.args.types.now.kinds ks c.args.types.now.bodies.items c.in_ok-noted.ensures.keeps c.requires.tags in
    let next = tags_next known n i ks c.args.types.now.bodies.items c.index.result.now body b here at before tag c.in_ok-noted.ensures.tag_within in
    on_ok_then c.push_body.result c.push_body.ensures.bodies (λ e. subst (λ (l : List BodyTypes). TagsRead known n (i + 1) ks l) (sym e) next)
