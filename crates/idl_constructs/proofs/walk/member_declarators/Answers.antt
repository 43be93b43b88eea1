use Rattle.std.proofs.Common.{◌∙◌, length, ap, arith}
use Rattle.std.proofs.lemmas.Result.{on_ok_weaker}
use Rattle.idl_grammar.specs.Seen as seen
use Rattle.idl_grammar.specs.Seen.{seen_type}
use Rattle.idl_constructs.specs.SeenNodes.{seen_construct}
use Rattle.idl_constructs.specs.Growing.{member_rest}
use Rattle.idl_constructs.proofs.Adding.{adds_as}
use Rattle.idl_constructs.proofs.Rests as rests
use Rattle.idl_constructs.proofs.walk.member_declarators.Goals as goal

pub declarators-requires : goal.declarators-requires
declarators-requires c =
    let same = ap length c.as_slice.ensures.value in
    let room = c.requires in
    omega (arith, same, room)

pub returns-clause-adds : goal.returns-clause-adds
returns-clause-adds c =
    let k = seen_construct c.args.construct.now in
    let m = c.args.member.now in
    let i = seen_construct c.inside-inner.result in
    let of = seen_type m.of in
    let s = c.args.first in
    on_ok_weaker c.declarators.result
    (λ x all h. adds_as c.args.nodes.now c.declarators.new.nodes (rests.declarators_from i of all s c.as_slice.result.now) (member_rest k s (seen.seen_member m) all)
    (ap (λ xs. rests.declarators_from i of all s xs) c.as_slice.ensures.value ∙ ap (λ j. rests.declarators_from j of all s m.declarators.items) c.inside-inner.ensures)
    (x all h))
    c.declarators.ensures.adds
