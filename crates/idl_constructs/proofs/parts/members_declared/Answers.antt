use Rattle.std.proofs.Common.{◌∙◌, ◌++◌, map, refl, ap, arith}
use Rattle.idl_grammar.specs.Seen.{seen_type, seen_declarator}
use Rattle.idl_rule_definitions.specs.Nodes.{declared}
use Rattle.idl_constructs.specs.SeenNodes.{seen_construct, seen_declared}
use Rattle.idl_constructs.proofs.Gathering.{gather, gathered}
use Rattle.idl_constructs.proofs.Rests as rests
use Rattle.idl_constructs.proofs.parts.members_declared.Goals as goal

pub loop-member-preserved : goal.loop-member-preserved
loop-member-preserved c =
    let k = seen_construct c.args.construct.now in
    let xs = c.deref-member-items.result.now in
    let x = c.member-item.result in
    let before = map seen_declared c.loop-member.list.items in
    gather (rests.members_declared k) (rests.member_declared k) (rests.members_declared_cons k) xs (rests.members_declared k xs)
    before (map seen_declared c.add_each.new.list.items) c.loop-member.member-index x (omega arith) c.member-item.is
    (c.in_ok-add_each.ensures
    ∙ (ap (λ i. before ++ map (declared i (seen_type x.of)) (map seen_declarator c.as_slice.result.now)) c.inside-inner.ensures
    ∙ ap (λ ds. before ++ map (declared (rests.in_member k x) (seen_type x.of)) (map seen_declarator ds)) c.as_slice.ensures.value)) c.loop-member.invariant

pub returns : goal.returns
returns c =
    let k = seen_construct c.args.construct.now in
    let xs = c.deref-member-items.result.now in
    gathered (rests.members_declared k) (rests.member_declared k) (rests.members_declared_cons k) xs (rests.members_declared k xs)
    (map seen_declared c.loop-member.list.items) c.loop-member.member-index (omega arith) refl c.loop-member.invariant
    ∙ ap (rests.members_declared k) c.deref-member-items.ensures.value
