use Rattle.std.proofs.Common.{◌+◌, ◌&&◌, ◌∙◌, drop, refl, ap, sym, arith}
use Rattle.std.specs.List.{list_all}
use Rattle.nd_lemmas.proofs.Lists.{drop_next, drop_past}
use Rattle.nd_misfits.specs.Simple.{is_simple_member}
use Rattle.nd_misfits.proofs.simple.are_simple.Goals as goal

pub loop-at-init : goal.loop-at-init
loop-at-init c = refl

pub loop-at-preserved : goal.loop-at-preserved
loop-at-preserved c =
    let fs = c.args.members.now in
    let test = is_simple_member c.args.pointers c.args.types.now in
    c.loop-at.invariant ∙ ap (list_all test) (drop_next fs c.loop-at.at c.in-Some.member.now c.in-Some.ensures.some)
    ∙ ap (λ b. b && list_all test (drop (c.loop-at.at + 1) fs)) (sym c.if-not-is_simple_member.ensures)

pub returns-then-not-is_simple_member : goal.returns-then-not-is_simple_member
returns-then-not-is_simple_member c =
    let fs = c.args.members.now in
    let test = is_simple_member c.args.pointers c.args.types.now in
    sym
    (c.loop-at.invariant ∙ ap (list_all test) (drop_next fs c.loop-at.at c.in-Some.member.now c.in-Some.ensures.some)
    ∙ ap (λ b. b && list_all test (drop (c.loop-at.at + 1) fs)) (sym c.if-not-is_simple_member.ensures))

pub returns : goal.returns
returns c =
    let test = is_simple_member c.args.pointers c.args.types.now in
    sym (c.loop-at.invariant ∙ ap (list_all test) (drop_past c.args.members.now c.loop-at.at (omega (arith, c.loop-at-test.false, c.len-at-end.ensures))))
