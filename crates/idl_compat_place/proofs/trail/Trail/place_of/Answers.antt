use Rattle.std.proofs.Common.{rules, ◌≤◌, ◌+◌, length, refl, sym, subst}
use Rattle.idl_compat_place.proofs.Leading.{IsOnTheWay, start, next, arrived, over}
use Rattle.idl_compat_place.proofs.trail.Trail.place_of.Goals as goal

pub loop-turn-init : goal.loop-turn-init
loop-turn-init c = λ old new k n base before pair a few h.
    subst (λ x. IsOnTheWay old new k n base before c.args.self.now pair c.args.origin 0 c.args.origin x) (sym c.new-steps.ensures)
    (start old new k n base before c.args.self.now pair c.args.origin few h)

pub returns-in-Part : goal.returns-in-Part
returns-in-Part c = λ old new k n base before pair a few h.
    arrived old new k n base before c.args.self.now a pair c.args.origin c.loop-turn._turn c.loop-turn.steps c.in-Part.op c.in-Part.part _ refl
    (subst (λ x. IsOnTheWay old new k n base before c.args.self.now pair c.args.origin c.loop-turn._turn x c.loop-turn.steps) c.in-Part.is (c.loop-turn.invariant old new k n base before pair a few h))

pub loop-turn-preserved : goal.loop-turn-preserved
loop-turn-preserved c = λ old new k n base before pair a few h.
    subst (λ x. IsOnTheWay old new k n base before c.args.self.now pair c.args.origin (c.loop-turn._turn + 1) c.origin-origin.result x) (sym c.in_ok-push-in-Step.ensures)
    (next old new k n base before c.args.self.now a pair c.args.origin c.loop-turn._turn c.loop-turn.steps c.in-Step.from c.in-Step.step c.origin-origin.result c.origin-origin.ensures
    (subst (λ x. IsOnTheWay old new k n base before c.args.self.now pair c.args.origin c.loop-turn._turn x c.loop-turn.steps) c.in-Step.is
    (c.loop-turn.invariant old new k n base before pair a few h)))

pub returns : goal.returns
returns c = λ old new k n base before pair a few h.
    let past : length c.args.self.now.origins ≤ c.loop-turn._turn = search rules in
    over old new k n base before c.args.self.now a pair c.args.origin c.loop-turn._turn c.loop-turn.steps c.loop-turn.origin c.placed.result c.placed.ensures past
    (c.loop-turn.invariant old new k n base before pair a few h)
