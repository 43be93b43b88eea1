use Rattle.std.proofs.Common.{◌≡◌, ◌-◌, suc, ℕ, Option, Some, subst, arith}
use Rattle.nd_value.specs.Seen.{tree_of}
use Rattle.text_printer.specs.declared.paths.Step.{Step}
use Rattle.text_printer.specs.Steps.{HasPath, IsStep, seen_step}
use Rattle.text_printer.proofs.Nodes.{step_on, step_ends, own_path}
use Rattle.text_printer.proofs.paths.append_steps.Goals as goal

pub returns-in_default : goal.returns-in_default
returns-in_default c p h =
    let table = c.args.types.now in
    let t = c.loop-left.child_of.0 in
    let v = tree_of c.loop-left.child.now in
    let n = c.loop-left.left in
    let k : n ≡ suc (n - 1) = omega arith in
    absurd
    (step_ends table t n c.loop-left.text c.next_step.new.text v (n - 1) k
    (subst (λ (r : Option Step). IsStep table t v (n - 1) c.loop-left.text c.next_step.new.text (seen_step r)) c.in_default.is c.in_ok-next.ensures) p
    (c.loop-left.invariant p h))

pub loop-left-preserved : goal.loop-left-preserved
loop-left-preserved c p h =
    let table = c.args.types.now in
    let t = c.loop-left.child_of.0 in
    let v = tree_of c.loop-left.child.now in
    let n = c.loop-left.left in
    let s = c.in-Some.next in
    let k : n ≡ suc (n - 1) = omega arith in
    step_on table t n s.of.0 s.node c.loop-left.text c.next_step.new.text v (tree_of s.val.now) (n - 1) k
    (subst (λ (r : Option Step). IsStep table t v (n - 1) c.loop-left.text c.next_step.new.text (seen_step r)) c.in-Some.is c.in_ok-next.ensures) p
    (c.loop-left.invariant p h)

pub loop-left-smaller : goal.loop-left-smaller
loop-left-smaller c =
    let table = c.args.types.now in
    let t = c.loop-left.child_of.0 in
    let v = tree_of c.loop-left.child.now in
    let n = c.loop-left.left in
    let step : IsStep table t v (n - 1) c.loop-left.text c.next_step.new.text (seen_step (Some c.in-Some.next)) =
    subst (λ (r : Option Step). IsStep table t v (n - 1) c.loop-left.text c.next_step.new.text (seen_step r)) c.in-Some.is c.in_ok-next.ensures in
    omega (arith, step.1)

pub returns : goal.returns
returns c p h =
    let table = c.args.types.now in
    let t = c.loop-left.child_of.0 in
    let v = tree_of c.loop-left.child.now in
    let ends : c.loop-left.left ≡ 0 = omega arith in
    own_path table t c.loop-left.text v p (subst (λ (n : ℕ). HasPath table t c.loop-left.text v n p) ends (c.loop-left.invariant p h))
