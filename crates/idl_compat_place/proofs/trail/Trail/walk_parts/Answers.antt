use Rattle.std.proofs.Common.{rules, ◌≡◌, ◌+◌, None}
use Rattle.idl_compat_place.specs.declared.origins.Origin.TheVariants as origin
use Rattle.idl_compat_place.specs.declared.steps.Step.TheVariants as step
use Rattle.idl_compat_place.specs.Trails.{IsChildPaired}
use Rattle.idl_compat_place.proofs.Ordered.{before_later, comes_none, comes_some, next_part, part_default}
use Rattle.idl_compat_place.proofs.Walked.{ArePaired, parts_start, parts_turn, parts_over, still_there, walked_none, walked_some}
use Rattle.idl_compat_place.proofs.trail.Trail.walk_parts.Goals as goal

pub loop-number-init : goal.loop-number-init
loop-number-init c = (λ i j k n base pair a l at is is'. parts_start i j k n base c.args.older.now c.args.newer.now c.args.from pair c.args.self.now a, λ base a. a)

pub loop-number-preserved : goal.loop-number-preserved
loop-number-preserved c =
    let none : c.in_ok-end.field-0 ≡ None = search rules in
    let next = origin.Step c.args.from (step.Nth (c.loop-number.number + 1)) in (
      λ i j k n base pair a l at is is'.
          let d = c.args.older.now in
          let e = c.args.newer.now in
          let s = c.args.self.now in
          let r = c.loop-number.self in
          let z = c.walk_child.new.self in
          let h = c.loop-number.invariant.0 i j k n base pair a l at is is' in
          let there = still_there i j k n base d e c.args.from pair (ArePaired i j k n base d e c.args.from pair c.loop-number.number) s r h at in
          parts_turn i j k n base d e c.args.from pair c.loop-number.number s r z h
          (walked_none i j k n base (IsChildPaired d e (step.Nth c.loop-number.number)) r z c.in_ok-end.field-0 (c.in_ok-end.ensures.walks i j k n base pair h.trail l there is is') none),
      λ base a.
          comes_none base c.walk_child.new.self.origins next c.in_ok-end.field-0
          (c.in_ok-end.ensures.order base next (c.loop-number.invariant.1 base a) (next_part c.args.from c.loop-number.number)) none,
    )

pub returns-in-Some-clause-walks : goal.returns-in-Some-clause-walks
returns-in-Some-clause-walks c = λ i j k n base pair a l at is is'.
    let d = c.args.older.now in
    let e = c.args.newer.now in
    let s = c.args.self.now in
    let r = c.loop-number.self in
    let z = c.walk_child.new.self in
    let h = c.loop-number.invariant.0 i j k n base pair a l at is is' in
    let there = still_there i j k n base d e c.args.from pair (ArePaired i j k n base d e c.args.from pair c.loop-number.number) s r h at in
    walked_some i j k n base (IsChildPaired d e (step.Nth c.loop-number.number)) r z c.in_ok-end.field-0 c.in-Some.end
    (c.in_ok-end.ensures.walks i j k n base pair h.trail l there is is') c.in-Some.is

pub returns-in-Some-clause-order : goal.returns-in-Some-clause-order
returns-in-Some-clause-order c = λ base a.
    let next = origin.Step c.args.from (step.Nth (c.loop-number.number + 1)) in
    comes_some base c.walk_child.new.self.origins next c.in_ok-end.field-0 c.in-Some.end
    (c.in_ok-end.ensures.order base next (c.loop-number.invariant.1 base a) (next_part c.args.from c.loop-number.number)) c.in-Some.is

pub returns-clause-walks : goal.returns-clause-walks
returns-clause-walks c = λ i j k n base pair a l at is is'.
    let d = c.args.older.now in
    let e = c.args.newer.now in
    let h = c.loop-number.invariant.0 i j k n base pair a l at is is' in
    parts_over i j k n base d e c.args.from pair c.loop-number.number c.args.self.now c.loop-number.self (search rules) h

pub returns-clause-order : goal.returns-clause-order
returns-clause-order c = λ base a.
    before_later base c.loop-number.self.origins (origin.Step c.args.from (step.Nth c.loop-number.number)) (origin.Step c.args.from step.Default)
    (c.loop-number.invariant.1 base a) (part_default c.args.from c.loop-number.number)
