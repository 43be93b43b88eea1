use Rattle.std.proofs.Common.{rules, ◌≡◌, ◌+◌, None}
use Rattle.idl_compat_place.specs.declared.steps.Step.TheVariants as step
use Rattle.idl_compat_place.specs.Trails.{IsChildPaired, ArePartsPaired}
use Rattle.idl_compat_place.specs.declared.origins.Origin.TheVariants as origin
use Rattle.idl_compat_place.proofs.Ordered.{comes_none, comes_some, default_tag, tag_next}
use Rattle.idl_compat_place.proofs.Walked.{children, still_there, walked_none, walked_some}
use Rattle.idl_compat_place.proofs.trail.Trail.walk_children.Goals as goal

pub returns-in-Some-clause-walks : goal.returns-in-Some-clause-walks
returns-in-Some-clause-walks c = λ i j k n base pair a l at is is'.
    walked_some i j k n base (ArePartsPaired c.args.older.now c.args.newer.now) c.args.self.now c.walk_parts.new.self c.in_ok-end.field-0 c.in-Some.end
    (c.in_ok-end.ensures.walks i j k n base pair a l at is is') c.in-Some.is

pub returns-in-Some-2-clause-walks : goal.returns-in-Some-2-clause-walks
returns-in-Some-2-clause-walks c = λ i j k n base pair a l at is is'.
    let d = c.args.older.now in
    let e = c.args.newer.now in
    let s = c.args.self.now in
    let r = c.walk_parts.new.self in
    let none : c.in_ok-end.field-0 ≡ None = search rules in
    let h = walked_none i j k n base (ArePartsPaired d e) s r c.in_ok-end.field-0 (c.in_ok-end.ensures.walks i j k n base pair a l at is is') none in
    let there = still_there i j k n base d e c.args.from pair (ArePartsPaired d e) s r h at in
    walked_some i j k n base (IsChildPaired d e step.Default) r c.walk_child.new.self c.in_ok-end-2.field-0 c.in-Some-2.end
    (c.in_ok-end-2.ensures.walks i j k n base pair h.trail l there is is') c.in-Some-2.is

pub returns-clause-walks : goal.returns-clause-walks
returns-clause-walks c = λ i j k n base pair a l at is is'.
    let d = c.args.older.now in
    let e = c.args.newer.now in
    let s = c.args.self.now in
    let r = c.walk_parts.new.self in
    let z = c.walk_child.new.self in
    let none : c.in_ok-end.field-0 ≡ None = search rules in
    let h = walked_none i j k n base (ArePartsPaired d e) s r c.in_ok-end.field-0 (c.in_ok-end.ensures.walks i j k n base pair a l at is is') none in
    let there = still_there i j k n base d e c.args.from pair (ArePartsPaired d e) s r h at in
    let none' : c.in_ok-end-2.field-0 ≡ None = search rules in
    let f = walked_none i j k n base (IsChildPaired d e step.Default) r z c.in_ok-end-2.field-0 (c.in_ok-end-2.ensures.walks i j k n base pair h.trail l there is is') none' in
    let still = still_there i j k n base d e c.args.from pair (IsChildPaired d e step.Default) r z f there in
    children i j k n base d e c.args.from pair s r z c.walk_child-2.new.self c.in_ok-end-3.end h f (c.in_ok-end-3.ensures.walks i j k n base pair f.trail l still is is')

pub returns-in-Some-clause-order : goal.returns-in-Some-clause-order
returns-in-Some-clause-order c = λ base a.
    comes_some base c.walk_parts.new.self.origins (origin.Step c.args.from step.Default) c.in_ok-end.field-0 c.in-Some.end (c.in_ok-end.ensures.order base a) c.in-Some.is

pub returns-in-Some-2-clause-order : goal.returns-in-Some-2-clause-order
returns-in-Some-2-clause-order c = λ base a.
    let none : c.in_ok-end.field-0 ≡ None = search rules in
    let b = comes_none base c.walk_parts.new.self.origins (origin.Step c.args.from step.Default) c.in_ok-end.field-0 (c.in_ok-end.ensures.order base a) none in
    let next = origin.Step c.args.from step.Tag in
    comes_some base c.walk_child.new.self.origins next c.in_ok-end-2.field-0 c.in-Some-2.end (c.in_ok-end-2.ensures.order base next b (default_tag c.args.from)) c.in-Some-2.is

pub returns-clause-order : goal.returns-clause-order
returns-clause-order c = λ base a.
    let none : c.in_ok-end.field-0 ≡ None = search rules in
    let none' : c.in_ok-end-2.field-0 ≡ None = search rules in
    let b = comes_none base c.walk_parts.new.self.origins (origin.Step c.args.from step.Default) c.in_ok-end.field-0 (c.in_ok-end.ensures.order base a) none in
    let next = origin.Step c.args.from step.Tag in
    let d = comes_none base c.walk_child.new.self.origins next c.in_ok-end-2.field-0 (c.in_ok-end-2.ensures.order base next b (default_tag c.args.from)) none' in
    c.in_ok-end-3.ensures.order base (origin.Step (c.args.from + 1) (step.Nth 0)) d (tag_next c.args.from)
