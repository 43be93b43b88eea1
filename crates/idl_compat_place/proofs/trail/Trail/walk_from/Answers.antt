use Rattle.std.proofs.Common.{rules, arith, ◌≡◌, length, None, sym}
use Rattle.idl_compat.specs.Comparison.{IsPair, AllAlike}
use Rattle.idl_compat_place.specs.declared.origins.Origin.TheVariants as origin
use Rattle.idl_compat_place.specs.declared.steps.Step.TheVariants as step
use Rattle.idl_compat_place.proofs.Ordered.{first_next, none_own, comes_none, comes_some, ends_some}
use Rattle.idl_compat_place.proofs.Walked.{part_types, expanded_from, walked_none, walked_some}
use Rattle.idl_compat_place.proofs.trail.Trail.walk_from.Goals as goal

pub returns-in-Some : goal.returns-in-Some
returns-in-Some c = λ k n a all o.
    let i = c.args.older.now in
    let j = c.args.newer.now in
    let s = c.args.self.now in
    let p = c.args.pair in
    let base = length s.pairing.pairs in
    let as_many = a.as_many in
    let next = origin.Step c.len-from.result (step.Nth 0) in
    let up = first_next i j k n base s.pairing.pairs p c.args.origin c.len-from.result c.len-from.ensures o in
    let first = none_own base s.origins c.args.origin (omega (arith, as_many)) in (
      base,
      walked_some i j k n base (λ m. IsPair m p.old.0 p.new.0) s c.place.new.self c.in_ok-end.field-0 c.in-Some.end (c.in_ok-end.ensures.walks i j k n base a (omega arith) o) c.in-Some.is,
      comes_some base c.place.new.self.origins next c.in_ok-end.field-0 c.in-Some.end (c.in_ok-end.ensures.order base next first up) c.in-Some.is,
    )

pub returns-in-Some-2 : goal.returns-in-Some-2
returns-in-Some-2 c = λ k n a all o.
    let i = c.args.older.now in
    let j = c.args.newer.now in
    let s = c.args.self.now in
    let r = c.place.new.self in
    let p = c.args.pair in
    let base = length s.pairing.pairs in
    let none : c.in_ok-end.field-0 ≡ None = search rules in
    let h = walked_none i j k n base (λ m. IsPair m p.old.0 p.new.0) s r c.in_ok-end.field-0 (c.in_ok-end.ensures.walks i j k n base a (omega arith) o) none in
    let from = c.len-from.ensures in
    let expanded = expanded_from i j k n base (λ m. IsPair m p.old.0 p.new.0) s r c.len-from.result from all h in
    let as_many = a.as_many in
    let next = origin.Step c.len-from.result (step.Nth 0) in
    let up = first_next i j k n base s.pairing.pairs p c.args.origin c.len-from.result from o in
    let first = none_own base s.origins c.args.origin (omega (arith, as_many)) in
    let come = comes_none base r.origins next c.in_ok-end.field-0 (c.in_ok-end.ensures.order base next first up) none in (
      base,
      walked_some i j k n base (AllAlike i.types j.types) r c.walk_types.new.self c.in_ok-end-2.field-0 c.in-Some-2.end
          (c.in_ok-end-2.ensures.walks k n base h.trail (omega (arith, from)) expanded) c.in-Some-2.is,
      ends_some base c.walk_types.new.self.origins c.in_ok-end-2.field-0 c.in-Some-2.end (c.in_ok-end-2.ensures.order base come) c.in-Some-2.is,
    )

pub returns-in-None : goal.returns-in-None
returns-in-None c = λ k n a all o.
    let i = c.args.older.now in
    let j = c.args.newer.now in
    let s = c.args.self.now in
    let r = c.place.new.self in
    let z = c.walk_types.new.self in
    let p = c.args.pair in
    let base = length s.pairing.pairs in
    let none : c.in_ok-end.field-0 ≡ None = search rules in
    let h = walked_none i j k n base (λ m. IsPair m p.old.0 p.new.0) s r c.in_ok-end.field-0 (c.in_ok-end.ensures.walks i j k n base a (omega arith) o) none in
    let from = c.len-from.ensures in
    let expanded = expanded_from i j k n base (λ m. IsPair m p.old.0 p.new.0) s r c.len-from.result from all h in
    part_types i j k n base p s r z h
    (walked_none i j k n base (AllAlike i.types j.types) r z c.in_ok-end-2.field-0 (c.in_ok-end-2.ensures.walks k n base h.trail (omega (arith, from)) expanded) c.in-None.is)
