use Rattle.std.proofs.Common.{rules, arith, ◌≡◌, ◌+◌, ◌≤◌, length, None, Some}
use Rattle.std.specs.Prelude.{slice_get}
use Rattle.nd_types.specs.Table.{type_at}
use Rattle.idl_compat.specs.Comparison.{IsPair, AlikeTypes}
use Rattle.idl_compat.proofs.Expanding.{past}
use Rattle.idl_compat_place.specs.declared.origins.Origin.TheVariants as origin
use Rattle.idl_compat_place.specs.declared.steps.Step.TheVariants as step
use Rattle.idl_compat_place.proofs.Ordered.{comes_none, comes_some}
use Rattle.idl_compat_place.proofs.Walked.{types_start, types_turn, types_over, few_pairs, walked_none, walked_some}
use Rattle.idl_compat_place.proofs.trail.Trail.walk_types.Goals as goal

pub loop-at-init : goal.loop-at-init
loop-at-init c = (λ k n base a l e. (types_start c.args.older.now c.args.newer.now k n base c.args.self.now c.args.from a e, omega arith), λ base a. a)

pub returns-in_default-clause-walks : goal.returns-in_default-clause-walks
returns-in_default-clause-walks c = λ k n base a l e.
    let none : slice_get c.loop-at.self.pairing.pairs c.loop-at.at ≡ None = search rules in
    types_over c.args.older.now c.args.newer.now k n base c.loop-at.at c.args.self.now c.loop-at.self (past c.loop-at.self.pairing.pairs c.loop-at.at none)
    (c.loop-at.invariant.0 k n base a l e).0

pub returns-in-Some-2-clause-walks : goal.returns-in-Some-2-clause-walks
returns-in-Some-2-clause-walks c = λ k n base a l e.
    let i = c.args.older.now in
    let j = c.args.newer.now in
    let p = c.in-Some.pair.now in
    let h = c.loop-at.invariant.0 k n base a l e in
    let from = h.1 in
    let is : slice_get c.loop-at.self.pairing.pairs c.loop-at.at ≡ Some p = search rules in
    walked_some i j k n base (λ m. AlikeTypes (IsPair m) (type_at i.types p.old.0) (type_at j.types p.new.0)) c.loop-at.self c.walk_pair.new.self
    c.in_ok-end.field-0 c.in-Some-2.end (c.in_ok-end.ensures.walks k n base h.0.trail (omega (arith, from, l)) is) c.in-Some-2.is

pub loop-at-preserved : goal.loop-at-preserved
loop-at-preserved c =
    let none : c.in_ok-end.field-0 ≡ None = search rules in (
      λ k n base a l e.
          let i = c.args.older.now in
          let j = c.args.newer.now in
          let p = c.in-Some.pair.now in
          let h = c.loop-at.invariant.0 k n base a l e in
          let from = h.1 in
          let is : slice_get c.loop-at.self.pairing.pairs c.loop-at.at ≡ Some p = search rules in (
            types_turn i j k n base c.loop-at.at p c.args.self.now c.loop-at.self c.walk_pair.new.self is h.0
                (walked_none i j k n base (λ m. AlikeTypes (IsPair m) (type_at i.types p.old.0) (type_at j.types p.new.0)) c.loop-at.self c.walk_pair.new.self
                c.in_ok-end.field-0 (c.in_ok-end.ensures.walks k n base h.0.trail (omega (arith, from, l)) is) none),
            omega (arith, from),
          ),
      λ base a.
          comes_none base c.walk_pair.new.self.origins (origin.Step (c.loop-at.at + 1) (step.Nth 0)) c.in_ok-end.field-0
          (c.in_ok-end.ensures.order base (c.loop-at.invariant.1 base a)) none,
    )

pub returns-clause-walks : goal.returns-clause-walks
returns-clause-walks c = λ k n base a l e.
    let i = c.args.older.now in
    let j = c.args.newer.now in
    let h = c.loop-at.invariant.0 k n base a l e in
    let past_all : length i.types ≤ c.loop-at.at = search rules in
    types_over i j k n base c.loop-at.at c.args.self.now c.loop-at.self (few_pairs i j k n base c.loop-at.at c.loop-at.self h.0.trail past_all) h.0

pub returns-in_default-clause-order : goal.returns-in_default-clause-order
returns-in_default-clause-order c = λ base a. tt

pub returns-in-Some-2-clause-order : goal.returns-in-Some-2-clause-order
returns-in-Some-2-clause-order c = λ base a.
    comes_some base c.walk_pair.new.self.origins (origin.Step (c.loop-at.at + 1) (step.Nth 0)) c.in_ok-end.field-0 c.in-Some-2.end
    (c.in_ok-end.ensures.order base (c.loop-at.invariant.1 base a)) c.in-Some-2.is

pub returns-clause-order : goal.returns-clause-order
returns-clause-order c = λ base a. tt
