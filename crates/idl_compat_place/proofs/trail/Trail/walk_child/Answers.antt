use Rattle.std.proofs.Common.{rules, arith, ◌≡◌, ◌≤◌, ◌<◌, length, None, Some}
use Rattle.std.proofs.lemmas.Option.{slice_get_within}
use Rattle.idl_compat.specs.Comparison.{IsPair}
use Rattle.idl_compat_place.specs.Differences.{child}
use Rattle.idl_compat_place.specs.Trails.{IsChildPaired}
use Rattle.idl_compat_place.specs.declared.origins.Origin.TheVariants as origin
use Rattle.idl_compat_place.proofs.Ordered.{before_later}
use Rattle.idl_compat_place.proofs.Walked.{stays, no_old_child, no_new_child, child_paired, child_origin, walked_as}
use Rattle.idl_compat_place.proofs.trail.Trail.walk_child.Goals as goal

pub returns-in_default-clause-walks : goal.returns-in_default-clause-walks
returns-in_default-clause-walks c = λ i j k n base pair a l at is is'.
    let d = c.args.older.now in
    let e = c.args.newer.now in
    let none : None ≡ child d c.args.step = search rules in
    stays i j k n base (IsChildPaired d e c.args.step) c.args.self.now a (no_old_child i j k n base d e c.args.from pair c.args.step c.args.self.now.pairing.pairs none)

pub returns-in_default-child-clause-walks : goal.returns-in_default-child-clause-walks
returns-in_default-child-clause-walks c = λ i j k n base pair a l at is is'.
    let d = c.args.older.now in
    let e = c.args.newer.now in
    let none : None ≡ child e c.args.step = search rules in
    stays i j k n base (IsChildPaired d e c.args.step) c.args.self.now a (no_new_child i j k n base d e c.args.from pair c.args.step c.args.self.now.pairing.pairs none)

pub returns-clause-walks : goal.returns-clause-walks
returns-clause-walks c = λ i j k n base pair a l at is is'.
    let d = c.args.older.now in
    let e = c.args.newer.now in
    let to = c.in-Some.to in
    let other = c.in-Some-child.other in
    let first : Some to ≡ child d c.args.step = search rules in
    let second : Some other ≡ child e c.args.step = search rules in
    let less : c.args.from < length c.args.self.now.pairing.pairs = slice_get_within c.args.self.now.pairing.pairs c.args.from pair at in
    let few : base ≤ length c.args.self.now.pairing.pairs = omega (arith, less, l) in
    walked_as i j k n base (λ m. IsPair m to.0 other.0) (IsChildPaired d e c.args.step)
    (λ m h. child_paired i j k n base d e c.args.from pair c.args.step to other first second m h) c.args.self.now c.place.new.self c.in_ok-end.end
    (c.in_ok-end.ensures.walks i j k n base a few (child_origin i j k n base d e c.args.from pair c.args.self.now l at is is' c.args.step to other first second))

pub returns-in_default-clause-order : goal.returns-in_default-clause-order
returns-in_default-clause-order c = λ base next a up. before_later base c.args.self.now.origins (origin.Step c.args.from c.args.step) next a up

pub returns-in_default-child-clause-order : goal.returns-in_default-child-clause-order
returns-in_default-child-clause-order c = λ base next a up. before_later base c.args.self.now.origins (origin.Step c.args.from c.args.step) next a up

pub returns-clause-order : goal.returns-clause-order
returns-clause-order c = λ base next a up. c.in_ok-end.ensures.order base next a up
