use Rattle.std.proofs.Common.{rules, arith, ◌≡◌, ◌≤◌, ◌<◌, length, Some, None, true, false, List}
use Rattle.std.specs.Prelude.{slice_get}
use Rattle.nd_types.specs.Table.{type_at}
use Rattle.idl_compat.specs.Comparison.{IsPair, AlikeTypes}
use Rattle.idl_compat.proofs.Matched.{met_true, met_false}
use Rattle.idl_compat.proofs.Expanding.{start, turn, stop, over, few_pairs, past}
use Rattle.idl_compat.proofs.placing.Pairing.match_types.Goals as goal

pub loop-at-init : goal.loop-at-init
loop-at-init c = λ k e a. start c.args.types.now c.args.others.now c.args.self.now c.args.from k a

pub returns-in_default : goal.returns-in_default
returns-in_default c = λ k e a.
    let none : slice_get c.loop-at.self.pairs c.loop-at.at ≡ None = search rules in
    over c.args.types.now c.args.others.now c.args.self.now c.loop-at.self c.loop-at.at (past c.loop-at.self.pairs c.loop-at.at none) (c.loop-at.invariant k e a)

pub returns-then-not-branch : goal.returns-then-not-branch
returns-then-not-branch c = λ k e a.
    let is : slice_get c.loop-at.self.pairs c.loop-at.at ≡ Some c.in-Some.pair.now = search rules in
    stop c.args.types.now c.args.others.now c.args.self.now c.loop-at.self c.loop-at.at c.in-Some.pair.now is (c.loop-at.invariant k e a)
    (met_false (λ m. AlikeTypes (IsPair m) (type_at c.args.types.now c.in-Some.pair.now.old.0) (type_at c.args.others.now c.in-Some.pair.now.new.0)) c.loop-at.self c.match_pair.new.self
    c.in_ok-match_pair.field-0 (c.in_ok-match_pair.ensures (c.loop-at.invariant k e a).paired) (search rules))

pub loop-at-preserved : goal.loop-at-preserved
loop-at-preserved c = λ k e a.
    let is : slice_get c.loop-at.self.pairs c.loop-at.at ≡ Some c.in-Some.pair.now = search rules in
    turn c.args.types.now c.args.others.now c.args.self.now c.loop-at.self c.loop-at.at c.in-Some.pair.now is (c.loop-at.invariant k e a) c.match_pair.new.self
    (met_true (λ m. AlikeTypes (IsPair m) (type_at c.args.types.now c.in-Some.pair.now.old.0) (type_at c.args.others.now c.in-Some.pair.now.new.0)) c.loop-at.self c.match_pair.new.self
    c.in_ok-match_pair.field-0 (c.in_ok-match_pair.ensures (c.loop-at.invariant k e a).paired) (search rules))

pub returns : goal.returns
returns c = λ k e a.
    let past_all : length c.args.types.now ≤ c.loop-at.at = search rules in
    over c.args.types.now c.args.others.now c.args.self.now c.loop-at.self c.loop-at.at
    (few_pairs c.args.types.now c.args.others.now c.args.self.now c.loop-at.self c.loop-at.at e (c.loop-at.invariant k e a) past_all) (c.loop-at.invariant k e a)
