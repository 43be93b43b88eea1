use Rattle.std.proofs.Common.{rules, arith, ◌≡◌, ◌≤◌, ◌<◌, length, Some, None}
use Rattle.std.specs.Prelude.{slice_get}
use Rattle.nd_lemmas.proofs.Lists.{none_below}
use Rattle.idl_compat.specs.declared.placing.Placing.TheVariants as placing
use Rattle.idl_compat.proofs.Matched.{start, turn, stop, over}
use Rattle.idl_compat.proofs.placing.Pairing.place_all.Goals as goal

pub loop-at-init : goal.loop-at-init
loop-at-init c = λ k. start c.args.self.now c.args.wanted.now k

pub returns-in_default : goal.returns-in_default
returns-in_default c = λ k m s a h. none_below c.args.wanted.now c.loop-at.at (search rules) (search rules)

pub returns-then-eq : goal.returns-then-eq
returns-then-eq c = λ k m s a h.
    let is : slice_get c.args.wanted.now c.loop-at.at ≡ Some c.in-Some.pair.now = search rules in
    let clash : c.in_ok-place.field-0 ≡ placing.Clash = search rules in
    stop c.args.self.now c.loop-at.self c.args.wanted.now c.loop-at.at c.in-Some.pair.now is (c.loop-at.invariant k)
    c.place.new.self c.in_ok-place.field-0 (c.in_ok-place.ensures (c.loop-at.invariant k).paired) clash m s a h

pub loop-at-preserved : goal.loop-at-preserved
loop-at-preserved c = λ k.
    let is : slice_get c.args.wanted.now c.loop-at.at ≡ Some c.in-Some.pair.now = search rules in
    let clear : c.in_ok-place.field-0 ≡ placing.Clash → ⊥ = search rules in
    turn c.args.self.now c.loop-at.self c.args.wanted.now c.loop-at.at c.in-Some.pair.now is (c.loop-at.invariant k)
    c.place.new.self c.in_ok-place.field-0 (c.in_ok-place.ensures (c.loop-at.invariant k).paired) clear

pub returns : goal.returns
returns c = λ k.
    let past : length c.args.wanted.now ≤ c.loop-at.at = search rules in
    over c.args.self.now c.loop-at.self c.args.wanted.now c.loop-at.at past (c.loop-at.invariant k)
