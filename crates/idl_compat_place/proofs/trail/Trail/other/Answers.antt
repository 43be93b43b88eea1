use Rattle.std.proofs.Common.{rules, arith, ◌≡◌, ◌≤◌, length, Some, false, inr}
use Rattle.std.specs.Prelude.{slice_get}
use Rattle.idl_compat_place.proofs.Trailing.{no_other_next, no_other}
use Rattle.idl_compat_place.proofs.trail.Trail.other.Goals as goal

pub loop-at-init : goal.loop-at-init
loop-at-init c = λ i r l e h. omega (arith, l)

pub loop-at-preserved : goal.loop-at-preserved
loop-at-preserved c =
    let is : slice_get c.args.self.now.pairing.pairs c.loop-at.at ≡ Some c.in-Some.other.now = search rules in
    let apart : c.are_clashing.result ≡ false = search rules in
    no_other_next c.args.self.now.pairing.pairs c.args.pair c.in-Some.other.now c.loop-at.at is (c.are_clashing.ensures.not apart) c.loop-at.invariant

pub returns : goal.returns
returns c =
    let past : length c.args.self.now.pairing.pairs ≤ c.loop-at.at = search rules in
    inr (no_other c.args.self.now.pairing.pairs c.args.pair c.loop-at.at past c.loop-at.invariant)
