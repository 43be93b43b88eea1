use Rattle.std.proofs.Common.{rules, arith, ◌≡◌, ◌<◌, length, None, Some, subst}
use Rattle.std.specs.Prelude.{slice_get}
use Rattle.std.proofs.lemmas.Option.{slice_get_within}
use Rattle.idl_compat_place.specs.Trails.{IsPath}
use Rattle.idl_compat_place.proofs.Leading.{origin_is, origin_there}
use Rattle.idl_compat_place.proofs.Operated.{types_differ, pairs_clash}
use Rattle.idl_compat_place.proofs.trail.Trail.end_difference.Goals as goal

pub returns-in_default : goal.returns-in_default
returns-in_default c = λ old new k n base e order.
    let end = c.args.end in
    let none : end.other ≡ None = search rules in
    let placed = c.in_ok-place.ensures old new k n base e.before end.pair e.trail e.few e.origin in
    types_differ old new k n base c.args.self.now end.pair end.origin end.other e c.in_ok-place.place placed.0 placed.1 none

pub returns : goal.returns
returns c = λ old new k n base e order.
    let s = c.args.self.now in
    let end = c.args.end in
    let at = c.in-Some.number in
    let r = c.in-Some-get.other.now in
    let there : slice_get s.pairing.pairs at ≡ Some r = search rules in
    let less : at < length s.pairing.pairs = slice_get_within s.pairing.pairs at r there in
    let (h, of) = origin_there s at e.trail.as_many less in
    let placed = c.in_ok-place.ensures old new k n base e.before end.pair e.trail e.few e.origin in
    let earlier = c.in_ok-earlier.ensures old new k n base at r e.trail (omega (arith, less)) (origin_is old new k n base s at r c.origin.result e.trail there c.origin.ensures) in
    let place = c.in_ok-earlier.earlier in
    pairs_clash old new k n base s end.pair end.origin end.other e c.in_ok-place.place placed.0 placed.1 at c.in-Some.is order r there h of place earlier.0
    (subst (λ x. IsPath s.origins x place.op place.part place.steps) (c.origin.ensures h of) earlier.1)
