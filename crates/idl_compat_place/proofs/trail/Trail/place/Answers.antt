use Rattle.std.proofs.Common.{sym, subst}
use Rattle.idl_compat.specs.Placing.{IsPlacing}
use Rattle.idl_compat_place.specs.Trails.{AreBefore}
use Rattle.idl_compat_place.proofs.Trailing.{added, clashed}
use Rattle.idl_compat_place.proofs.Ordered.{before_later, before_more, ends_after}
use Rattle.idl_compat_place.proofs.trail.Trail.place.Goals as goal

pub returns-in_ok-push-in-Added-clause-walks : goal.returns-in_ok-push-in-Added-clause-walks
returns-in_ok-push-in-Added-clause-walks c = λ old new k n base a l o.
    added old new k n base c.args.self.now a c.args.pair c.args.origin o c.place.new.self c.push.new.self
    (subst (λ x. IsPlacing c.args.self.now.pairing c.place.new.self c.args.pair.old.0 c.args.pair.new.0 x) c.in-Added.is (c.in_ok-place.ensures a.paired))
    c.in_ok-push-in-Added.ensures

pub returns-in-Clash-clause-walks : goal.returns-in-Clash-clause-walks
returns-in-Clash-clause-walks c = λ old new k n base a l o.
    clashed old new k n base c.args.self.now a c.args.pair c.args.origin o c.place.new.self c.other.result l
    (subst (λ x. IsPlacing c.args.self.now.pairing c.place.new.self c.args.pair.old.0 c.args.pair.new.0 x) c.in-Clash.is (c.in_ok-place.ensures a.paired))
    c.other.ensures

pub returns-in-Already-clause-order : goal.returns-in-Already-clause-order
returns-in-Already-clause-order c = λ base next a up. before_later base c.args.self.now.origins c.args.origin next a up

pub returns-in_ok-push-in-Added-clause-order : goal.returns-in_ok-push-in-Added-clause-order
returns-in_ok-push-in-Added-clause-order c = λ base next a up.
    subst (λ x. AreBefore base x next) (sym c.in_ok-push-in-Added.ensures) (before_more base c.args.self.now.origins c.args.origin next a up)

pub returns-in-Clash-clause-order : goal.returns-in-Clash-clause-order
returns-in-Clash-clause-order c = λ base next a up. ends_after base c.args.self.now.origins c.args.origin c.other.result a
