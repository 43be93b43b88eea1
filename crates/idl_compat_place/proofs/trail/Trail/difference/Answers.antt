use Rattle.idl_compat_place.proofs.Operated.{ends_first}
use Rattle.idl_compat_place.proofs.trail.Trail.difference.Goals as goal

pub returns-in-Ends : goal.returns-in-Ends
returns-in-Ends c = λ old new h.
    let f = c.args.finding in
    ends_first old new c.args.self.now f c.in-Ends.end c.in-Ends.is h c.end_difference.result (λ base e order. c.end_difference.ensures old new f.op f.part base e order)
