use Rattle.idl_compat_place.proofs.Operated.{all_none, all_some}
use Rattle.idl_compat_place.proofs.finding.first_difference.Goals as goal

pub returns-in-Some : goal.returns-in-Some
returns-in-Some c =
    let i = c.args.old.now in
    let j = c.args.new.now in
    c.in_ok-difference-in-Some.ensures i j
    (all_some i j c.walk.new.self c.in_ok-finding.field-0 c.in-Some.finding (c.in_ok-finding.ensures c.in_ok-trail.ensures) c.in-Some.is)

pub returns : goal.returns
returns c =
    all_none c.args.old.now c.args.new.now c.walk.new.self c.in_ok-finding.field-0 (c.in_ok-finding.ensures c.in_ok-trail.ensures) c.in-None.is
