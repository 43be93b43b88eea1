use Rattle.std.proofs.Common.{rules, arith, ◌≡◌, ◌≤◌, length, true, Some, None}
use Rattle.idl_compat.specs.Comparison.{IsCompared, IsOneUuid, HasAll}
use Rattle.idl_compat.proofs.Operating.{streams_carried, partners_there}
use Rattle.idl_compat.proofs.comparing.compare.Goals as goal

pub returns-clause-streams : goal.returns-clause-streams
returns-clause-streams c =
    let compared : IsCompared c.args.old.now c.args.new.now c.in_ok-compared.compared = search rules in
    streams_carried c.args.old.now c.args.new.now c.in_ok-compared.compared compared

pub returns-clause-partners : goal.returns-clause-partners
returns-clause-partners c =
    let compared : IsCompared c.args.old.now c.args.new.now c.in_ok-compared.compared = search rules in
    partners_there c.args.old.now c.args.new.now c.in_ok-compared.compared compared
