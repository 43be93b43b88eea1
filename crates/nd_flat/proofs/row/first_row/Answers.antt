use Rattle.std.proofs.Common.{ap, ◌≡◌, ◌+◌, ◌-◌, ◌*◌, ◌≤◌, length, arith}
use Rattle.nd_types.specs.Table.{width}
use Rattle.nd_flat.proofs.RowLaws.{row_cut, rest_there}
use Rattle.nd_flat.proofs.row.first_row.Goals as goal

pub returns-clause-numbers : goal.returns-clause-numbers
returns-clause-numbers c =
    let r = c.args.row in
    let some = c.args.some in
    let size : c.octets_of.result ≡ some * width r.of = c.octets_of.ensures in
    let there : r.from + some * width r.of + (r.count - some) * width r.of ≤ length c.args.octets.now = rest_there c.args.octets.now r some c.requires.some c.requires.there in
    row_cut r.order r.of some r.from (r.from + c.octets_of.result) c.args.octets.now (ap (λ k. r.from + k) c.octets_of.ensures) (omega (arith, size, there))
