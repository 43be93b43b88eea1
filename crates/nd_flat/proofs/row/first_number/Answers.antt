use Rattle.std.proofs.Common.{ap, ◌∙◌, ◌+◌, rules}
use Rattle.std.proofs.lemmas.Int.{to_z-of_z}
use mir.Val.{SFits}
use mir.Syntax.{w128}
use Rattle.nd_types.specs.Number.{value_of_octets}
use Rattle.nd_types.specs.Table.{width}
use Rattle.nd_flat.proofs.RowLaws.{one_cut}
use Rattle.nd_flat.proofs.row.first_number.Goals as goal

pub returns : goal.returns
returns c =
    let fits : SFits w128 c.read_num.result = search rules in
    to_z-of_z w128 c.read_num.result fits ∙ c.read_num.ensures
    ∙ ap (value_of_octets c.args.row.order c.args.row.of)
    (one_cut c.args.row.from (c.args.row.from + c.width_of.result) (width c.args.row.of) c.args.octets.now (ap (λ w. c.args.row.from + w) c.width_of.ensures.value))
