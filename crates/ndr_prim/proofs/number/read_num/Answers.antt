use Rattle.std.proofs.Common.{FitsSigned, ap, rules, ◌∙◌}
use Rattle.std.proofs.lemmas.Int.{to_z-of_z}
use Rattle.std.specs.Int.{w128}
use Rattle.nd_types.specs.Number.{as_signed}
use Rattle.nd_types.specs.Table.{width}
use Rattle.ndr_prim.proofs.Values.{value-signed}
use Rattle.ndr_prim.proofs.number.read_num.Goals as goal

pub returns-in-Small : goal.returns-in-Small
returns-in-Small c =
    let fits : FitsSigned w128 c.signed_of.result = search rules in
    to_z-of_z w128 c.signed_of.result fits ∙ c.signed_of.ensures ∙ ap (as_signed (width c.args.prim)) c.read_unsigned-number.ensures
    ∙ value-signed c.args.order c.args.prim c.args.from.now c.in-Small.is
