use mir.Syntax.{w128}
use mir.Val.{SFits}
use Rattle.std.proofs.Common.{rules, ◌∙◌, arith}
use Rattle.std.proofs.lemmas.Int.{to_z-of_z}
use Rattle.ndr_decoder_state.proofs.Values.{value_keepable}
use Rattle.ndr_decoder_state.proofs.octets.read_value.Goals as goal

pub returns-clause-keepable : goal.returns-clause-keepable
returns-clause-keepable c =
    let fits : SFits w128 c.read_number.result = search rules in
    value_keepable c.args.order c.args.prim c.args.octets.now _ c.requires.wide (λ k. omega (arith, c.type_inv.octets k)) (to_z-of_z w128 c.read_number.result fits ∙ c.read_number.ensures)
