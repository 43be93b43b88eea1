use mir.Syntax.{w128}
use mir.Val.{SFits}
use Rattle.std.proofs.Common.{rules, ap, sym, ◌∙◌}
use Rattle.std.proofs.lemmas.Int.{to_z-of_z}
use Rattle.nd_types.specs.Number.{value_of_octets}
use Rattle.ndr_decoder_state.proofs.octets.read_number.Goals as goal

pub returns-in-Long : goal.returns-in-Long
returns-in-Long c =
    let fits : SFits w128 c.read_long.result = search rules in
    to_z-of_z w128 c.read_long.result fits ∙ c.read_long.ensures ∙ ap (λ p. value_of_octets c.args.order p c.args.octets.now) (sym c.in-Long.is)
