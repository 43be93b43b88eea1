use mir.Syntax.{w128}
use mir.Val.{SFits}
use Rattle.std.proofs.Common.{rules, ap, ◌∙◌}
use Rattle.std.proofs.lemmas.Int.{to_z-of_z}
use Rattle.nd_types.specs.Number.{as_signed}
use Rattle.ndr_decoder_state.proofs.octets.read_long.Goals as goal

pub returns : goal.returns
returns c =
    let fits : SFits w128 c.signed_long.result = search rules in
    to_z-of_z w128 c.signed_long.result fits ∙ c.signed_long.ensures ∙ ap (as_signed 4) c.read_count.ensures
