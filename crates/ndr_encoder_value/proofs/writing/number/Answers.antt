use Rattle.std.proofs.Common.{◌∷◌, ap, sym, rules, ◌∙◌}
use Rattle.std.proofs.lemmas.Int.{to_z-of_z}
use mir.Val.{SFits}
use mir.Syntax.{w128}
use Rattle.ndr_encoder_laws.specs.pieces.Pieces.{Figure}
use Rattle.ndr_encoder_value.proofs.Going.{moves_from}
use Rattle.ndr_encoder_value.proofs.writing.number.Goals as goal

pub returns-clause-written : goal.returns-clause-written
returns-clause-written g c = λ qs.
    let fits : SFits w128 c.next_number-value.result = search rules in
    moves_from g.O.Output.can g.O.Output.whole _ _ _ _ _
    (ap (λ z. Figure c.args.prim z ∷ qs) (sym (to_z-of_z w128 c.next_number-value.result fits ∙ c.next_number-value.ensures.number)))
    (c.figure.ensures qs)
