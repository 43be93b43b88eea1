use Rattle.std.proofs.Common.{◌∷◌, rules, ap, sym}
use Rattle.std.proofs.lemmas.Int.{to_z-of_z}
use mir.Val.{SFits}
use mir.Syntax.{w128}
use Rattle.ndr_encoder_laws.specs.pieces.Pieces.{Figure}
use Rattle.ndr_encoder_value.proofs.Going.{able_from, able_on, moves_from, moves_on}
use Rattle.ndr_encoder_value.proofs.NextNumbers.{number_after}
use Rattle.ndr_encoder_value.proofs.numbers.write_after.Goals as goal

pub gap-requires : goal.gap-requires
gap-requires g c =
    let (qs, able) = c.requires.able in (
      Figure c.args.prim c.args.value ∷ qs,
      able_from g.O.Output.can g.O.Output.whole _ _ _ (number_after c.args.to c.args.prim c.args.value qs c.requires.wide c.requires.some) able,
    )

pub figure-requires : goal.figure-requires
figure-requires g c =
    let (qs, able) = c.requires.able in
    let fits : SFits w128 c.args.value = search rules in (
      qs,
      able_from g.O.Output.can g.O.Output.whole _ _ _ (ap (λ z. Figure c.args.prim z ∷ qs) (sym (to_z-of_z w128 c.args.value fits)))
          (able_on g.O.Output.can g.O.Output.whole _ _ _ _ (c.gap.ensures (Figure c.args.prim c.args.value ∷ qs))
          (able_from g.O.Output.can g.O.Output.whole _ _ _ (number_after c.args.to c.args.prim c.args.value qs c.requires.wide c.requires.some) able)),
    )

pub returns : goal.returns
returns g c = λ qs.
    let fits : SFits w128 c.args.value = search rules in
    moves_from g.O.Output.can g.O.Output.whole _ _ _ _ _ (number_after c.args.to c.args.prim c.args.value qs c.requires.wide c.requires.some)
    (moves_on g.O.Output.can g.O.Output.whole _ _ _ _ _ _ (c.gap.ensures (Figure c.args.prim c.args.value ∷ qs))
    (moves_from g.O.Output.can g.O.Output.whole _ _ _ _ _ (ap (λ z. Figure c.args.prim z ∷ qs) (sym (to_z-of_z w128 c.args.value fits))) (c.figure.ensures qs)))
