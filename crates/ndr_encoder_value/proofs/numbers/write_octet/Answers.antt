use Rattle.std.proofs.Common.{◌∷◌, ◌++◌, [], ap, sym, rules}
use Rattle.std.proofs.lemmas.Int.{to_z-of_z}
use mir.Val.{SFits}
use mir.Syntax.{w128}
use Rattle.ndr_encoder_laws.specs.pieces.Pieces.{Figure, gap_pieces}
use Rattle.ndr_encoder_value.proofs.Going.{able_from, moves_from}
use Rattle.ndr_encoder_value.proofs.numbers.write_octet.Goals as goal

pub figure-requires : goal.figure-requires
figure-requires g c =
    let (qs, able) = c.requires.able in
    let fits : SFits w128 c.args.value = search rules in (
      qs,
      able_from g.O.Output.can g.O.Output.whole _ _ _ (ap (λ z. Figure c.args.prim z ∷ qs) (sym (to_z-of_z w128 c.args.value fits)))
          (able_from g.O.Output.can g.O.Output.whole _ _ _ (ap (λ n. (gap_pieces n ++ Figure c.args.prim c.args.value ∷ []) ++ qs) c.requires.wide) able),
    )

pub returns : goal.returns
returns g c = λ qs.
    let fits : SFits w128 c.args.value = search rules in
    moves_from g.O.Output.can g.O.Output.whole _ _ _ _ _ (ap (λ n. (gap_pieces n ++ Figure c.args.prim c.args.value ∷ []) ++ qs) c.requires.wide)
    (moves_from g.O.Output.can g.O.Output.whole _ _ _ _ _ (ap (λ z. Figure c.args.prim z ∷ qs) (sym (to_z-of_z w128 c.args.value fits))) (c.figure.ensures qs))
