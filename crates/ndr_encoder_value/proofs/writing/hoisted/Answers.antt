use Rattle.std.proofs.Common.{◌∷◌}
use Rattle.ndr_encoder_laws.specs.pieces.Pieces.{four}
use Rattle.ndr_encoder_value.proofs.Going.{able_on, moves_on}
use Rattle.ndr_encoder_value.proofs.writing.hoisted.Goals as goal

pub four-requires : goal.four-requires
four-requires g c = (c.requires.0, able_on g.O.Output.can g.O.Output.whole _ _ _ _ (c.gap.ensures (four c.args.max ∷ c.requires.0)) c.requires.1)

pub returns-clause-written : goal.returns-clause-written
returns-clause-written g c = λ qs. moves_on g.O.Output.can g.O.Output.whole _ _ _ _ _ _ (c.gap.ensures (four c.args.max ∷ qs)) (c.four.ensures qs)
