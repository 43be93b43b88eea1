use Rattle.std.proofs.Common.{◌∷◌}
use Rattle.nd_value.specs.Tree.{flat}
use Rattle.ndr_encoder_laws.specs.pieces.Pieces.{four}
use Rattle.ndr_encoder_value.specs.Elements.{elements_pieces}
use Rattle.ndr_encoder_value.proofs.Going.{moves_on, able_on}
use Rattle.ndr_encoder_value.proofs.struct_arrays.write_counted.Goals as goal

pub four-requires : goal.four-requires
four-requires g c =
    let rest = elements_pieces c.args.of.now c.args.count (flat c.args.walk.now) in
    (rest, able_on g.O.Output.can g.O.Output.whole _ _ _ _ (c.gap.ensures (four c.args.max ∷ rest)) c.requires.able)

pub write_elements-requires-clause-able : goal.write_elements-requires-clause-able
write_elements-requires-clause-able g c =
    let rest = elements_pieces c.args.of.now c.args.count (flat c.args.walk.now) in
    able_on g.O.Output.can g.O.Output.whole _ _ _ _ (c.four.ensures rest)
    (able_on g.O.Output.can g.O.Output.whole _ _ _ _ (c.gap.ensures (four c.args.max ∷ rest)) c.requires.able)

pub returns-clause-written : goal.returns-clause-written
returns-clause-written g c =
    let rest = elements_pieces c.args.of.now c.args.count (flat c.args.walk.now) in
    moves_on g.O.Output.can g.O.Output.whole _ _ _ _ _ _ (c.gap.ensures (four c.args.max ∷ rest))
    (moves_on g.O.Output.can g.O.Output.whole _ _ _ _ _ _ (c.four.ensures rest) c.in_ok-write_elements.ensures.written)
