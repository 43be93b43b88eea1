use Rattle.std.proofs.Common.{◌∷◌, ap, ◌∙◌}
use Rattle.nd_value.specs.Tree.{flat}
use Rattle.ndr_encoder_laws.specs.pieces.Pieces.{four}
use Rattle.ndr_encoder_laws.specs.written.Run.{offset_in, elements, row_at}
use Rattle.ndr_encoder_value.proofs.Going.{able_from, able_on, moves_from, moves_on}
use Rattle.ndr_encoder_value.proofs.Elements.{same_varying}
use Rattle.ndr_encoder_value.proofs.arrays.varying.Goals as goal

pub four-requires-2 : goal.four-requires-2
four-requires-2 g c =
    let G = c.requires.0 in (
      _,
      able_on g.O.Output.can g.O.Output.whole _ _ _ _
          (c.four.ensures
          (four c.count_of-count.result ∷ elements G (row_at c.args.code.now c.args.run) c.count_of-count.result c.args.run c.args.pc.now c.args.frames.now (flat c.next_node-node.new.walk)))
          (able_from g.O.Output.can g.O.Output.whole _ _ _
          (same_varying G (row_at c.args.code.now c.args.run) c.offset_of-offset.result c.count_of-count.result c.args.run c.args.pc.now c.args.frames.now (flat c.args.walk.now)
          (flat c.next_node-node.new.walk) (c.offset_of-offset.ensures ∙ ap (λ f. offset_in f.0) c.next_node-node.ensures.node)
          (c.count_of-count.ensures ∙ ap (λ f. f.1) c.next_node-node.ensures.node) c.next_node-node.ensures.rest) c.requires.1),
    )

pub elements-requires : goal.elements-requires
elements-requires g c =
    let G = c.requires.0 in (
      G,
      able_on g.O.Output.can g.O.Output.whole _ _ _ _
          (c.four-2.ensures (elements G (row_at c.args.code.now c.args.run) c.count_of-count.result c.args.run c.args.pc.now c.args.frames.now (flat c.next_node-node.new.walk)))
          (able_on g.O.Output.can g.O.Output.whole _ _ _ _
          (c.four.ensures
          (four c.count_of-count.result ∷ elements G (row_at c.args.code.now c.args.run) c.count_of-count.result c.args.run c.args.pc.now c.args.frames.now (flat c.next_node-node.new.walk)))
          (able_from g.O.Output.can g.O.Output.whole _ _ _
          (same_varying G (row_at c.args.code.now c.args.run) c.offset_of-offset.result c.count_of-count.result c.args.run c.args.pc.now c.args.frames.now (flat c.args.walk.now)
          (flat c.next_node-node.new.walk) (c.offset_of-offset.ensures ∙ ap (λ f. offset_in f.0) c.next_node-node.ensures.node)
          (c.count_of-count.ensures ∙ ap (λ f. f.1) c.next_node-node.ensures.node) c.next_node-node.ensures.rest) c.requires.1)),
    )

pub returns-clause-written : goal.returns-clause-written
returns-clause-written g c = λ G.
    moves_from g.O.Output.can g.O.Output.whole _ _ _ _ _
    (same_varying G (row_at c.args.code.now c.args.run) c.offset_of-offset.result c.count_of-count.result c.args.run c.args.pc.now c.args.frames.now (flat c.args.walk.now)
    (flat c.next_node-node.new.walk) (c.offset_of-offset.ensures ∙ ap (λ f. offset_in f.0) c.next_node-node.ensures.node)
    (c.count_of-count.ensures ∙ ap (λ f. f.1) c.next_node-node.ensures.node) c.next_node-node.ensures.rest)
    (moves_on g.O.Output.can g.O.Output.whole _ _ _ _ _ _ (c.four.ensures _) (moves_on g.O.Output.can g.O.Output.whole _ _ _ _ _ _ (c.four-2.ensures _) (c.elements.ensures G)))
