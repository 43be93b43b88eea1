use Rattle.std.proofs.Common.{◌-◌, refl}
use Rattle.ndr_encoder_value.proofs.Elements.{able_last, last_went, able_count, able_elements, chunk_went}
use Rattle.ndr_encoder_value.proofs.arrays.chunk.Goals as goal

pub four-requires : goal.four-requires
four-requires g c = (_, able_last g.O.Output.can g.O.Output.whole c.requires.0 _ _ _ _ _ _ _ _ _ c.if-left-eq0.true c.gap.ensures c.requires.1)

pub returns-then-left-eq0 : goal.returns-then-left-eq0
returns-then-left-eq0 g c = λ G. last_went g.O.Output.can g.O.Output.whole G _ _ _ _ _ _ _ _ _ _ c.if-left-eq0.true c.gap.ensures c.four.ensures

pub four-requires-2 : goal.four-requires-2
four-requires-2 g c = (
  _,
  able_count g.O.Output.can g.O.Output.whole c.requires.0 _ _ _ _ _ _ _ _
      (c.args.left - c.chunk_count-count.result) c.if-left-eq0.false c.chunk_count-count.ensures.count refl _ _ c.gap.ensures c.requires.1,
)

pub chunk_elements-requires : goal.chunk_elements-requires
chunk_elements-requires g c = (
  c.requires.0,
  able_elements g.O.Output.can g.O.Output.whole c.requires.0 _ _ _ _ _ _ _ _ _ c.if-left-eq0.false c.chunk_count-count.ensures.count refl _ _ _ c.gap.ensures c.four-2.ensures c.requires.1,
)

pub returns : goal.returns
returns g c = λ G.
    chunk_went g.O.Output.can g.O.Output.whole G _ _ _ _ _ _ _ _ _ c.if-left-eq0.false c.chunk_count-count.ensures.count refl _ _ _ _ _ c.gap.ensures c.four-2.ensures (c.chunk_elements.ensures G)
