use Rattle.std.proofs.Common.{Some, ap, sym, ◌∙◌}
use Rattle.nd_value.specs.Tree.{flat}
use Rattle.ndr_encoder_value.specs.Going.{left}
use Rattle.ndr_encoder_value.proofs.Going.{able_from, moves_from, moves_to, stays}
use Rattle.ndr_encoder_value.proofs.Elements.{back_first, back_none}
use Rattle.ndr_encoder_value.proofs.writing.go_back.Goals as goal

pub returns-in-None : goal.returns-in-None
returns-in-None g c = λ G. stays g.O.Output.can g.O.Output.whole _ _ _ (back_none G _ _ _ _ (sym c.pop.ensures.first ∙ c.in-None.is))

pub returns-in-Some-Call : goal.returns-in-Some-Call
returns-in-Some-Call g c =
    λ G. stays g.O.Output.can g.O.Output.whole _ _ _ (back_first G _ _ _ _ _ _ (sym c.pop.ensures.first ∙ c.in-Some-Call.is ∙ ap (λ f. Some f) c.in-Some-Call.field-0-is) c.pop.ensures.rest)

pub returns-in-Some-Array : goal.returns-in-Some-Array
returns-in-Some-Array g c = λ G.
    moves_to g.O.Output.can g.O.Output.whole _ _ _ _ _ (ap (λ b. left b (G c.next_element.new.pc c.next_element.new.frames (flat c.args.walk.now))) (sym c.next_element.ensures.on))
    (stays g.O.Output.can g.O.Output.whole _ _ _
    (back_first G _ _ _ _ _ _ (sym c.pop.ensures.first ∙ c.in-Some-Array.is ∙ ap (λ f. Some f) c.in-Some-Array.field-0-is) c.pop.ensures.rest
    ∙ c.next_element.ensures.next G c.args.run.now.code.now c.args.run.now.chunk (flat c.args.walk.now)))

pub next_of_pipe-requires : goal.next_of_pipe-requires
next_of_pipe-requires g c = (
  c.requires.0,
  able_from g.O.Output.can g.O.Output.whole _ _ _
      (back_first c.requires.0 _ _ _ _ _ _ (sym c.pop.ensures.first ∙ c.in-Some-Pipe.is ∙ ap (λ f. Some f) c.in-Some-Pipe.field-0-is) c.pop.ensures.rest) c.requires.1,
)

pub returns-in-Some-Pipe : goal.returns-in-Some-Pipe
returns-in-Some-Pipe g c = λ G.
    moves_to g.O.Output.can g.O.Output.whole _ _ _ _ _ (ap (λ b. left b (G c.next_of_pipe.new.pc c.next_of_pipe.new.frames (flat c.next_of_pipe.new.walk))) (sym c.next_of_pipe.ensures.on))
    (moves_from g.O.Output.can g.O.Output.whole _ _ _ _ _ (back_first G _ _ _ _ _ _ (sym c.pop.ensures.first ∙ c.in-Some-Pipe.is ∙ ap (λ f. Some f) c.in-Some-Pipe.field-0-is) c.pop.ensures.rest)
    (c.next_of_pipe.ensures.written G))
