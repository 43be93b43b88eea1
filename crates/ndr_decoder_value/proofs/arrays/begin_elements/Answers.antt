use Rattle.ndr_decoder_state.specs.Seen.{state_of}
use Rattle.ndr_decoder_value.proofs.Elements.{some_elements}
use Rattle.ndr_decoder_value.proofs.arrays.begin_elements.Goals as goal

pub returns-clause-does : goal.returns-clause-does
returns-clause-does c =
    some_elements c.args.count c.args.run (state_of c.args.machine.now) (state_of c.push.new.self) (state_of c.jump.new.self)
    c.if-count-eq0.false c.in_ok-push.ensures.ok c.jump.ensures.is
