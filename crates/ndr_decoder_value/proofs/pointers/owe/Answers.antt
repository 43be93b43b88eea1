use Rattle.std.proofs.Common.{ap, refl}
use Rattle.ndr_decoder_laws.specs.steps.Steps.{goes}
use Rattle.ndr_decoder_state.specs.Seen.{state_of}
use Rattle.ndr_decoder_value.proofs.Owing.{owing_is, spans_pushed}
use Rattle.ndr_decoder_value.proofs.pointers.owe.Goals as goal

pub returns-clause-does : goal.returns-clause-does
returns-clause-does c =
    let m = c.add.new.self in
    ap goes (owing_is (state_of c.args.machine.now) (state_of m) m.wanted.items m.fresh.items c.push.new.list.items c.args.to.class c.args.to.to c.args.to.run c.args.cell
    c.in_ok-add.ensures.ok refl c.in-Ok.ensures.ok)

pub invariant_of-machine : goal.invariant_of-machine
invariant_of-machine c =
    let m = c.add.new.self in
    record {
      keepable = m.keepable;
      small = m.small;
      spans = spans_pushed m.wanted.items m.fresh.items c.push.new.list.items c.args.to.class c.args.to.to c.args.to.run c.args.cell c.push.result c.push.ensures.ok c.push.ensures.err m.spans;
      counted = m.counted;
      numbered = m.numbered;
    }
