use Rattle.std.proofs.Common.{refl}
use Rattle.ndr_decoder_state.specs.Seen.{state_of}
use Rattle.ndr_decoder_fast.proofs.Owing.{owing_is, spans_pushed}
use Rattle.ndr_decoder_fast.proofs.forms.owe.Goals as goal

pub returns-clause-ok : goal.returns-clause-ok
returns-clause-ok c =
    let m = c.add_node.new.machine in
    owing_is (state_of c.args.machine.now) (state_of m) m.wanted.items m.fresh.items c.push.new.list.items c.args.class c.args.to c.args.run c.args.cell
    c.in_ok-add_node.ensures.ok refl c.in-Ok.ensures.ok

pub invariant_of-machine : goal.invariant_of-machine
invariant_of-machine c =
    let m = c.add_node.new.machine in
    record {
      keepable = m.keepable;
      small = m.small;
      spans = spans_pushed m.wanted.items m.fresh.items c.push.new.list.items c.args.class c.args.to c.args.run c.args.cell c.push.result c.push.ensures.ok c.push.ensures.err m.spans;
      counted = m.counted;
      numbered = m.numbered;
    }
