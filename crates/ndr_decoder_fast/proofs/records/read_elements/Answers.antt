use Rattle.std.proofs.Common.{◌∙◌}
use Rattle.nd_flat.specs.Records.{members_of}
use Rattle.ndr_decoder_fast.proofs.ElementsTaken.{read_nodes, read_cells}
use Rattle.ndr_decoder_fast.proofs.Slots.{members_count}
use Rattle.ndr_decoder_fast.proofs.records.read_elements.Goals as goal

pub invariant_of-machine-2 : goal.invariant_of-machine-2
invariant_of-machine-2 g c =
    let m = c.args.machine.now in
    let e = c.args.elements.now in
    let ps = members_of e.members in
    record {
      keepable = m.keepable;
      small = m.small;
      spans = m.spans;
      counted =
          read_nodes m c.add_records.new.builder c.args.order ps e.count c.args.octets.now c.in_ok-add_records.ensures.ok c.from.result (c.from.ensures ∙ members_count e.members c.requires.whole);
      numbered = read_cells m c.add_records.new.builder c.args.order ps e.count c.args.octets.now c.in_ok-add_records.ensures.ok;
    }
