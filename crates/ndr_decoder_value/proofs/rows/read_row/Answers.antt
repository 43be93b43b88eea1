use Rattle.ndr_decoder_value.proofs.RowStates.{row_nodes, row_cells}
use Rattle.ndr_decoder_value.proofs.rows.read_row.Goals as goal

pub invariant_of-machine-2 : goal.invariant_of-machine-2
invariant_of-machine-2 g c =
    let m = c.args.machine.now in
    let n = c.args.count in
    record {
      keepable = m.keepable;
      small = m.small;
      spans = m.spans;
      counted = row_nodes m c.add_row.new.builder c.args.order c.args.prim n c.args.octets.now c.in_ok-add_row.ensures.ok;
      numbered = row_cells m c.add_row.new.builder c.args.order c.args.prim n c.args.octets.now c.in_ok-add_row.ensures.ok;
    }
