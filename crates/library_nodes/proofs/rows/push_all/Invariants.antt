use Rattle.std.proofs.Common.{◌≡◌, ◌+◌, ◌-◌, ◌*◌, ◌++◌, length, map}
use Rattle.nd_types.specs.Table.{width}
use Rattle.nd_flat.specs.FlatForm.{row_numbers}
use Rattle.library_types.specs.Low.{low}
use Rattle.library_nodes.proofs.Many.{lows}
use Rattle.library_nodes.proofs.rows.push_all.Given as goal

abbrev pub invariant-loop-at : goal.invariant-loop-at
invariant-loop-at l = record {
  read : l.from + (l.row.count - l._at) * width l.row.of ≡ length l.row.octets.now;
  listed : l.numbers.items ++ lows l.row.order l.row.of (l.row.count - l._at) l.from l.row.octets.now ≡ l.initial.numbers.items ++ map low (row_numbers l.row);
}
