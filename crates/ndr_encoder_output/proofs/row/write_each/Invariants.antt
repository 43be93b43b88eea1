use Rattle.std.proofs.Common.{◌≡◌, ◌+◌, ◌-◌, ◌*◌, ◌++◌, true, length, take, drop}
use Rattle.std.specs.List.{AllByRecursion}
use Rattle.nd_types.specs.Table.{width, in_range}
use Rattle.nd_flat.specs.FlatForm.{row_values, row_numbers}
use Rattle.ndr_encoder_output.specs.Filling.{written_all}
use Rattle.ndr_encoder_output.proofs.row.write_each.Given as goal

abbrev pub invariant-loop-at : goal.invariant-loop-at
invariant-loop-at l = record {
  read : l.from + (l.row.count - l._at) * width l.row.of ≡ length l.row.octets.now;
  room : l.end + (l.row.count - l._at) * width l.prim ≡ l.at + l.row.count * width l.prim;
  range : AllByRecursion (λ z. in_range l.prim z ≡ true) (row_values l.row.order l.row.of (l.row.count - l._at) (drop l.from l.row.octets.now));
  written : take l.end l.out ++ written_all l.order l.prim (row_values l.row.order l.row.of (l.row.count - l._at) (drop l.from l.row.octets.now))
      ≡ take l.at l.initial.out ++ written_all l.order l.prim (row_numbers l.row);
}
