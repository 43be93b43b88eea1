use Rattle.std.proofs.Common.{map, refl}
use Rattle.nd_flat.specs.FlatForm.{row_numbers}
use Rattle.library_types.specs.Low.{low}
use Rattle.library_nodes.proofs.Many.{many_lows, numbers_many}
use Rattle.library_nodes.proofs.rows.add_row.Goals as goal

pub returns : goal.returns
returns c a fs h =
    let r = c.args.row.now in
    rw c.with_more.ensures
    (numbers_many fs (row_numbers r) (map low (row_numbers r)) a c.args.list.now _ refl refl c.in_ok-push_row.ensures refl r.count c.args.unfinished
    (many_lows r.order r.of r.count r.octets.now) c.requires.some c.requires.fits h)
