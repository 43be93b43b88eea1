use Rattle.ndr_decoder_value.proofs.RowItems.{IsRowNoted}
use Rattle.ndr_decoder_value.proofs.rows.note_row.Given as goal

abbrev pub invariant-loop-i : goal.invariant-loop-i
invariant-loop-i g l =
    IsRowNoted l.order l.prim l.machine.home l.machine.at l.machine.count l.octets l.i l.fn.items l.items (g.L.Ledger.number l.fn.steps) (g.L.Ledger.number l.steps)
