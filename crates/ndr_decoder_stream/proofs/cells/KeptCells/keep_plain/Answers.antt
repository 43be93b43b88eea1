use Rattle.std.proofs.Common.{map, refl, subst}
use Rattle.ndr_decoder_laws.specs.stream.Between.{CellKept}
use Rattle.ndr_decoder_stream.specs.Cells.{CellsSeen}
use Rattle.ndr_decoder_stream.specs.Entries.{entry_seen, plain}
use Rattle.ndr_decoder_stream.proofs.CellsKept.{entry_put, same_grown}
use Rattle.ndr_decoder_stream.proofs.cells.KeptCells.keep_plain.Goals as goal

pub invariant_of-self : goal.invariant_of-self
invariant_of-self c = c.in_err-put_plain.ensures.sound c.self.inside.lists c.self.invariant

pub invariant_of-self-2 : goal.invariant_of-self-2
invariant_of-self-2 c = c.in_ok-put_plain.ensures.sound c.self.inside.lists c.self.invariant

pub returns : goal.returns
returns c =
    record {
      kept = subst (λ (s : CellsSeen). CellKept c.args.cell.0 plain s.items (map (entry_seen c.self.inside.lists) c.put_plain.new.entries.items)) c.self.view_is
          (entry_put c.self.inside.lists c.self.inside.lists c.self.inside.entries.items c.put_plain.new.entries.items c.args.cell.0 _ plain c.requires.there (same_grown c.self.inside.lists)
          c.self.invariant.listed c.in_ok-put_plain.ensures.put refl);
    }
