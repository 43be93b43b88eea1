use Rattle.std.proofs.Common.{◌≡◌, ◌-◌, None, map, subst, sym, ◌∙◌}
use Rattle.ndr_decoder_laws.specs.stream.Between.{CellKept, kept_at}
use Rattle.ndr_decoder_stream.specs.Cells.{CellsSeen}
use Rattle.ndr_decoder_stream.specs.Entries.{IsSound, counts_kept, entry_seen}
use Rattle.ndr_decoder_stream.proofs.CellsKept.{counted_short, entry_put, listed_short, put_set, sound_same, sound_set, unread_at}
use Rattle.ndr_decoder_stream.proofs.cells.KeptCells.keep_counts.Goals as goal

pub invariant_of-self : goal.invariant_of-self
invariant_of-self c = c.in_err-reach.ensures.sound c.self.inside.lists c.self.invariant

pub count-requires : goal.count-requires
count-requires c = record { few = counted_short c.self.inside.lists c.reach.new.entries.items (c.in_ok-reach.ensures.sound c.self.inside.lists c.self.invariant) }

pub invariant_of-self-in_err-entry : goal.invariant_of-self-in_err-entry
invariant_of-self-in_err-entry c =
    sound_same c.self.inside.lists c.count.new.lists c.reach.new.entries.items c.in_err-entry.ensures.grown c.in_err-entry.ensures.no_more
    (c.in_ok-reach.ensures.sound c.self.inside.lists c.self.invariant)

pub invariant_of-self-2 : goal.invariant_of-self-2
invariant_of-self-2 c =
    subst (IsSound c.count.new.lists) (sym c.put.ensures.is)
    (sound_set c.self.inside.lists c.count.new.lists c.reach.new.entries.items (c.args.cell.0 - 1) c.in_ok-entry.entry (counts_kept c.args.counts) c.in_ok-entry.ensures.grown
    c.in_ok-entry.ensures.more c.in_ok-reach.ensures.long
    (c.in_ok-reach.ensures.same c.self.inside.lists (c.args.cell.0 - 1)
    ∙ unread_at c.self.inside.lists c.self.inside.entries.items c.args.cell.0 c.requires.there (subst (λ (s : CellsSeen). kept_at s.items c.args.cell.0 ≡ None) (sym c.self.view_is) c.requires.unread))
    c.in_ok-entry.ensures.within c.in_ok-entry.ensures.seen (c.in_ok-reach.ensures.sound c.self.inside.lists c.self.invariant))

pub returns : goal.returns
returns c =
    record {
      kept = subst
          (λ (s : CellsSeen). CellKept c.args.cell.0 (counts_kept c.args.counts) s.items
          (map (entry_seen c.count.new.lists) c.put.new.entries.items)) c.self.view_is
          (entry_put c.self.inside.lists c.count.new.lists c.self.inside.entries.items c.put.new.entries.items c.args.cell.0 c.in_ok-entry.entry
          (counts_kept c.args.counts) c.requires.there
          c.in_ok-entry.ensures.grown c.self.invariant.listed
          (put_set c.self.inside.entries.items c.reach.new.entries.items _ (c.args.cell.0 - 1) c.in_ok-entry.entry c.in_ok-reach.ensures.long c.in_ok-reach.ensures.same c.put.ensures.is)
          c.in_ok-entry.ensures.seen);
    }
