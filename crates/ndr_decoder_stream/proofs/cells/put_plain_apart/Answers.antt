use Rattle.std.proofs.Common.{subst, sym}
use Rattle.ndr_decoder_stream.specs.Entries.{IsSound}
use Rattle.ndr_decoder_stream.proofs.CellsKept.{put_set, sound_set_plain}
use Rattle.ndr_decoder_stream.proofs.cells.put_plain_apart.Goals as goal

pub returns-clause-put : goal.returns-clause-put
returns-clause-put c = put_set c.args.entries.now.items c.reach.new.entries.items _ c.args.at _ c.in_ok-reach.ensures.long c.in_ok-reach.ensures.same c.put.ensures.is

pub returns-clause-sound : goal.returns-clause-sound
returns-clause-sound c l s = subst (IsSound l) (sym c.put.ensures.is) (sound_set_plain l c.reach.new.entries.items c.args.at (c.in_ok-reach.ensures.sound l s))
