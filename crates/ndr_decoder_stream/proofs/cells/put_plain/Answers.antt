use Rattle.std.proofs.Common.{◌≡◌, ◌+◌, ◌<◌, ◌^◌, length, ap, sym, ◌∙◌, subst, arith}
use Rattle.ndr_decoder_stream.specs.Entries.{IsSound}
use Rattle.ndr_decoder_stream.proofs.CellsKept.{put_last, sound_plain}
use Rattle.ndr_decoder_stream.proofs.cells.put_plain.Goals as goal

pub returns-then-at-as_slice-clause-put : goal.returns-then-at-as_slice-clause-put
returns-then-at-as_slice-clause-put c =
    put_last c.args.entries.now.items c.add.new.list.items c.args.at _ (c.if-at-as_slice.true ∙ ap length c.as_slice.ensures) c.in_ok-add.ensures.ok

pub returns-then-at-as_slice-clause-sound : goal.returns-then-at-as_slice-clause-sound
returns-then-at-as_slice-clause-sound c l s =
    let e : c.args.at ≡ length c.args.entries.now.items = c.if-at-as_slice.true ∙ ap length c.as_slice.ensures in
    let small : c.args.at + 1 < 2 ^ 32 = c.requires.small in
    subst (IsSound l) (sym c.in_ok-add.ensures.ok) (sound_plain l c.args.entries.now.items (omega (arith, e, small)) s)
