use Rattle.std.proofs.Common.{◌≡◌, ◌+◌, ◌<◌, ◌^◌, length, ap, sym, ◌∙◌, subst, arith}
use Rattle.std.proofs.lemmas.List.{length-append}
use Rattle.ndr_decoder_stream.specs.Entries.{IsSound, said_at}
use Rattle.ndr_decoder_stream.proofs.CellsKept.{none_pushed, sound_unread}
use Rattle.ndr_decoder_stream.proofs.cells.reach.Goals as goal

pub returns-in_default-clause-same : goal.returns-in_default-clause-same
returns-in_default-clause-same c ks i = ap (λ es. said_at ks es i) c.in_default.ensures.err ∙ c.loop-next.invariant.0 ks i

pub returns-in_default-clause-sound : goal.returns-in_default-clause-sound
returns-in_default-clause-sound c n a = subst (IsSound n) (sym c.in_default.ensures.err) (c.loop-next.invariant.1 n a)

pub loop-next-preserved : goal.loop-next-preserved
loop-next-preserved c =
    let e : length c.add.new.list.items ≡ length c.loop-next.entries.items + 1 = ap length c.in-Ok.ensures.ok ∙ length-append c.loop-next.entries.items _ in
    let l : c.loop-next._next ≡ length c.loop-next.entries.items = c.loop-next.invariant.2 in
    let small : c.args.at + 1 < 2 ^ 32 = c.requires.small in (
      λ ks i. ap (λ es. said_at ks es i) c.in-Ok.ensures.ok ∙ none_pushed ks c.loop-next.entries.items i ∙ c.loop-next.invariant.0 ks i,
      λ n a. subst (IsSound n) (sym c.in-Ok.ensures.ok) (sound_unread n c.loop-next.entries.items (omega (arith, l, small, c.loop-next-test.true)) (c.loop-next.invariant.1 n a)),
      omega (arith, e, l),
    )
