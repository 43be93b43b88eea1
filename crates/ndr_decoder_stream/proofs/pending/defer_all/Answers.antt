use Rattle.std.proofs.Common.{◌≡◌, ◌<◌, ◌-◌, ◌∷◌, Some, length, ap, subst, ◌∙◌, arith}
use Rattle.std.specs.Prelude.{slice_get}
use Rattle.ndr_decoder_state.specs.Seen.{owed_of}
use Rattle.ndr_decoder_stream.specs.Seen.{pending_in}
use Rattle.ndr_decoder_stream.proofs.Deferred.{deferred_end, deferred_turn, got}
use Rattle.ndr_decoder_stream.proofs.pending.defer_all.Goals as goal

pub loop-at-preserved : goal.loop-at-preserved
loop-at-preserved c =
    let m = c.args.machine.now in
    let n : length c.as_slice-count.result.now ≡ length m.fresh.items = ap length c.as_slice-count.ensures.value in
    let l : c.loop-at.at < length m.fresh.items = omega (arith, c.loop-at-test.true, n) in
    let o = c.index-owed.result.now in
    let i : length c.as_slice-count.result.now - 1 - c.loop-at.at < length m.fresh.items = omega (arith, l, n) in
    let there : slice_get m.fresh.items (length m.fresh.items - 1 - c.loop-at.at) ≡ Some o =
    subst (λ k. slice_get m.fresh.items (k - 1 - c.loop-at.at) ≡ Some o) n (got m.fresh.items (length c.as_slice-count.result.now - 1 - c.loop-at.at) o i c.index-owed.ensures) in (
      deferred_turn m.wanted.items m.fresh.items (pending_in c.loop-at.wanted.items c.loop-at.todo.items) (pending_in c.defer.new.wanted.items c.defer.new.todo.items)
          (pending_in c.args.wanted.now.items c.args.todo.now.items) c.loop-at.at o l there c.loop-at.invariant.0
          (c.in_ok-defer.ensures.pending ∙ ap (λ us. owed_of us o ∷ pending_in c.loop-at.wanted.items c.loop-at.todo.items) c.as_slice.ensures.value),
      c.in_ok-defer.ensures.still,
    )

pub returns-clause-pending : goal.returns-clause-pending
returns-clause-pending c =
    let m = c.args.machine.now in
    let n : length c.as_slice-count.result.now ≡ length m.fresh.items = ap length c.as_slice-count.ensures.value in
    let f = c.loop-at-test.false in
    deferred_end m.wanted.items m.fresh.items (pending_in c.loop-at.wanted.items c.loop-at.todo.items) (pending_in c.args.wanted.now.items c.args.todo.now.items) c.loop-at.at
    (omega (arith, f, n)) c.loop-at.invariant.0
