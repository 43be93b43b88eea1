use Rattle.std.proofs.Common.{[], ◌≡◌, OnOk, Ok, refl, ap, ◌∙◌, subst, le_refl, le_trans}
use Rattle.std.proofs.lemmas.Option.{slice_get_within}
use Rattle.std.proofs.KnownBytes.{Consumes-nil}
use Rattle.ndr_decoder_laws.specs.runs.Reaching.{IsSafe, begins}
use Rattle.ndr_decoder_state.specs.declared.fault.Progress.TheVariants as progress
use Rattle.ndr_decoder_state.specs.Seen.{state_of, outside}
use Rattle.ndr_decoder_value.proofs.Moving.{moves_none, given_up}
use Rattle.ndr_decoder_value.proofs.Looping.{still_safe, goes_on, ends_whole, ends_faulty}
use Rattle.ndr_decoder_value.proofs.running.run_on.Goals as goal

pub at-instr-requires : goal.at-instr-requires
at-instr-requires g c =
    let safe : IsSafe c.args.code.now (state_of c.loop-turn.machine) =
    still_safe c.loop-turn.invariant.0 (ap (λ u. u.home) c.loop-turn.invariant.1.0) c.requires.safe [] [] (state_of c.loop-turn.machine) begins in
    slice_get_within c.args.code.now c.loop-turn.machine.pc safe.i safe.there

pub loop-turn-init : goal.loop-turn-init
loop-turn-init g c = (
  moves_none c.args.values.now c.args.order c.args.code.now c.args.machine.now.home (state_of c.args.machine.now) (g.S.Source.seen c.args.source.now).left
      (g.S.Source.seen c.args.source.now).ended (g.S.Source.seen c.args.source.now).faults c.args.items.now (g.L.Ledger.number c.args.steps.now) c.args.machine.now.cells
      (Consumes-nil (g.S.Source.seen c.args.source.now).left),
  (refl, le_refl _),
)

pub take_quick-requires-clause-safe : goal.take_quick-requires-clause-safe
take_quick-requires-clause-safe g c = still_safe c.loop-turn.invariant.0 (ap (λ u. u.home) c.loop-turn.invariant.1.0) c.requires.safe

pub loop-turn-preserved-in-More : goal.loop-turn-preserved-in-More
loop-turn-preserved-in-More g c =
    let more : Ok c.take_quick.result ≡ Ok progress.More = ap Ok c.in-More.is in (
      goes_on c.loop-turn.invariant.0 (ap (λ u. u.home) c.loop-turn.invariant.1.0) (g.S.Source.seen c.take_quick.new.source).left (g.S.Source.seen c.take_quick.new.source).ended
          (g.S.Source.seen c.take_quick.new.source).faults
          c.take_quick.new.items (g.L.Ledger.number c.take_quick.new.steps) c.take_quick.new.machine.cells (state_of c.take_quick.new.machine) (Ok c.take_quick.result) more c.take_quick.ensures.turns,
      (c.take_quick.ensures.outside ∙ c.loop-turn.invariant.1.0, le_trans c.loop-turn.invariant.1.1 c.take_quick.ensures.later),
    )

pub returns-in-Whole : goal.returns-in-Whole
returns-in-Whole g c =
    let whole : Ok c.take_quick.result ≡ Ok progress.Whole = ap Ok c.in-Whole.is in
    record {
      ends = ends_whole c.loop-turn.invariant.0 (ap (λ u. u.home) c.loop-turn.invariant.1.0) (g.S.Source.seen c.take_quick.new.source).left (g.S.Source.seen c.take_quick.new.source).ended
          (g.S.Source.seen c.take_quick.new.source).faults
          c.take_quick.new.items (g.L.Ledger.number c.take_quick.new.steps) c.take_quick.new.machine.cells (state_of c.take_quick.new.machine)
          (Ok c.take_quick.result) whole c.take_quick.ensures.turns;
      outside = c.take_quick.ensures.outside ∙ c.loop-turn.invariant.1.0;
      later = le_trans c.loop-turn.invariant.1.1 c.take_quick.ensures.later;
    }

pub take_some-requires-clause-safe : goal.take_some-requires-clause-safe
take_some-requires-clause-safe g c = still_safe c.loop-turn.invariant.0 (ap (λ u. u.home) c.loop-turn.invariant.1.0) c.requires.safe

pub loop-turn-preserved : goal.loop-turn-preserved
loop-turn-preserved g c =
    let more : c.take_some.result ≡ Ok progress.More = c.in-Ok-More.is ∙ ap Ok c.in-Ok-More.field-0-is in
    let stays : outside c.take_some.new.machine ≡ outside c.loop-turn.machine =
    subst (λ r. OnOk r (outside c.take_some.new.machine ≡ outside c.loop-turn.machine)) more c.take_some.ensures.outside in (
      goes_on c.loop-turn.invariant.0 (ap (λ u. u.home) c.loop-turn.invariant.1.0) (g.S.Source.seen c.take_some.new.source).left (g.S.Source.seen c.take_some.new.source).ended
          (g.S.Source.seen c.take_some.new.source).faults
          c.take_some.new.items (g.L.Ledger.number c.take_some.new.steps) c.take_some.new.machine.cells (state_of c.take_some.new.machine) c.take_some.result more c.take_some.ensures.turns,
      (stays ∙ c.loop-turn.invariant.1.0, le_trans c.loop-turn.invariant.1.1 c.take_some.ensures.later),
    )

pub returns-in-Ok-Whole : goal.returns-in-Ok-Whole
returns-in-Ok-Whole g c =
    let whole : c.take_some.result ≡ Ok progress.Whole = c.in-Ok-Whole.is ∙ ap Ok c.in-Ok-Whole.field-0-is in
    let stays : outside c.take_some.new.machine ≡ outside c.loop-turn.machine =
    subst (λ r. OnOk r (outside c.take_some.new.machine ≡ outside c.loop-turn.machine)) whole c.take_some.ensures.outside in
    record {
      ends = ends_whole c.loop-turn.invariant.0 (ap (λ u. u.home) c.loop-turn.invariant.1.0) (g.S.Source.seen c.take_some.new.source).left (g.S.Source.seen c.take_some.new.source).ended
          (g.S.Source.seen c.take_some.new.source).faults
          c.take_some.new.items (g.L.Ledger.number c.take_some.new.steps) c.take_some.new.machine.cells (state_of c.take_some.new.machine) c.take_some.result whole c.take_some.ensures.turns;
      outside = stays ∙ c.loop-turn.invariant.1.0;
      later = le_trans c.loop-turn.invariant.1.1 c.take_some.ensures.later;
    }

pub returns-in-Err : goal.returns-in-Err
returns-in-Err g c = record {
  ends = ends_faulty c.loop-turn.invariant.0 (ap (λ u. u.home) c.loop-turn.invariant.1.0) (g.S.Source.seen c.take_some.new.source).left (g.S.Source.seen c.take_some.new.source).ended
      (g.S.Source.seen c.take_some.new.source).faults
      c.take_some.new.items (g.L.Ledger.number c.take_some.new.steps) c.take_some.new.machine.cells
      (state_of c.take_some.new.machine) c.loop-turn.invariant.1.1 c.take_some.result c.in-Err.fault c.in-Err.is c.take_some.ensures.turns;
  outside = tt;
  later = le_trans c.loop-turn.invariant.1.1 c.take_some.ensures.later;
}

pub returns : goal.returns
returns g c = record {
  ends = given_up c.args.values.now c.args.order c.args.code.now c.args.machine.now.home (state_of c.args.machine.now) (state_of c.loop-turn.machine) _ _ c.loop-turn.invariant.0 c.requires.safe;
  outside = tt;
  later = c.loop-turn.invariant.1.1;
}
