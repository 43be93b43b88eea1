use Rattle.std.proofs.Common.{◌≡◌, [], Ok, OnOk, ap, ◌∙◌, subst, le_trans}
use Rattle.std.proofs.lemmas.Option.{slice_get_within}
use Rattle.nd_base.specs.Over.{source_over}
use Rattle.ndr_decoder_laws.specs.runs.Reaching.{IsSafe, begins}
use Rattle.ndr_decoder_state.specs.declared.fault.Progress.TheVariants as progress
use Rattle.ndr_decoder_state.specs.Notes.{notes_seen}
use Rattle.ndr_decoder_state.specs.Seen.{state_of, outside}
use Rattle.ndr_decoder_value.specs.Reaching.{Moves, Turns}
use Rattle.ndr_decoder_value.proofs.Leaping.{ends_after}
use Rattle.ndr_decoder_value.proofs.Looping.{stays_on, still_safe}
use Rattle.ndr_decoder_value.proofs.running.run.Goals as goal

pub at-instr-requires : goal.at-instr-requires
at-instr-requires g c =
    let safe : IsSafe c.args.code.now (state_of c.args.machine.now) = c.requires.safe [] [] (state_of c.args.machine.now) begins in
    slice_get_within c.args.code.now c.args.machine.now.pc safe.i safe.there

pub run_first-requires-clause-safe : goal.run_first-requires-clause-safe
run_first-requires-clause-safe g c =
    let m = c.args.machine.now in
    let n = c.take_lead.new.machine in
    let more : c.take_lead.result ≡ Ok progress.More = c.in-Ok-More.is ∙ ap Ok c.in-Ok-More.field-0-is in
    let source = source_over g.S.Source.seen c.args.source.now c.take_lead.new.source in
    let notes = notes_seen c.args.items.now c.take_lead.new.items (g.L.Ledger.number c.args.steps.now) (g.L.Ledger.number c.take_lead.new.steps) m.cells n.cells in
    let moves : Moves c.args.values.now c.args.order c.args.code.now m.home (state_of m) source notes (state_of n) =
    subst (λ r. Turns c.args.values.now c.args.order c.args.code.now m.home (state_of m) source notes (state_of n) r) more c.take_lead.ensures.turns in
    let stays : outside n ≡ outside m = subst (λ r. OnOk r (outside n ≡ outside m)) more c.take_lead.ensures.outside in
    still_safe moves (ap (λ u. u.home) stays) c.requires.safe

pub returns-in-Ok-More : goal.returns-in-Ok-More
returns-in-Ok-More g c =
    let m = c.args.machine.now in
    let n = c.take_lead.new.machine in
    let more : c.take_lead.result ≡ Ok progress.More = c.in-Ok-More.is ∙ ap Ok c.in-Ok-More.field-0-is in
    let source = source_over g.S.Source.seen c.args.source.now c.take_lead.new.source in
    let notes = notes_seen c.args.items.now c.take_lead.new.items (g.L.Ledger.number c.args.steps.now) (g.L.Ledger.number c.take_lead.new.steps) m.cells n.cells in
    let moves : Moves c.args.values.now c.args.order c.args.code.now m.home (state_of m) source notes (state_of n) =
    subst (λ r. Turns c.args.values.now c.args.order c.args.code.now m.home (state_of m) source notes (state_of n) r) more c.take_lead.ensures.turns in
    let stays : outside n ≡ outside m = subst (λ r. OnOk r (outside n ≡ outside m)) more c.take_lead.ensures.outside in
    record {
      ends = ends_after c.args.values.now c.args.order c.args.code.now m.home (g.S.Source.seen c.args.source.now).left (g.S.Source.seen c.take_lead.new.source).left
          (g.S.Source.seen c.run_first.new.source).left
          (g.S.Source.seen c.take_lead.new.source).ended (g.S.Source.seen c.run_first.new.source).ended (g.S.Source.seen c.args.source.now).faults (g.S.Source.seen c.take_lead.new.source).faults
          (g.S.Source.seen c.run_first.new.source).faults c.args.items.now c.take_lead.new.items c.run_first.new.items (g.L.Ledger.number c.args.steps.now) (g.L.Ledger.number c.take_lead.new.steps)
          (g.L.Ledger.number c.run_first.new.steps) m.cells n.cells c.run_first.new.machine.cells (state_of m) (state_of n) (state_of c.run_first.new.machine) n.home
          (ap (λ u. u.home) stays) moves c.take_lead.ensures.later c.run_first.result c.run_first.ensures.ends;
      outside = stays_on c.run_first.result (outside c.run_first.new.machine) (outside n) (outside m) c.run_first.ensures.outside stays;
      later = le_trans c.take_lead.ensures.later c.run_first.ensures.later;
    }

pub returns-in-Ok-Whole : goal.returns-in-Ok-Whole
returns-in-Ok-Whole g c =
    let m = c.args.machine.now in
    let n = c.take_lead.new.machine in
    let whole : c.take_lead.result ≡ Ok progress.Whole = c.in-Ok-Whole.is ∙ ap Ok c.in-Ok-Whole.field-0-is in
    let source = source_over g.S.Source.seen c.args.source.now c.take_lead.new.source in
    let notes = notes_seen c.args.items.now c.take_lead.new.items (g.L.Ledger.number c.args.steps.now) (g.L.Ledger.number c.take_lead.new.steps) m.cells n.cells in
    record {
      ends = subst (λ r. Turns c.args.values.now c.args.order c.args.code.now m.home (state_of m) source notes (state_of n) r) whole c.take_lead.ensures.turns;
      outside = subst (λ r. OnOk r (outside n ≡ outside m)) whole c.take_lead.ensures.outside;
      later = c.take_lead.ensures.later;
    }

pub returns-in-Err : goal.returns-in-Err
returns-in-Err g c =
    let m = c.args.machine.now in
    let n = c.take_lead.new.machine in
    let source = source_over g.S.Source.seen c.args.source.now c.take_lead.new.source in
    let notes = notes_seen c.args.items.now c.take_lead.new.items (g.L.Ledger.number c.args.steps.now) (g.L.Ledger.number c.take_lead.new.steps) m.cells n.cells in
    record {
      ends = subst (λ r. Turns c.args.values.now c.args.order c.args.code.now m.home (state_of m) source notes (state_of n) r) c.in-Err.is c.take_lead.ensures.turns;
      outside = tt;
      later = c.take_lead.ensures.later;
    }
