use Rattle.std.proofs.Common.{◌≡◌, false, true, refl, Ok, ap, subst}
use Rattle.std.proofs.KnownBytes.{Consumes-nil}
use Rattle.nd_base.specs.Over.{source_over}
use Rattle.ndr_code.specs.declared.instr.Instr.TheVariants as op
use Rattle.ndr_decoder_fast.specs.Leaps.{Leaps}
use Rattle.ndr_decoder_state.specs.declared.fault.Progress.TheVariants as progress
use Rattle.ndr_decoder_state.specs.Notes.{notes_seen}
use Rattle.ndr_decoder_state.specs.Seen.{state_of}
use Rattle.ndr_decoder_value.specs.Reaching.{Moves}
use Rattle.ndr_decoder_value.proofs.Flowing.{flow_taken, home_over}
use Rattle.ndr_decoder_value.proofs.Leaping.{leapt_moves, stays_moves, leap_failed, turned_after}
use Rattle.ndr_decoder_value.proofs.Looping.{still_safe}
use Rattle.ndr_decoder_value.proofs.running.take_first.Goals as goal

pub returns-in_err-leapt-clause-turns : goal.returns-in_err-leapt-clause-turns
returns-in_err-leapt-clause-turns g c =
    let m = c.args.machine.now in
    let source = source_over g.S.Source.seen c.args.source.now c.try_leap.new.source in
    leap_failed c.args.values.now c.args.order c.args.code.now m.home (state_of m) source (g.L.Ledger.number c.args.steps.now) (g.L.Ledger.number c.try_leap.new.steps)
    c.args.items.now (state_of c.try_leap.new.machine) m.cells c.try_leap.new.machine.cells c.in_err-leapt.ensures.fault c.requires.safe c.in_err-leapt.field-0.0
    c.from_residual.result c.in_err-leapt.ensures.leaps c.from_residual.ensures.1

pub returns-then-not-leapt-clause-turns : goal.returns-then-not-leapt-clause-turns
returns-then-not-leapt-clause-turns g c =
    let m = c.args.machine.now in
    let source = source_over g.S.Source.seen c.args.source.now c.try_leap.new.source in
    stays_moves c.args.values.now c.args.order c.args.code.now m.home (state_of m) source (g.L.Ledger.number c.args.steps.now) (g.L.Ledger.number c.try_leap.new.steps)
    c.args.items.now (state_of c.try_leap.new.machine) m.cells c.try_leap.new.machine.cells
    (subst (λ b. Leaps c.args.values.now c.args.order c.args.code.now m.home (state_of m) source (g.L.Ledger.number c.args.steps.now) (g.L.Ledger.number c.try_leap.new.steps)
    (state_of c.try_leap.new.machine) (Ok b)) c.if-not-leapt.true c.in_ok-leapt.ensures.leaps)

pub returns-then-is_over-clause-turns : goal.returns-then-is_over-clause-turns
returns-then-is_over-clause-turns g c =
    let m = c.args.machine.now in
    let n = c.try_leap.new.machine in
    let k = g.L.Ledger.number c.try_leap.new.steps in
    let left = (g.S.Source.seen c.try_leap.new.source).left in
    let ended = (g.S.Source.seen c.try_leap.new.source).ended in
    let faults = (g.S.Source.seen c.try_leap.new.source).faults in
    let source = source_over g.S.Source.seen c.args.source.now c.try_leap.new.source in
    let moves : Moves c.args.values.now c.args.order c.args.code.now m.home (state_of m) source
    (notes_seen c.args.items.now c.args.items.now (g.L.Ledger.number c.args.steps.now) k m.cells n.cells) (state_of n) =
    leapt_moves c.args.values.now c.args.order c.args.code.now m.home (state_of m) source (g.L.Ledger.number c.args.steps.now) (g.L.Ledger.number c.try_leap.new.steps)
    c.args.items.now (state_of n) m.cells n.cells (c.in_ok-leapt.ensures.quiet c.if-not-leapt.false)
    (subst (λ b. Leaps c.args.values.now c.args.order c.args.code.now m.home (state_of m) source (g.L.Ledger.number c.args.steps.now) (g.L.Ledger.number c.try_leap.new.steps)
    (state_of n) (Ok b)) c.if-not-leapt.false c.in_ok-leapt.ensures.leaps) in
    let same : n.home ≡ m.home = ap (λ u. u.home) c.in_ok-leapt.ensures.outside in
    turned_after c.args.values.now c.args.order c.args.code.now m.home (g.S.Source.seen c.args.source.now).left left left ended ended (g.S.Source.seen c.args.source.now).faults faults faults
    c.args.items.now c.args.items.now c.args.items.now (g.L.Ledger.number c.args.steps.now) k k m.cells n.cells n.cells (state_of m) (state_of n) (state_of n) n.home same moves
    c.in_ok-leapt.ensures.later (Ok progress.Whole)
    (flow_taken c.args.values.now c.args.order c.args.code.now n.home n (source_over g.S.Source.seen c.try_leap.new.source c.try_leap.new.source) op.Ret
    (c.is_over.ensures.ends c.if-is_over.true) (Consumes-nil left) c.args.items.now k n progress.Whole refl (still_safe moves same c.requires.safe)
    (home_over (state_of n) (c.is_over.ensures.home c.if-is_over.true)))

pub returns-clause-turns : goal.returns-clause-turns
returns-clause-turns g c =
    let m = c.args.machine.now in
    let source = source_over g.S.Source.seen c.args.source.now c.try_leap.new.source in
    leapt_moves c.args.values.now c.args.order c.args.code.now m.home (state_of m) source (g.L.Ledger.number c.args.steps.now) (g.L.Ledger.number c.try_leap.new.steps)
    c.args.items.now (state_of c.try_leap.new.machine) m.cells c.try_leap.new.machine.cells (c.in_ok-leapt.ensures.quiet c.if-not-leapt.false)
    (subst (λ b. Leaps c.args.values.now c.args.order c.args.code.now m.home (state_of m) source (g.L.Ledger.number c.args.steps.now) (g.L.Ledger.number c.try_leap.new.steps)
    (state_of c.try_leap.new.machine) (Ok b)) c.if-not-leapt.false c.in_ok-leapt.ensures.leaps)
