use Rattle.std.proofs.Common.{false, true, Ok, ap, subst}
use Rattle.nd_base.specs.Over.{source_over}
use Rattle.ndr_decoder_fast.specs.Leaps.{Leaps}
use Rattle.ndr_decoder_state.specs.Seen.{state_of}
use Rattle.ndr_decoder_value.proofs.Leaping.{leapt_moves, stays_moves, leap_failed, turned_after}
use Rattle.ndr_decoder_value.proofs.Looping.{still_safe}
use Rattle.ndr_decoder_value.proofs.running.take_some.Goals as goal

pub returns-in_err-leapt-clause-turns : goal.returns-in_err-leapt-clause-turns
returns-in_err-leapt-clause-turns g c =
    let m = c.args.machine.now in
    let source = source_over g.S.Source.seen c.args.source.now c.try_leap.new.source in
    leap_failed c.args.values.now c.args.order c.args.code.now m.home (state_of m) source (g.L.Ledger.number c.args.steps.now) (g.L.Ledger.number c.try_leap.new.steps)
    c.args.items.now (state_of c.try_leap.new.machine) m.cells c.try_leap.new.machine.cells c.in_err-leapt.ensures.fault c.requires.safe c.in_err-leapt.field-0.0
    c.from_residual.result c.in_err-leapt.ensures.leaps c.from_residual.ensures.1

pub returns-then-leapt-clause-turns : goal.returns-then-leapt-clause-turns
returns-then-leapt-clause-turns g c =
    let m = c.args.machine.now in
    let source = source_over g.S.Source.seen c.args.source.now c.try_leap.new.source in
    leapt_moves c.args.values.now c.args.order c.args.code.now m.home (state_of m) source (g.L.Ledger.number c.args.steps.now) (g.L.Ledger.number c.try_leap.new.steps)
    c.args.items.now (state_of c.try_leap.new.machine) m.cells c.try_leap.new.machine.cells (c.in_ok-leapt.ensures.quiet c.if-leapt.true)
    (subst (λ b. Leaps c.args.values.now c.args.order c.args.code.now m.home (state_of m) source (g.L.Ledger.number c.args.steps.now) (g.L.Ledger.number c.try_leap.new.steps)
    (state_of c.try_leap.new.machine) (Ok b)) c.if-leapt.true c.in_ok-leapt.ensures.leaps)

pub take_next-requires-clause-safe : goal.take_next-requires-clause-safe
take_next-requires-clause-safe g c =
    let m = c.args.machine.now in
    let source = source_over g.S.Source.seen c.args.source.now c.try_leap.new.source in
    still_safe
    (stays_moves c.args.values.now c.args.order c.args.code.now m.home (state_of m) source (g.L.Ledger.number c.args.steps.now) (g.L.Ledger.number c.try_leap.new.steps)
    c.args.items.now (state_of c.try_leap.new.machine) m.cells c.try_leap.new.machine.cells
    (subst (λ b. Leaps c.args.values.now c.args.order c.args.code.now m.home (state_of m) source (g.L.Ledger.number c.args.steps.now) (g.L.Ledger.number c.try_leap.new.steps)
    (state_of c.try_leap.new.machine) (Ok b)) c.if-leapt.false c.in_ok-leapt.ensures.leaps))
    (ap (λ u. u.home) c.in_ok-leapt.ensures.outside) c.requires.safe

pub returns-clause-turns : goal.returns-clause-turns
returns-clause-turns g c =
    let m = c.args.machine.now in
    let n = c.try_leap.new.machine in
    let source = source_over g.S.Source.seen c.args.source.now c.try_leap.new.source in
    turned_after c.args.values.now c.args.order c.args.code.now m.home (g.S.Source.seen c.args.source.now).left (g.S.Source.seen c.try_leap.new.source).left
    (g.S.Source.seen c.take_next.new.source).left
    (g.S.Source.seen c.try_leap.new.source).ended (g.S.Source.seen c.take_next.new.source).ended (g.S.Source.seen c.args.source.now).faults (g.S.Source.seen c.try_leap.new.source).faults
    (g.S.Source.seen c.take_next.new.source).faults c.args.items.now c.args.items.now c.take_next.new.items (g.L.Ledger.number c.args.steps.now) (g.L.Ledger.number c.try_leap.new.steps)
    (g.L.Ledger.number c.take_next.new.steps) m.cells n.cells c.take_next.new.machine.cells (state_of m) (state_of n) (state_of c.take_next.new.machine) n.home
    (ap (λ u. u.home) c.in_ok-leapt.ensures.outside)
    (stays_moves c.args.values.now c.args.order c.args.code.now m.home (state_of m) source (g.L.Ledger.number c.args.steps.now) (g.L.Ledger.number c.try_leap.new.steps)
    c.args.items.now (state_of n) m.cells n.cells
    (subst (λ b. Leaps c.args.values.now c.args.order c.args.code.now m.home (state_of m) source (g.L.Ledger.number c.args.steps.now) (g.L.Ledger.number c.try_leap.new.steps)
    (state_of n) (Ok b)) c.if-leapt.false c.in_ok-leapt.ensures.leaps))
    c.in_ok-leapt.ensures.later c.take_next.result c.take_next.ensures.turns
