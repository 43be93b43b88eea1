use Rattle.std.proofs.Common.{refl, ap, ◌∙◌, le_refl, le_trans, arith}
use Rattle.nd_base.specs.Over.{source_over}
use Rattle.nd_flat.specs.Building.{Building}
use Rattle.ndr_decoder_state.specs.declared.machine.Machine.{Machine}
use Rattle.nd_grammar.specs.decoded.Verdict.{decoding_seen}
use Rattle.ndr_decode.proofs.PendingSoFar.{fault_then, few_turns, pending_fault, next_due, none_left, one_turn, so_far_more, so_far_none}
use Rattle.ndr_decode.proofs.worklist.read_pending.Goals as goal

pub loop-turn-init : goal.loop-turn-init
loop-turn-init g c = (
  so_far_none c.args.plan.now c.args.order c.args.stream.now (g.S.Source.seen c.args.source.now).left (g.S.Source.seen c.args.source.now).ended (g.S.Source.seen c.args.source.now).faults
      c.args.items.now (g.L.Ledger.number c.args.steps.now),
  (tt, (refl, (le_refl _, omega arith))),
)

pub read_owed-requires-clause-next : goal.read_owed-requires-clause-next
read_owed-requires-clause-next g c =
    next_due c.args.plan.now c.args.order c.args.stream.now c.loop-turn.next c.loop-turn.stream (g.S.Source.seen c.args.source.now).left (g.S.Source.seen c.loop-turn.source).left
    (g.S.Source.seen c.loop-turn.source).ended (g.S.Source.seen c.args.source.now).faults (g.S.Source.seen c.loop-turn.source).faults c.args.items.now c.loop-turn.items
    (g.L.Ledger.number c.args.steps.now) (g.L.Ledger.number c.loop-turn.steps) c.loop-turn.invariant.0 c.take_next.new.stream c.in-Some.owed c.in-Some.ensures.machine c.in-Some.ensures.same
    c.requires.streaming

pub loop-turn-preserved : goal.loop-turn-preserved
loop-turn-preserved g c = (
  so_far_more c.args.plan.now c.args.order c.args.stream.now c.loop-turn.next c.loop-turn.stream (g.S.Source.seen c.args.source.now).left (g.S.Source.seen c.loop-turn.source).left
      (g.S.Source.seen c.loop-turn.source).ended (g.S.Source.seen c.args.source.now).faults (g.S.Source.seen c.loop-turn.source).faults c.args.items.now c.loop-turn.items
      (g.L.Ledger.number c.args.steps.now) (g.L.Ledger.number c.loop-turn.steps) c.loop-turn.invariant.0 c.loop-turn.invariant.1.1.1.0 (g.S.Source.seen c.read_owed.new.source).left
      (g.S.Source.seen c.read_owed.new.source).ended (g.S.Source.seen c.read_owed.new.source).faults c.read_owed.new.items (g.L.Ledger.number c.read_owed.new.steps) c.read_owed.new.stream
      c.in-Some.owed _ c.in_ok-next.ensures.reads c.in-Some.ensures.machine c.in-Some.ensures.same,
  (
    c.in_ok-next.ensures.given,
    (
      c.in_ok-next.ensures.same ∙ ap (λ (m : Machine). let b : Building = m.builder in record { op = b.op; side = b.side; interface = b.interface; given = b.given }) c.in-Some.ensures.machine
          ∙ c.loop-turn.invariant.1.1.0,
      (
        le_trans c.loop-turn.invariant.1.1.1.0 c.in_ok-next.ensures.later,
        one_turn c.loop-turn._turn c.args.stream.now c.loop-turn.next c.loop-turn.stream c.take_next.new.stream c.in-Some.owed _ c.read_owed.new.stream c.loop-turn.invariant.1.1.1.1
            c.in-Some.ensures.machine c.in-Some.ensures.same c.in_ok-next.ensures.paid,
      ),
    ),
  ),
)

pub returns-in_default-clause-reads : goal.returns-in_default-clause-reads
returns-in_default-clause-reads g c =
    none_left c.args.plan.now c.args.order c.args.stream.now c.loop-turn.next c.loop-turn.stream (g.S.Source.seen c.args.source.now).left (g.S.Source.seen c.loop-turn.source).left
    (g.S.Source.seen c.loop-turn.source).ended (g.S.Source.seen c.args.source.now).faults (g.S.Source.seen c.loop-turn.source).faults c.args.items.now c.loop-turn.items
    (g.L.Ledger.number c.args.steps.now) (g.L.Ledger.number c.loop-turn.steps) c.loop-turn.invariant.0 c.take_next.new.stream c.in_default.ensures.machine c.in_default.ensures.same
    c.in_default.ensures.none _

pub returns-in_err-next-clause-reads : goal.returns-in_err-next-clause-reads
returns-in_err-next-clause-reads g c =
    let e = c.in_err-next.field-0.0 in
    pending_fault c.args.plan.now c.args.order c.args.stream.now
    (source_over g.S.Source.seen c.args.source.now c.read_owed.new.source)
    (decoding_seen c.args.items.now c.read_owed.new.items (g.L.Ledger.number c.args.steps.now) (g.L.Ledger.number c.read_owed.new.steps)) _ c.from_residual.result e c.from_residual.ensures.1
    (fault_then c.args.plan.now c.args.order c.args.stream.now c.loop-turn.next c.loop-turn.stream (g.S.Source.seen c.args.source.now).left (g.S.Source.seen c.loop-turn.source).left
    (g.S.Source.seen c.loop-turn.source).ended (g.S.Source.seen c.args.source.now).faults (g.S.Source.seen c.loop-turn.source).faults c.args.items.now c.loop-turn.items
    (g.L.Ledger.number c.args.steps.now) (g.L.Ledger.number c.loop-turn.steps) c.loop-turn.invariant.0 c.loop-turn.invariant.1.1.1.0 (g.S.Source.seen c.read_owed.new.source).left
    (g.S.Source.seen c.read_owed.new.source).ended (g.S.Source.seen c.read_owed.new.source).faults c.read_owed.new.items (g.L.Ledger.number c.read_owed.new.steps) c.read_owed.new.stream
    c.in-Some.owed e c.in_err-next.ensures.reads c.in-Some.ensures.machine c.in-Some.ensures.same)

pub unreachable-requires : goal.unreachable-requires
unreachable-requires g c =
    few_turns c.args.plan.now c.args.order c.args.stream.now c.loop-turn.next c.loop-turn.stream (g.S.Source.seen c.args.source.now).left (g.S.Source.seen c.loop-turn.source).left
    (g.S.Source.seen c.loop-turn.source).ended (g.S.Source.seen c.args.source.now).faults (g.S.Source.seen c.loop-turn.source).faults c.args.items.now c.loop-turn.items
    (g.L.Ledger.number c.args.steps.now) (g.L.Ledger.number c.loop-turn.steps) c.loop-turn.invariant.0 c.loop-turn._turn c.loop-turn.invariant.1.1.1.1 c.requires.streaming
    c.loop-turn-test.false
