use Rattle.std.proofs.Common.{◌≤◌, ◌+◌, length, refl, ◌∙◌, subst, le_refl, le_trans, arith}
use Rattle.ndr_code.specs.declared.lists.PlanLine.TheVariants as line
use Rattle.ndr_decode.proofs.RootLines.{line_read}
use Rattle.ndr_decode.proofs.RootTurns.{follows, handed_on, lines_end, pending_faulty, pending_went, root_faulty, root_next, root_went, roots_begin, roots_end, roots_found, streaming}
use Rattle.ndr_decode.proofs.roots.read_roots.Goals as goal

pub loop-number-init : goal.loop-number-init
loop-number-init g c = (
  roots_begin c.args.plan.now c.args.op c.args.side c.args.order c.args.stream.now c.requires.begins c.requires.whole c.first_line-number.result c.first_line-number.ensures
      (g.S.Source.seen c.args.source.now).left (g.S.Source.seen c.args.source.now).ended (g.S.Source.seen c.args.source.now).faults c.args.items.now (g.L.Ledger.number c.args.steps.now),
  (refl, le_refl _),
)

pub returns-in-Checks-clause-reads : goal.returns-in-Checks-clause-reads
returns-in-Checks-clause-reads g c =
    roots_end c.args.plan.now c.args.op c.args.side c.args.order _ _ _ c.loop-number.stream c.loop-number.number c.loop-number.invariant.0 c.in-Checks.op c.in-Checks.side c.in-Checks.at
    (line_read c.args.plan.now c.as_slice-lines.result.now c.loop-number.number c.index-lines-number.result
    (line.Checks c.in-Checks.op c.in-Checks.side c.in-Checks.at) c.as_slice-lines.ensures c.loop-number-test.true
    c.index-lines-number.is c.in-Checks.is)

pub returns-in-Checks-clause-found : goal.returns-in-Checks-clause-found
returns-in-Checks-clause-found g c =
    roots_found c.args.plan.now c.args.op c.args.side c.args.order _ _ _ c.loop-number.stream c.loop-number.number c.loop-number.invariant.0 c.in-Checks.op c.in-Checks.side c.in-Checks.at
    (line_read c.args.plan.now c.as_slice-lines.result.now c.loop-number.number c.index-lines-number.result
    (line.Checks c.in-Checks.op c.in-Checks.side c.in-Checks.at) c.as_slice-lines.ensures c.loop-number-test.true
    c.index-lines-number.is c.in-Checks.is)

pub returns-in-Checks-clause-same : goal.returns-in-Checks-clause-same
returns-in-Checks-clause-same g c = c.loop-number.invariant.1.0

pub returns-in-Checks-clause-later : goal.returns-in-Checks-clause-later
returns-in-Checks-clause-later g c = c.loop-number.invariant.1.1

pub read_root-requires : goal.read_root-requires
read_root-requires g c = record {
  next = root_next c.args.plan.now c.args.op c.args.side c.args.order _ _ _ c.loop-number.stream c.loop-number.number c.requires.known c.loop-number.invariant.0 c.in-Entry.op c.in-Entry.side
      c.in-Entry.name
      c.in-Entry.at
      (line_read c.args.plan.now c.as_slice-lines.result.now c.loop-number.number c.index-lines-number.result
      (line.Entry c.in-Entry.op c.in-Entry.side c.in-Entry.name c.in-Entry.at) c.as_slice-lines.ensures
      c.loop-number-test.true c.index-lines-number.is c.in-Entry.is);
}

pub returns-in_err-read_root-in-Entry-clause-reads : goal.returns-in_err-read_root-in-Entry-clause-reads
returns-in_err-read_root-in-Entry-clause-reads g c =
    handed_on c.args.plan.now c.args.op c.args.side c.args.order c.args.stream.now _ _ c.read_root.new.stream c.from_residual.result c.in_err-read_root-in-Entry.field-0.0 c.from_residual.ensures.1
    (root_faulty c.args.plan.now c.args.op c.args.side c.args.order _ _ _ _ _ _ _
    (follows g.S.Source.seen c.args.source.now c.loop-number.source c.read_root.new.source c.args.items.now c.loop-number.items c.read_root.new.items
    (g.L.Ledger.number c.args.steps.now) (g.L.Ledger.number c.loop-number.steps) (g.L.Ledger.number c.read_root.new.steps)) c.loop-number.stream c.read_root.new.stream c.loop-number.number
    c.loop-number.invariant.0 c.in-Entry.op c.in-Entry.side c.in-Entry.name c.in-Entry.at
    (line_read c.args.plan.now c.as_slice-lines.result.now c.loop-number.number c.index-lines-number.result
    (line.Entry c.in-Entry.op c.in-Entry.side c.in-Entry.name c.in-Entry.at) c.as_slice-lines.ensures
    c.loop-number-test.true c.index-lines-number.is c.in-Entry.is)
    c.loop-number.invariant.1.1 refl c.in_err-read_root-in-Entry.field-0.0 c.in_err-read_root-in-Entry.ensures.reads)

pub returns-in_err-read_root-in-Entry-clause-later : goal.returns-in_err-read_root-in-Entry-clause-later
returns-in_err-read_root-in-Entry-clause-later g c = le_trans c.loop-number.invariant.1.1 c.read_root.ensures.later

pub read_pending-requires : goal.read_pending-requires
read_pending-requires g c = record {
  streaming = streaming c.args.plan.now c.args.op c.args.side c.args.order _ _ _ c.read_root.new.stream (c.loop-number.number + 1) c.requires.known
      (root_went c.args.plan.now c.args.op c.args.side c.args.order _ _ _ _ _ _ _
      (follows g.S.Source.seen c.args.source.now c.loop-number.source c.read_root.new.source c.args.items.now c.loop-number.items c.read_root.new.items
      (g.L.Ledger.number c.args.steps.now) (g.L.Ledger.number c.loop-number.steps) (g.L.Ledger.number c.read_root.new.steps)) c.loop-number.stream c.read_root.new.stream c.loop-number.number
      c.loop-number.invariant.0 c.in-Entry.op c.in-Entry.side c.in-Entry.name c.in-Entry.at
      (line_read c.args.plan.now c.as_slice-lines.result.now c.loop-number.number c.index-lines-number.result
      (line.Entry c.in-Entry.op c.in-Entry.side c.in-Entry.name c.in-Entry.at) c.as_slice-lines.ensures
      c.loop-number-test.true c.index-lines-number.is c.in-Entry.is)
      c.in_ok-read_root-in-Entry.field-0 c.in_ok-read_root-in-Entry.ensures.reads);
}

pub returns-in_err-read_pending-in-Entry-clause-reads : goal.returns-in_err-read_pending-in-Entry-clause-reads
returns-in_err-read_pending-in-Entry-clause-reads g c =
    handed_on c.args.plan.now c.args.op c.args.side c.args.order c.args.stream.now _ _ c.read_pending.new.stream c.from_residual-in_err-read_pending-in-Entry.result
    c.in_err-read_pending-in-Entry.field-0.0
    c.from_residual-in_err-read_pending-in-Entry.ensures.1
    (pending_faulty c.args.plan.now c.args.op c.args.side c.args.order _ _ _ _ _ _ _
    (follows g.S.Source.seen c.args.source.now c.read_root.new.source c.read_pending.new.source c.args.items.now c.read_root.new.items c.read_pending.new.items
    (g.L.Ledger.number c.args.steps.now) (g.L.Ledger.number c.read_root.new.steps) (g.L.Ledger.number c.read_pending.new.steps)) c.read_root.new.stream c.read_pending.new.stream
    (c.loop-number.number + 1)
    (root_went c.args.plan.now c.args.op c.args.side c.args.order _ _ _ _ _ _ _
    (follows g.S.Source.seen c.args.source.now c.loop-number.source c.read_root.new.source c.args.items.now c.loop-number.items c.read_root.new.items
    (g.L.Ledger.number c.args.steps.now) (g.L.Ledger.number c.loop-number.steps) (g.L.Ledger.number c.read_root.new.steps)) c.loop-number.stream c.read_root.new.stream c.loop-number.number
    c.loop-number.invariant.0 c.in-Entry.op c.in-Entry.side c.in-Entry.name c.in-Entry.at
    (line_read c.args.plan.now c.as_slice-lines.result.now c.loop-number.number c.index-lines-number.result
    (line.Entry c.in-Entry.op c.in-Entry.side c.in-Entry.name c.in-Entry.at) c.as_slice-lines.ensures
    c.loop-number-test.true c.index-lines-number.is c.in-Entry.is)
    c.in_ok-read_root-in-Entry.field-0 c.in_ok-read_root-in-Entry.ensures.reads)
    (le_trans c.loop-number.invariant.1.1 c.read_root.ensures.later) refl c.in_err-read_pending-in-Entry.field-0.0 c.in_err-read_pending-in-Entry.ensures.reads)

pub returns-in_err-read_pending-in-Entry-clause-later : goal.returns-in_err-read_pending-in-Entry-clause-later
returns-in_err-read_pending-in-Entry-clause-later g c = le_trans (le_trans c.loop-number.invariant.1.1 c.read_root.ensures.later) c.read_pending.ensures.later

pub loop-number-preserved : goal.loop-number-preserved
loop-number-preserved g c = (
  pending_went c.args.plan.now c.args.op c.args.side c.args.order _ _ _ _ _ _ _
      (follows g.S.Source.seen c.args.source.now c.read_root.new.source c.read_pending.new.source c.args.items.now c.read_root.new.items c.read_pending.new.items
      (g.L.Ledger.number c.args.steps.now) (g.L.Ledger.number c.read_root.new.steps) (g.L.Ledger.number c.read_pending.new.steps)) c.read_root.new.stream c.read_pending.new.stream
      (c.loop-number.number + 1)
      (root_went c.args.plan.now c.args.op c.args.side c.args.order _ _ _ _ _ _ _
      (follows g.S.Source.seen c.args.source.now c.loop-number.source c.read_root.new.source c.args.items.now c.loop-number.items c.read_root.new.items
      (g.L.Ledger.number c.args.steps.now) (g.L.Ledger.number c.loop-number.steps) (g.L.Ledger.number c.read_root.new.steps)) c.loop-number.stream c.read_root.new.stream c.loop-number.number
      c.loop-number.invariant.0 c.in-Entry.op c.in-Entry.side c.in-Entry.name c.in-Entry.at
      (line_read c.args.plan.now c.as_slice-lines.result.now c.loop-number.number c.index-lines-number.result
      (line.Entry c.in-Entry.op c.in-Entry.side c.in-Entry.name c.in-Entry.at) c.as_slice-lines.ensures
      c.loop-number-test.true c.index-lines-number.is c.in-Entry.is)
      c.in_ok-read_root-in-Entry.field-0 c.in_ok-read_root-in-Entry.ensures.reads)
      c.in_ok-read_pending-in-Entry.field-0 c.in_ok-read_pending-in-Entry.ensures.reads,
  (
    c.in_ok-read_pending-in-Entry.ensures.same ∙ c.in_ok-read_root-in-Entry.ensures.same ∙ c.loop-number.invariant.1.0,
    le_trans (le_trans c.loop-number.invariant.1.1 c.read_root.ensures.later) c.read_pending.ensures.later,
  ),
)

pub unreachable-requires : goal.unreachable-requires
unreachable-requires g c =
    lines_end c.args.plan.now c.args.op c.args.side c.args.order _ _ _ c.loop-number.stream c.loop-number.number c.requires.known c.loop-number.invariant.0
    (subst (λ ls. length ls ≤ c.loop-number.number) c.as_slice-lines.ensures (let past = c.loop-number-test.false in omega (arith, past)))
