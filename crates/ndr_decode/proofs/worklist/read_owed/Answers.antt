use Rattle.std.proofs.Common.{Ok, Err, sym, subst, ◌∙◌, le_refl}
use Rattle.ndr_decoder_state.specs.Seen.{owed_of}
use Rattle.ndr_decode.specs.Streaming.{cells_of}
use Rattle.ndr_decode.specs.Tried.{AreTried}
use Rattle.ndr_decode.proofs.Handed.{taking_fault}
use Rattle.ndr_decode.proofs.OwedReads.{null_reads, read_reads}
use Rattle.ndr_decode.proofs.Standing.{idle_log, idle_source}
use Rattle.ndr_decode.proofs.worklist.read_owed.Goals as goal

pub returns-in_default-clause-reads : goal.returns-in_default-clause-reads
returns-in_default-clause-reads g c w side fetched noted direct s seen p ps n table st =
    null_reads w side c.args.order fetched noted direct c.args.owed c.args.stream.now s seen p ps n st (g.S.Source.seen c.args.source.now).left (g.S.Source.seen c.args.source.now).ended
    (record { before = (g.S.Source.seen c.args.source.now).faults; now = (g.S.Source.seen c.args.source.now).faults }) c.args.items.now (g.L.Ledger.number c.args.steps.now) c.in_default.is

pub returns-in_err-try_all-clause-reads : goal.returns-in_err-try_all-clause-reads
returns-in_err-try_all-clause-reads g c w side fetched noted direct s seen p ps n table st =
    let e = c.in_err-try_all.field-0.0 in
    taking_fault w side c.args.order fetched noted (cells_of c.args.stream.now) n (idle_source (g.S.Source.seen c.args.source.now).left (g.S.Source.seen c.args.source.now).ended
    (record { before = (g.S.Source.seen c.args.source.now).faults; now = (g.S.Source.seen c.args.source.now).faults })) (idle_log c.args.items.now (g.L.Ledger.number c.args.steps.now))
    c.args.stream.now
    c.from_residual.result e c.from_residual.ensures.1
    (read_reads w side c.args.order fetched noted direct c.args.owed c.args.stream.now s seen p ps n st (g.S.Source.seen c.args.source.now).left (g.S.Source.seen c.args.source.now).ended
    (record { before = (g.S.Source.seen c.args.source.now).faults; now = (g.S.Source.seen c.args.source.now).faults }) c.args.items.now (g.L.Ledger.number c.args.steps.now) c.in-Some.cell c.in-Some.is
    c.in-Full.is c.in-Some-kept_cell.kept (sym c.kept_cell.ensures ∙ c.in-Some-kept_cell.is) (Err e)
    (subst (λ ws. AreTried (owed_of ws c.args.owed).agreements c.in-Some-kept_cell.kept (Err e)) c.as_slice.ensures.value c.in_err-try_all.ensures))

pub returns-in-Some-kept_cell-clause-reads : goal.returns-in-Some-kept_cell-clause-reads
returns-in-Some-kept_cell-clause-reads g c w side fetched noted direct s seen p ps n table st =
    read_reads w side c.args.order fetched noted direct c.args.owed c.args.stream.now s seen p ps n st (g.S.Source.seen c.args.source.now).left (g.S.Source.seen c.args.source.now).ended
    (record { before = (g.S.Source.seen c.args.source.now).faults; now = (g.S.Source.seen c.args.source.now).faults }) c.args.items.now (g.L.Ledger.number c.args.steps.now) c.in-Some.cell c.in-Some.is
    c.in-Full.is c.in-Some-kept_cell.kept (sym c.kept_cell.ensures ∙ c.in-Some-kept_cell.is) (Ok c.in_ok-try_all.field-0)
    (subst (λ ws. AreTried (owed_of ws c.args.owed).agreements c.in-Some-kept_cell.kept (Ok c.in_ok-try_all.field-0)) c.as_slice.ensures.value c.in_ok-try_all.ensures)

pub returns-in_default-clause-paid : goal.returns-in_default-clause-paid
returns-in_default-clause-paid g c = le_refl _

pub returns-in-Some-kept_cell-clause-paid : goal.returns-in-Some-kept_cell-clause-paid
returns-in-Some-kept_cell-clause-paid g c = le_refl _
