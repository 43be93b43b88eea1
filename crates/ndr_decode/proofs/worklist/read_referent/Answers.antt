use Rattle.std.proofs.Common.{◌≡◌, List, Option, None, Ok, Err, length, refl, ap, ◌∙◌, arith}
use Rattle.nd_base.specs.Over.{source_over}
use Rattle.ndr_decoder_state.specs.Notes.{notes_seen}
use Rattle.ndr_decoder_state.specs.Seen.{state_of}
use Rattle.ndr_decoder_state.specs.declared.fault.DecodeFault.TheVariants as fault
use Rattle.ndr_decoder_laws.specs.declared.kept.Kept.{Kept}
use Rattle.ndr_decoder_laws.specs.stream.Between.{kept_at}
use Rattle.ndr_decode.specs.Streaming.{cells_of}
use Rattle.ndr_decode.proofs.HomeComes.{decoding_of}
use Rattle.ndr_decode.proofs.Handed.{taking_fault}
use Rattle.ndr_decode.proofs.ReferentCalls.{cut_then, home_fault, none_refused, safe, same_then, settled, settled_paid, tried_all, tried_then}
use Rattle.ndr_decode.proofs.ReferentReads.{cell_there, cell_unread}
use Rattle.ndr_decode.proofs.worklist.read_referent.Goals as goal

pub open_cell-requires-clause-there : goal.open_cell-requires-clause-there
open_cell-requires-clause-there g c =
    let i = c.requires.next in
    cell_there i.w i.side c.args.order i.fetched i.noted i.direct c.args.owed c.args.stream.now i.s i.seen i.p i.ps i.n i.stands c.args.cell c.requires.cell c.requires.unread

pub read_home-requires : goal.read_home-requires
read_home-requires g c =
    let i = c.requires.next in
    let o = c.open_cell.ensures in
    record {
      safe = safe c.args.plan.now c.args.order c.args.owed c.args.stream.now c.args.cell c.requires.cell c.requires.unread c.open_cell.new.self o.opens o.builder o.home i.w i.side i.fetched
          i.noted i.direct i.s i.seen i.p i.ps i.n i.table i.stands;
    }

pub returns-in_err-read_home-clause-reads : goal.returns-in_err-read_home-clause-reads
returns-in_err-read_home-clause-reads g c w side fetched noted direct s seen p ps n table st =
    let o = c.open_cell.ensures in
    let x = c.args.stream.now in
    let m1 = c.open_cell.new.self.machine in
    let m2 = c.read_home.new.machine in
    let source = source_over g.S.Source.seen c.args.source.now c.read_home.new.source in
    let notes = notes_seen c.args.items.now c.read_home.new.items (g.L.Ledger.number c.args.steps.now) (g.L.Ledger.number c.read_home.new.steps) m1.cells m2.cells in
    let e = c.in_err-read_home.field-0.0 in
    taking_fault w side c.args.order fetched noted (cells_of x) n source (decoding_of notes) _ c.from_residual.result e c.from_residual.ensures.1
    (home_fault c.args.plan.now c.args.order c.args.owed x c.args.cell c.requires.cell c.requires.unread c.open_cell.new.self o.opens o.builder o.home w side fetched noted
    direct s seen p ps n table st source notes (state_of m2) e c.in_err-read_home.ensures.ends)

pub pass_cell-requires : goal.pass_cell-requires
pass_cell-requires g c =
    let i = c.requires.next in
    record {
      there =
          (cell_there i.w i.side c.args.order i.fetched i.noted i.direct c.args.owed c.args.stream.now i.s i.seen i.p i.ps i.n i.stands c.args.cell c.requires.cell c.requires.unread).0;
      unread = ap (λ (ks : List (Option Kept)). kept_at ks c.args.cell.0) c.open_cell.ensures.kept.cells
          ∙ cell_unread i.w i.side c.args.order i.fetched i.noted i.direct c.args.owed c.args.stream.now i.s i.seen i.p i.ps i.n i.stands c.args.cell c.requires.cell c.requires.unread;
    }

pub returns-in_err-pass_cell-clause-reads : goal.returns-in_err-pass_cell-clause-reads
returns-in_err-pass_cell-clause-reads g c w side fetched noted direct s seen p ps n table st =
    let o = c.open_cell.ensures in
    let x = c.args.stream.now in
    let m1 = c.open_cell.new.self.machine in
    let m2 = c.read_home.new.machine in
    let source = source_over g.S.Source.seen c.args.source.now c.read_home.new.source in
    let notes = notes_seen c.args.items.now c.read_home.new.items (g.L.Ledger.number c.args.steps.now) (g.L.Ledger.number c.read_home.new.steps) m1.cells m2.cells in
    taking_fault w side c.args.order fetched noted (cells_of x) n source (decoding_of notes) _ c.from_residual-in_err-pass_cell.result fault.Memory c.from_residual-in_err-pass_cell.ensures.1
    (cut_then c.args.plan.now c.args.order c.args.owed x c.args.cell c.requires.cell c.requires.unread c.open_cell.new.self o.opens o.builder o.home w side fetched noted
    direct s seen p ps n table st source notes m2 c.in_ok-read_home.ensures.ends fault.Memory refl)

pub returns-in_err-next-clause-reads : goal.returns-in_err-next-clause-reads
returns-in_err-next-clause-reads g c w side fetched noted direct s seen p ps n table st =
    let o = c.open_cell.ensures in
    let x = c.args.stream.now in
    let m1 = c.open_cell.new.self.machine in
    let m2 = c.read_home.new.machine in
    let source = source_over g.S.Source.seen c.args.source.now c.read_home.new.source in
    let notes = notes_seen c.args.items.now c.read_home.new.items (g.L.Ledger.number c.args.steps.now) (g.L.Ledger.number c.read_home.new.steps) m1.cells m2.cells in
    taking_fault w side c.args.order fetched noted (cells_of x) n source (decoding_of notes) _ c.from_residual-in_err-next.result fault.Memory c.from_residual-in_err-next.ensures.1
    (cut_then c.args.plan.now c.args.order c.args.owed x c.args.cell c.requires.cell c.requires.unread c.open_cell.new.self o.opens o.builder o.home w side fetched noted
    direct s seen p ps n table st source notes m2 c.in_ok-read_home.ensures.ends fault.Memory refl)

pub returns-then-owed-eq0-clause-reads : goal.returns-then-owed-eq0-clause-reads
returns-then-owed-eq0-clause-reads g c w side fetched noted direct s seen p ps n table st =
    let o = c.open_cell.ensures in
    let x = c.args.stream.now in
    let m1 = c.open_cell.new.self.machine in
    let m2 = c.read_home.new.machine in
    let source = source_over g.S.Source.seen c.args.source.now c.read_home.new.source in
    let notes = notes_seen c.args.items.now c.read_home.new.items (g.L.Ledger.number c.args.steps.now) (g.L.Ledger.number c.read_home.new.steps) m1.cells m2.cells in
    let e = c.in_ok-pass_cell.ensures.ends in
    let z = c.in_ok-next.ensures in
    settled c.args.plan.now c.args.order c.args.owed x c.args.cell c.requires.cell c.requires.unread c.open_cell.new.self o.opens o.builder o.home c.settle_ahead.new.self e.k e.ends e.own
    (record { wanted = o.kept.wanted; todo = o.kept.todo; roots = o.kept.roots; cells = o.kept.cells }) c.in_ok-read_home.ensures.outside
    (none_refused e.k x.wanted.items c.args.owed c.if-owed-eq0.true)
    source notes c.in_ok-read_home.ensures.ends c.in_ok-next.next z.pending z.cleared z.homes w side fetched noted direct s seen p ps n table st

pub returns-then-owed-eq0-clause-paid : goal.returns-then-owed-eq0-clause-paid
returns-then-owed-eq0-clause-paid g c =
    let i = c.requires.next in
    let o = c.open_cell.ensures in
    let x = c.args.stream.now in
    let m1 = c.open_cell.new.self.machine in
    let m2 = c.read_home.new.machine in
    let source = source_over g.S.Source.seen c.args.source.now c.read_home.new.source in
    let notes = notes_seen c.args.items.now c.read_home.new.items (g.L.Ledger.number c.args.steps.now) (g.L.Ledger.number c.read_home.new.steps) m1.cells m2.cells in
    let e = c.in_ok-pass_cell.ensures.ends in
    let z = c.in_ok-next.ensures in
    settled_paid c.args.plan.now c.args.order c.args.owed x c.args.cell c.requires.cell c.requires.unread c.open_cell.new.self o.opens o.builder o.home c.settle_ahead.new.self e.k e.ends e.own
    (record { wanted = o.kept.wanted; todo = o.kept.todo; roots = o.kept.roots; cells = o.kept.cells }) c.in_ok-read_home.ensures.outside
    (none_refused e.k x.wanted.items c.args.owed c.if-owed-eq0.true)
    source notes c.in_ok-read_home.ensures.ends c.in_ok-next.next z.pending z.cleared z.homes i.w i.side i.fetched i.noted i.direct i.s i.seen i.p i.ps i.n i.table i.stands

pub returns-then-owed-eq0-clause-same : goal.returns-then-owed-eq0-clause-same
returns-then-owed-eq0-clause-same g c =
    let o = c.open_cell.ensures in
    let e = c.in_ok-pass_cell.ensures.ends in
    same_then c.args.plan.now c.args.order c.args.owed c.args.stream.now c.args.cell c.requires.cell c.requires.unread c.open_cell.new.self o.opens o.builder o.home
    c.settle_ahead.new.self e.k e.ends c.in_ok-read_home.ensures.outside (Ok tt) c.in_ok-next.ensures.cleared

pub end_cell-requires : goal.end_cell-requires
end_cell-requires g c =
    let i = c.requires.next in
    record {
      there =
          (cell_there i.w i.side c.args.order i.fetched i.noted i.direct c.args.owed c.args.stream.now i.s i.seen i.p i.ps i.n i.stands c.args.cell c.requires.cell c.requires.unread).0;
      unread = ap (λ (ks : List (Option Kept)). kept_at ks c.args.cell.0) c.open_cell.ensures.kept.cells
          ∙ cell_unread i.w i.side c.args.order i.fetched i.noted i.direct c.args.owed c.args.stream.now i.s i.seen i.p i.ps i.n i.stands c.args.cell c.requires.cell c.requires.unread;
    }

pub returns-in_err-kept-clause-reads : goal.returns-in_err-kept-clause-reads
returns-in_err-kept-clause-reads g c w side fetched noted direct s seen p ps n table st =
    let o = c.open_cell.ensures in
    let x = c.args.stream.now in
    let m1 = c.open_cell.new.self.machine in
    let m2 = c.read_home.new.machine in
    let source = source_over g.S.Source.seen c.args.source.now c.read_home.new.source in
    let notes = notes_seen c.args.items.now c.read_home.new.items (g.L.Ledger.number c.args.steps.now) (g.L.Ledger.number c.read_home.new.steps) m1.cells m2.cells in
    let e = c.in_err-kept.field-0.0 in
    taking_fault w side c.args.order fetched noted (cells_of x) n source (decoding_of notes) _ c.from_residual-in_err-kept.result e c.from_residual-in_err-kept.ensures.1
    (cut_then c.args.plan.now c.args.order c.args.owed x c.args.cell c.requires.cell c.requires.unread c.open_cell.new.self o.opens o.builder o.home w side fetched noted
    direct s seen p ps n table st source notes m2 c.in_ok-read_home.ensures.ends e c.in_err-kept.ensures.memory)

pub try_all-requires : goal.try_all-requires
try_all-requires g c =
    let e : length c.as_slice.result.now ≡ length c.args.stream.now.wanted.items =
    ap length (c.as_slice.ensures.value ∙ c.in_ok-kept.ensures.ends.others.wanted ∙ c.open_cell.ensures.kept.wanted) in
    let l = c.requires.within in
    omega (arith, e, l)

pub returns-in_err-try_all-clause-reads : goal.returns-in_err-try_all-clause-reads
returns-in_err-try_all-clause-reads g c w side fetched noted direct s seen p ps n table st =
    let o = c.open_cell.ensures in
    let x = c.args.stream.now in
    let m1 = c.open_cell.new.self.machine in
    let m2 = c.read_home.new.machine in
    let source = source_over g.S.Source.seen c.args.source.now c.read_home.new.source in
    let notes = notes_seen c.args.items.now c.read_home.new.items (g.L.Ledger.number c.args.steps.now) (g.L.Ledger.number c.read_home.new.steps) m1.cells m2.cells in
    let e = c.in_err-try_all.field-0.0 in
    let k = c.in_ok-kept.kept in
    taking_fault w side c.args.order fetched noted (cells_of x) n source (decoding_of notes) _ c.from_residual-in_err-try_all.result e c.from_residual-in_err-try_all.ensures.1
    (tried_then c.args.plan.now c.args.order c.args.owed x c.args.cell c.requires.cell c.requires.unread c.open_cell.new.self o.opens o.builder o.home w side fetched noted
    direct s seen p ps n table st source notes m2 c.in_ok-read_home.ensures.ends k c.in_ok-kept.ensures.own e
    (tried_all c.args.plan.now c.args.order c.args.owed x c.args.cell c.requires.cell c.requires.unread c.open_cell.new.self o.opens o.builder o.home k c.in_ok-kept.ensures.ends
    c.as_slice.result.now c.as_slice.ensures.value o.kept.wanted (Err e) c.in_err-try_all.ensures))

pub returns-in_err-settle-clause-reads : goal.returns-in_err-settle-clause-reads
returns-in_err-settle-clause-reads g c w side fetched noted direct s seen p ps n table st =
    let o = c.open_cell.ensures in
    let x = c.args.stream.now in
    let m1 = c.open_cell.new.self.machine in
    let m2 = c.read_home.new.machine in
    let source = source_over g.S.Source.seen c.args.source.now c.read_home.new.source in
    let notes = notes_seen c.args.items.now c.read_home.new.items (g.L.Ledger.number c.args.steps.now) (g.L.Ledger.number c.read_home.new.steps) m1.cells m2.cells in
    taking_fault w side c.args.order fetched noted (cells_of x) n source (decoding_of notes) _ c.from_residual-in_err-settle.result fault.Memory c.from_residual-in_err-settle.ensures.1
    (cut_then c.args.plan.now c.args.order c.args.owed x c.args.cell c.requires.cell c.requires.unread c.open_cell.new.self o.opens o.builder o.home w side fetched noted
    direct s seen p ps n table st source notes m2 c.in_ok-read_home.ensures.ends fault.Memory refl)

pub returns-clause-reads : goal.returns-clause-reads
returns-clause-reads g c w side fetched noted direct s seen p ps n table st =
    let o = c.open_cell.ensures in
    let x = c.args.stream.now in
    let m1 = c.open_cell.new.self.machine in
    let m2 = c.read_home.new.machine in
    let source = source_over g.S.Source.seen c.args.source.now c.read_home.new.source in
    let notes = notes_seen c.args.items.now c.read_home.new.items (g.L.Ledger.number c.args.steps.now) (g.L.Ledger.number c.read_home.new.steps) m1.cells m2.cells in
    let k = c.in_ok-kept.kept in
    let e = c.in_ok-kept.ensures in
    let z = c.in_ok-settle.ensures in
    settled c.args.plan.now c.args.order c.args.owed x c.args.cell c.requires.cell c.requires.unread c.open_cell.new.self o.opens o.builder o.home c.settle.new.self k e.ends e.own
    (record { wanted = o.kept.wanted; todo = o.kept.todo; roots = o.kept.roots; cells = o.kept.cells }) c.in_ok-read_home.ensures.outside
    (tried_all c.args.plan.now c.args.order c.args.owed x c.args.cell c.requires.cell c.requires.unread c.open_cell.new.self o.opens o.builder o.home k e.ends
    c.as_slice.result.now c.as_slice.ensures.value o.kept.wanted (Ok c.in_ok-try_all.field-0) c.in_ok-try_all.ensures)
    source notes c.in_ok-read_home.ensures.ends None z.pending z.cleared z.homes w side fetched noted direct s seen p ps n table st

pub returns-clause-paid : goal.returns-clause-paid
returns-clause-paid g c =
    let i = c.requires.next in
    let o = c.open_cell.ensures in
    let x = c.args.stream.now in
    let m1 = c.open_cell.new.self.machine in
    let m2 = c.read_home.new.machine in
    let source = source_over g.S.Source.seen c.args.source.now c.read_home.new.source in
    let notes = notes_seen c.args.items.now c.read_home.new.items (g.L.Ledger.number c.args.steps.now) (g.L.Ledger.number c.read_home.new.steps) m1.cells m2.cells in
    let k = c.in_ok-kept.kept in
    let e = c.in_ok-kept.ensures in
    let z = c.in_ok-settle.ensures in
    settled_paid c.args.plan.now c.args.order c.args.owed x c.args.cell c.requires.cell c.requires.unread c.open_cell.new.self o.opens o.builder o.home c.settle.new.self k e.ends e.own
    (record { wanted = o.kept.wanted; todo = o.kept.todo; roots = o.kept.roots; cells = o.kept.cells }) c.in_ok-read_home.ensures.outside
    (tried_all c.args.plan.now c.args.order c.args.owed x c.args.cell c.requires.cell c.requires.unread c.open_cell.new.self o.opens o.builder o.home k e.ends
    c.as_slice.result.now c.as_slice.ensures.value o.kept.wanted (Ok c.in_ok-try_all.field-0) c.in_ok-try_all.ensures)
    source notes c.in_ok-read_home.ensures.ends None z.pending z.cleared z.homes i.w i.side i.fetched i.noted i.direct i.s i.seen i.p i.ps i.n i.table i.stands

pub returns-clause-same : goal.returns-clause-same
returns-clause-same g c =
    let o = c.open_cell.ensures in
    same_then c.args.plan.now c.args.order c.args.owed c.args.stream.now c.args.cell c.requires.cell c.requires.unread c.open_cell.new.self o.opens o.builder o.home c.settle.new.self
    c.in_ok-kept.kept c.in_ok-kept.ensures.ends c.in_ok-read_home.ensures.outside (Ok tt) c.in_ok-settle.ensures.cleared
