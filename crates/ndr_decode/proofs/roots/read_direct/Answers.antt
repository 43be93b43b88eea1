use Rattle.std.proofs.Common.{List, [], Option, suc, ap, ◌∙◌, arith}
use Rattle.nd_base.specs.Over.{source_over}
use Rattle.ndr_decoder_state.specs.Notes.{notes_seen}
use Rattle.ndr_decoder_state.specs.Seen.{state_of}
use Rattle.ndr_decoder_laws.specs.declared.kept.Kept.{Kept}
use Rattle.ndr_decoder_laws.specs.stream.Between.{kept_at}
use Rattle.ndr_decode.proofs.DirectRoots.{few_cells, direct_last, direct_states, direct_stops, direct_unopened, direct_unread, reference_purpose}
use Rattle.ndr_decode.proofs.roots.read_direct.Goals as goal

pub open_reference-requires-clause-few_cells : goal.open_reference-requires-clause-few_cells
open_reference-requires-clause-few_cells g c =
    let k = c.requires.next in
    few_cells k.w k.side c.args.order k.fetched k.noted k.direct c.args.stream.now k.s k.seen [] (suc k.n) k.stands

pub read_home-requires : goal.read_home-requires
read_home-requires g c =
    let k = c.requires.next in
    record {
      safe = direct_states c.args.plan.now c.args.order c.args.to c.args.run c.args.stream.now k.w k.side k.fetched k.noted k.direct k.s k.seen k.n k.table k.stands k.r k.there k.instr
          c.open_reference.new.self c.in_ok-cell.ensures.opens c.in_ok-cell.cell c.in_ok-cell.ensures.cell c.in_ok-cell.ensures.home;
    }

pub returns-in_err-cell-clause-reads : goal.returns-in_err-cell-clause-reads
returns-in_err-cell-clause-reads g c w side fetched noted direct s seen n table st r there instr =
    direct_unopened c.args.plan.now c.args.order c.args.to c.args.run c.args.stream.now w side fetched noted direct s seen n table st r there instr
    (g.S.Source.seen c.args.source.now).left (g.S.Source.seen c.args.source.now).ended (source_over g.S.Source.seen c.args.source.now c.args.source.now).faults c.args.items.now
    (g.L.Ledger.number c.args.steps.now) (g.L.Ledger.number c.open_reference.new.steps) _ c.in_err-cell.field-0.0 c.from_residual.result c.open_reference.ensures.few
    c.in_err-cell.ensures.memory c.from_residual.ensures.1

pub returns-in_err-read_home-clause-reads : goal.returns-in_err-read_home-clause-reads
returns-in_err-read_home-clause-reads g c w side fetched noted direct s seen n table st r there instr =
    direct_stops c.args.plan.now c.args.order c.args.to c.args.run c.args.stream.now w side fetched noted direct s seen n table st r there instr
    c.open_reference.new.self c.in_ok-cell.ensures.opens c.in_ok-cell.cell c.in_ok-cell.ensures.cell c.in_ok-cell.ensures.home
    (source_over g.S.Source.seen c.args.source.now c.read_home.new.source)
    (notes_seen c.args.items.now c.read_home.new.items (g.L.Ledger.number c.open_reference.new.steps)
    (g.L.Ledger.number c.read_home.new.steps) c.open_reference.new.self.machine.cells c.read_home.new.machine.cells)
    (g.L.Ledger.number c.args.steps.now) (state_of c.read_home.new.machine) _ c.in_err-read_home.field-0.0 c.from_residual-in_err-read_home.result c.in_ok-cell.ensures.tick
    c.in_err-read_home.ensures.ends c.from_residual-in_err-read_home.ensures.1

pub returns-clause-reads : goal.returns-clause-reads
returns-clause-reads g c w side fetched noted direct s seen n table st r there instr =
    let keeps = c.open_reference.ensures.kept in
    direct_last c.args.plan.now c.args.order c.args.to c.args.run c.args.stream.now w side fetched noted direct s seen n table st r there instr
    c.open_reference.new.self c.in_ok-cell.ensures.opens c.in_ok-cell.cell c.in_ok-cell.ensures.cell c.in_ok-cell.ensures.home
    (source_over g.S.Source.seen c.args.source.now c.read_home.new.source)
    (notes_seen c.args.items.now c.read_home.new.items (g.L.Ledger.number c.open_reference.new.steps)
    (g.L.Ledger.number c.read_home.new.steps) c.open_reference.new.self.machine.cells c.read_home.new.machine.cells)
    (g.L.Ledger.number c.args.steps.now) c.in_ok-cell.ensures.tick _ c.end_reference.new.self c.in_ok-cell.ensures.builder
    (record { wanted = keeps.wanted; todo = keeps.todo; roots = keeps.roots; cells = keeps.cells })
    c.in_ok-read_home.ensures.outside c.in_ok-read_home.ensures.ends c.end_reference.result c.end_reference.ensures.ends c.end_reference.ensures.memory

pub returns-clause-same : goal.returns-clause-same
returns-clause-same g c =
    reference_purpose c.args.stream.now c.open_reference.new.self _ c.end_reference.new.self _ _ c.in_ok-cell.cell c.in_ok-cell.ensures.builder c.in_ok-read_home.ensures.outside
    c.end_reference.result c.end_reference.ensures.ends

pub end_reference-requires : goal.end_reference-requires
end_reference-requires g c =
    let k = c.requires.next in
    let e = c.in_ok-cell.ensures.cell in
    record {
      there = omega (arith, e);
      unread = ap (λ (ks : List (Option Kept)). kept_at ks c.in_ok-cell.cell.0) c.open_reference.ensures.kept.cells
          ∙ direct_unread c.args.plan.now c.args.order c.args.to c.args.run c.args.stream.now k.w k.side k.fetched k.noted k.direct k.s k.seen k.n k.table k.stands k.r k.there k.instr
          c.in_ok-cell.cell.0 e;
    }
