use Rattle.std.proofs.Common.{[], suc}
use Rattle.nd_base.specs.Over.{source_over}
use Rattle.ndr_decoder_state.specs.Notes.{notes_seen}
use Rattle.ndr_decoder_state.specs.Seen.{state_of}
use Rattle.ndr_decoder_stream.specs.Seen.{between_of}
use Rattle.ndr_decode.proofs.AtRoots.{placed_safe}
use Rattle.ndr_decode.proofs.PaidHomes.{few_kept}
use Rattle.ndr_decode.proofs.PlacedRoots.{placed_fault, placed_last, placed_unopened, root_purpose}
use Rattle.ndr_decode.proofs.roots.read_placed.Goals as goal

pub open_root-requires-clause-few : goal.open_root-requires-clause-few
open_root-requires-clause-few g c =
    let k = c.requires.next in few_kept k.w k.side c.args.order k.fetched k.noted k.direct (between_of c.args.stream.now) k.s k.seen [] (suc k.n) k.stands.agrees

pub read_home-requires : goal.read_home-requires
read_home-requires g c =
    let k = c.requires.next in
    record {
      safe = placed_safe c.args.plan.now k.w k.table k.side c.args.order k.fetched k.noted k.direct c.args.stream.now k.s k.seen k.n k.stands k.r k.there c.args.run
          c.open_root.new.self.machine k.instr c.in_ok-open_root.ensures.opens c.in_ok-open_root.ensures.home;
    }

pub returns-in_err-open_root-clause-reads : goal.returns-in_err-open_root-clause-reads
returns-in_err-open_root-clause-reads g c w side fetched noted direct s seen n table st r there instr =
    placed_unopened c.args.plan.now c.args.order c.args.run c.args.stream.now w side fetched noted direct s seen n table st r there instr
    (g.S.Source.seen c.args.source.now).left (g.S.Source.seen c.args.source.now).ended (source_over g.S.Source.seen c.args.source.now c.args.source.now).faults c.args.items.now
    (g.L.Ledger.number c.args.steps.now) _ c.in_err-open_root.field-0.0 c.from_residual.result c.in_err-open_root.ensures.memory c.from_residual.ensures.1

pub returns-in_err-read_home-clause-reads : goal.returns-in_err-read_home-clause-reads
returns-in_err-read_home-clause-reads g c w side fetched noted direct s seen n table st r there instr =
    placed_fault c.args.plan.now c.args.order c.args.run c.args.stream.now w side fetched noted direct s seen n table st r there instr
    c.open_root.new.self c.in_ok-open_root.ensures.opens c.in_ok-open_root.ensures.home
    (source_over g.S.Source.seen c.args.source.now c.read_home.new.source)
    (notes_seen c.args.items.now c.read_home.new.items (g.L.Ledger.number c.args.steps.now) (g.L.Ledger.number c.read_home.new.steps) c.open_root.new.self.machine.cells c.read_home.new.machine.cells)
    (state_of c.read_home.new.machine) _ c.in_err-read_home.field-0.0 c.from_residual-in_err-read_home.result c.in_err-read_home.ensures.ends c.from_residual-in_err-read_home.ensures.1

pub returns-clause-reads : goal.returns-clause-reads
returns-clause-reads g c w side fetched noted direct s seen n table st r there instr =
    let keeps = c.open_root.ensures.kept in
    placed_last c.args.plan.now c.args.order c.args.run c.args.stream.now w side fetched noted direct s seen n table st r there instr
    c.open_root.new.self c.in_ok-open_root.ensures.opens c.in_ok-open_root.ensures.home
    (source_over g.S.Source.seen c.args.source.now c.read_home.new.source)
    (notes_seen c.args.items.now c.read_home.new.items (g.L.Ledger.number c.args.steps.now) (g.L.Ledger.number c.read_home.new.steps) c.open_root.new.self.machine.cells c.read_home.new.machine.cells)
    _ c.end_root.new.self c.in_ok-open_root.ensures.builder (record { wanted = keeps.wanted; todo = keeps.todo; roots = keeps.roots; cells = keeps.cells })
    c.in_ok-read_home.ensures.outside c.in_ok-read_home.ensures.ends c.end_root.result c.end_root.ensures.ends c.end_root.ensures.memory

pub returns-clause-same : goal.returns-clause-same
returns-clause-same g c =
    root_purpose c.args.stream.now c.open_root.new.self _ c.end_root.new.self _ _ c.in_ok-open_root.ensures.builder c.in_ok-read_home.ensures.outside c.end_root.result c.end_root.ensures.ends
