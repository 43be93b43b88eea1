use Rattle.std.proofs.Common.{◌-◌, refl, subst, sym}
use Rattle.nd_base.specs.Over.{source_over}
use Rattle.ndr_decoder_state.specs.Notes.{notes_seen}
use Rattle.ndr_decoder_state.specs.Seen.{state_of}
use Rattle.nd_grammar.specs.decoded.Verdict.{decoding_seen}
use Rattle.ndr_drain_reader.specs.Chunks.{FillsNot}
use Rattle.ndr_drain_reader.proofs.Headers.{filled_none, handed_fault, stopped_there}
use Rattle.ndr_drain_reader.proofs.Runs.{begun_part, chunk_safe, fault_comes, filled, some_is}
use Rattle.ndr_drain_reader.proofs.chunk.fill_chunk.Goals as goal

pub returns-in_err-count-clause-fills : goal.returns-in_err-count-clause-fills
returns-in_err-count-clause-fills g c p =
    handed_fault p.w c.args.order p.spot (source_over g.S.Source.seen c.args.source.now c.chunk_count.new.source)
    (decoding_seen c.args.items.now c.chunk_count.new.items (g.L.Ledger.number c.args.steps.now)
    (g.L.Ledger.number c.chunk_count.new.steps)) c.chunk_count.new.machine c.from_residual.result c.in_err-count.field-0.0 c.from_residual.ensures.1
    (stopped_there p.w p.legal c.args.order p.spot p.at_pipe c.args.machine.now p.opened (source_over g.S.Source.seen c.args.source.now c.chunk_count.new.source)
    (decoding_seen c.args.items.now c.chunk_count.new.items (g.L.Ledger.number c.args.steps.now) (g.L.Ledger.number c.chunk_count.new.steps)) c.in_err-count.field-0.0 c.in_err-count.ensures.alone)

pub returns-then-count-eq0-clause-fills : goal.returns-then-count-eq0-clause-fills
returns-then-count-eq0-clause-fills g c p =
    filled_none p.w p.legal c.args.order p.spot p.at_pipe c.args.machine.now p.opened (source_over g.S.Source.seen c.args.source.now c.chunk_count.new.source)
    (decoding_seen c.args.items.now c.chunk_count.new.items (g.L.Ledger.number c.args.steps.now)
    (g.L.Ledger.number c.chunk_count.new.steps)) c.chunk_count.new.machine c.in_ok-count.count c.in_ok-count.ensures.alone c.in_ok-count.ensures.moved c.if-count-eq0.true

pub returns-in_err-begin_elements-clause-fills : goal.returns-in_err-begin_elements-clause-fills
returns-in_err-begin_elements-clause-fills g c p =
    handed_fault p.w c.args.order p.spot (source_over g.S.Source.seen c.args.source.now c.chunk_count.new.source)
    (decoding_seen c.args.items.now c.chunk_count.new.items (g.L.Ledger.number c.args.steps.now)
    (g.L.Ledger.number c.chunk_count.new.steps)) c.begin_elements.new.machine c.from_residual-in_err-begin_elements.result c.in_err-begin_elements.field-0.0
    c.from_residual-in_err-begin_elements.ensures.1
    (subst (FillsNot p.w c.args.order p.spot (source_over g.S.Source.seen c.args.source.now c.chunk_count.new.source)
    (decoding_seen c.args.items.now c.chunk_count.new.items (g.L.Ledger.number c.args.steps.now) (g.L.Ledger.number c.chunk_count.new.steps))) (sym c.in_err-begin_elements.ensures.memory)
    (begun_part c.args.plan.now p.w p.legal c.args.order p.spot p.at_pipe p.elem c.args.elem p.by_plan c.args.machine.now p.opened
    (source_over g.S.Source.seen c.args.source.now c.chunk_count.new.source)
    (decoding_seen c.args.items.now c.chunk_count.new.items (g.L.Ledger.number c.args.steps.now)
    (g.L.Ledger.number c.chunk_count.new.steps)) c.chunk_count.new.machine c.in_ok-count.count c.in_ok-count.ensures.alone (c.in_ok-count.count - 1)
    (some_is c.in_ok-count.count c.if-count-eq0.false)))

pub read_home-requires : goal.read_home-requires
read_home-requires g c = record {
  safe = let p =
      c.requires.at in
      chunk_safe c.args.plan.now p.w p.legal c.args.order p.spot p.at_pipe p.elem c.args.elem p.by_plan c.args.machine.now p.opened
      (source_over g.S.Source.seen c.args.source.now c.chunk_count.new.source)
      (decoding_seen c.args.items.now c.chunk_count.new.items (g.L.Ledger.number c.args.steps.now)
      (g.L.Ledger.number c.chunk_count.new.steps)) c.chunk_count.new.machine c.in_ok-count.count c.in_ok-count.ensures.alone (c.in_ok-count.count - 1)
      (some_is c.in_ok-count.count c.if-count-eq0.false) c.in_ok-count.ensures.moved c.begin_elements.new.machine c.in_ok-begin_elements.ensures.begins c.in_ok-begin_elements.ensures.builder
      c.in_ok-begin_elements.ensures.home;
}

pub returns-in_err-read_home-clause-fills : goal.returns-in_err-read_home-clause-fills
returns-in_err-read_home-clause-fills g c p =
    handed_fault p.w c.args.order p.spot (source_over g.S.Source.seen c.args.source.now c.read_home.new.source)
    (decoding_seen c.args.items.now c.read_home.new.items (g.L.Ledger.number c.args.steps.now)
    (g.L.Ledger.number c.read_home.new.steps)) c.read_home.new.machine c.from_residual-in_err-read_home.result c.in_err-read_home.field-0.0 c.from_residual-in_err-read_home.ensures.1
    (fault_comes c.args.plan.now p.w p.legal c.args.order p.spot p.at_pipe p.elem c.args.elem p.by_plan c.args.machine.now p.opened
    (source_over g.S.Source.seen c.args.source.now c.chunk_count.new.source)
    (decoding_seen c.args.items.now c.chunk_count.new.items (g.L.Ledger.number c.args.steps.now)
    (g.L.Ledger.number c.chunk_count.new.steps)) c.chunk_count.new.machine c.in_ok-count.count c.in_ok-count.ensures.alone (c.in_ok-count.count - 1)
    (some_is c.in_ok-count.count c.if-count-eq0.false) c.in_ok-count.ensures.moved c.begin_elements.new.machine c.in_ok-begin_elements.ensures.begins c.in_ok-begin_elements.ensures.builder
    c.in_ok-begin_elements.ensures.home (source_over g.S.Source.seen c.chunk_count.new.source c.read_home.new.source)
    (notes_seen c.chunk_count.new.items c.read_home.new.items (g.L.Ledger.number c.chunk_count.new.steps)
    (g.L.Ledger.number c.read_home.new.steps) c.begin_elements.new.machine.cells c.read_home.new.machine.cells)
    (source_over g.S.Source.seen c.args.source.now c.read_home.new.source)
    (decoding_seen c.args.items.now c.read_home.new.items (g.L.Ledger.number c.args.steps.now) (g.L.Ledger.number c.read_home.new.steps))
    (record {
      before = refl;
      middle = refl;
      after = refl;
      ended = refl;
      log = refl;
      log_middle = refl;
      log_now = refl;
      steps = refl;
      steps_middle = refl;
      steps_now = refl;
    }) refl c.chunk_count.ensures.later (state_of c.read_home.new.machine) c.in_err-read_home.field-0.0 c.in_err-read_home.ensures.ends)

pub returns-clause-fills : goal.returns-clause-fills
returns-clause-fills g c p =
    filled c.args.plan.now p.w p.legal c.args.order p.spot p.at_pipe p.elem c.args.elem p.by_plan c.args.machine.now p.opened
    (source_over g.S.Source.seen c.args.source.now c.chunk_count.new.source)
    (decoding_seen c.args.items.now c.chunk_count.new.items (g.L.Ledger.number c.args.steps.now)
    (g.L.Ledger.number c.chunk_count.new.steps)) c.chunk_count.new.machine c.in_ok-count.count c.in_ok-count.ensures.alone (c.in_ok-count.count - 1)
    (some_is c.in_ok-count.count c.if-count-eq0.false) c.in_ok-count.ensures.moved c.begin_elements.new.machine c.in_ok-begin_elements.ensures.begins c.in_ok-begin_elements.ensures.builder
    c.in_ok-begin_elements.ensures.home (source_over g.S.Source.seen c.chunk_count.new.source c.read_home.new.source)
    (notes_seen c.chunk_count.new.items c.read_home.new.items (g.L.Ledger.number c.chunk_count.new.steps)
    (g.L.Ledger.number c.read_home.new.steps) c.begin_elements.new.machine.cells c.read_home.new.machine.cells)
    (source_over g.S.Source.seen c.args.source.now c.read_home.new.source)
    (decoding_seen c.args.items.now c.read_home.new.items (g.L.Ledger.number c.args.steps.now) (g.L.Ledger.number c.read_home.new.steps))
    (record {
      before = refl;
      middle = refl;
      after = refl;
      ended = refl;
      log = refl;
      log_middle = refl;
      log_now = refl;
      steps = refl;
      steps_middle = refl;
      steps_now = refl;
    }) c.read_home.new.machine c.in_ok-read_home.ensures.outside c.in_ok-read_home.ensures.ends
