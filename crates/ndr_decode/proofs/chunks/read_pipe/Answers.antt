use Rattle.std.proofs.Common.{◌≤◌, ◌<◌, ◌+◌, ◌^◌, ◌++◌, refl, ap, sym, ◌∙◌, subst, arith, le_refl, le_trans}
use Rattle.nd_base.specs.Over.{source_over}
use Rattle.nd_flat.specs.Building.{Building}
use Rattle.nd_grammar.specs.decoded.Verdict.{decoding_seen}
use Rattle.ndr_decoder_laws.specs.stream.Report.{the_stream}
use Rattle.ndr_decode.specs.Streaming.{FaultOf, Purpose}
use Rattle.ndr_decode.proofs.PipeLoops.{chunk_due, pipe_begun, pipe_faulty, pipe_memory, turn_ends, turn_fault, turn_goes_on}
use Rattle.ndr_decode.proofs.chunks.read_pipe.Goals as goal

abbrev built_for : Building → Purpose
built_for b = record { op = b.op; side = b.side; interface = b.interface; given = b.given }

pub returns-in_err-open_pipe-clause-reads : goal.returns-in_err-open_pipe-clause-reads
returns-in_err-open_pipe-clause-reads g c w legal fetched noted direct first r rs roots k elem of_plan p =
    let a = source_over g.S.Source.seen c.args.source.now c.args.source.now in
    let s = decoding_seen c.args.items.now c.args.items.now (g.L.Ledger.number c.args.steps.now) (g.L.Ledger.number c.args.steps.now) in
    pipe_faulty c.args.plan.now w legal c.args.order fetched noted direct first c.args.number r rs roots k elem c.args.elem of_plan c.args.machine.now p a s c.open_pipe.new.machine
    c.in_err-open_pipe.field-0.0
    (subst (FaultOf the_stream w c.args.order fetched noted c.args.machine.now.cells a s) (sym c.in_err-open_pipe.ensures.memory)
    (pipe_memory c.args.plan.now w legal c.args.order fetched noted direct first c.args.number r rs roots k elem c.args.elem of_plan c.args.machine.now p (g.S.Source.seen c.args.source.now).left
    (g.S.Source.seen c.args.source.now).ended (source_over g.S.Source.seen c.args.source.now c.args.source.now).faults c.args.items.now (g.L.Ledger.number c.args.steps.now)))
    c.from_residual.result c.from_residual.ensures.1

pub loop-chunk-init : goal.loop-chunk-init
loop-chunk-init g c = (
  λ w legal fetched noted direct first r rs roots k elem of_plan p.
      pipe_begun c.args.plan.now w legal c.args.order fetched noted direct first c.args.number r rs roots k elem c.args.elem of_plan c.args.machine.now p c.open_pipe.new.machine
      c.in_ok-open_pipe.ensures.builder c.in_ok-open_pipe.ensures.home c.in_ok-open_pipe.ensures.at c.in_ok-open_pipe.ensures.max_at c.in_ok-open_pipe.ensures.referents
      (g.S.Source.seen c.args.source.now).left (g.S.Source.seen c.args.source.now).ended (source_over g.S.Source.seen c.args.source.now c.args.source.now).faults c.args.items.now
      (g.L.Ledger.number c.args.steps.now),
  ((le_refl _, omega arith), (ap built_for c.in_ok-open_pipe.ensures.builder, le_refl _)),
)

pub read_chunk-requires-clause-at : goal.read_chunk-requires-clause-at
read_chunk-requires-clause-at g c =
    let a = source_over g.S.Source.seen c.args.source.now c.loop-chunk.source in
    let s = decoding_seen c.args.items.now c.loop-chunk.items (g.L.Ledger.number c.args.steps.now) (g.L.Ledger.number c.loop-chunk.steps) in
    chunk_due c.args.plan.now c.args.order c.args.number c.args.elem c.loop-chunk.so_far c.args.machine.now c.loop-chunk.machine a s c.requires.at c.loop-chunk.invariant.0

pub read_chunk-requires-clause-room : goal.read_chunk-requires-clause-room
read_chunk-requires-clause-room g c = c.loop-chunk.invariant.1.0.1

pub returns-in_err-count-clause-reads : goal.returns-in_err-count-clause-reads
returns-in_err-count-clause-reads g c w legal fetched noted direct first r rs roots k elem of_plan p =
    let a = source_over g.S.Source.seen c.args.source.now c.loop-chunk.source in
    let s = decoding_seen c.args.items.now c.loop-chunk.items (g.L.Ledger.number c.args.steps.now) (g.L.Ledger.number c.loop-chunk.steps) in
    let b = source_over g.S.Source.seen c.loop-chunk.source c.read_chunk.new.source in
    let t = decoding_seen c.loop-chunk.items c.read_chunk.new.items (g.L.Ledger.number c.loop-chunk.steps) (g.L.Ledger.number c.read_chunk.new.steps) in
    let e = source_over g.S.Source.seen c.args.source.now c.read_chunk.new.source in
    let u = decoding_seen c.args.items.now c.read_chunk.new.items (g.L.Ledger.number c.args.steps.now) (g.L.Ledger.number c.read_chunk.new.steps) in
    let x = c.loop-chunk.invariant.0 w legal fetched noted direct first r rs roots k elem of_plan p in
    pipe_faulty c.args.plan.now w legal c.args.order fetched noted direct first c.args.number r rs roots k elem c.args.elem of_plan c.args.machine.now p e u c.read_chunk.new.machine
    c.in_err-count.field-0.0
    (turn_fault c.args.plan.now w legal c.args.order fetched noted direct first c.args.number r rs roots k elem c.args.elem of_plan c.args.machine.now p c.loop-chunk.machine a s c.loop-chunk.so_far x
    c.read_chunk.new.machine b e t u
    (record {
      before = refl;
      middle = refl;
      after = refl;
      ended = refl;
      log = refl;
      log_middle = refl;
      log_now = refl;
      steps = refl;
      steps_middle = refl;
      steps_now = refl;
    }) c.loop-chunk.invariant.1.1.1 refl c.in_err-count.field-0.0
    (c.in_err-count.ensures.reads w legal (fetched ++ x.octets) (noted ++ x.items) direct first r rs roots elem x.done x.k of_plan x.as_many x.in_pipe))
    c.from_residual-in_err-count.result c.from_residual-in_err-count.ensures.1

pub returns-in_err-count-clause-later : goal.returns-in_err-count-clause-later
returns-in_err-count-clause-later g c = le_trans c.loop-chunk.invariant.1.1.1 c.read_chunk.ensures.later

pub returns-then-count-eq0-clause-reads : goal.returns-then-count-eq0-clause-reads
returns-then-count-eq0-clause-reads g c w legal fetched noted direct first r rs roots k elem of_plan p =
    let a = source_over g.S.Source.seen c.args.source.now c.loop-chunk.source in
    let s = decoding_seen c.args.items.now c.loop-chunk.items (g.L.Ledger.number c.args.steps.now) (g.L.Ledger.number c.loop-chunk.steps) in
    let b = source_over g.S.Source.seen c.loop-chunk.source c.read_chunk.new.source in
    let t = decoding_seen c.loop-chunk.items c.read_chunk.new.items (g.L.Ledger.number c.loop-chunk.steps) (g.L.Ledger.number c.read_chunk.new.steps) in
    let e = source_over g.S.Source.seen c.args.source.now c.read_chunk.new.source in
    let u = decoding_seen c.args.items.now c.read_chunk.new.items (g.L.Ledger.number c.args.steps.now) (g.L.Ledger.number c.read_chunk.new.steps) in
    let x = c.loop-chunk.invariant.0 w legal fetched noted direct first r rs roots k elem of_plan p in
    turn_ends c.args.plan.now w legal c.args.order fetched noted direct first c.args.number r rs roots k elem c.args.elem of_plan c.args.machine.now p c.loop-chunk.machine a s c.loop-chunk.so_far x
    c.read_chunk.new.machine b e t u
    (record {
      before = refl;
      middle = refl;
      after = refl;
      ended = refl;
      log = refl;
      log_middle = refl;
      log_now = refl;
      steps = refl;
      steps_middle = refl;
      steps_now = refl;
    }) c.in_ok-count.count c.if-count-eq0.true
    (c.in_ok-count.ensures.reads w legal (fetched ++ x.octets) (noted ++ x.items) direct first r rs roots elem x.done x.k of_plan x.as_many x.in_pipe)

pub returns-then-count-eq0-clause-same : goal.returns-then-count-eq0-clause-same
returns-then-count-eq0-clause-same g c = c.in_ok-count.ensures.same ∙ c.loop-chunk.invariant.1.1.0

pub returns-then-count-eq0-clause-later : goal.returns-then-count-eq0-clause-later
returns-then-count-eq0-clause-later g c = le_trans c.loop-chunk.invariant.1.1.1 c.read_chunk.ensures.later

pub loop-chunk-preserved : goal.loop-chunk-preserved
loop-chunk-preserved g c = (
  λ w legal fetched noted direct first r rs roots k elem of_plan p.
      let a = source_over g.S.Source.seen c.args.source.now c.loop-chunk.source in
      let s = decoding_seen c.args.items.now c.loop-chunk.items (g.L.Ledger.number c.args.steps.now) (g.L.Ledger.number c.loop-chunk.steps) in
      let b = source_over g.S.Source.seen c.loop-chunk.source c.read_chunk.new.source in
      let t = decoding_seen c.loop-chunk.items c.read_chunk.new.items (g.L.Ledger.number c.loop-chunk.steps) (g.L.Ledger.number c.read_chunk.new.steps) in
      let e = source_over g.S.Source.seen c.args.source.now c.read_chunk.new.source in
      let u = decoding_seen c.args.items.now c.read_chunk.new.items (g.L.Ledger.number c.args.steps.now) (g.L.Ledger.number c.read_chunk.new.steps) in
      let x = c.loop-chunk.invariant.0 w legal fetched noted direct first r rs roots k elem of_plan p in
      turn_goes_on c.args.plan.now w legal c.args.order fetched noted direct first c.args.number r rs roots k elem c.args.elem of_plan c.args.machine.now p c.loop-chunk.machine a s
      c.loop-chunk.so_far x c.read_chunk.new.machine b e t u
      (record { before = refl; middle = refl; after = refl; ended = refl; log = refl; log_middle = refl; log_now = refl; steps = refl; steps_middle = refl; steps_now = refl }) c.in_ok-count.count
      (λ z. omega (arith, z, c.if-count-eq0.false))
      (c.in_ok-count.ensures.reads w legal (fetched ++ x.octets) (noted ++ x.items) direct first r rs roots elem x.done x.k of_plan x.as_many x.in_pipe),
  (
    (let there : c.loop-chunk._chunk ≤ c.loop-chunk.so_far = c.loop-chunk.invariant.1.0.0 in omega (arith, there, c.if-count-eq0.false), c.in_ok-count.ensures.room),
    (c.in_ok-count.ensures.same ∙ c.loop-chunk.invariant.1.1.0, le_trans c.loop-chunk.invariant.1.1.1 c.read_chunk.ensures.later),
  ),
)

pub unreachable-requires : goal.unreachable-requires
unreachable-requires g c =
    let turns : c.loop-chunk._chunk ≤ c.loop-chunk.so_far = c.loop-chunk.invariant.1.0.0 in
    let few : c.loop-chunk.so_far + 1 < 2 ^ 32 = c.loop-chunk.invariant.1.0.1 in
    omega (arith, turns, few, c.loop-chunk-test.false)
