use Rattle.std.proofs.Common.{◌≡◌, ◌<◌, ◌-◌, refl, sym, subst, arith, min}
use Rattle.nd_base.specs.Over.{source_over}
use Rattle.ndr_decoder_state.specs.Notes.{notes_seen}
use Rattle.ndr_decoder_state.specs.Seen.{state_of}
use Rattle.nd_grammar.specs.decoded.Verdict.{decoding_seen}
use Rattle.ndr_decoder_laws.specs.stream.Report.{the_stream}
use Rattle.ndr_decode.specs.Streaming.{FaultOf}
use Rattle.ndr_decode.proofs.PipeTurns.{begun_fault, chunk_fault, chunk_faulty, chunk_none, chunk_room, chunk_safe, chunk_some, count_fault}
use Rattle.ndr_decode.proofs.chunks.read_chunk.Goals as goal

pub returns-in_err-count-clause-reads : goal.returns-in_err-count-clause-reads
returns-in_err-count-clause-reads g c w legal fetched noted direct first r rs roots elem done k of_plan as_many p =
    let a = source_over g.S.Source.seen c.args.source.now c.chunk_count.new.source in
    let s = decoding_seen c.args.items.now c.chunk_count.new.items (g.L.Ledger.number c.args.steps.now) (g.L.Ledger.number c.chunk_count.new.steps) in
    chunk_faulty c.args.plan.now w legal c.args.order fetched noted direct first c.args.number r rs roots elem c.args.elem of_plan done k c.args.so_far as_many c.args.machine.now p a s
    c.chunk_count.new.machine c.in_err-count.field-0.0
    (count_fault w c.args.order fetched noted c.args.machine.now.cells a s c.in_err-count.field-0.0
    (c.in_err-count.ensures.reads w fetched noted direct first c.args.number rs roots elem done c.args.machine.now.max_at k p.few p.in_pipe p.is_at))
    c.from_residual.result c.from_residual.ensures.1

pub returns-then-count-eq0-clause-reads : goal.returns-then-count-eq0-clause-reads
returns-then-count-eq0-clause-reads g c w legal fetched noted direct first r rs roots elem done k of_plan as_many p =
    let a = source_over g.S.Source.seen c.args.source.now c.chunk_count.new.source in
    let s = decoding_seen c.args.items.now c.chunk_count.new.items (g.L.Ledger.number c.args.steps.now) (g.L.Ledger.number c.chunk_count.new.steps) in
    let x = c.in_ok-count.ensures.reads w fetched noted direct first c.args.number rs roots elem done c.args.machine.now.max_at k p.few p.in_pipe p.is_at in
    chunk_none c.args.plan.now w legal c.args.order fetched noted direct first c.args.number r rs roots elem c.args.elem of_plan done k c.args.so_far as_many c.args.machine.now p
    c.chunk_count.new.machine c.in_ok-count.ensures.moved a s c.in_ok-count.count x c.if-count-eq0.true

pub returns-in_err-begin_elements-clause-reads : goal.returns-in_err-begin_elements-clause-reads
returns-in_err-begin_elements-clause-reads g c w legal fetched noted direct first r rs roots elem done k of_plan as_many p =
    let a = source_over g.S.Source.seen c.args.source.now c.chunk_count.new.source in
    let s = decoding_seen c.args.items.now c.chunk_count.new.items (g.L.Ledger.number c.args.steps.now) (g.L.Ledger.number c.chunk_count.new.steps) in
    let x = c.in_ok-count.ensures.reads w fetched noted direct first c.args.number rs roots elem done c.args.machine.now.max_at k p.few p.in_pipe p.is_at in
    let some : 0 < c.in_ok-count.count = omega (arith, c.if-count-eq0.false) in
    let is_begun : c.min-begun.result ≡ min c.in_ok-count.count (4294967295 - c.args.so_far) = c.min-begun.ensures in
    chunk_faulty c.args.plan.now w legal c.args.order fetched noted direct first c.args.number r rs roots elem c.args.elem of_plan done k c.args.so_far as_many c.args.machine.now p a s
    c.begin_elements.new.machine c.in_err-begin_elements.field-0.0
    (subst (FaultOf the_stream w c.args.order fetched noted c.args.machine.now.cells a s) (sym c.in_err-begin_elements.ensures.memory)
    (begun_fault c.args.plan.now w legal c.args.order fetched noted direct first c.args.number r rs roots elem c.args.elem of_plan done k c.args.so_far as_many c.args.machine.now p
    c.chunk_count.new.machine c.in_ok-count.ensures.moved a s c.in_ok-count.count x some c.min-begun.result is_begun c.requires.room))
    c.from_residual-in_err-begin_elements.result c.from_residual-in_err-begin_elements.ensures.1

pub read_home-requires : goal.read_home-requires
read_home-requires g c = record {
  safe = λ more xs y reached.
      let q = c.requires.at in
      let w = q.w in
      let legal = q.legal in
      let fetched = q.fetched in
      let noted = q.noted in
      let direct = q.direct in
      let first = q.first in
      let r = q.r in
      let rs = q.rs in
      let roots = q.roots in
      let elem = q.elem in
      let of_plan = q.by_plan in
      let done = q.done in
      let k = q.k in
      let as_many = q.as_many in
      let p = q.in_pipe in
      let a = source_over g.S.Source.seen c.args.source.now c.chunk_count.new.source in
      let s = decoding_seen c.args.items.now c.chunk_count.new.items (g.L.Ledger.number c.args.steps.now) (g.L.Ledger.number c.chunk_count.new.steps) in
      let x = c.in_ok-count.ensures.reads w fetched noted direct first c.args.number rs roots elem done c.args.machine.now.max_at k p.few p.in_pipe p.is_at in
      let some : 0 < c.in_ok-count.count = omega (arith, c.if-count-eq0.false) in
      let is_begun : c.min-begun.result ≡ min c.in_ok-count.count (4294967295 - c.args.so_far) = c.min-begun.ensures in
      chunk_safe c.args.plan.now w legal c.args.order fetched noted direct first c.args.number r rs roots elem c.args.elem of_plan done k c.args.so_far as_many c.args.machine.now p
      c.chunk_count.new.machine c.in_ok-count.ensures.moved a s c.in_ok-count.count x some c.min-begun.result is_begun c.requires.room c.begin_elements.new.machine
      c.in_ok-begin_elements.ensures.begins c.in_ok-begin_elements.ensures.builder c.in_ok-begin_elements.ensures.home more xs y reached;
}

pub returns-in_err-read_home-clause-reads : goal.returns-in_err-read_home-clause-reads
returns-in_err-read_home-clause-reads g c w legal fetched noted direct first r rs roots elem done k of_plan as_many p =
    let a = source_over g.S.Source.seen c.args.source.now c.chunk_count.new.source in
    let s = decoding_seen c.args.items.now c.chunk_count.new.items (g.L.Ledger.number c.args.steps.now) (g.L.Ledger.number c.chunk_count.new.steps) in
    let b = source_over g.S.Source.seen c.chunk_count.new.source c.read_home.new.source in
    let notes =
    notes_seen c.chunk_count.new.items c.read_home.new.items (g.L.Ledger.number c.chunk_count.new.steps)
    (g.L.Ledger.number c.read_home.new.steps) c.begin_elements.new.machine.cells c.read_home.new.machine.cells in
    let e = source_over g.S.Source.seen c.args.source.now c.read_home.new.source in
    let u = decoding_seen c.args.items.now c.read_home.new.items (g.L.Ledger.number c.args.steps.now) (g.L.Ledger.number c.read_home.new.steps) in
    let x = c.in_ok-count.ensures.reads w fetched noted direct first c.args.number rs roots elem done c.args.machine.now.max_at k p.few p.in_pipe p.is_at in
    let some : 0 < c.in_ok-count.count = omega (arith, c.if-count-eq0.false) in
    let is_begun : c.min-begun.result ≡ min c.in_ok-count.count (4294967295 - c.args.so_far) = c.min-begun.ensures in
    chunk_faulty c.args.plan.now w legal c.args.order fetched noted direct first c.args.number r rs roots elem c.args.elem of_plan done k c.args.so_far as_many c.args.machine.now p e u
    c.read_home.new.machine c.in_err-read_home.field-0.0
    (chunk_fault c.args.plan.now w legal c.args.order fetched noted direct first c.args.number r rs roots elem c.args.elem of_plan done k c.args.so_far as_many c.args.machine.now p
    c.chunk_count.new.machine c.in_ok-count.ensures.moved a s c.in_ok-count.count x some c.min-begun.result is_begun c.requires.room c.begin_elements.new.machine
    c.in_ok-begin_elements.ensures.begins c.in_ok-begin_elements.ensures.builder c.in_ok-begin_elements.ensures.home b notes e u
    (record {
      before = refl;
      middle = refl;
      after = refl;
      ended = refl;
      log = refl;
      log_middle = refl;
      log_now = refl;
      steps = refl;
      steps_middle = refl;
      steps_now = refl;
    }) c.chunk_count.ensures.later refl (state_of c.read_home.new.machine) c.in_err-read_home.field-0.0 c.in_err-read_home.ensures.ends)
    c.from_residual-in_err-read_home.result c.from_residual-in_err-read_home.ensures.1

pub returns-clause-reads : goal.returns-clause-reads
returns-clause-reads g c w legal fetched noted direct first r rs roots elem done k of_plan as_many p =
    let a = source_over g.S.Source.seen c.args.source.now c.chunk_count.new.source in
    let s = decoding_seen c.args.items.now c.chunk_count.new.items (g.L.Ledger.number c.args.steps.now) (g.L.Ledger.number c.chunk_count.new.steps) in
    let b = source_over g.S.Source.seen c.chunk_count.new.source c.read_home.new.source in
    let notes =
    notes_seen c.chunk_count.new.items c.read_home.new.items (g.L.Ledger.number c.chunk_count.new.steps)
    (g.L.Ledger.number c.read_home.new.steps) c.begin_elements.new.machine.cells c.read_home.new.machine.cells in
    let e = source_over g.S.Source.seen c.args.source.now c.read_home.new.source in
    let u = decoding_seen c.args.items.now c.read_home.new.items (g.L.Ledger.number c.args.steps.now) (g.L.Ledger.number c.read_home.new.steps) in
    let x = c.in_ok-count.ensures.reads w fetched noted direct first c.args.number rs roots elem done c.args.machine.now.max_at k p.few p.in_pipe p.is_at in
    let some : 0 < c.in_ok-count.count = omega (arith, c.if-count-eq0.false) in
    let is_begun : c.min-begun.result ≡ min c.in_ok-count.count (4294967295 - c.args.so_far) = c.min-begun.ensures in
    chunk_some c.args.plan.now w legal c.args.order fetched noted direct first c.args.number r rs roots elem c.args.elem of_plan done k c.args.so_far as_many c.args.machine.now p
    c.chunk_count.new.machine c.in_ok-count.ensures.moved a s c.in_ok-count.count x some c.min-begun.result is_begun c.requires.room c.begin_elements.new.machine
    c.in_ok-begin_elements.ensures.begins c.in_ok-begin_elements.ensures.builder c.in_ok-begin_elements.ensures.home b notes e u
    (record {
      before = refl;
      middle = refl;
      after = refl;
      ended = refl;
      log = refl;
      log_middle = refl;
      log_now = refl;
      steps = refl;
      steps_middle = refl;
      steps_now = refl;
    }) c.read_home.new.machine c.in_ok-read_home.ensures.outside c.in_ok-read_home.ensures.ends

pub returns-clause-room : goal.returns-clause-room
returns-clause-room g c =
    let q = c.requires.at in
    let w = q.w in
    let legal = q.legal in
    let fetched = q.fetched in
    let noted = q.noted in
    let direct = q.direct in
    let first = q.first in
    let r = q.r in
    let rs = q.rs in
    let roots = q.roots in
    let elem = q.elem in
    let of_plan = q.by_plan in
    let done = q.done in
    let k = q.k in
    let as_many = q.as_many in
    let p = q.in_pipe in
    let a = source_over g.S.Source.seen c.args.source.now c.chunk_count.new.source in
    let s = decoding_seen c.args.items.now c.chunk_count.new.items (g.L.Ledger.number c.args.steps.now) (g.L.Ledger.number c.chunk_count.new.steps) in
    let b = source_over g.S.Source.seen c.chunk_count.new.source c.read_home.new.source in
    let notes =
    notes_seen c.chunk_count.new.items c.read_home.new.items (g.L.Ledger.number c.chunk_count.new.steps)
    (g.L.Ledger.number c.read_home.new.steps) c.begin_elements.new.machine.cells c.read_home.new.machine.cells in
    let e = source_over g.S.Source.seen c.args.source.now c.read_home.new.source in
    let u = decoding_seen c.args.items.now c.read_home.new.items (g.L.Ledger.number c.args.steps.now) (g.L.Ledger.number c.read_home.new.steps) in
    let x = c.in_ok-count.ensures.reads w fetched noted direct first c.args.number rs roots elem done c.args.machine.now.max_at k p.few p.in_pipe p.is_at in
    let some : 0 < c.in_ok-count.count = omega (arith, c.if-count-eq0.false) in
    let is_begun : c.min-begun.result ≡ min c.in_ok-count.count (4294967295 - c.args.so_far) = c.min-begun.ensures in
    chunk_room c.args.plan.now w legal c.args.order fetched noted direct first c.args.number r rs roots elem c.args.elem of_plan done k c.args.so_far as_many c.args.machine.now p
    c.chunk_count.new.machine c.in_ok-count.ensures.moved a s c.in_ok-count.count x some c.min-begun.result is_begun c.requires.room c.begin_elements.new.machine
    c.in_ok-begin_elements.ensures.begins c.in_ok-begin_elements.ensures.builder c.in_ok-begin_elements.ensures.home b notes e u
    (record {
      before = refl;
      middle = refl;
      after = refl;
      ended = refl;
      log = refl;
      log_middle = refl;
      log_now = refl;
      steps = refl;
      steps_middle = refl;
      steps_now = refl;
    }) c.read_home.new.machine c.in_ok-read_home.ensures.outside c.in_ok-read_home.ensures.ends
