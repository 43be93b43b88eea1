use Rattle.std.proofs.Common.{◌≡◌, ◌≤◌, ◌+◌, ◌++◌, refl, ap, ◌∙◌, arith, le_refl, le_trans, length}
use Rattle.nd_base.specs.Over.{source_over}
use Rattle.nd_grammar.specs.decoded.Verdict.{decoding_seen}
use Rattle.ndr_decode.proofs.PipesRead.{ends_faulty, few_numbers, first_number, line_calls, lines_done, next_before, next_fault, next_is, next_read, none_read, number_few, pipe_due, side_done}
use Rattle.ndr_decode.proofs.PipesRead.{stream_ends}
use Rattle.ndr_decode.proofs.chunks.read_pipes.Goals as goal

pub overflow_cast-number : goal.overflow_cast-number
overflow_cast-number g c =
    let q = c.requires.at in
    let many = first_number c.args.plan.now c.args.op c.args.side c.args.order q.w q.legal q.setting q.fetched q.noted q.direct c.args.stream.now q.s q.seen q.stands q.hold in
    let few = few_numbers c.args.plan.now c.args.op c.args.side c.args.order q.w q.legal q.setting q.fetched q.noted q.direct c.args.stream.now q.s q.seen q.stands q.hold in
    let is : length c.as_slice.result.now ≡ length c.args.stream.now.roots.items = ap length c.as_slice.ensures in
    omega (arith, many, few, is)

pub loop-next-init : goal.loop-next-init
loop-next-init g c = (
  λ w legal fetched noted direct s seen setting st hold.
      let is : length c.as_slice.result.now ≡ length c.args.stream.now.roots.items = ap length c.as_slice.ensures in (
        0,
        (
          none_read c.args.plan.now c.args.op c.args.side c.args.order w legal setting fetched noted direct c.args.stream.now s seen st hold (g.S.Source.seen c.args.source.now).left
              (g.S.Source.seen c.args.source.now).ended (source_over g.S.Source.seen c.args.source.now c.args.source.now).faults c.args.items.now (g.L.Ledger.number c.args.steps.now),
          (omega arith, is ∙ first_number c.args.plan.now c.args.op c.args.side c.args.order w legal setting fetched noted direct c.args.stream.now s seen st hold),
        ),
      ),
  (refl, le_refl _),
)

pub elements_run-requires-clause-pipe : goal.elements_run-requires-clause-pipe
elements_run-requires-clause-pipe g c name at l =
    let q = c.requires.at in
    let w = q.w in
    let legal = q.legal in
    let fetched = q.fetched in
    let noted = q.noted in
    let direct = q.direct in
    let s = q.s in
    let seen = q.seen in
    let setting = q.setting in
    let st = q.stands in
    let hold = q.hold in
    let a = source_over g.S.Source.seen c.args.source.now c.loop-next.source in
    let d = decoding_seen c.args.items.now c.loop-next.items (g.L.Ledger.number c.args.steps.now) (g.L.Ledger.number c.loop-next.steps) in
    let (passed, (p, (there, number_is))) = c.loop-next.invariant.0 w legal fetched noted direct s seen setting st hold in
    let at_line = there ∙ ap (λ j. j + passed) (c.requires.line w.op setting.there) in
    line_calls c.args.plan.now c.args.op c.args.side c.args.order w legal setting fetched noted direct c.args.stream.now s seen st hold c.loop-next.stream a d passed p c.loop-next.next at_line name
    at l

pub returns-in_default-clause-reads : goal.returns-in_default-clause-reads
returns-in_default-clause-reads g c w legal fetched noted direct s seen setting st hold =
    let a = source_over g.S.Source.seen c.args.source.now c.loop-next.source in
    let d = decoding_seen c.args.items.now c.loop-next.items (g.L.Ledger.number c.args.steps.now) (g.L.Ledger.number c.loop-next.steps) in
    let (passed, (p, (there, number_is))) = c.loop-next.invariant.0 w legal fetched noted direct s seen setting st hold in
    let at_line = there ∙ ap (λ j. j + passed) (c.requires.line w.op setting.there) in
    stream_ends c.args.plan.now c.args.op c.args.side c.args.order w legal setting fetched noted direct c.args.stream.now s seen st hold c.loop-next.stream a d passed p
    (side_done c.args.plan.now c.args.op c.args.side c.args.order w legal setting fetched noted direct c.args.stream.now s seen st hold c.loop-next.stream a d passed p c.loop-next.next at_line
    c.in_default.ensures)

pub read_pipe-requires : goal.read_pipe-requires
read_pipe-requires g c =
    let q = c.requires.at in
    let w = q.w in
    let legal = q.legal in
    let fetched = q.fetched in
    let noted = q.noted in
    let direct = q.direct in
    let s = q.s in
    let seen = q.seen in
    let setting = q.setting in
    let st = q.stands in
    let hold = q.hold in
    let a = source_over g.S.Source.seen c.args.source.now c.loop-next.source in
    let d = decoding_seen c.args.items.now c.loop-next.items (g.L.Ledger.number c.args.steps.now) (g.L.Ledger.number c.loop-next.steps) in
    let (passed, (p, (there, number_is))) = c.loop-next.invariant.0 w legal fetched noted direct s seen setting st hold in
    let at_line = there ∙ ap (λ j. j + passed) (c.requires.line w.op setting.there) in
    let v = next_is c.args.plan.now c.args.op c.args.side c.args.order w legal setting fetched noted direct c.args.stream.now s seen st hold c.loop-next.stream a d passed p c.loop-next.next
    c.in-Some.elem at_line c.in-Some.ensures in
    record {
      at =
          pipe_due c.args.plan.now c.args.op c.args.side c.args.order w legal setting fetched noted direct c.args.stream.now s seen st hold c.loop-next.stream a d passed p c.in-Some.elem v
          c.loop-next.number number_is;
    }

pub returns-in_err-read_pipe-clause-reads : goal.returns-in_err-read_pipe-clause-reads
returns-in_err-read_pipe-clause-reads g c w legal fetched noted direct s seen setting st hold =
    let a = source_over g.S.Source.seen c.args.source.now c.loop-next.source in
    let d = decoding_seen c.args.items.now c.loop-next.items (g.L.Ledger.number c.args.steps.now) (g.L.Ledger.number c.loop-next.steps) in
    let b = source_over g.S.Source.seen c.loop-next.source c.read_pipe.new.source in
    let t = decoding_seen c.loop-next.items c.read_pipe.new.items (g.L.Ledger.number c.loop-next.steps) (g.L.Ledger.number c.read_pipe.new.steps) in
    let e = source_over g.S.Source.seen c.args.source.now c.read_pipe.new.source in
    let u = decoding_seen c.args.items.now c.read_pipe.new.items (g.L.Ledger.number c.args.steps.now) (g.L.Ledger.number c.read_pipe.new.steps) in
    let (passed, (p, (there, number_is))) = c.loop-next.invariant.0 w legal fetched noted direct s seen setting st hold in
    let at_line = there ∙ ap (λ j. j + passed) (c.requires.line w.op setting.there) in
    let v = next_is c.args.plan.now c.args.op c.args.side c.args.order w legal setting fetched noted direct c.args.stream.now s seen st hold c.loop-next.stream a d passed p c.loop-next.next
    c.in-Some.elem at_line c.in-Some.ensures in
    ends_faulty c.args.plan.now c.args.op c.args.side c.args.order w legal setting fetched noted direct c.args.stream.now s seen st hold e u _ c.in_err-read_pipe.field-0.0
    (next_fault c.args.plan.now c.args.op c.args.side c.args.order w legal setting fetched noted direct c.args.stream.now s seen st hold c.loop-next.stream a d passed p c.in-Some.elem v
    c.loop-next.number number_is c.read_pipe.new.machine b e t u
    (record {
      before = refl;
      middle = refl;
      after = refl;
      ended = refl;
      log = refl;
      log_middle = refl;
      log_now = refl;
      steps = refl;
      steps_middle = refl;
      steps_now = refl;
    }) c.loop-next.invariant.1.1 refl c.in_err-read_pipe.field-0.0
    (c.in_err-read_pipe.ensures.reads w legal (fetched ++ p.octets) (noted ++ p.items) direct s.names v.r v.rest p.roots p.k v.of v.by_plan
    (next_before c.args.plan.now c.args.op c.args.side c.args.order w legal setting fetched noted direct c.args.stream.now s seen st hold c.loop-next.stream a d passed p c.in-Some.elem v
    c.loop-next.number number_is)))
    c.from_residual.result c.from_residual.ensures.1

pub returns-in_err-read_pipe-clause-later : goal.returns-in_err-read_pipe-clause-later
returns-in_err-read_pipe-clause-later g c = le_trans c.loop-next.invariant.1.1 c.read_pipe.ensures.later

pub overflow_add-number : goal.overflow_add-number
overflow_add-number g c =
    let q = c.requires.at in
    let w = q.w in
    let legal = q.legal in
    let fetched = q.fetched in
    let noted = q.noted in
    let direct = q.direct in
    let s = q.s in
    let seen = q.seen in
    let setting = q.setting in
    let st = q.stands in
    let hold = q.hold in
    let a = source_over g.S.Source.seen c.args.source.now c.loop-next.source in
    let d = decoding_seen c.args.items.now c.loop-next.items (g.L.Ledger.number c.args.steps.now) (g.L.Ledger.number c.loop-next.steps) in
    let (passed, (p, (there, number_is))) = c.loop-next.invariant.0 w legal fetched noted direct s seen setting st hold in
    let at_line = there ∙ ap (λ j. j + passed) (c.requires.line w.op setting.there) in
    let v = next_is c.args.plan.now c.args.op c.args.side c.args.order w legal setting fetched noted direct c.args.stream.now s seen st hold c.loop-next.stream a d passed p c.loop-next.next
    c.in-Some.elem at_line c.in-Some.ensures in
    let few =
    number_few c.args.plan.now c.args.op c.args.side c.args.order w legal setting fetched noted direct c.args.stream.now s seen st hold c.loop-next.stream a d passed p c.in-Some.elem v
    c.loop-next.number number_is in
    omega (arith, few)

pub loop-next-preserved : goal.loop-next-preserved
loop-next-preserved g c = (
  λ w legal fetched noted direct s seen setting st hold.
      let a = source_over g.S.Source.seen c.args.source.now c.loop-next.source in
      let d = decoding_seen c.args.items.now c.loop-next.items (g.L.Ledger.number c.args.steps.now) (g.L.Ledger.number c.loop-next.steps) in
      let b = source_over g.S.Source.seen c.loop-next.source c.read_pipe.new.source in
      let t = decoding_seen c.loop-next.items c.read_pipe.new.items (g.L.Ledger.number c.loop-next.steps) (g.L.Ledger.number c.read_pipe.new.steps) in
      let e = source_over g.S.Source.seen c.args.source.now c.read_pipe.new.source in
      let u = decoding_seen c.args.items.now c.read_pipe.new.items (g.L.Ledger.number c.args.steps.now) (g.L.Ledger.number c.read_pipe.new.steps) in
      let (passed, (p, (there, number_is))) = c.loop-next.invariant.0 w legal fetched noted direct s seen setting st hold in
      let at_line = there ∙ ap (λ j. j + passed) (c.requires.line w.op setting.there) in
      let v = next_is c.args.plan.now c.args.op c.args.side c.args.order w legal setting fetched noted direct c.args.stream.now s seen st hold c.loop-next.stream a d passed p c.loop-next.next
      c.in-Some.elem at_line c.in-Some.ensures in
      let y = next_read c.args.plan.now c.args.op c.args.side c.args.order w legal setting fetched noted direct c.args.stream.now s seen st hold c.loop-next.stream a d passed p c.in-Some.elem v
      c.loop-next.number number_is c.read_pipe.new.machine b e t u
      (record { before = refl; middle = refl; after = refl; ended = refl; log = refl; log_middle = refl; log_now = refl; steps = refl; steps_middle = refl; steps_now = refl }) tt
      (c.in_ok-read_pipe.ensures.reads w legal (fetched ++ p.octets) (noted ++ p.items) direct s.names v.r v.rest p.roots p.k v.of v.by_plan
      (next_before c.args.plan.now c.args.op c.args.side c.args.order w legal setting fetched noted direct c.args.stream.now s seen st hold c.loop-next.stream a d passed p c.in-Some.elem v
      c.loop-next.number number_is)) in
      let one_more : c.loop-next.next + 1 ≡ c.args.line + (passed + 1) = omega (arith, there) in
      (passed + 1, (y.0, (one_more, y.1))),
  (c.in_ok-read_pipe.ensures.same ∙ c.loop-next.invariant.1.0, le_trans c.loop-next.invariant.1.1 c.read_pipe.ensures.later),
)

pub returns-clause-reads : goal.returns-clause-reads
returns-clause-reads g c w legal fetched noted direct s seen setting st hold =
    let a = source_over g.S.Source.seen c.args.source.now c.loop-next.source in
    let d = decoding_seen c.args.items.now c.loop-next.items (g.L.Ledger.number c.args.steps.now) (g.L.Ledger.number c.loop-next.steps) in
    let (passed, (p, (there, number_is))) = c.loop-next.invariant.0 w legal fetched noted direct s seen setting st hold in
    let at_line = there ∙ ap (λ j. j + passed) (c.requires.line w.op setting.there) in
    let past : length c.args.plan.now.entries ≤ c.loop-next.next = omega (arith, c.loop-next-test.false, c.len-next-end.ensures) in
    stream_ends c.args.plan.now c.args.op c.args.side c.args.order w legal setting fetched noted direct c.args.stream.now s seen st hold c.loop-next.stream a d passed p
    (lines_done c.args.plan.now c.args.op c.args.side c.args.order w legal setting fetched noted direct c.args.stream.now s seen st hold c.loop-next.stream a d passed p c.loop-next.next at_line
    past)
