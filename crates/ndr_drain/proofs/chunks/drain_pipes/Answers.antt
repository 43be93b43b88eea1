use Rattle.std.proofs.Common.{◌≡◌, get_or, ◌∙◌, ◌<◌, ap, refl, sym, length, arith, ◌-◌}
use Rattle.std.proofs.lemmas.Result.{err_from_is_err_and}
use Rattle.nd_base.specs.Over.{source_over}
use Rattle.nd_value.specs.Deferral.{before_pipes}
use Rattle.nd_value.specs.Setting.{root_list}
use Rattle.nd_value.proofs.FewRoots.{few_before_pipes}
use Rattle.nd_lemmas.proofs.Lists.{item_at}
use Rattle.nd_grammar.specs.decoded.Verdict.{decoding_seen}
use Rattle.ndr_drain_laws.specs.parts.Parts.{elem_at}
use Rattle.ndr_pipe.specs.Ends.{ends_over, ends_seen}
use Rattle.ndr_drain_reader.specs.Seen.{intake_seen, setting_in}
use Rattle.ndr_drain.specs.Drained.{end_of_root}
use Rattle.ndr_drain.specs.Turns.{HasPassed, IsStepCause}
use Rattle.ndr_drain.proofs.Begun.{of_first, of_moved}
use Rattle.ndr_drain.proofs.ElementTypes.{as_many, element_at}
use Rattle.ndr_drain.proofs.UnderWay.{at_first, turn, turn_less, turn_is, stops, open_now, at_end, at_root, below_all}
use Rattle.ndr_drain.proofs.chunks.drain_pipes.Goals as goal

pub pipes-init : goal.pipes-init
pipes-init g c = record {
  way = λ o there.
      let first = intake_seen c.args.intake.now in
      let w = setting_in first o in
      at_first w first (g.S.Source.seen c.args.source.now).left (g.S.Source.seen c.args.source.now).ended (g.S.Source.seen c.args.source.now).faults (ends_seen g.E.PipeEnd.seen c.args.ends.now)
      c.args.items.now (g.L.Ledger.number c.args.steps.now) (c.requires.first o there) (c.requires.all o there) (few_before_pipes (root_list w)) c.requires.open;
  ready = c.requires.ready;
  is = refl;
  later = omega arith;
}

pub drain_chunk-requires-clause-tied : goal.drain_chunk-requires-clause-tied
drain_chunk-requires-clause-tied g c = ap (λ i. i.interface) c.pipes.invariant.is ∙ c.requires.tied

pub drain_chunk-requires-clause-reading : goal.drain_chunk-requires-clause-reading
drain_chunk-requires-clause-reading g c = ap (λ i. i.phase) c.pipes.invariant.is ∙ c.requires.reading

pub drain_chunk-requires-clause-of : goal.drain_chunk-requires-clause-of
drain_chunk-requires-clause-of g c =
    let first = intake_seen c.args.intake.now in
    let now = intake_seen c.pipes.intake in
    let n = length c.args.types.now in
    of_moved first now c.pipes.invariant.is (λ w. (get_or c.args.types.now (n - c.pipes_left-left.result) (record { 0 = 0 })).0 ≡ elem_at w now.spot.root) (λ o there.
    let w = setting_in first o in
    let are = c.requires.types o there in
    let many : n ≡ length (root_list w) - before_pipes (root_list w) = sym (as_many c.args.types.now) ∙ are.all in
    let at = at_root w first (intake_seen c.pipes.intake) (g.S.Source.seen c.args.source.now).left (g.S.Source.seen c.pipes.source).left (g.S.Source.seen c.pipes.source).left
    (g.S.Source.seen c.pipes.source).ended
    (g.S.Source.seen c.pipes.source).ended (g.S.Source.seen c.args.source.now).faults (g.S.Source.seen c.pipes.source).faults (g.S.Source.seen c.pipes.source).faults
    (ends_seen g.E.PipeEnd.seen c.args.ends.now) (ends_seen g.E.PipeEnd.seen c.pipes.ends) c.args.items.now c.pipes.items c.pipes.items (g.L.Ledger.number c.args.steps.now)
    (g.L.Ledger.number c.pipes.steps) (g.L.Ledger.number c.pipes.steps) (c.pipes.invariant.way o there) (length c.args.types.now) c.pipes_left-left.result many c.pipes_left-left.ensures in
    let below : n - c.pipes_left-left.result < n = below_all w first now _ _ _ (c.pipes.invariant.way o there) n c.pipes_left-left.result many c.pipes_left-left.ensures
    (omega (arith, c.pipes-test.true, c.pipes_left.ensures, c.pipes_left-left.ensures)) in
    element_at w c.args.types.now are (n - c.pipes_left-left.result) below (record { 0 = 0 }) ∙ ap (elem_at w) at)

pub drain_chunk-requires-clause-which : goal.drain_chunk-requires-clause-which
drain_chunk-requires-clause-which g c =
    let first = intake_seen c.args.intake.now in
    let now = intake_seen c.pipes.intake in
    of_moved first now c.pipes.invariant.is (λ w. length c.args.types.now - c.pipes_left-left.result ≡ end_of_root w now.spot.root) (λ o there.
    let w = setting_in first o in
    let are = c.requires.types o there in
    at_end w first (intake_seen c.pipes.intake) (g.S.Source.seen c.args.source.now).left (g.S.Source.seen c.pipes.source).left (g.S.Source.seen c.pipes.source).left
    (g.S.Source.seen c.pipes.source).ended
    (g.S.Source.seen c.pipes.source).ended (g.S.Source.seen c.args.source.now).faults (g.S.Source.seen c.pipes.source).faults (g.S.Source.seen c.pipes.source).faults
    (ends_seen g.E.PipeEnd.seen c.args.ends.now) (ends_seen g.E.PipeEnd.seen c.pipes.ends) c.args.items.now c.pipes.items c.pipes.items (g.L.Ledger.number c.args.steps.now)
    (g.L.Ledger.number c.pipes.steps) (g.L.Ledger.number c.pipes.steps) (c.pipes.invariant.way o there) (length c.args.types.now) c.pipes_left-left.result
    (sym (as_many c.args.types.now) ∙ are.all) c.pipes_left-left.ensures)

pub drain_chunk-requires-clause-open : goal.drain_chunk-requires-clause-open
drain_chunk-requires-clause-open g c =
    let first = intake_seen c.args.intake.now in
    let (o, there) = item_at first.interface.operations first.op c.requires.ready.known in
    let w = setting_in first o in
    open_now w first (intake_seen c.pipes.intake) (g.S.Source.seen c.args.source.now).left (g.S.Source.seen c.pipes.source).left (g.S.Source.seen c.pipes.source).left
    (g.S.Source.seen c.pipes.source).ended
    (g.S.Source.seen c.pipes.source).ended (g.S.Source.seen c.args.source.now).faults (g.S.Source.seen c.pipes.source).faults (g.S.Source.seen c.pipes.source).faults
    (ends_seen g.E.PipeEnd.seen c.args.ends.now) (ends_seen g.E.PipeEnd.seen c.pipes.ends) c.args.items.now c.pipes.items c.pipes.items (g.L.Ledger.number c.args.steps.now)
    (g.L.Ledger.number c.pipes.steps) (g.L.Ledger.number c.pipes.steps) (c.pipes.invariant.way o there) (length c.args.types.now) c.pipes_left-left.result
    (let are = c.requires.types o there in sym (as_many c.args.types.now) ∙ are.all) c.requires.enough c.pipes_left-left.ensures
    (omega (arith, c.pipes-test.true, c.pipes_left.ensures, c.pipes_left-left.ensures))

pub pipes-smaller : goal.pipes-smaller
pipes-smaller g c =
    let first = intake_seen c.args.intake.now in
    let now = intake_seen c.pipes.intake in
    let next = intake_seen c.drain_chunk.new.intake in
    let (o, there) = item_at first.interface.operations first.op c.requires.ready.known in
    let w = setting_in first o in
    let ends = ends_seen g.E.PipeEnd.seen in
    let passed = of_first first now c.pipes.invariant.is (λ w. HasPassed w now next
    (source_over g.S.Source.seen c.pipes.source c.drain_chunk.new.source) (ends_over g.E.PipeEnd.seen c.pipes.ends c.drain_chunk.new.ends)
    (decoding_seen c.pipes.items c.drain_chunk.new.items (g.L.Ledger.number c.pipes.steps) (g.L.Ledger.number c.drain_chunk.new.steps))) c.in_ok-drain_chunk.ensures.passed o there in
    turn_less w first now (g.S.Source.seen c.args.source.now).left (g.S.Source.seen c.pipes.source).left (g.S.Source.seen c.drain_chunk.new.source).left (g.S.Source.seen c.pipes.source).ended
    (g.S.Source.seen c.drain_chunk.new.source).ended (g.S.Source.seen c.args.source.now).faults (g.S.Source.seen c.pipes.source).faults (g.S.Source.seen c.drain_chunk.new.source).faults
    (ends c.args.ends.now) (ends c.pipes.ends) c.args.items.now c.pipes.items c.drain_chunk.new.items (g.L.Ledger.number c.args.steps.now) (g.L.Ledger.number c.pipes.steps)
    (g.L.Ledger.number c.drain_chunk.new.steps) (c.pipes.invariant.way o there) next (ends c.drain_chunk.new.ends) passed

pub pipes-preserved : goal.pipes-preserved
pipes-preserved g c =
    let first = intake_seen c.args.intake.now in
    let now = intake_seen c.pipes.intake in
    let next = intake_seen c.drain_chunk.new.intake in
    let ends = ends_seen g.E.PipeEnd.seen in
    let passed = of_first first now c.pipes.invariant.is (λ w. HasPassed w now next
    (source_over g.S.Source.seen c.pipes.source c.drain_chunk.new.source) (ends_over g.E.PipeEnd.seen c.pipes.ends c.drain_chunk.new.ends)
    (decoding_seen c.pipes.items c.drain_chunk.new.items (g.L.Ledger.number c.pipes.steps) (g.L.Ledger.number c.drain_chunk.new.steps))) c.in_ok-drain_chunk.ensures.passed in
    let some : 0 < now.left = omega (arith, c.pipes-test.true, c.pipes_left.ensures) in
    let (o, there) = item_at first.interface.operations first.op c.requires.ready.known in
    record {
      way = λ o there.
          turn (setting_in first o) first now (g.S.Source.seen c.args.source.now).left (g.S.Source.seen c.pipes.source).left (g.S.Source.seen c.drain_chunk.new.source).left
          (g.S.Source.seen c.pipes.source).ended
          (g.S.Source.seen c.drain_chunk.new.source).ended (g.S.Source.seen c.args.source.now).faults (g.S.Source.seen c.pipes.source).faults (g.S.Source.seen c.drain_chunk.new.source).faults
          (ends c.args.ends.now) (ends c.pipes.ends) c.args.items.now c.pipes.items c.drain_chunk.new.items (g.L.Ledger.number c.args.steps.now) (g.L.Ledger.number c.pipes.steps)
          (g.L.Ledger.number c.drain_chunk.new.steps) (c.pipes.invariant.way o there) next (ends c.drain_chunk.new.ends) some (passed o there);
      ready = c.in_ok-drain_chunk.ensures.ready;
      is =
          turn_is (setting_in first o) first now (g.S.Source.seen c.args.source.now).left (g.S.Source.seen c.pipes.source).left (g.S.Source.seen c.drain_chunk.new.source).left
          (g.S.Source.seen c.pipes.source).ended
          (g.S.Source.seen c.drain_chunk.new.source).ended (g.S.Source.seen c.args.source.now).faults (g.S.Source.seen c.pipes.source).faults (g.S.Source.seen c.drain_chunk.new.source).faults
          (ends c.args.ends.now) (ends c.pipes.ends) c.args.items.now c.pipes.items c.drain_chunk.new.items (g.L.Ledger.number c.args.steps.now) (g.L.Ledger.number c.pipes.steps)
          (g.L.Ledger.number c.drain_chunk.new.steps) (c.pipes.invariant.way o there) next (ends c.drain_chunk.new.ends) (passed o there);
      later = omega (arith, c.pipes.invariant.later, c.drain_chunk.ensures.later);
    }

pub returns-in_err-drain_chunk-clause-cause : goal.returns-in_err-drain_chunk-clause-cause
returns-in_err-drain_chunk-clause-cause g c =
    let p = err_from_is_err_and c.from_residual.result c.from_residual.ensures.1 in
    let first = intake_seen c.args.intake.now in
    let now = intake_seen c.pipes.intake in
    let ends = ends_seen g.E.PipeEnd.seen in
    let cause = of_first first now c.pipes.invariant.is (λ w. IsStepCause w now (source_over g.S.Source.seen c.pipes.source c.drain_chunk.new.source)
    (ends_over g.E.PipeEnd.seen c.pipes.ends c.drain_chunk.new.ends)
    (decoding_seen c.pipes.items c.drain_chunk.new.items (g.L.Ledger.number c.pipes.steps) (g.L.Ledger.number c.drain_chunk.new.steps)) c.in_err-drain_chunk.field-0.0)
    c.in_err-drain_chunk.ensures.cause in
    rw (p.1, p.2) (λ o there.
    stops (setting_in first o) first now (g.S.Source.seen c.args.source.now).left (g.S.Source.seen c.pipes.source).left (g.S.Source.seen c.drain_chunk.new.source).left
    (g.S.Source.seen c.pipes.source).ended
    (g.S.Source.seen c.drain_chunk.new.source).ended (g.S.Source.seen c.args.source.now).faults (g.S.Source.seen c.pipes.source).faults (g.S.Source.seen c.drain_chunk.new.source).faults
    (ends c.args.ends.now) (ends c.pipes.ends) c.args.items.now c.pipes.items c.drain_chunk.new.items (g.L.Ledger.number c.args.steps.now) (g.L.Ledger.number c.pipes.steps)
    (g.L.Ledger.number c.drain_chunk.new.steps) (c.pipes.invariant.way o there) (ends c.drain_chunk.new.ends) c.in_err-drain_chunk.field-0.0 c.pipes.invariant.later (cause o there))

pub overflow_cast-which : goal.overflow_cast-which
overflow_cast-which g c = omega (arith, c.requires.few)
