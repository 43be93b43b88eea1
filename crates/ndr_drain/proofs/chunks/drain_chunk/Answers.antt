use Rattle.std.proofs.Common.{ap, subst}
use Rattle.nd_base.specs.Over.{source_over}
use Rattle.nd_lemmas.proofs.Lists.{item_at}
use Rattle.nd_grammar.specs.decoded.Verdict.{decoding_seen}
use Rattle.ndr_pipe.specs.Ends.{ends_seen}
use Rattle.ndr_drain_reader.specs.Calls.{IsAnswered}
use Rattle.ndr_drain_reader.specs.Seen.{intake_seen, setting_in}
use Rattle.ndr_drain.specs.Drained.{lines}
use Rattle.ndr_drain.specs.Turns.{AreCut}
use Rattle.ndr_drain.proofs.Steps.{sound_for, given, finished, cut_lines, end_failed, finish_failed}
use Rattle.ndr_drain.proofs.chunks.drain_chunk.Goals as goal

pub give_lines-requires-clause-sound : goal.give_lines-requires-clause-sound
give_lines-requires-clause-sound g c =
    let i = intake_seen c.args.intake.now in
    let (o, there) = item_at i.interface.operations i.op c.requires.ready.known in
    let w = setting_in i o in
    let s = source_over g.S.Source.seen c.args.source.now c.chunk.new.source in
    let t = decoding_seen c.args.items.now c.chunk.new.items (g.L.Ledger.number c.args.steps.now) (g.L.Ledger.number c.chunk.new.steps) in
    let read = subst (λ x. IsAnswered w s t i (intake_seen c.chunk.new.self) x) c.in-Ok-Some.field-0-is (c.in-Ok-Some.ensures.read o there) in
    sound_for w c.args.interface.now.types i.spot.root c.args.of.0 c.in-Ok-Some.vals (ap (λ j. j.types) c.requires.tied) (c.requires.of o there) read.0.read.elements

pub returns-in-Ok-clause-passed : goal.returns-in-Ok-clause-passed
returns-in-Ok-clause-passed g c o there =
    let i = intake_seen c.args.intake.now in
    let w = setting_in i o in
    let s = source_over g.S.Source.seen c.args.source.now c.chunk.new.source in
    let t = decoding_seen c.args.items.now c.chunk.new.items (g.L.Ledger.number c.args.steps.now) (g.L.Ledger.number c.chunk.new.steps) in
    let read = subst (λ x. IsAnswered w s t i (intake_seen c.chunk.new.self) x) c.in-Ok-Some.field-0-is (c.in-Ok-Some.ensures.read o there) in
    given w c.args.interface.now.types (ap (λ j. j.types) c.requires.tied) i (intake_seen c.chunk.new.self) s t c.in-Ok-Some.vals c.args.which c.args.of.0
    (ends_seen g.E.PipeEnd.seen c.args.ends.now) (ends_seen g.E.PipeEnd.seen c.give_lines.new.ends) read (c.requires.which o there) (c.requires.of o there) c.in-Ok.ensures

pub returns-in-Err-Memory-clause-cause : goal.returns-in-Err-Memory-clause-cause
returns-in-Err-Memory-clause-cause g c o there =
    let i = intake_seen c.args.intake.now in
    let w = setting_in i o in
    let s = source_over g.S.Source.seen c.args.source.now c.chunk.new.source in
    let t = decoding_seen c.args.items.now c.chunk.new.items (g.L.Ledger.number c.args.steps.now) (g.L.Ledger.number c.chunk.new.steps) in
    let read = subst (λ x. IsAnswered w s t i (intake_seen c.chunk.new.self) x) c.in-Ok-Some.field-0-is (c.in-Ok-Some.ensures.read o there) in
    let ends = ends_seen g.E.PipeEnd.seen c.args.ends.now in
    let ends_now = ends_seen g.E.PipeEnd.seen c.give_lines.new.ends in
    cut_lines w c.args.interface.now.types (ap (λ j. j.types) c.requires.tied) i (intake_seen c.chunk.new.self) s t c.in-Ok-Some.vals c.args.which c.args.of.0 ends ends_now read
    (c.requires.which o there) (c.requires.of o there)
    (subst (AreCut ends ends_now c.args.which (lines c.args.interface.now.types c.args.of.0 c.in-Ok-Some.vals)) c.in-Err-Memory.field-0-is c.in-Err-Memory.ensures)

pub returns-in-Ok-Some-clause-cause : goal.returns-in-Ok-Some-clause-cause
returns-in-Ok-Some-clause-cause g c o there =
    let i = intake_seen c.args.intake.now in
    let w = setting_in i o in
    let s = source_over g.S.Source.seen c.args.source.now c.chunk.new.source in
    let t = decoding_seen c.args.items.now c.chunk.new.items (g.L.Ledger.number c.args.steps.now) (g.L.Ledger.number c.chunk.new.steps) in
    let read = subst (λ x. IsAnswered w s t i (intake_seen c.chunk.new.self) x) c.in-Ok-Some.field-0-is (c.in-Ok-Some.ensures.read o there) in
    let ends = ends_seen g.E.PipeEnd.seen c.args.ends.now in
    let ends_now = ends_seen g.E.PipeEnd.seen c.give_lines.new.ends in
    end_failed w c.args.interface.now.types (ap (λ j. j.types) c.requires.tied) i (intake_seen c.chunk.new.self) s t c.in-Ok-Some.vals c.args.which c.args.of.0 ends ends_now read
    (c.requires.which o there) (c.requires.of o there)
    (subst (AreCut ends ends_now c.args.which (lines c.args.interface.now.types c.args.of.0 c.in-Ok-Some.vals)) c.in-Err-End.field-0-is c.in-Err-End.ensures)

pub returns-in-Ok-finish-clause-passed : goal.returns-in-Ok-finish-clause-passed
returns-in-Ok-finish-clause-passed g c o there =
    let i = intake_seen c.args.intake.now in
    let w = setting_in i o in
    let s = source_over g.S.Source.seen c.args.source.now c.chunk.new.source in
    let t = decoding_seen c.args.items.now c.chunk.new.items (g.L.Ledger.number c.args.steps.now) (g.L.Ledger.number c.chunk.new.steps) in
    let read = subst (λ x. IsAnswered w s t i (intake_seen c.chunk.new.self) x) c.in-Ok-None.field-0-is (c.in-Ok-None.ensures.read o there) in
    finished w i (intake_seen c.chunk.new.self) s t c.args.which (ends_seen g.E.PipeEnd.seen c.args.ends.now) (ends_seen g.E.PipeEnd.seen c.finish.new.self) read (c.requires.which o there)
    c.in-Ok-finish.ensures

pub returns-in-Ok-None-clause-cause : goal.returns-in-Ok-None-clause-cause
returns-in-Ok-None-clause-cause g c o there =
    let i = intake_seen c.args.intake.now in
    let w = setting_in i o in
    let s = source_over g.S.Source.seen c.args.source.now c.chunk.new.source in
    let t = decoding_seen c.args.items.now c.chunk.new.items (g.L.Ledger.number c.args.steps.now) (g.L.Ledger.number c.chunk.new.steps) in
    let read = subst (λ x. IsAnswered w s t i (intake_seen c.chunk.new.self) x) c.in-Ok-None.field-0-is (c.in-Ok-None.ensures.read o there) in
    finish_failed w i (intake_seen c.chunk.new.self) s t c.args.which (ends_seen g.E.PipeEnd.seen c.args.ends.now) (ends_seen g.E.PipeEnd.seen c.finish.new.self) read (c.requires.which o there)
    c.in-Err-finish.ensures
