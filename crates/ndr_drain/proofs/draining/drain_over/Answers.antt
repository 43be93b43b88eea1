use Rattle.std.proofs.Common.{◌≡◌, ◌∙◌, List, sym, subst, inl, option_map, Some, arith}
use Rattle.std.specs.List.{slice_get}
use Rattle.nd_base.specs.Over.{source_over}
use Rattle.nd_types.specs.declared.types.Operation.{Operation}
use Rattle.nd_types.specs.declared.types.TypeId.{TypeId}
use Rattle.nd_value.specs.Fitting.{setting_beside}
use Rattle.nd_value.specs.Setting.{Setting}
use Rattle.nd_grammar.specs.decoded.Verdict.{decoding_seen}
use Rattle.ndr_pipe.specs.Ends.{ends_over, ends_seen}
use Rattle.ndr_drain_reader.specs.Seen.{intake_seen}
use Rattle.ndr_drain.specs.Drained.{IsDrained, IsDrainCause}
use Rattle.ndr_drain.specs.Turns.{AreElements, IsReadToEnd, OfSetting, StopsUnderWay}
use Rattle.ndr_drain.proofs.Drains.{drain_done, drain_stopped, head_refused, no_memory}
use Rattle.ndr_drain.proofs.ElementTypes.{numbers}
use Rattle.ndr_drain.proofs.Rest.{b_phase, b_request, err_on, ok_on, rest_all, rest_first, rest_many, rest_op, rest_reading, rest_side, rest_tied, rest_types}
use Rattle.ndr_drain.proofs.UnderWay.{all_open}
use Rattle.ndr_drain.proofs.draining.drain_over.Goals as goal

pub returns-in_default-clause-cause : goal.returns-in_default-clause-cause
returns-in_default-clause-cause g c o there =
    inl (no_memory c.args.interface.now c.args.op o c.args.side c.args.order (option_map (λ f. f.now.graph) c.args.given) (g.S.Source.seen c.args.source.now).left
    (g.S.Source.seen c.args.source.now).ended
    (g.S.Source.seen c.args.source.now).faults (ends_seen g.E.PipeEnd.seen c.args.ends.now) c.args.items.now (g.L.Ledger.number c.args.steps.now) there)

pub returns-in_default-element_types-clause-cause : goal.returns-in_default-element_types-clause-cause
returns-in_default-element_types-clause-cause g c o there =
    inl (no_memory c.args.interface.now c.args.op o c.args.side c.args.order (option_map (λ f. f.now.graph) c.args.given) (g.S.Source.seen c.args.source.now).left
    (g.S.Source.seen c.args.source.now).ended
    (g.S.Source.seen c.args.source.now).faults (ends_seen g.E.PipeEnd.seen c.args.ends.now) c.args.items.now (g.L.Ledger.number c.args.steps.now) there)

pub head-requires-clause-begun : goal.head-requires-clause-begun
head-requires-clause-begun g c =
    b_phase c.args.interface.now c.args.plan.now.tie c.args.op c.args.side c.args.order c.requires.tied (intake_seen c.in-Ok.intake) c.in-Ok.ensures.begun c.requires.known

pub head-requires-clause-request : goal.head-requires-clause-request
head-requires-clause-request g c =
    b_request c.args.interface.now c.args.plan.now.tie c.args.op c.args.side c.args.order c.requires.tied (intake_seen c.in-Ok.intake) c.in-Ok.ensures.begun c.requires.known
    (option_map (λ f. f.now) c.args.given) c.requires.request

pub drain_rest-requires-clause-tied : goal.drain_rest-requires-clause-tied
drain_rest-requires-clause-tied g c =
    rest_tied c.args.interface.now c.args.plan.now.tie c.args.op c.args.side c.args.order c.requires.tied (intake_seen c.in-Ok.intake) c.in-Ok.ensures.begun c.requires.known
    (option_map (λ f. f.now.graph) c.args.given) (intake_seen c.head.new.self) (source_over g.S.Source.seen c.args.source.now c.head.new.source)
    (decoding_seen c.args.items.now c.head.new.items (g.L.Ledger.number c.args.steps.now) (g.L.Ledger.number c.head.new.steps)) c.in-Ok-head.ensures.read c.in-Ok-head.ensures.beside

pub drain_rest-requires-clause-reading : goal.drain_rest-requires-clause-reading
drain_rest-requires-clause-reading g c =
    rest_reading c.args.interface.now c.args.plan.now.tie c.args.op c.args.side c.args.order c.requires.tied (intake_seen c.in-Ok.intake) c.in-Ok.ensures.begun c.requires.known
    (option_map (λ f. f.now.graph) c.args.given) (intake_seen c.head.new.self) (source_over g.S.Source.seen c.args.source.now c.head.new.source)
    (decoding_seen c.args.items.now c.head.new.items (g.L.Ledger.number c.args.steps.now) (g.L.Ledger.number c.head.new.steps)) c.in-Ok-head.ensures.read c.in-Ok-head.ensures.beside

pub drain_rest-requires-clause-first : goal.drain_rest-requires-clause-first
drain_rest-requires-clause-first g c =
    rest_first c.args.interface.now c.args.plan.now.tie c.args.op c.args.side c.args.order c.requires.tied (intake_seen c.in-Ok.intake) c.in-Ok.ensures.begun c.requires.known
    (option_map (λ f. f.now.graph) c.args.given) (intake_seen c.head.new.self) (source_over g.S.Source.seen c.args.source.now c.head.new.source)
    (decoding_seen c.args.items.now c.head.new.items (g.L.Ledger.number c.args.steps.now) (g.L.Ledger.number c.head.new.steps)) c.in-Ok-head.ensures.read c.in-Ok-head.ensures.beside

pub drain_rest-requires-clause-all : goal.drain_rest-requires-clause-all
drain_rest-requires-clause-all g c =
    rest_all c.args.interface.now c.args.plan.now.tie c.args.op c.args.side c.args.order c.requires.tied (intake_seen c.in-Ok.intake) c.in-Ok.ensures.begun c.requires.known
    (option_map (λ f. f.now.graph) c.args.given) (intake_seen c.head.new.self) (source_over g.S.Source.seen c.args.source.now c.head.new.source)
    (decoding_seen c.args.items.now c.head.new.items (g.L.Ledger.number c.args.steps.now) (g.L.Ledger.number c.head.new.steps)) c.in-Ok-head.ensures.read c.in-Ok-head.ensures.beside

pub drain_rest-requires-clause-types : goal.drain_rest-requires-clause-types
drain_rest-requires-clause-types g c =
    let P : List TypeId → Type 0 = λ l. OfSetting (intake_seen c.head.new.self) (λ w. AreElements w (numbers l)) in
    subst P (sym c.as_slice.ensures.value)
    (rest_types c.args.interface.now c.args.plan.now.tie c.args.op c.args.side c.args.order c.requires.tied (intake_seen c.in-Ok.intake) c.in-Ok.ensures.begun c.requires.known
    (option_map (λ f. f.now.graph) c.args.given) (intake_seen c.head.new.self) (source_over g.S.Source.seen c.args.source.now c.head.new.source)
    (decoding_seen c.args.items.now c.head.new.items (g.L.Ledger.number c.args.steps.now)
    (g.L.Ledger.number c.head.new.steps)) c.in-Ok-head.ensures.read c.in-Ok-head.ensures.beside c.in-Ok-element_types.types.items c.in-Ok-element_types.ensures)

pub drain_rest-requires-clause-open : goal.drain_rest-requires-clause-open
drain_rest-requires-clause-open g c =
    all_open (ends_seen g.E.PipeEnd.seen c.args.ends.now) c.requires.open

pub drain_rest-requires-clause-enough : goal.drain_rest-requires-clause-enough
drain_rest-requires-clause-enough g c =
    let many = rest_many c.args.interface.now c.args.plan.now.tie c.args.op c.args.side c.args.order c.requires.tied (intake_seen c.in-Ok.intake) c.in-Ok.ensures.begun c.requires.known
    (option_map (λ f. f.now.graph) c.args.given) (intake_seen c.head.new.self) (source_over g.S.Source.seen c.args.source.now c.head.new.source)
    (decoding_seen c.args.items.now c.head.new.items (g.L.Ledger.number c.args.steps.now)
    (g.L.Ledger.number c.head.new.steps)) c.in-Ok-head.ensures.read c.in-Ok-head.ensures.beside c.in-Ok-element_types.types.items c.in-Ok-element_types.ensures in
    omega (arith, many, c.pipes_left-wanted.ensures, c.len-found.ensures, c.if-found-wanted.false)

pub drain_rest-requires-clause-few : goal.drain_rest-requires-clause-few
drain_rest-requires-clause-few g c =
    let many = rest_many c.args.interface.now c.args.plan.now.tie c.args.op c.args.side c.args.order c.requires.tied (intake_seen c.in-Ok.intake) c.in-Ok.ensures.begun c.requires.known
    (option_map (λ f. f.now.graph) c.args.given) (intake_seen c.head.new.self) (source_over g.S.Source.seen c.args.source.now c.head.new.source)
    (decoding_seen c.args.items.now c.head.new.items (g.L.Ledger.number c.args.steps.now)
    (g.L.Ledger.number c.head.new.steps)) c.in-Ok-head.ensures.read c.in-Ok-head.ensures.beside c.in-Ok-element_types.types.items c.in-Ok-element_types.ensures in
    omega (arith, many, c.pipes_left-wanted.ensures, c.pipes_left-wanted.type_inv)

pub returns-in-Ok-head-clause-drained : goal.returns-in-Ok-head-clause-drained
returns-in-Ok-head-clause-drained g c =
    let first = intake_seen c.head.new.self in
    let w : Operation → Setting = λ o. setting_beside c.args.interface.now o c.args.side (option_map (λ f. f.now.graph) c.args.given) in
    let rest = source_over g.S.Source.seen c.head.new.source c.drain_rest.new.source in
    let all = source_over g.S.Source.seen c.args.source.now c.drain_rest.new.source in
    let ends = ends_over g.E.PipeEnd.seen c.args.ends.now c.drain_rest.new.ends in
    let noted_rest = decoding_seen c.head.new.items c.drain_rest.new.items (g.L.Ledger.number c.head.new.steps) (g.L.Ledger.number c.drain_rest.new.steps) in
    let noted = decoding_seen c.args.items.now c.drain_rest.new.items (g.L.Ledger.number c.args.steps.now) (g.L.Ledger.number c.drain_rest.new.steps) in
    ok_on c.drain_rest.result (λ d. OfSetting first (λ w. IsReadToEnd w first rest ends noted_rest d.fit.graph d.taken))
    (λ d. (o : Operation) → slice_get c.args.interface.now.operations c.args.op ≡ Some o → IsDrained (w o) c.args.order all ends noted d.taken d.fit.graph)
    (λ d k. drain_done c.args.interface.now c.args.plan.now.tie c.args.op c.args.side c.args.order (option_map (λ f. f.now.graph) c.args.given) c.requires.tied (intake_seen c.in-Ok.intake)
    (intake_seen c.head.new.self) (g.S.Source.seen c.args.source.now).left (g.S.Source.seen c.head.new.source).left (g.S.Source.seen c.drain_rest.new.source).left
    (g.S.Source.seen c.head.new.source).ended (g.S.Source.seen c.drain_rest.new.source).ended (g.S.Source.seen c.args.source.now).faults (g.S.Source.seen c.head.new.source).faults
    (g.S.Source.seen c.drain_rest.new.source).faults (ends_seen g.E.PipeEnd.seen c.args.ends.now) (ends_seen g.E.PipeEnd.seen c.drain_rest.new.ends) c.args.items.now c.head.new.items
    c.drain_rest.new.items (g.L.Ledger.number c.args.steps.now) (g.L.Ledger.number c.head.new.steps)
    (g.L.Ledger.number c.drain_rest.new.steps) c.in-Ok.ensures.begun c.in-Ok-head.ensures.read c.in-Ok-head.ensures.beside
    c.pipes_left-wanted.result c.len-found.result c.pipes_left-wanted.ensures c.len-found.ensures (omega (arith, c.if-found-wanted.false)) d.fit.graph d.taken k)
    c.drain_rest.ensures.read

pub returns-in-Ok-head-clause-of : goal.returns-in-Ok-head-clause-of
returns-in-Ok-head-clause-of g c =
    let op = rest_op c.args.interface.now c.args.plan.now.tie c.args.op c.args.side c.args.order c.requires.tied (intake_seen c.in-Ok.intake) c.in-Ok.ensures.begun c.requires.known
    (option_map (λ f. f.now.graph) c.args.given) (intake_seen c.head.new.self) (source_over g.S.Source.seen c.args.source.now c.head.new.source)
    (decoding_seen c.args.items.now c.head.new.items (g.L.Ledger.number c.args.steps.now) (g.L.Ledger.number c.head.new.steps)) c.in-Ok-head.ensures.read c.in-Ok-head.ensures.beside in
    let side = rest_side c.args.interface.now c.args.plan.now.tie c.args.op c.args.side c.args.order c.requires.tied (intake_seen c.in-Ok.intake) c.in-Ok.ensures.begun c.requires.known
    (option_map (λ f. f.now.graph) c.args.given) (intake_seen c.head.new.self) (source_over g.S.Source.seen c.args.source.now c.head.new.source)
    (decoding_seen c.args.items.now c.head.new.items (g.L.Ledger.number c.args.steps.now) (g.L.Ledger.number c.head.new.steps)) c.in-Ok-head.ensures.read c.in-Ok-head.ensures.beside in
    let tied = rest_tied c.args.interface.now c.args.plan.now.tie c.args.op c.args.side c.args.order c.requires.tied (intake_seen c.in-Ok.intake) c.in-Ok.ensures.begun c.requires.known
    (option_map (λ f. f.now.graph) c.args.given) (intake_seen c.head.new.self) (source_over g.S.Source.seen c.args.source.now c.head.new.source)
    (decoding_seen c.args.items.now c.head.new.items (g.L.Ledger.number c.args.steps.now) (g.L.Ledger.number c.head.new.steps)) c.in-Ok-head.ensures.read c.in-Ok-head.ensures.beside in
    let first = intake_seen c.head.new.self in
    ok_on c.drain_rest.result (λ d. (d.fit.op ≡ first.op) × (d.fit.side ≡ first.side) × (d.fit.interface ≡ first.interface))
    (λ d. (d.fit.op ≡ c.args.op) × (d.fit.side ≡ c.args.side) × (d.fit.interface ≡ c.args.interface.now)) (λ d k. (k.0 ∙ op, k.1 ∙ side, k.2 ∙ tied)) c.drain_rest.ensures.of

pub returns-in-Ok-head-clause-cause : goal.returns-in-Ok-head-clause-cause
returns-in-Ok-head-clause-cause g c =
    let first = intake_seen c.head.new.self in
    let w : Operation → Setting = λ o. setting_beside c.args.interface.now o c.args.side (option_map (λ f. f.now.graph) c.args.given) in
    let rest = source_over g.S.Source.seen c.head.new.source c.drain_rest.new.source in
    let all = source_over g.S.Source.seen c.args.source.now c.drain_rest.new.source in
    let ends = ends_over g.E.PipeEnd.seen c.args.ends.now c.drain_rest.new.ends in
    let noted_rest = decoding_seen c.head.new.items c.drain_rest.new.items (g.L.Ledger.number c.head.new.steps) (g.L.Ledger.number c.drain_rest.new.steps) in
    let noted = decoding_seen c.args.items.now c.drain_rest.new.items (g.L.Ledger.number c.args.steps.now) (g.L.Ledger.number c.drain_rest.new.steps) in
    err_on c.drain_rest.result (λ f. OfSetting first (λ w. StopsUnderWay w first rest ends noted_rest f))
    (λ f. (o : Operation) → slice_get c.args.interface.now.operations c.args.op ≡ Some o → IsDrainCause (w o) c.args.order all ends noted f)
    (λ f k. drain_stopped c.args.interface.now c.args.plan.now.tie c.args.op c.args.side c.args.order (option_map (λ f. f.now.graph) c.args.given) c.requires.tied (intake_seen c.in-Ok.intake)
    (intake_seen c.head.new.self) (g.S.Source.seen c.args.source.now).left (g.S.Source.seen c.head.new.source).left (g.S.Source.seen c.drain_rest.new.source).left
    (g.S.Source.seen c.head.new.source).ended (g.S.Source.seen c.drain_rest.new.source).ended (g.S.Source.seen c.args.source.now).faults (g.S.Source.seen c.head.new.source).faults
    (g.S.Source.seen c.drain_rest.new.source).faults (ends_seen g.E.PipeEnd.seen c.args.ends.now) (ends_seen g.E.PipeEnd.seen c.drain_rest.new.ends) c.args.items.now c.head.new.items
    c.drain_rest.new.items (g.L.Ledger.number c.args.steps.now) (g.L.Ledger.number c.head.new.steps)
    (g.L.Ledger.number c.drain_rest.new.steps) c.in-Ok.ensures.begun c.in-Ok-head.ensures.read c.in-Ok-head.ensures.beside f c.in-Ok-head.ensures.later k)
    c.drain_rest.ensures.cause

pub returns-in-Err-clause-cause : goal.returns-in-Err-clause-cause
returns-in-Err-clause-cause g c =
    head_refused c.args.interface.now c.args.plan.now.tie c.args.op c.args.side c.args.order (option_map (λ f. f.now.graph) c.args.given) c.requires.tied (intake_seen c.in-Ok.intake)
    (intake_seen c.in-Ok.intake) (g.S.Source.seen c.args.source.now).left (g.S.Source.seen c.head.new.source).left (g.S.Source.seen c.head.new.source).left
    (g.S.Source.seen c.head.new.source).ended (g.S.Source.seen c.head.new.source).ended (g.S.Source.seen c.args.source.now).faults (g.S.Source.seen c.head.new.source).faults
    (g.S.Source.seen c.head.new.source).faults (ends_seen g.E.PipeEnd.seen c.args.ends.now) (ends_seen g.E.PipeEnd.seen c.args.ends.now) c.args.items.now c.head.new.items
    c.head.new.items (g.L.Ledger.number c.args.steps.now) (g.L.Ledger.number c.head.new.steps)
    (g.L.Ledger.number c.head.new.steps) c.in-Ok.ensures.begun c.in-Err.fault c.drain_fault.result c.drain_fault.ensures
    c.in-Err.ensures.cause
