use Rattle.std.proofs.Common.{◌≡◌, Some, refl, option_map}
use Rattle.std.specs.List.{slice_get}
use Rattle.nd_base.specs.Over.{source_over}
use Rattle.nd_types.specs.declared.types.Operation.{Operation}
use Rattle.nd_lemmas.proofs.Lists.{item_at}
use Rattle.nd_value.specs.Fitting.{setting_beside}
use Rattle.ndr_decoder_state.specs.declared.fault.DecodeFault.TheVariants as fault
use Rattle.nd_grammar.specs.decoded.Verdict.{decoding_seen}
use Rattle.ndr_decode.specs.Decoding.{IsFault, IsInOrder}
use Rattle.ndr_decode.specs.Streaming.{cells_of}
use Rattle.ndr_decode.proofs.Decodes as call
use Rattle.ndr_decode.proofs.decoding.decode.Goals as goal

pub returns-in_err-intake-clause-fault : goal.returns-in_err-intake-clause-fault
returns-in_err-intake-clause-fault g c =
    let p = c.args.plan.now in
    let n = c.args.op in
    let s = c.args.side in
    let q = option_map (λ f. f.now.graph) c.args.given in
    let k = c.args.order in
    let x = c.begin-stream.result in
    call.handed_on (λ e. (o : Operation) → slice_get p.tie.operations n ≡ Some o → IsFault (setting_beside p.tie o s q) k
    (source_over g.S.Source.seen c.args.source.now c.args.source.now) e
    (decoding_seen c.args.items.now c.args.items.now (g.L.Ledger.number c.args.steps.now) (g.L.Ledger.number c.args.steps.now))) c.from_residual.result fault.Memory c.from_residual.ensures.1
    (λ o there. call.nothing_read p n s q o there k x c.begin-stream.ensures.begins (g.S.Source.seen c.args.source.now).left (g.S.Source.seen c.args.source.now).ended
    (source_over g.S.Source.seen c.args.source.now c.args.source.now).faults c.args.items.now (g.L.Ledger.number c.args.steps.now))

pub returns-in_err-intake-clause-in_order : goal.returns-in_err-intake-clause-in_order
returns-in_err-intake-clause-in_order g c =
    let p = c.args.plan.now in
    let n = c.args.op in
    let s = c.args.side in
    let q = option_map (λ f. f.now.graph) c.args.given in
    let k = c.args.order in
    call.handed_on (λ e. (o : Operation) → slice_get p.tie.operations n ≡ Some o → IsInOrder (setting_beside p.tie o s q) k
    (source_over g.S.Source.seen c.args.source.now c.args.source.now) e
    (decoding_seen c.args.items.now c.args.items.now (g.L.Ledger.number c.args.steps.now) (g.L.Ledger.number c.args.steps.now))) c.from_residual.result fault.Memory c.from_residual.ensures.1
    (λ o there. tt)

pub returns-in_err-read_side-clause-fault : goal.returns-in_err-read_side-clause-fault
returns-in_err-read_side-clause-fault g c =
    let p = c.args.plan.now in
    let n = c.args.op in
    let s = c.args.side in
    let q = option_map (λ f. f.now.graph) c.args.given in
    let k = c.args.order in
    let x = c.begin-stream.result in
    let a = source_over g.S.Source.seen c.args.source.now c.read_side.new.source in
    let t = decoding_seen c.args.items.now c.read_side.new.items (g.L.Ledger.number c.args.steps.now) (g.L.Ledger.number c.read_side.new.steps) in
    let e = c.in_err-read_side.field-0.0 in
    call.handed_on (λ e. (o : Operation) → slice_get p.tie.operations n ≡ Some o → IsFault (setting_beside p.tie o s q) k a e t) c.from_residual-in_err-read_side.result e
    c.from_residual-in_err-read_side.ensures.1
    (λ o there. call.side_fails p n s q o there k x c.begin-stream.ensures.begins a t c.read_side.new.stream e
    (c.in_err-read_side.ensures.reads (setting_beside p.tie o s q) (call.legal p n s q o there k) (call.setting p n s q o there k) refl))

pub returns-in_err-read_side-clause-in_order : goal.returns-in_err-read_side-clause-in_order
returns-in_err-read_side-clause-in_order g c =
    let p = c.args.plan.now in
    let n = c.args.op in
    let s = c.args.side in
    let q = option_map (λ f. f.now.graph) c.args.given in
    let k = c.args.order in
    let x = c.begin-stream.result in
    let a = source_over g.S.Source.seen c.args.source.now c.read_side.new.source in
    let t = decoding_seen c.args.items.now c.read_side.new.items (g.L.Ledger.number c.args.steps.now) (g.L.Ledger.number c.read_side.new.steps) in
    let e = c.in_err-read_side.field-0.0 in
    call.handed_on (λ e. (o : Operation) → slice_get p.tie.operations n ≡ Some o → IsInOrder (setting_beside p.tie o s q) k a e t) c.from_residual-in_err-read_side.result e
    c.from_residual-in_err-read_side.ensures.1
    (λ o there. call.side_in_order p n s q o there k x c.begin-stream.ensures.begins a t c.read_side.new.stream e
    (c.in_err-read_side.ensures.reads (setting_beside p.tie o s q) (call.legal p n s q o there k) (call.setting p n s q o there k) refl))

pub returns-in_err-read_side-clause-read_fault : goal.returns-in_err-read_side-clause-read_fault
returns-in_err-read_side-clause-read_fault g c =
    let p = c.args.plan.now in
    let n = c.args.op in
    let s = c.args.side in
    let q = option_map (λ f. f.now.graph) c.args.given in
    let k = c.args.order in
    let x = c.begin-stream.result in
    let a = source_over g.S.Source.seen c.args.source.now c.read_side.new.source in
    let t = decoding_seen c.args.items.now c.read_side.new.items (g.L.Ledger.number c.args.steps.now) (g.L.Ledger.number c.read_side.new.steps) in
    let (o, there) = item_at p.tie.operations n c.requires.known in
    let e = c.in_err-read_side.field-0.0 in
    λ is. call.source_failed (setting_beside p.tie o s q) k (cells_of x) a t e
    (call.same_fault c.from_residual-in_err-read_side.result e fault.ReadFault c.from_residual-in_err-read_side.ensures.1 is)
    (c.in_err-read_side.ensures.reads (setting_beside p.tie o s q) (call.legal p n s q o there k) (call.setting p n s q o there k) refl)

pub finish-requires-clause-whole : goal.finish-requires-clause-whole
finish-requires-clause-whole g c =
    let p = c.args.plan.now in
    let n = c.args.op in
    let s = c.args.side in
    let q = option_map (λ f. f.now.graph) c.args.given in
    let k = c.args.order in
    let (o, there) = item_at p.tie.operations n c.requires.known in
    let read = c.in_ok-read_side.ensures.reads (setting_beside p.tie o s q) (call.legal p n s q o there k) (call.setting p n s q o there k) refl in
    read.whole

pub finish-requires-clause-fits : goal.finish-requires-clause-fits
finish-requires-clause-fits g c =
    let p = c.args.plan.now in
    let n = c.args.op in
    let s = c.args.side in
    let q = option_map (λ f. f.now.graph) c.args.given in
    let k = c.args.order in
    let x = c.begin-stream.result in
    let a = source_over g.S.Source.seen c.args.source.now c.read_side.new.source in
    let t = decoding_seen c.args.items.now c.read_side.new.items (g.L.Ledger.number c.args.steps.now) (g.L.Ledger.number c.read_side.new.steps) in
    let (o, there) = item_at p.tie.operations n c.requires.known in
    let read = c.in_ok-read_side.ensures.reads (setting_beside p.tie o s q) (call.legal p n s q o there k) (call.setting p n s q o there k) refl in
    let z = c.read_side.new.stream in
    let purpose =
    call.built_for p n s q c.again.result x c.read_side.new.stream c.begin-builder.result c.in_ok-read_side.ensures.same c.begin-stream.ensures.builder c.begin-builder.ensures c.again.ensures in
    let is = call.side_ends p n s q o there k x c.begin-stream.ensures.begins a t z read in
    call.is_fit p n s q o there k z purpose is.graph.conforms (call.given_fits p.tie n o s c.args.given (λ f. f.now) there c.beside-request.ensures.conforms c.requires.request)

pub returns-clause-decoded : goal.returns-clause-decoded
returns-clause-decoded g c =
    let p = c.args.plan.now in
    let n = c.args.op in
    let s = c.args.side in
    let q = option_map (λ f. f.now.graph) c.args.given in
    let k = c.args.order in
    let x = c.begin-stream.result in
    let a = source_over g.S.Source.seen c.args.source.now c.read_side.new.source in
    let t = decoding_seen c.args.items.now c.read_side.new.items (g.L.Ledger.number c.args.steps.now) (g.L.Ledger.number c.read_side.new.steps) in
    let z = c.read_side.new.stream in
    λ o there. call.decoded_as p n s q o there k x c.begin-stream.ensures.begins a t z c.finish.result.taken c.finish.result.fit c.finish.ensures.fit c.finish.ensures.taken
    (c.in_ok-read_side.ensures.reads (setting_beside p.tie o s q) (call.legal p n s q o there k) (call.setting p n s q o there k) refl)

pub returns-clause-of : goal.returns-clause-of
returns-clause-of g c =
    let p = c.args.plan.now in
    let n = c.args.op in
    let s = c.args.side in
    let q = option_map (λ f. f.now.graph) c.args.given in
    let k = c.args.order in
    let x = c.begin-stream.result in
    let purpose =
    call.built_for p n s q c.again.result x c.read_side.new.stream c.begin-builder.result c.in_ok-read_side.ensures.same c.begin-stream.ensures.builder c.begin-builder.ensures c.again.ensures in
    call.fit_of c.finish.result.fit c.read_side.new.stream (call.purpose_by p n s q) c.finish.ensures.fit purpose

pub returns-clause-beside : goal.returns-clause-beside
returns-clause-beside g c =
    let p = c.args.plan.now in
    let n = c.args.op in
    let s = c.args.side in
    let q = option_map (λ f. f.now.graph) c.args.given in
    let k = c.args.order in
    let x = c.begin-stream.result in
    let purpose =
    call.built_for p n s q c.again.result x c.read_side.new.stream c.begin-builder.result c.in_ok-read_side.ensures.same c.begin-stream.ensures.builder c.begin-builder.ensures c.again.ensures in
    call.fit_beside c.finish.result.fit c.read_side.new.stream (call.purpose_by p n s q) c.finish.ensures.fit purpose
