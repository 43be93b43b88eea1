use Rattle.std.proofs.Common.{◌≡◌, Some, refl, ap, ◌∙◌, length, option_map, arith}
use Rattle.std.specs.List.{slice_get}
use Rattle.nd_base.specs.Over.{source_over}
use Rattle.nd_types.specs.declared.types.Operation.{Operation}
use Rattle.nd_lemmas.proofs.Lists.{item_at}
use Rattle.nd_value.specs.Fitting.{setting_beside}
use Rattle.nd_value.specs.declared.value.Graph.{Graph}
use Rattle.nd_flat.specs.Building.{closed}
use Rattle.ndr_decoder_state.specs.declared.fault.DecodeFault.TheVariants as fault
use Rattle.nd_grammar.specs.decoded.Verdict.{decoding_seen}
use Rattle.ndr_decoder_stream.proofs.Opened.{closed_length}
use Rattle.ndr_decode.specs.Streaming.{Purpose, cells_of}
use Rattle.ndr_decode.proofs.Decodes as call
use Rattle.ndr_drain_reader.specs.Calls.{IsHeadCause}
use Rattle.ndr_drain_reader.specs.Seen.{intake_seen}
use Rattle.ndr_drain_reader.proofs.HeadCalls.{caused, cut_after, fits_for, no_cells}
use Rattle.ndr_drain_reader.proofs.HeadStands.{head_was_read, reads_head}
use Rattle.ndr_drain_reader.proofs.SidePipes.{pipes_are}
use Rattle.ndr_drain_reader.proofs.head.read_head.Goals as goal

pub returns-in_err-read_values-clause-cause : goal.returns-in_err-read_values-clause-cause
returns-in_err-read_values-clause-cause g c =
    let i = c.args.intake.now in
    let p = i.plan.now in
    let n = i.op in
    let s = i.side in
    let q = option_map (λ f. f.now.graph) c.args.given in
    let k = i.order in
    let x = c.begin-stream.result in
    let y = c.read_values.new.stream in
    let a = source_over g.S.Source.seen c.args.source.now c.read_values.new.source in
    let t = decoding_seen c.args.items.now c.read_values.new.items (g.L.Ledger.number c.args.steps.now) (g.L.Ledger.number c.read_values.new.steps) in
    call.handed_on
    (λ e. (o : Operation) → slice_get p.tie.operations n ≡ Some o
    → IsHeadCause (setting_beside p.tie o s q) k a t e) c.from_residual.result c.in_err-read_values.field-0.0 c.from_residual.ensures.1
    (λ o there. caused (c.heads_are_refused.ensures.refused, c.heads_are_refused.ensures.passed) (setting_beside p.tie o s q) (call.legal p n s q o there k) k a t (cells_of x)
    (no_cells x c.begin-stream.ensures.begins) c.in_err-read_values.field-0.0
    (c.in_err-read_values.ensures.reads (setting_beside p.tie o s q) (call.legal p n s q o there k) (call.setting p n s q o there k) refl))

pub with_pipes-requires : goal.with_pipes-requires
with_pipes-requires g c =
    let i = c.args.intake.now in
    let p = i.plan.now in
    let n = i.op in
    let s = i.side in
    let q = option_map (λ f. f.now.graph) c.args.given in
    let k = i.order in
    let x = c.begin-stream.result in
    let y = c.read_values.new.stream in
    let a = source_over g.S.Source.seen c.args.source.now c.read_values.new.source in
    let t = decoding_seen c.args.items.now c.read_values.new.items (g.L.Ledger.number c.args.steps.now) (g.L.Ledger.number c.read_values.new.steps) in
    let (o, there) = item_at p.tie.operations n c.requires.ready.known in
    let r = c.in_ok-read_values.ensures.reads (setting_beside p.tie o s q) (call.legal p n s q o there k) (call.setting p n s q o there k) refl in
    record { whole = r.stands.whole }

pub returns-in_err-kept-clause-cause : goal.returns-in_err-kept-clause-cause
returns-in_err-kept-clause-cause g c =
    let i = c.args.intake.now in
    let p = i.plan.now in
    let n = i.op in
    let s = i.side in
    let q = option_map (λ f. f.now.graph) c.args.given in
    let k = i.order in
    let x = c.begin-stream.result in
    let y = c.read_values.new.stream in
    let a = source_over g.S.Source.seen c.args.source.now c.read_values.new.source in
    let t = decoding_seen c.args.items.now c.read_values.new.items (g.L.Ledger.number c.args.steps.now) (g.L.Ledger.number c.read_values.new.steps) in
    call.handed_on
    (λ e. (o : Operation) → slice_get p.tie.operations n ≡ Some o
    → IsHeadCause (setting_beside p.tie o s q) k a t e) c.from_residual-in_err-kept.result fault.Memory c.from_residual-in_err-kept.ensures.1
    (λ o there. caused (c.heads_are_refused.ensures.refused, c.heads_are_refused.ensures.passed) (setting_beside p.tie o s q) (call.legal p n s q o there k) k a t (cells_of x)
    (no_cells x c.begin-stream.ensures.begins) fault.Memory
    (cut_after (setting_beside p.tie o s q) (call.legal p n s q o there k) k (cells_of x) a t y
    (c.in_ok-read_values.ensures.reads (setting_beside p.tie o s q) (call.legal p n s q o there k) (call.setting p n s q o there k) refl)))

pub returns-clause-read : goal.returns-clause-read
returns-clause-read g c o there =
    let i = c.args.intake.now in
    let p = i.plan.now in
    let n = i.op in
    let s = i.side in
    let q = option_map (λ f. f.now.graph) c.args.given in
    let k = i.order in
    let x = c.begin-stream.result in
    let y = c.read_values.new.stream in
    let a = source_over g.S.Source.seen c.args.source.now c.read_values.new.source in
    let t = decoding_seen c.args.items.now c.read_values.new.items (g.L.Ledger.number c.args.steps.now) (g.L.Ledger.number c.read_values.new.steps) in
    let w = setting_beside p.tie o s q in
    let legal = call.legal p n s q o there k in
    let r = c.in_ok-read_values.ensures.reads w legal (call.setting p n s q o there k) refl in
    let f = c.in_ok-kept.ensures.graph in
    let many = pipes_are p n s o there i.root i.left (c.requires.ready.first o there) (c.requires.ready.at_pipe o there).all in
    head_was_read w legal (intake_seen i) (cells_of x) a t y r c.heads_are_read.ensures (no_cells x c.begin-stream.ensures.begins) _ i.left many f
    (ap (λ (h : Graph). length h.cells) f ∙ closed_length y.machine.builder) refl refl refl refl refl refl (c.requires.ready.first o there) c.requires.ready.node refl

pub returns-clause-beside : goal.returns-clause-beside
returns-clause-beside g c =
    let i = c.args.intake.now in
    let p = i.plan.now in
    let n = i.op in
    let s = i.side in
    let q = option_map (λ f. f.now.graph) c.args.given in
    let k = i.order in
    let x = c.begin-stream.result in
    let y = c.read_values.new.stream in
    let a = source_over g.S.Source.seen c.args.source.now c.read_values.new.source in
    let t = decoding_seen c.args.items.now c.read_values.new.items (g.L.Ledger.number c.args.steps.now) (g.L.Ledger.number c.read_values.new.steps) in
    let purpose = call.built_for p n s q c.again.result x y c.begin-builder.result c.in_ok-read_values.ensures.same c.begin-stream.ensures.builder c.begin-builder.ensures c.again.ensures in
    ap (λ (u : Purpose). u.given) (c.in_ok-kept.ensures.same ∙ purpose)

pub returns-clause-ready : goal.returns-clause-ready
returns-clause-ready g c =
    let i = c.args.intake.now in
    let p = i.plan.now in
    let n = i.op in
    let s = i.side in
    let q = option_map (λ f. f.now.graph) c.args.given in
    let k = i.order in
    let x = c.begin-stream.result in
    let y = c.read_values.new.stream in
    let a = source_over g.S.Source.seen c.args.source.now c.read_values.new.source in
    let t = decoding_seen c.args.items.now c.read_values.new.items (g.L.Ledger.number c.args.steps.now) (g.L.Ledger.number c.read_values.new.steps) in
    let (o, there) = item_at p.tie.operations n c.requires.ready.known in
    let w = setting_beside p.tie o s q in
    let legal = call.legal p n s q o there k in
    let r = c.in_ok-read_values.ensures.reads w legal (call.setting p n s q o there k) refl in
    let purpose = c.in_ok-kept.ensures.same
    ∙ call.built_for p n s q c.again.result x y c.begin-builder.result c.in_ok-read_values.ensures.same c.begin-stream.ensures.builder c.begin-builder.ensures c.again.ensures in
    let many = pipes_are p n s o there i.root i.left (c.requires.ready.first o there) (c.requires.ready.at_pipe o there).all in
    let head = reads_head w legal (intake_seen i) (cells_of x) a t y r c.heads_are_read.ensures i.left many (closed c.in_ok-kept.kept) c.in_ok-kept.ensures.graph in
    let one = c.requires.ready.node in
    record {
      known = c.requires.ready.known;
      whole = c.in_ok-kept.ensures.whole;
      fits = fits_for p n s q o there c.in_ok-kept.kept purpose head.conforms (call.given_fits p.tie n o s c.args.given (λ f. f.now) there c.beside-request.ensures.conforms c.requires.request);
      op = ap (λ (u : Purpose). u.op) purpose;
      side = ap (λ (u : Purpose). u.side) purpose;
      interface = ap (λ (u : Purpose). u.interface) purpose;
      within = r.stands.within;
      one = omega (arith, one);
      few_nodes = omega (arith, one);
      at_pipe = λ o there. (let is = c.requires.ready.at_pipe o there in record { after_values = is.after_values; all = is.all; line = is.line });
    }
