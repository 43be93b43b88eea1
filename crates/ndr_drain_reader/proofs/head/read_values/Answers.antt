use Rattle.std.proofs.Common.{◌≡◌, None, Err, sym, subst, drop, option_map}
use Rattle.nd_base.specs.Over.{source_over}
use Rattle.nd_lemmas.proofs.Lists.{item_at}
use Rattle.nd_value.specs.Fitting.{setting_beside}
use Rattle.ndr_decoder_value.specs.Parts.{IsTried}
use Rattle.ndr_decode.specs.Trials.{checks_fail}
use Rattle.nd_grammar.specs.decoded.Verdict.{decoding_seen}
use Rattle.ndr_decode.specs.Streaming.{cells_of}
use Rattle.ndr_decode.proofs.Decodes as call
use Rattle.ndr_decode.proofs.SideReads.{hold_after, numbers_keepable, refused_by, stands_after}
use Rattle.ndr_drain_reader.proofs.HeadCalls.{handed}
use Rattle.ndr_drain_reader.proofs.head.read_values.Goals as goal

pub returns-in_err-found-clause-reads : goal.returns-in_err-found-clause-reads
returns-in_err-found-clause-reads g c w legal is beside =
    let a = source_over g.S.Source.seen c.args.source.now c.read_roots.new.source in
    let s = decoding_seen c.args.items.now c.read_roots.new.items (g.L.Ledger.number c.args.steps.now) (g.L.Ledger.number c.read_roots.new.steps) in
    handed w legal c.args.order (cells_of c.args.stream.now) a s _ c.from_residual.result c.in_err-found.field-0.0 c.from_residual.ensures.1 (c.in_err-found.ensures.reads w legal is)

pub try_parameters-requires : goal.try_parameters-requires
try_parameters-requires g c =
    let p = c.args.plan.now in
    let (o, there) = item_at p.tie.operations c.args.op c.requires.known in
    let w = setting_beside p.tie o c.args.side None in
    let legal = call.legal p c.args.op c.args.side None o there c.args.order in
    let is = call.setting p c.args.op c.args.side None o there c.args.order in
    let a = source_over g.S.Source.seen c.args.source.now c.read_roots.new.source in
    let s = decoding_seen c.args.items.now c.read_roots.new.items (g.L.Ledger.number c.args.steps.now) (g.L.Ledger.number c.read_roots.new.steps) in
    record { numbers = numbers_keepable p c.args.op c.args.side c.args.order w legal is c.args.stream.now a s c.read_roots.new.stream (c.in_ok-found.ensures.reads w legal is) }

pub returns-in_err-try_parameters-clause-reads : goal.returns-in_err-try_parameters-clause-reads
returns-in_err-try_parameters-clause-reads g c w legal is beside =
    let p = c.args.plan.now in
    let y = c.read_roots.new.stream in
    let a = source_over g.S.Source.seen c.args.source.now c.read_roots.new.source in
    let s = decoding_seen c.args.items.now c.read_roots.new.items (g.L.Ledger.number c.args.steps.now) (g.L.Ledger.number c.read_roots.new.steps) in
    let at = c.in_ok-found.found.checks in
    let e = c.in_err-try_parameters.field-0.0 in
    handed w legal c.args.order (cells_of c.args.stream.now) a s _ c.from_residual-in_err-try_parameters.result e c.from_residual-in_err-try_parameters.ensures.1
    (refused_by p c.args.op c.args.side c.args.order w legal is c.args.stream.now a s y (c.in_ok-found.ensures.reads w legal is) at (c.in_ok-found.ensures.found w.op is.there).0 e
    (subst (λ q. IsTried (checks_fail y.cells.items y.roots.items q (drop at p.code)) (Err e)) (sym beside)
    (subst (λ k. IsTried (checks_fail y.cells.items y.roots.items (option_map (λ f. f.now.graph) c.args.given) (drop at k)) (Err e)) c.as_slice.ensures c.in_err-try_parameters.ensures)))

pub returns-clause-reads : goal.returns-clause-reads
returns-clause-reads g c w legal is beside =
    let p = c.args.plan.now in
    let y = c.read_roots.new.stream in
    let a = source_over g.S.Source.seen c.args.source.now c.read_roots.new.source in
    let s = decoding_seen c.args.items.now c.read_roots.new.items (g.L.Ledger.number c.args.steps.now) (g.L.Ledger.number c.read_roots.new.steps) in
    let went = c.in_ok-found.ensures.reads w legal is in
    let at = c.in_ok-found.found.checks in
    let held = hold_after p c.args.op c.args.side c.args.order w legal is c.args.stream.now a s y went at (c.in_ok-found.ensures.found w.op is.there).0
    (subst (λ q. checks_fail y.cells.items y.roots.items q (drop at p.code) ≡ None) (sym beside)
    (subst (λ k. checks_fail y.cells.items y.roots.items (option_map (λ f. f.now.graph) c.args.given) (drop at k) ≡ None) c.as_slice.ensures c.in_ok-try_parameters.ensures)) in
    record {
      octets = went.0.octets;
      items = went.0.items;
      direct = went.0.direct;
      s = went.0.s;
      seen = went.0.seen;
      stands = stands_after p c.args.op c.args.side c.args.order w legal is c.args.stream.now a s y went;
      hold = held;
      took = went.0.took;
    }
