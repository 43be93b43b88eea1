use Rattle.std.proofs.Common.{◌≡◌, Some, option_map, refl, sym, subst, inl}
use Rattle.std.proofs.lemmas.Result.{err_from_is_err_and}
use Rattle.std.specs.List.{slice_get}
use Rattle.nd_base.specs.Over.{source_over}
use Rattle.nd_value.specs.Fitting.{setting_beside}
use Rattle.ndr_pipe.specs.Ends.{ends_over}
use Rattle.command_drain.proofs.Steps.{printed_is, no_end, no_text, not_taken}
use Rattle.command_decode.proofs.Steps.{text_is}
use Rattle.command_drain.proofs.draining.drain_octets.Goals as goal

pub returns-in_err-plan-clause-refused : goal.returns-in_err-plan-clause-refused
returns-in_err-plan-clause-refused g c o there =
    let p = err_from_is_err_and c.from_residual.result c.from_residual.ensures.1 in
    rw (p.1, p.2) (inl (record { untouched = record { nothing_taken = refl; no_fault = refl }; none_given = refl }))

pub returns-in_err-drained-clause-refused : goal.returns-in_err-drained-clause-refused
returns-in_err-drained-clause-refused g c o there =
    let p = err_from_is_err_and c.from_residual-in_err-drained.result c.from_residual-in_err-drained.ensures.1 in
    let s = source_over g.S.Source.seen c.args.input.now c.drain.new.input in
    let e = ends_over g.E.PipeEnd.seen c.args.ends.now c.drain.new.ends in
    let q = option_map (λ f. f.now.graph) c.args.given in
    rw (p.1, p.2) (not_taken s e (setting_beside c.args.interface.now o c.args.side q) c.args.order _ (c.in_err-drained.ensures.refused o there))

pub returns-in_err-end-clause-refused : goal.returns-in_err-end-clause-refused
returns-in_err-end-clause-refused g c o there =
    let p = err_from_is_err_and c.from_residual-in_err-end.result c.from_residual-in_err-end.ensures.1 in
    let s = source_over g.S.Source.seen c.args.input.now c.drain.new.input in
    let u = source_over g.S.Source.seen c.drain.new.input c.end.new.input in
    let e = ends_over g.E.PipeEnd.seen c.args.ends.now c.drain.new.ends in
    let q = option_map (λ f. f.now.graph) c.args.given in
    let d = c.in_ok-drained.drained in
    rw (p.1, p.2) (no_end s u e (setting_beside c.args.interface.now o c.args.side q) c.args.order d.taken d.fit.graph (c.in_ok-drained.ensures.taken o there) refl
    c.in_ok-drained.ensures.later refl _ c.in_err-end.ensures.refused)

pub returns-in_err-text-clause-refused : goal.returns-in_err-text-clause-refused
returns-in_err-text-clause-refused g c o there =
    let p = err_from_is_err_and c.from_residual-in_err-text.result c.from_residual-in_err-text.ensures.1 in
    let s = source_over g.S.Source.seen c.args.input.now c.drain.new.input in
    let u = source_over g.S.Source.seen c.drain.new.input c.end.new.input in
    let e = ends_over g.E.PipeEnd.seen c.args.ends.now c.drain.new.ends in
    let q = option_map (λ f. f.now.graph) c.args.given in
    let d = c.in_ok-drained.drained in
    rw (p.1, p.2) (no_text s u e (setting_beside c.args.interface.now o c.args.side q) c.args.order d.taken d.fit.graph (c.in_ok-drained.ensures.taken o there) refl
    c.in_ok-end.ensures.ended)

pub returns-clause-printed : goal.returns-clause-printed
returns-clause-printed g c o there =
    let s = source_over g.S.Source.seen c.args.input.now c.drain.new.input in
    let u = source_over g.S.Source.seen c.drain.new.input c.end.new.input in
    let e = ends_over g.E.PipeEnd.seen c.args.ends.now c.drain.new.ends in
    let i = c.args.interface.now in
    let q = option_map (λ f. f.now.graph) c.args.given in
    let d = c.in_ok-drained.drained in
    printed_is s u e (setting_beside i o c.args.side q) c.args.order d.taken d.fit.graph (c.in_ok-drained.ensures.taken o there) refl c.in_ok-text.text c.in_ok-end.ensures.ended
    (text_is i o c.args.side d.fit.side q d.fit.given d.fit.graph c.in_ok-text.text c.in_ok-drained.ensures.side c.in_ok-drained.ensures.beside
    (c.in_ok-text.ensures o (subst (λ n. slice_get i.operations n ≡ Some o) (sym c.in_ok-drained.ensures.number) there)))
