use Rattle.std.proofs.Common.{◌≡◌, Some, option_map, refl, sym, subst}
use Rattle.std.proofs.lemmas.Result.{err_from_is_err_and}
use Rattle.std.specs.List.{slice_get}
use Rattle.nd_base.specs.Over.{source_over}
use Rattle.nd_types.specs.declared.interface.Interface.{Interface}
use Rattle.nd_value.specs.Fitting.{setting_beside}
use Rattle.command_decode.specs.Taken.{IsTaken}
use Rattle.command_decode.proofs.Steps.{over_interface, printed_is, no_end, text_is}
use Rattle.command_decode.proofs.printing.print_octets.Goals as goal

pub returns-in_err-decoded-clause-refused : goal.returns-in_err-decoded-clause-refused
returns-in_err-decoded-clause-refused g c o there =
    let p = err_from_is_err_and c.from_residual-in_err-decoded.result c.from_residual-in_err-decoded.ensures.1 in
    let s = source_over g.S.Source.seen c.args.input.now c.decode.new.input in
    let q = option_map (λ f. f.now.graph) c.args.given in
    let known = subst (λ (j : Interface). slice_get j.operations c.args.op ≡ Some o) (sym c.in_ok-plan.ensures) there in
    rw (p.1, p.2) (over_interface s o c.args.side q c.args.order _ _ _ c.in_ok-plan.ensures (c.in_err-decoded.ensures.refused o known))

pub returns-in_err-end-clause-refused : goal.returns-in_err-end-clause-refused
returns-in_err-end-clause-refused g c o there =
    let p = err_from_is_err_and c.from_residual-in_err-end.result c.from_residual-in_err-end.ensures.1 in
    let s = source_over g.S.Source.seen c.args.input.now c.decode.new.input in
    let t = source_over g.S.Source.seen c.decode.new.input c.end.new.input in
    let q = option_map (λ f. f.now.graph) c.args.given in
    let d = c.in_ok-decoded.decoded in
    let known = subst (λ (j : Interface). slice_get j.operations c.args.op ≡ Some o) (sym c.in_ok-plan.ensures) there in
    let first : IsTaken s (setting_beside c.args.interface.now o c.args.side q) c.args.order d.taken d.fit.graph =
    subst (λ (j : Interface). IsTaken s (setting_beside j o c.args.side q) c.args.order d.taken d.fit.graph) c.in_ok-plan.ensures (c.in_ok-decoded.ensures.taken o known) in
    rw (p.1, p.2) (no_end s t (setting_beside c.args.interface.now o c.args.side q) c.args.order d.taken d.fit.graph first refl c.in_ok-decoded.ensures.later refl _ c.in_err-end.ensures.refused)

pub returns-in_err-text-clause-refused : goal.returns-in_err-text-clause-refused
returns-in_err-text-clause-refused g c o there =
    let p = err_from_is_err_and c.from_residual-in_err-text.result c.from_residual-in_err-text.ensures.1 in
    rw (p.1, p.2) tt

pub returns-clause-printed : goal.returns-clause-printed
returns-clause-printed g c o there =
    let s = source_over g.S.Source.seen c.args.input.now c.decode.new.input in
    let t = source_over g.S.Source.seen c.decode.new.input c.end.new.input in
    let i = c.args.interface.now in
    let q = option_map (λ f. f.now.graph) c.args.given in
    let d = c.in_ok-decoded.decoded in
    let known = subst (λ (j : Interface). slice_get j.operations c.args.op ≡ Some o) (sym c.in_ok-plan.ensures) there in
    let first : IsTaken s (setting_beside i o c.args.side q) c.args.order d.taken d.fit.graph =
    subst (λ (j : Interface). IsTaken s (setting_beside j o c.args.side q) c.args.order d.taken d.fit.graph) c.in_ok-plan.ensures (c.in_ok-decoded.ensures.taken o known) in
    printed_is s t (setting_beside i o c.args.side q) c.args.order d.taken d.fit.graph first refl c.in_ok-text.text c.in_ok-end.ensures.ended
    (text_is i o c.args.side d.fit.side q d.fit.given d.fit.graph c.in_ok-text.text c.in_ok-decoded.ensures.side c.in_ok-decoded.ensures.beside
    (c.in_ok-text.ensures o (subst (λ n. slice_get i.operations n ≡ Some o) (sym c.in_ok-decoded.ensures.number) there)))
