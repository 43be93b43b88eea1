use Rattle.std.proofs.Common.{◌≡◌, ◌∙◌, Some, ap, option_map, subst, sym}
use Rattle.std.specs.List.{slice_get}
use Rattle.nd_types.specs.declared.interface.Interface.{Interface}
use Rattle.nd_value.specs.Fitting.{setting_beside}
use Rattle.command_decode.specs.Fronts.{IsLoggedFront, IsRefusedFront}
use Rattle.command_decode.proofs.TraceSteps.{explained_on, logged_front, refused_front}
use Rattle.command_decode.proofs.held.trace_held.Goals as goal

pub explained-requires : goal.explained-requires
explained-requires c = record { tied = c.in-Ok.ensures.of.2 ∙ c.in_ok-plan.ensures }

pub returns-in-Ok : goal.returns-in-Ok
returns-in-Ok c o there =
    let i = c.args.interface.now in
    let q = option_map (λ f. f.now.graph) c.args.given in
    let d = c.in-Ok.decoded in
    let known = subst (λ (j : Interface). slice_get j.operations c.args.op ≡ Some o) (sym c.in_ok-plan.ensures) there in
    let log = c.decode.new.items.items in
    let front = subst (λ (j : Interface). IsLoggedFront (setting_beside j o c.args.side q) c.args.order c.args.octets.now d.taken d.fit.graph log) c.in_ok-plan.ensures
    (logged_front _ _ c.args.octets.now _ _ (ap (λ os. Some os) c.new-source.ensures.left) c.keeping-items.ensures _ _ (c.in-Ok.ensures.decoded o known)) in
    explained_on i o c.args.side d.fit.side q d.fit.given c.args.order c.args.octets.now d.taken d.fit.graph log c.explained.result c.in-Ok.ensures.of.1 c.in-Ok.ensures.beside
    (c.explained.ensures c.args.order o (subst (λ n. slice_get i.operations n ≡ Some o) (sym c.in-Ok.ensures.of.0) there)) front

pub returns-in-Err-Bad : goal.returns-in-Err-Bad
returns-in-Err-Bad c o there =
    let q = option_map (λ f. f.now.graph) c.args.given in
    let known = subst (λ (j : Interface). slice_get j.operations c.args.op ≡ Some o) (sym c.in_ok-plan.ensures) there in
    c.refused.ensures o there
    (subst
    (λ (j : Interface). IsRefusedFront (setting_beside j o c.args.side q) c.args.order c.args.octets.now c.in-Err-Bad.place c.in-Err-Bad.reason c.decode.new.items.items)
    c.in_ok-plan.ensures
    (refused_front _ _ c.args.octets.now _ _ (ap (λ os. Some os) c.new-source.ensures.left) c.keeping-items.ensures _ _ _ c.in-Err-Bad.field-0-is
    (c.in-Err-Bad.ensures.in_order o known)))
