use Rattle.std.proofs.Common.{◌≡◌, ◌<◌, ◌∙◌, Some, false, length, sym, subst, option_map}
use Rattle.std.specs.List.{slice_get}
use Rattle.nd_types.specs.declared.interface.Interface.{Interface}
use Rattle.nd_value.specs.Fitting.{Fitting, setting_beside}
use Rattle.nd_value.specs.Request.{IsRequestOf}
use Rattle.command_refusals.specs.declared.refusal.Refusal.TheVariants as refusal
use Rattle.library_values.specs.Decoded.{IsOf}
use Rattle.library_interface.proofs.Results.{same_ok, any_ok, same_err}
use Rattle.library_nodes.specs.declared.fault.BuildFault.TheVariants as fault
use Rattle.library_nodes.specs.Built.{Says, IsBuildCause, has_too_many}
use Rattle.library_nodes.proofs.building.build_beside.Goals as goal

pub fit_listing-requires-clause-known : goal.fit_listing-requires-clause-known
fit_listing-requires-clause-known c = subst (λ (i : Interface). c.args.op < length i.operations) (sym c.interface_of-interface.ensures) c.requires.known

pub fit_listing-requires-clause-request : goal.fit_listing-requires-clause-request
fit_listing-requires-clause-request c =
    subst (λ (i : Interface). IsRequestOf i c.args.op c.args.side (option_map (λ f. f.now) c.args.given)) (sym c.interface_of-interface.ensures) c.requires.request

pub held-requires : goal.held-requires
held-requires c = c.in-Ok.ensures.tied ∙ c.interface_of-interface.ensures

pub returns-in-Ok-clause-built : goal.returns-in-Ok-clause-built
returns-in-Ok-clause-built c o there =
    let i = c.args.compiled.now.value in
    let q = option_map (λ f. f.now.graph) c.args.given in
    let is = c.interface_of-interface.ensures in
    same_ok c.held.result c.in-Ok.fit (λ (f : Fitting). Says (setting_beside i o c.args.side q) c.args.listing.now f.graph) c.held.ensures.ok
    (subst (λ (j : Interface). Says (setting_beside j o c.args.side q) c.args.listing.now c.in-Ok.fit.graph) is
    (c.in-Ok.ensures.built o (subst (λ (j : Interface). slice_get j.operations c.args.op ≡ Some o) (sym is) there)))

pub returns-in-Ok-clause-of : goal.returns-in-Ok-clause-of
returns-in-Ok-clause-of c =
    let q = option_map (λ f. f.now.graph) c.args.given in
    same_ok c.held.result c.in-Ok.fit (λ (f : Fitting). IsOf c.args.compiled.now.value c.args.op c.args.side q f) c.held.ensures.ok
    (record {
      interface_is = c.in-Ok.ensures.tied ∙ c.interface_of-interface.ensures;
      op_is = c.in-Ok.ensures.number;
      side_is = c.in-Ok.ensures.side;
      given_is = c.in-Ok.ensures.beside;
    })

pub returns-in-Ok-clause-few : goal.returns-in-Ok-clause-few
returns-in-Ok-clause-few c = any_ok c.held.result (has_too_many c.args.listing.now ≡ false) c.in-Ok.ensures.few

pub returns-in-Ok-clause-refused : goal.returns-in-Ok-clause-refused
returns-in-Ok-clause-refused c o there =
    let q = option_map (λ f. f.now.graph) c.args.given in
    same_err c.held.result (fault.Refused refusal.Memory) (IsBuildCause (setting_beside c.args.compiled.now.value o c.args.side q) c.args.listing.now) c.held.ensures.err tt

pub returns-in-Err-clause-refused : goal.returns-in-Err-clause-refused
returns-in-Err-clause-refused c o there =
    let q = option_map (λ f. f.now.graph) c.args.given in
    let is = c.interface_of-interface.ensures in
    subst (λ (j : Interface). IsBuildCause (setting_beside j o c.args.side q) c.args.listing.now c.in-Err.fault) is
    (c.in-Err.ensures.refused o (subst (λ (j : Interface). slice_get j.operations c.args.op ≡ Some o) (sym is) there))
