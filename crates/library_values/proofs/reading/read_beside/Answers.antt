use Rattle.std.proofs.Common.{◌≡◌, ◌<◌, ◌∙◌, Some, length, sym, subst, option_map}
use Rattle.std.specs.List.{slice_get}
use Rattle.nd_types.specs.declared.interface.Interface.{Interface}
use Rattle.nd_value.specs.Fitting.{Fitting, setting_beside}
use Rattle.nd_value.specs.Request.{IsRequestOf}
use Rattle.text_grammar.specs.Reads.{ReadsAs}
use Rattle.command_encode.specs.Encoded.{IsTextCause}
use Rattle.command_refusals.specs.declared.refusal.Refusal.TheVariants as refusal
use Rattle.library_values.specs.Decoded.{IsOf}
use Rattle.library_interface.proofs.Results.{same_ok, same_err}
use Rattle.library_values.proofs.reading.read_beside.Goals as goal

pub fit_text-requires-clause-known : goal.fit_text-requires-clause-known
fit_text-requires-clause-known c = subst (λ (i : Interface). c.args.op < length i.operations) (sym c.interface_of-interface.ensures) c.requires.known

pub fit_text-requires-clause-request : goal.fit_text-requires-clause-request
fit_text-requires-clause-request c =
    subst (λ (i : Interface). IsRequestOf i c.args.op c.args.side (option_map (λ f. f.now) c.args.given)) (sym c.interface_of-interface.ensures) c.requires.request

pub of-requires : goal.of-requires
of-requires c = c.in-Ok.ensures.tied ∙ c.interface_of-interface.ensures

pub returns-in-Ok-clause-read : goal.returns-in-Ok-clause-read
returns-in-Ok-clause-read c o there =
    let i = c.args.compiled.now.value in
    let q = option_map (λ f. f.now.graph) c.args.given in
    let is = c.interface_of-interface.ensures in
    same_ok c.of.result c.in-Ok.fit (λ (f : Fitting). ReadsAs (setting_beside i o c.args.side q) c.args.text.now f.graph) c.of.ensures.ok
    (subst (λ (j : Interface). ReadsAs (setting_beside j o c.args.side q) c.args.text.now c.in-Ok.fit.graph) is
    (c.in-Ok.ensures.read o (subst (λ (j : Interface). slice_get j.operations c.args.op ≡ Some o) (sym is) there)))

pub returns-in-Ok-clause-of : goal.returns-in-Ok-clause-of
returns-in-Ok-clause-of c =
    let q = option_map (λ f. f.now.graph) c.args.given in
    same_ok c.of.result c.in-Ok.fit (λ (f : Fitting). IsOf c.args.compiled.now.value c.args.op c.args.side q f) c.of.ensures.ok
    (record {
      interface_is = c.in-Ok.ensures.tied ∙ c.interface_of-interface.ensures;
      op_is = c.in-Ok.ensures.number;
      side_is = c.in-Ok.ensures.side;
      given_is = c.in-Ok.ensures.beside;
    })

pub returns-in-Ok-clause-refused : goal.returns-in-Ok-clause-refused
returns-in-Ok-clause-refused c o there =
    let q = option_map (λ f. f.now.graph) c.args.given in
    same_err c.of.result refusal.Memory (IsTextCause (setting_beside c.args.compiled.now.value o c.args.side q) c.args.text.now) c.of.ensures.err tt

pub returns-in-Err-clause-refused : goal.returns-in-Err-clause-refused
returns-in-Err-clause-refused c o there =
    let q = option_map (λ f. f.now.graph) c.args.given in
    let is = c.interface_of-interface.ensures in
    subst (λ (j : Interface). IsTextCause (setting_beside j o c.args.side q) c.args.text.now c.in-Err.refusal) is
    (c.in-Err.ensures.refused o (subst (λ (j : Interface). slice_get j.operations c.args.op ≡ Some o) (sym is) there))
