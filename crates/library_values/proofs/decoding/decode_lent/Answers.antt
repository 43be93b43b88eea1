use Rattle.std.proofs.Common.{◌≡◌, Some, ap, subst, sym, option_map}
use Rattle.std.specs.List.{slice_get}
use Rattle.nd_types.specs.declared.interface.Interface.{Interface}
use Rattle.nd_value.specs.Fitting.{setting_beside}
use Rattle.nd_grammar.specs.Refusal.{Bad}
use Rattle.library_values.specs.Decoded.{IsDecodedOf}
use Rattle.library_values.specs.Logged.{IsLoggedOf}
use Rattle.library_values.proofs.Decodes.{decoded_is, fault_is}
use Rattle.library_values.proofs.Logs.{logged_is}
use Rattle.library_values.proofs.decoding.decode_lent.Goals as goal

pub returns-in-Ok-clause-decoded : goal.returns-in-Ok-clause-decoded
returns-in-Ok-clause-decoded c i o is there =
    let q = option_map (λ f. f.now.graph) c.args.given in
    let d = c.in-Ok.decoded in
    subst (λ (j : Interface). IsDecodedOf (setting_beside j o c.args.side q) c.args.order c.args.octets.now d.taken d.fit.graph) is
    (decoded_is _ _ c.args.octets.now _ _ (ap (λ os. Some os) c.new-source.ensures.left) _ _
    (c.in-Ok.ensures.decoded o (subst (λ (j : Interface). slice_get j.operations c.args.op ≡ Some o) (sym is) there)))

pub returns-in-Ok-clause-logged : goal.returns-in-Ok-clause-logged
returns-in-Ok-clause-logged c i o is there fresh =
    let q = option_map (λ f. f.now.graph) c.args.given in
    subst (λ (j : Interface). IsLoggedOf (setting_beside j o c.args.side q) c.args.order c.args.octets.now c.decode.new.items.items) is
    (logged_is _ _ c.args.octets.now _ _ (ap (λ os. Some os) c.new-source.ensures.left) fresh _ _
    (c.in-Ok.ensures.decoded o (subst (λ (j : Interface). slice_get j.operations c.args.op ≡ Some o) (sym is) there)))

pub returns-in-Ok-clause-of : goal.returns-in-Ok-clause-of
returns-in-Ok-clause-of c = record {
  interface_is = c.in-Ok.ensures.of.2;
  op_is = c.in-Ok.ensures.of.0;
  side_is = c.in-Ok.ensures.of.1;
  given_is = c.in-Ok.ensures.beside;
}

pub returns-clause-refused : goal.returns-clause-refused
returns-clause-refused c i o is there =
    let q = option_map (λ f. f.now.graph) c.args.given in
    subst (λ (j : Interface). Bad (setting_beside j o c.args.side q) c.args.order c.args.octets.now c.in-Err-Bad.place c.in-Err-Bad.reason) is
    (fault_is _ _ c.args.octets.now _ _ (ap (λ os. Some os) c.new-source.ensures.left) _ _ _ c.in-Err-Bad.field-0-is
    (c.in-Err-Bad.ensures.fault o (subst (λ (j : Interface). slice_get j.operations c.args.op ≡ Some o) (sym is) there)))
