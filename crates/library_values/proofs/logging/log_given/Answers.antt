use Rattle.std.proofs.Common.{◌≡◌, ℕ, Some, IfOk, IfErr, sym, subst}
use Rattle.std.specs.List.{slice_get}
use Rattle.nd_types.specs.declared.interface.Interface.{Interface}
use Rattle.nd_types.specs.declared.types.Side.TheVariants.{Out}
use Rattle.nd_value.specs.Fitting.{setting_beside}
use Rattle.library_values.specs.Decoded.{IsOctetsCause}
use Rattle.library_values.proofs.Requests.{request_is}
use Rattle.library_values.specs.Logged.{IsLoggedOf}
use Rattle.library_values.proofs.logging.log_given.Goals as goal

pub log_beside-requires-clause-request : goal.log_beside-requires-clause-request
log_beside-requires-clause-request c = request_is c.args.compiled.now c.op-op.result c.args.request.now (sym c.requires.tied) (sym c.op-op.ensures) c.requires.request

pub returns-clause-logged : goal.returns-clause-logged
returns-clause-logged c o there =
    let f = c.args.request.now in
    let own = subst (λ (i : Interface). slice_get i.operations c.op-op.result ≡ Some o) (sym c.requires.tied)
    (subst (λ (n : ℕ). slice_get f.interface.operations n ≡ Some o) (sym c.op-op.ensures) there) in
    subst (λ (i : Interface). IfOk c.log_beside.result (λ log. IsLoggedOf (setting_beside i o Out (Some f.graph)) c.args.order c.args.octets.now log.items)) c.requires.tied
    (c.log_beside.ensures.logged o own)

pub returns-clause-refused : goal.returns-clause-refused
returns-clause-refused c o there =
    let f = c.args.request.now in
    let own = subst (λ (i : Interface). slice_get i.operations c.op-op.result ≡ Some o) (sym c.requires.tied)
    (subst (λ (n : ℕ). slice_get f.interface.operations n ≡ Some o) (sym c.op-op.ensures) there) in
    subst (λ (i : Interface). IfErr c.log_beside.result (IsOctetsCause (setting_beside i o Out (Some f.graph)) c.args.order c.args.octets.now)) c.requires.tied
    (c.log_beside.ensures.refused o own)
