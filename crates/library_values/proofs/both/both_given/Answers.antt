use Rattle.std.proofs.Common.{◌≡◌, ℕ, Some, IfOk, IfErr, sym, subst}
use Rattle.std.specs.List.{slice_get}
use Rattle.nd_types.specs.declared.interface.Interface.{Interface}
use Rattle.nd_types.specs.declared.types.Side.TheVariants.{Out}
use Rattle.nd_value.specs.Fitting.{setting_beside}
use Rattle.library_values.specs.Decoded.{IsDecodedOf, IsOctetsCause, IsOf}
use Rattle.library_values.specs.Logged.{IsLoggedOf}
use Rattle.library_values.proofs.Requests.{request_is}
use Rattle.library_values.proofs.both.both_given.Goals as goal

pub both_beside-requires-clause-request : goal.both_beside-requires-clause-request
both_beside-requires-clause-request c = request_is c.args.compiled.now.value c.op-op.result c.args.request.now (sym c.requires.tied) (sym c.op-op.ensures) c.requires.request

pub returns-clause-decoded : goal.returns-clause-decoded
returns-clause-decoded c o there =
    let f = c.args.request.now in
    let own = subst (λ (i : Interface). slice_get i.operations c.op-op.result ≡ Some o) (sym c.requires.tied)
    (subst (λ (n : ℕ). slice_get f.interface.operations n ≡ Some o) (sym c.op-op.ensures) there) in
    subst (λ (i : Interface). IfOk c.both_beside.result (λ d. IsDecodedOf (setting_beside i o Out (Some f.graph)) c.args.order c.args.octets.now d.0.1 d.0.0.graph)) c.requires.tied
    (c.both_beside.ensures.decoded o own)

pub returns-clause-logged : goal.returns-clause-logged
returns-clause-logged c o there =
    let f = c.args.request.now in
    let own = subst (λ (i : Interface). slice_get i.operations c.op-op.result ≡ Some o) (sym c.requires.tied)
    (subst (λ (n : ℕ). slice_get f.interface.operations n ≡ Some o) (sym c.op-op.ensures) there) in
    subst
    (λ (i : Interface). IfOk c.both_beside.result (λ d. IsLoggedOf (setting_beside i o Out (Some f.graph)) c.args.order c.args.octets.now d.1.items))
    c.requires.tied (c.both_beside.ensures.logged o own)

pub returns-clause-of : goal.returns-clause-of
returns-clause-of c =
    let f = c.args.request.now in
    subst (λ (i : Interface). IfOk c.both_beside.result (λ d. IsOf i f.op Out (Some f.graph) d.0.0)) c.requires.tied
    (subst (λ (n : ℕ). IfOk c.both_beside.result (λ d. IsOf c.args.compiled.now.value n Out (Some f.graph) d.0.0)) c.op-op.ensures c.both_beside.ensures.of)

pub returns-clause-refused : goal.returns-clause-refused
returns-clause-refused c o there =
    let f = c.args.request.now in
    let own = subst (λ (i : Interface). slice_get i.operations c.op-op.result ≡ Some o) (sym c.requires.tied)
    (subst (λ (n : ℕ). slice_get f.interface.operations n ≡ Some o) (sym c.op-op.ensures) there) in
    subst (λ (i : Interface). IfErr c.both_beside.result (IsOctetsCause (setting_beside i o Out (Some f.graph)) c.args.order c.args.octets.now)) c.requires.tied
    (c.both_beside.ensures.refused o own)
