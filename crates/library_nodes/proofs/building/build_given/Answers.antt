use Rattle.std.proofs.Common.{◌≡◌, ℕ, Some, IfOk, IfErr, sym, subst}
use Rattle.std.specs.List.{slice_get}
use Rattle.nd_types.specs.declared.interface.Interface.{Interface}
use Rattle.nd_types.specs.declared.types.Side.TheVariants.{Out}
use Rattle.nd_value.specs.Fitting.{setting_beside}
use Rattle.library_values.specs.Decoded.{IsOf}
use Rattle.library_values.proofs.Requests.{request_is}
use Rattle.library_nodes.specs.Built.{Says, IsBuildCause}
use Rattle.library_nodes.proofs.building.build_given.Goals as goal

pub build_beside-requires-clause-request : goal.build_beside-requires-clause-request
build_beside-requires-clause-request c =
    request_is c.args.compiled.now.value c.op-op.result c.args.request.now (sym c.requires.tied) (sym c.op-op.ensures) c.requires.request

pub returns-clause-built : goal.returns-clause-built
returns-clause-built c o there =
    let f = c.args.request.now in
    let own = subst (λ (i : Interface). slice_get i.operations c.op-op.result ≡ Some o) (sym c.requires.tied)
    (subst (λ (n : ℕ). slice_get f.interface.operations n ≡ Some o) (sym c.op-op.ensures) there) in
    subst (λ (i : Interface). IfOk c.build_beside.result (λ v. Says (setting_beside i o Out (Some f.graph)) c.args.listing.now v.graph)) c.requires.tied
    (c.build_beside.ensures.built o own)

pub returns-clause-of : goal.returns-clause-of
returns-clause-of c =
    let f = c.args.request.now in
    subst (λ (i : Interface). IfOk c.build_beside.result (λ v. IsOf i f.op Out (Some f.graph) v)) c.requires.tied
    (subst (λ (n : ℕ). IfOk c.build_beside.result (λ v. IsOf c.args.compiled.now.value n Out (Some f.graph) v)) c.op-op.ensures c.build_beside.ensures.of)

pub returns-clause-refused : goal.returns-clause-refused
returns-clause-refused c o there =
    let f = c.args.request.now in
    let own = subst (λ (i : Interface). slice_get i.operations c.op-op.result ≡ Some o) (sym c.requires.tied)
    (subst (λ (n : ℕ). slice_get f.interface.operations n ≡ Some o) (sym c.op-op.ensures) there) in
    subst (λ (i : Interface). IfErr c.build_beside.result (IsBuildCause (setting_beside i o Out (Some f.graph)) c.args.listing.now)) c.requires.tied
    (c.build_beside.ensures.refused o own)
