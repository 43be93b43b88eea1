use Rattle.std.proofs.Common.{◌≡◌, ℕ, Some, IfOk, IfErr, sym, subst}
use Rattle.std.specs.List.{slice_get}
use Rattle.nd_types.specs.declared.interface.Interface.{Interface}
use Rattle.nd_types.specs.declared.types.Side.TheVariants.{Out}
use Rattle.nd_value.specs.Fitting.{setting_beside}
use Rattle.text_grammar.specs.Reads.{ReadsAs}
use Rattle.command_encode.specs.Encoded.{IsTextCause}
use Rattle.library_values.specs.Decoded.{IsOf}
use Rattle.library_values.proofs.Requests.{request_is}
use Rattle.library_values.proofs.reading.read_given.Goals as goal

pub read_beside-requires-clause-request : goal.read_beside-requires-clause-request
read_beside-requires-clause-request c = request_is c.args.compiled.now.value c.op-op.result c.args.request.now (sym c.requires.tied) (sym c.op-op.ensures) c.requires.request

pub returns-clause-read : goal.returns-clause-read
returns-clause-read c o there =
    let f = c.args.request.now in
    let own = subst (λ (i : Interface). slice_get i.operations c.op-op.result ≡ Some o) (sym c.requires.tied)
    (subst (λ (n : ℕ). slice_get f.interface.operations n ≡ Some o) (sym c.op-op.ensures) there) in
    subst (λ (i : Interface). IfOk c.read_beside.result (λ v. ReadsAs (setting_beside i o Out (Some f.graph)) c.args.text.now v.graph)) c.requires.tied
    (c.read_beside.ensures.read o own)

pub returns-clause-of : goal.returns-clause-of
returns-clause-of c =
    let f = c.args.request.now in
    subst (λ (i : Interface). IfOk c.read_beside.result (λ v. IsOf i f.op Out (Some f.graph) v)) c.requires.tied
    (subst (λ (n : ℕ). IfOk c.read_beside.result (λ v. IsOf c.args.compiled.now.value n Out (Some f.graph) v)) c.op-op.ensures c.read_beside.ensures.of)

pub returns-clause-refused : goal.returns-clause-refused
returns-clause-refused c o there =
    let f = c.args.request.now in
    let own = subst (λ (i : Interface). slice_get i.operations c.op-op.result ≡ Some o) (sym c.requires.tied)
    (subst (λ (n : ℕ). slice_get f.interface.operations n ≡ Some o) (sym c.op-op.ensures) there) in
    subst (λ (i : Interface). IfErr c.read_beside.result (IsTextCause (setting_beside i o Out (Some f.graph)) c.args.text.now)) c.requires.tied
    (c.read_beside.ensures.refused o own)
