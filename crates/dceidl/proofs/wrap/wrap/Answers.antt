use Rattle.std.proofs.Common.{◌≡◌, ◌∙◌, List, ℕ, ◌≤◌, length, refl, inl, inr, ap, sym, subst}
use Rattle.std.proofs.lemmas.Result.{err_from_is_err_and}
use Rattle.nd_base.specs.Over.{files_over, source_over}
use Rattle.nd_value.specs.Fitting.{setting_of}
use Rattle.nd_base.specs.declared.TheConstants.{STREAM_LIMIT}
use Rattle.rpc_pdu.specs.Fragments.{Pieces}
use Rattle.command_line.specs.Commands.{subject_of}
use Rattle.dceidl.specs.Input.{head_for}
use Rattle.dceidl.specs.Input.{wrap_chunk}
use Rattle.dceidl.proofs.Causes.{ready_is}
use Rattle.dceidl.proofs.Calling.{few_numbers, short_stub, wrapped_is}
use Rattle.dceidl.proofs.wrap.wrap.Goals as goal

pub returns-in_err-ready-clause-refused : goal.returns-in_err-ready-clause-refused
returns-in_err-ready-clause-refused g c =
    let p = err_from_is_err_and c.from_residual.result c.from_residual.ensures.1 in
    rw (p.1, p.2) (inl (c.in_err-ready.ensures.refused, record { nothing_taken = refl; no_fault = refl }))

pub returns-in_err-stub-clause-refused : goal.returns-in_err-stub-clause-refused
returns-in_err-stub-clause-refused g c =
    let p = err_from_is_err_and c.from_residual-in_err-stub.result c.from_residual-in_err-stub.ensures.1 in
    let (o, found) = c.in_ok-ready.ensures.ready in
    let f = files_over g.F.Files.seen c.args.files.now c.make_ready.new.files in
    let r = c.in_ok-ready.ready in
    rw (p.1, p.2) (inr (
      setting_of r.interface o r.side,
      ready_is f (subject_of c.args.of) r.interface r.number o r.side found c.in_ok-ready.ensures.side,
      c.in_err-stub.ensures.refused o found.named.is_there,
    ))

pub returns-in_err-octets-clause-refused : goal.returns-in_err-octets-clause-refused
returns-in_err-octets-clause-refused g c =
    let p = err_from_is_err_and c.from_residual-in_err-octets.result c.from_residual-in_err-octets.ensures.1 in
    let (o, found) = c.in_ok-ready.ensures.ready in
    let f = files_over g.F.Files.seen c.args.files.now c.make_ready.new.files in
    let r = c.in_ok-ready.ready in
    rw (p.1, p.2) (inr (setting_of r.interface o r.side, ready_is f (subject_of c.args.of) r.interface r.number o r.side found c.in_ok-ready.ensures.side, tt))

pub returns-clause-done : goal.returns-clause-done
returns-clause-done g c =
    let (o, found) = c.in_ok-ready.ensures.ready in
    let f = files_over g.F.Files.seen c.args.files.now c.make_ready.new.files in
    let s = source_over g.S.Source.seen c.args.input.now c.encode_input.new.input in
    let r = c.in_ok-ready.ready in
    wrapped_is f s (subject_of c.args.of) c.args.order c.args.call c.args.max r.interface r.number o r.side c.in_ok-stub.stub c.in_ok-octets.octets
    c.in_ok-ready.ensures.side found (c.in_ok-stub.ensures.done o found.named.is_there)
    (c.in_ok-octets.ensures ∙ ap (λ l. Pieces c.args.order (head_for r.side r.number) c.args.call c.args.max l) c.as_slice.ensures)

pub fragments-requires-clause-few : goal.fragments-requires-clause-few
fragments-requires-clause-few g c =
    let r = c.in_ok-ready.ready in
    few_numbers r.number (length r.interface.operations) c.in_ok-ready.ensures.known r.interface.legal.few_operations

pub fragments-requires-clause-room : goal.fragments-requires-clause-room
fragments-requires-clause-room g c =
    let (o, found) = c.in_ok-ready.ensures.ready in
    let s = source_over g.S.Source.seen c.args.input.now c.encode_input.new.input in
    let r = c.in_ok-ready.ready in
    subst (λ (l : List ℕ). length l ≤ STREAM_LIMIT) (sym c.as_slice.ensures)
    (short_stub s (setting_of r.interface o r.side) c.args.order wrap_chunk c.in_ok-stub.stub (c.in_ok-stub.ensures.done o found.named.is_there))
