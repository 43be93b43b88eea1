use Rattle.std.proofs.Common.{option_map}
use Rattle.std.proofs.lemmas.Result.{err_from_is_err_and}
use Rattle.dceidl.proofs.Encodings.{IsOfSide, its_operation, encoding_is, encoding_cause, text_cause}
use Rattle.dceidl.proofs.encode.encode_values.Goals as goal

pub returns-in_err-fit-clause-refused : goal.returns-in_err-fit-clause-refused
returns-in_err-fit-clause-refused c o there =
    let p = err_from_is_err_and c.from_residual.result c.from_residual.ensures.1 in
    rw (p.1, p.2) (text_cause _ c.args.chunk c.args.text.now _ (c.in_err-fit.ensures.refused o there))

pub returns-clause-done : goal.returns-clause-done
returns-clause-done c o there =
    let i = c.args.ready.now.interface in
    let q = option_map (λ f. f.now.graph) c.args.given in
    let f = c.in_ok-fit.fit in
    let of : IsOfSide f i c.args.ready.now.number c.args.ready.now.side q =
    record { tied = c.in_ok-fit.ensures.tied; number = c.in_ok-fit.ensures.number; side = c.in_ok-fit.ensures.side; beside = c.in_ok-fit.ensures.beside } in
    encoding_is f i c.args.ready.now.number c.args.ready.now.side q of o there c.args.order c.args.chunk c.args.text.now c.in_ok-octets.octets
    (c.in_ok-fit.ensures.read o there) c.flat-conforming.ensures.conforms (c.in_ok-octets.ensures.written o (its_operation f i c.args.ready.now.number c.args.ready.now.side q of o there))

pub returns-in_err-octets-clause-refused : goal.returns-in_err-octets-clause-refused
returns-in_err-octets-clause-refused c o there =
    let p = err_from_is_err_and c.from_residual-in_err-octets.result c.from_residual-in_err-octets.ensures.1 in
    let i = c.args.ready.now.interface in
    let q = option_map (λ f. f.now.graph) c.args.given in
    let f = c.in_ok-fit.fit in
    let of : IsOfSide f i c.args.ready.now.number c.args.ready.now.side q =
    record { tied = c.in_ok-fit.ensures.tied; number = c.in_ok-fit.ensures.number; side = c.in_ok-fit.ensures.side; beside = c.in_ok-fit.ensures.beside } in
    rw (p.1, p.2)
    (encoding_cause f i c.args.ready.now.number c.args.ready.now.side q of o there c.args.chunk c.args.text.now (c.in_ok-fit.ensures.read o there) c.flat-conforming.ensures.conforms _
    (c.in_err-octets.ensures.refused o (its_operation f i c.args.ready.now.number c.args.ready.now.side q of o there)))
