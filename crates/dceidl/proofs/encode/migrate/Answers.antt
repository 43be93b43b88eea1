use Rattle.std.proofs.Common.{option_map}
use Rattle.std.proofs.lemmas.Result.{err_from_is_err_and}
use Rattle.dceidl.proofs.Encodings.{IsOfSide, its_operation, migration_is}
use Rattle.dceidl.proofs.encode.migrate.Goals as goal

pub returns-clause-done : goal.returns-clause-done
returns-clause-done c o there =
    let i = c.args.ready.now.interface in
    let q = option_map (λ f. f.now.graph) c.args.given in
    let f = c.in_ok-fit.fit in
    let of : IsOfSide f i c.args.ready.now.number c.args.ready.now.side q =
    record { tied = c.in_ok-fit.ensures.tied; number = c.in_ok-fit.ensures.number; side = c.in_ok-fit.ensures.side; beside = c.in_ok-fit.ensures.beside } in
    migration_is f i c.args.ready.now.number c.args.ready.now.side q of o there c.args.text.now c.in_ok-printed.printed
    (c.in_ok-fit.ensures.read o there) c.flat-conforming.ensures.conforms (c.in_ok-printed.ensures o (its_operation f i c.args.ready.now.number c.args.ready.now.side q of o there))

pub returns-in_err-printed-clause-refused : goal.returns-in_err-printed-clause-refused
returns-in_err-printed-clause-refused c o there =
    let p = err_from_is_err_and c.from_residual-in_err-printed.result c.from_residual-in_err-printed.ensures.1 in
    rw (p.1, p.2) tt
