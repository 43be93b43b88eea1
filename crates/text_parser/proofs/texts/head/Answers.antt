use Rattle.std.proofs.lemmas.Result.{err_from_is_err_and}
use Rattle.text_parser.proofs.LineParts.{values_halt, version_halts, op_halts, name_halts, side_halts, has_head}
use Rattle.text_parser.proofs.texts.head.Goals as goal

pub returns-in_err-first-clause-err : goal.returns-in_err-first-clause-err
returns-in_err-first-clause-err c =
    let p = err_from_is_err_and c.from_residual.result c.from_residual.ensures.1 in
    rw (p.1, p.2) (values_halt c.args.operation.now c.args.side.now c.args.text.now c.in_err-first.field-0.0 c.in_err-first.ensures.err)

pub returns-in_err-of-clause-err : goal.returns-in_err-of-clause-err
returns-in_err-of-clause-err c =
    let p = err_from_is_err_and c.from_residual-in_err-of.result c.from_residual-in_err-of.ensures.1 in
    rw (p.1, p.2) (version_halts c.args.operation.now c.args.side.now c.args.text.now c.in_ok-first.first.now c.in_ok-first.ensures.ok c.in_err-of.field-0.0 c.in_err-of.ensures.err)

pub returns-in_err-third-clause-err : goal.returns-in_err-third-clause-err
returns-in_err-third-clause-err c =
    let p = err_from_is_err_and c.from_residual-in_err-third.result c.from_residual-in_err-third.ensures.1 in
    rw (p.1, p.2)
    (op_halts c.args.operation.now c.args.side.now c.args.text.now c.in_ok-first.first.now c.in_ok-first.ensures.ok c.in_ok-of.of c.in_ok-of.second.now c.in_ok-of.ensures.ok
    c.in_err-third.field-0.0 c.in_err-third.ensures.err)

pub returns-in_err-fourth-clause-err : goal.returns-in_err-fourth-clause-err
returns-in_err-fourth-clause-err c =
    let p = err_from_is_err_and c.from_residual-in_err-fourth.result c.from_residual-in_err-fourth.ensures.1 in
    rw (p.1, p.2)
    (name_halts c.args.operation.now c.args.side.now c.args.text.now c.in_ok-first.first.now c.in_ok-first.ensures.ok c.in_ok-of.of c.in_ok-of.second.now c.in_ok-of.ensures.ok
    c.in_ok-third.third.now c.in_ok-third.ensures.ok c.in_err-fourth.field-0.0 c.in_err-fourth.ensures.err)

pub returns-in_err-rest-clause-err : goal.returns-in_err-rest-clause-err
returns-in_err-rest-clause-err c =
    let p = err_from_is_err_and c.from_residual-in_err-rest.result c.from_residual-in_err-rest.ensures.1 in
    rw (p.1, p.2)
    (side_halts c.args.operation.now c.args.side.now c.args.text.now c.in_ok-first.first.now c.in_ok-first.ensures.ok c.in_ok-of.of c.in_ok-of.second.now c.in_ok-of.ensures.ok
    c.in_ok-third.third.now c.in_ok-third.ensures.ok c.in_ok-fourth.fourth.now c.in_ok-fourth.ensures.ok c.in_err-rest.field-0.0 c.in_err-rest.ensures.err)

pub returns-clause-ok : goal.returns-clause-ok
returns-clause-ok c =
    has_head c.args.operation.now c.args.side.now c.args.text.now c.in_ok-first.first.now c.in_ok-first.ensures.ok c.in_ok-of.of c.in_ok-of.second.now c.in_ok-of.ensures.ok c.in_ok-third.third.now
    c.in_ok-third.ensures.ok c.in_ok-fourth.fourth.now c.in_ok-fourth.ensures.ok c.in_ok-rest.rest.now c.in_ok-rest.ensures.ok
