use Rattle.std.proofs.Common.{refl}
use Rattle.std.proofs.lemmas.Result.{err_from_is_err_and}
use Rattle.text_parser.proofs.Contexts.{word_halts, opening_halts, count_halts, comma_halts, uuid_halts, closing_halts, context_value}
use Rattle.text_parser.proofs.values.context.Goals as goal

pub returns-in_err-first-clause-err : goal.returns-in_err-first-clause-err
returns-in_err-first-clause-err c =
    let p = err_from_is_err_and c.from_residual.result c.from_residual.ensures.1 in
    rw (p.1, p.2) (λ t ns is. word_halts c.args.under.version c.args.under.types.now t is ns c.args.text.now c.in_err-first.field-0.0 c.in_err-first.ensures.err)

pub returns-in_err-second-clause-err : goal.returns-in_err-second-clause-err
returns-in_err-second-clause-err c =
    let p = err_from_is_err_and c.from_residual-in_err-second.result c.from_residual-in_err-second.ensures.1 in
    rw (p.1, p.2)
    (λ t ns is. opening_halts c.args.under.version c.args.under.types.now t is ns c.args.text.now c.in_ok-first.first.now c.in_ok-first.ensures.ok c.in_err-second.field-0.0
    c.in_err-second.ensures.err)

pub returns-in_err-attributes-clause-err : goal.returns-in_err-attributes-clause-err
returns-in_err-attributes-clause-err c =
    let p = err_from_is_err_and c.from_residual-in_err-attributes.result c.from_residual-in_err-attributes.ensures.1 in
    rw (p.1, p.2)
    (λ t ns is. count_halts c.args.under.version c.args.under.types.now t is ns c.args.text.now c.in_ok-first.first.now c.in_ok-first.ensures.ok c.in_ok-second.second.now
    c.in_ok-second.ensures.ok c.in_err-attributes.field-0.0 c.in_err-attributes.ensures.err)

pub returns-in_err-fourth-clause-err : goal.returns-in_err-fourth-clause-err
returns-in_err-fourth-clause-err c =
    let p = err_from_is_err_and c.from_residual-in_err-fourth.result c.from_residual-in_err-fourth.ensures.1 in
    rw (p.1, p.2)
    (λ t ns is. comma_halts c.args.under.version c.args.under.types.now t is ns c.args.text.now c.in_ok-first.first.now c.in_ok-first.ensures.ok c.in_ok-second.second.now
    c.in_ok-second.ensures.ok c.in_ok-attributes.attributes c.in_ok-attributes.ensures.fits c.in_ok-attributes.third.now c.in_ok-attributes.ensures.ok c.in_err-fourth.field-0.0
    c.in_err-fourth.ensures.err)

pub returns-in-Err-clause-err : goal.returns-in-Err-clause-err
returns-in-Err-clause-err c =
    λ t ns is. uuid_halts c.args.under.version c.args.under.types.now t is ns c.args.text.now c.in_ok-first.first.now c.in_ok-first.ensures.ok c.in_ok-second.second.now c.in_ok-second.ensures.ok
    c.in_ok-attributes.attributes c.in_ok-attributes.ensures.fits c.in_ok-attributes.third.now c.in_ok-attributes.ensures.ok c.in_ok-fourth.fourth.now c.in_ok-fourth.ensures.ok c.in-Err.stop
    c.in-Err.ensures.err

pub returns-in_err-rest-in-Ok-clause-err : goal.returns-in_err-rest-in-Ok-clause-err
returns-in_err-rest-in-Ok-clause-err c =
    let p = err_from_is_err_and c.from_residual-in_err-rest-in-Ok.result c.from_residual-in_err-rest-in-Ok.ensures.1 in
    rw (p.1, p.2)
    (λ t ns is. closing_halts c.args.under.version c.args.under.types.now t is ns c.args.text.now c.in_ok-first.first.now c.in_ok-first.ensures.ok c.in_ok-second.second.now
    c.in_ok-second.ensures.ok c.in_ok-attributes.attributes c.in_ok-attributes.ensures.fits c.in_ok-attributes.third.now c.in_ok-attributes.ensures.ok c.in_ok-fourth.fourth.now
    c.in_ok-fourth.ensures.ok c.in-Ok.read.0 c.in-Ok.read.1.now c.in-Ok.ensures.ok c.in_err-rest-in-Ok.field-0.0 c.in_err-rest-in-Ok.ensures.err)

pub returns-in_ok-rest-in-Ok-clause-ok : goal.returns-in_ok-rest-in-Ok-clause-ok
returns-in_ok-rest-in-Ok-clause-ok c =
    λ t ns is. context_value c.args.under.version c.args.under.types.now t is ns c.args.text.now c.in_ok-first.first.now c.in_ok-first.ensures.ok c.in_ok-second.second.now c.in_ok-second.ensures.ok
    c.in_ok-attributes.attributes c.in_ok-attributes.ensures.fits c.in_ok-attributes.third.now c.in_ok-attributes.ensures.ok c.in_ok-fourth.fourth.now c.in_ok-fourth.ensures.ok c.in-Ok.read.0
    c.in-Ok.read.1.now c.in-Ok.ensures.ok c.in_ok-rest-in-Ok.rest.now _ c.in_ok-rest-in-Ok.ensures.ok c.in-Ok.ensures.form refl
