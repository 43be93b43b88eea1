use Rattle.std.proofs.Common.{refl}
use Rattle.std.proofs.lemmas.Result.{err_from_is_err_and}
use Rattle.text_parser.proofs.SmallParts.{comma_none, comma_passes, comma_halts}
use Rattle.text_parser.proofs.parts.separator.Goals as goal

pub returns-then-at-eq0-clause-ok : goal.returns-then-at-eq0-clause-ok
returns-then-at-eq0-clause-ok c = λ table ns. comma_none c.args.version table ns c.args.text.now c.args.text.now c.args.at c.if-at-eq0.true refl

pub returns-clause-ok : goal.returns-clause-ok
returns-clause-ok c = λ table ns. comma_passes c.args.version table ns c.args.text.now c.in_ok-rest.rest.now c.args.at c.if-at-eq0.false c.in_ok-rest.ensures.ok

pub returns-in_err-rest-clause-err : goal.returns-in_err-rest-clause-err
returns-in_err-rest-clause-err c =
    let p = err_from_is_err_and c.from_residual.result c.from_residual.ensures.1 in
    rw (p.1, p.2) (λ table ns. comma_halts c.args.version table ns c.args.text.now c.args.text.now c.args.at c.in_err-rest.field-0.0 c.if-at-eq0.false c.in_err-rest.ensures.err)
