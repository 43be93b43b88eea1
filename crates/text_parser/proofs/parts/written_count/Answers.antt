use Rattle.std.proofs.lemmas.Result.{err_from_is_err_and}
use Rattle.text_parser.proofs.SmallParts.{none_written, some_written, written_halts}
use Rattle.text_parser.proofs.parts.written_count.Goals as goal

pub returns-then-not-written-clause-ok : goal.returns-then-not-written-clause-ok
returns-then-not-written-clause-ok c = λ table ns. none_written c.args.version table ns c.args.text.now 0 c.args.written c.if-not-written.true

pub returns-clause-ok : goal.returns-clause-ok
returns-clause-ok c =
    λ table ns. some_written c.args.version table ns c.args.text.now c.in_ok-value.rest.now c.in_ok-value.value c.args.written c.if-not-written.false (c.in_ok-value.ensures.ok table ns)

pub returns-in_err-value-clause-err : goal.returns-in_err-value-clause-err
returns-in_err-value-clause-err c =
    let p = err_from_is_err_and c.from_residual.result c.from_residual.ensures.1 in
    rw (p.1, p.2) (λ table ns. written_halts c.args.version table ns c.args.text.now c.in_err-value.field-0.0 c.args.written c.if-not-written.false (c.in_err-value.ensures.err table ns))
