use Rattle.std.proofs.Common.{[], ◌∷◌, refl}
use Rattle.std.proofs.lemmas.Result.{err_from_is_err_and}
use Rattle.text_grammar.specs.Written.{colon}
use Rattle.text_grammar.specs.Dues.{This, ACount}
use Rattle.text_parser.proofs.Passages.{halts_miss}
use Rattle.text_parser.proofs.SmallParts.{colon_passes, colon_halts}
use Rattle.text_parser.proofs.parts.count_colon.Goals as goal

pub returns-clause-ok : goal.returns-clause-ok
returns-clause-ok c =
    λ table ns. colon_passes c.args.version table ns c.args.text.now c.in_ok-value.rest.now c.in_ok-end.end.now c.in_ok-value.value c.in_ok-value.ensures.fits c.in_ok-value.ensures.ok
    c.in_ok-end.ensures.ok

pub returns-in_err-value-clause-err : goal.returns-in_err-value-clause-err
returns-in_err-value-clause-err c =
    let p = err_from_is_err_and c.from_residual.result c.from_residual.ensures.1 in
    rw (p.1, p.2) (λ table ns. halts_miss c.args.version table ACount (This colon ∷ []) ns c.args.text.now c.in_err-value.field-0.0 refl c.in_err-value.ensures.err)

pub returns-in_err-end-clause-err : goal.returns-in_err-end-clause-err
returns-in_err-end-clause-err c =
    let p = err_from_is_err_and c.from_residual-in_err-end.result c.from_residual-in_err-end.ensures.1 in
    rw (p.1, p.2)
    (λ table ns. colon_halts c.args.version table ns c.args.text.now c.in_ok-value.rest.now c.args.text.now c.in_ok-value.value c.in_err-end.field-0.0 c.in_ok-value.ensures.fits
    c.in_ok-value.ensures.ok c.in_err-end.ensures.err)
