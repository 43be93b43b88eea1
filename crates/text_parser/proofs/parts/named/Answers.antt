use Rattle.std.proofs.Common.{[], ◌∷◌, refl}
use Rattle.std.proofs.lemmas.Result.{err_from_is_err_and}
use Rattle.text_grammar.specs.Written.{Name, equals}
use Rattle.text_grammar.specs.Dues.{This}
use Rattle.text_parser.proofs.Passages.{halts_miss}
use Rattle.text_parser.proofs.SmallParts.{named_passes, named_halts}
use Rattle.text_parser.proofs.parts.named.Goals as goal

pub returns-clause-ok : goal.returns-clause-ok
returns-clause-ok c = λ table ns. named_passes c.args.version table ns c.args.text.now c.in_ok-rest.rest.now c.in_ok-end.end.now c.args.due.now c.in_ok-rest.ensures.ok c.in_ok-end.ensures.ok

pub returns-in_err-rest-clause-err : goal.returns-in_err-rest-clause-err
returns-in_err-rest-clause-err c =
    let p = err_from_is_err_and c.from_residual.result c.from_residual.ensures.1 in
    rw (p.1, p.2) (λ table ns. halts_miss c.args.version table (This (Name c.args.due.now)) (This equals ∷ []) ns c.args.text.now c.in_err-rest.field-0.0 refl c.in_err-rest.ensures.err)

pub returns-in_err-end-clause-err : goal.returns-in_err-end-clause-err
returns-in_err-end-clause-err c =
    let p = err_from_is_err_and c.from_residual-in_err-end.result c.from_residual-in_err-end.ensures.1 in
    rw (p.1, p.2)
    (λ table ns. named_halts c.args.version table ns c.args.text.now c.in_ok-rest.rest.now c.args.text.now c.args.due.now c.in_err-end.field-0.0 c.in_ok-rest.ensures.ok c.in_err-end.ensures.err)
