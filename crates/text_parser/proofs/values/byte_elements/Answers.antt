use Rattle.std.proofs.Common.{true, sym, subst}
use Rattle.std.proofs.lemmas.Result.{err_from_is_err_and}
use Rattle.text_grammar.specs.Dues.{list_dues}
use Rattle.text_parser.specs.Passing.{Halts}
use Rattle.text_parser.proofs.ByteLists.{bytes_halt, bytes_read}
use Rattle.text_parser.proofs.values.byte_elements.Goals as goal

pub returns-in_err-body-clause-err : goal.returns-in_err-body-clause-err
returns-in_err-body-clause-err c =
    let p = err_from_is_err_and c.from_residual.result c.from_residual.ensures.1 in
    rw (p.1, p.2) (λ ns. bytes_halt c.args.under.version c.args.under.types.now c.args.elem.0 c.requires.octets ns c.args.text.now c.in_err-body.field-0.0 c.in_err-body.ensures.err)

pub returns-in_err-vals-clause-err : goal.returns-in_err-vals-clause-err
returns-in_err-vals-clause-err c =
    let p = err_from_is_err_and c.from_residual-in_err-vals.result c.from_residual-in_err-vals.ensures.1 in
    rw (p.1, p.2) (λ ns. subst (Halts c.args.under.version c.args.under.types.now (list_dues true c.args.elem.0) ns c.args.text.now) (sym c.in_err-vals.ensures.err) tt)

pub returns-clause-ok : goal.returns-clause-ok
returns-clause-ok c = λ ns.
    let s = c.in_ok-body.ensures.ok in
    bytes_read c.args.under.version c.args.under.types.now c.args.elem.0 c.requires.octets ns c.args.text.now c.in_ok-body.rest.now s.0 c.in_ok-vals.vals
    (c.in_ok-vals.ensures.ok s.0 c.in_ok-body.rest.now s.1) s.2
