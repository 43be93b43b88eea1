use Rattle.std.proofs.Common.{[], ◌∷◌}
use Rattle.std.proofs.lemmas.Result.{err_from_is_err_and}
use Rattle.nd_value.specs.Seen.{tree_of}
use Rattle.text_grammar.specs.Written.{Name, equals}
use Rattle.text_grammar.specs.Dues.{This, AValue}
use Rattle.text_parser.proofs.Passages.{halts_framed}
use Rattle.text_parser.proofs.LineParts.{line_halts, line_value}
use Rattle.text_parser.proofs.texts.root_line.Goals as goal

pub returns-in_err-start-clause-err : goal.returns-in_err-start-clause-err
returns-in_err-start-clause-err c =
    let p = err_from_is_err_and c.from_residual.result c.from_residual.ensures.1 in
    rw (p.1, p.2)
    (halts_framed c.args.under.version c.args.under.types.now (This (Name c.args.root.now) ∷ This equals ∷ []) (AValue c.args.of.0 ∷ []) c.args.names.now c.args.text.now c.in_err-start.field-0.0
    (c.in_err-start.ensures.err c.args.under.types.now c.args.names.now))

pub returns-in_err-val-clause-err : goal.returns-in_err-val-clause-err
returns-in_err-val-clause-err c =
    let p = err_from_is_err_and c.from_residual-in_err-val.result c.from_residual-in_err-val.ensures.1 in
    rw (p.1, p.2)
    (line_halts c.args.under.version c.args.under.types.now c.args.root.now c.args.of.0 c.args.names.now c.args.text.now c.in_ok-start.start.now
    (c.in_ok-start.ensures.ok c.args.under.types.now c.args.names.now) c.in_err-val.field-0.0 c.in_err-val.ensures.err)

pub returns-clause-ok : goal.returns-clause-ok
returns-clause-ok c =
    line_value c.args.under.version c.args.under.types.now c.args.root.now c.args.of.0 c.args.names.now c.args.text.now c.in_ok-start.start.now
    (c.in_ok-start.ensures.ok c.args.under.types.now c.args.names.now) (tree_of c.in_ok-val.val) c.value.new.names c.in_ok-val.rest.now c.in_ok-start.ensures.less c.in_ok-val.ensures.ok
