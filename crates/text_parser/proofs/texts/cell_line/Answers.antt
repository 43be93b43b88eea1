use Rattle.std.proofs.Common.{◌+◌, refl, arith}
use Rattle.std.proofs.lemmas.Result.{err_from_is_err_and}
use Rattle.text_grammar.specs.Tokens.{Cell}
use Rattle.text_grammar.proofs.OneText.{cut_less}
use Rattle.text_parser.specs.Lexemes.{plain}
use Rattle.text_parser.proofs.KnownTypes.{cell_known}
use Rattle.text_parser.proofs.LineParts.{equals_halts, cell_halts, cell_read}
use Rattle.text_parser.proofs.texts.cell_line.Goals as goal

pub returns-in_err-of-clause-err : goal.returns-in_err-of-clause-err
returns-in_err-of-clause-err c =
    let p = err_from_is_err_and c.from_residual.result c.from_residual.ensures.1 in
    rw (p.1, p.2) (c.in_err-of.ensures.err c.args.under.types.now)

pub returns-in_err-start-clause-err : goal.returns-in_err-start-clause-err
returns-in_err-start-clause-err c =
    let p = err_from_is_err_and c.from_residual-in_err-start.result c.from_residual-in_err-start.ensures.1 in
    rw (p.1, p.2)
    (equals_halts c.args.under.version c.args.under.types.now c.args.count c.args.names.now c.args.text.now c.in_ok-of.of.0 c.in_ok-of.middle.now c.in_ok-of.ensures.ok c.in_err-start.field-0.0
    c.in_err-start.ensures.err)

pub returns-in_err-val-clause-err : goal.returns-in_err-val-clause-err
returns-in_err-val-clause-err c =
    let p = err_from_is_err_and c.from_residual-in_err-val.result c.from_residual-in_err-val.ensures.1 in
    rw (p.1, p.2)
    (cell_halts c.args.under.version c.args.under.types.now c.args.count c.args.names.now c.args.text.now c.in_ok-of.of.0 c.in_ok-of.middle.now c.in_ok-of.ensures.ok c.in_ok-start.start.now
    c.in_ok-start.ensures.ok c.in_err-val.field-0.0 c.in_err-val.ensures.err)

pub value-requires : goal.value-requires
value-requires c = record {
  known = cell_known c.args.under.types.now c.args.under.known c.args.names.now (c.args.count + 1) c.in_ok-of.of.0 c.requires.known c.in_ok-of.ensures.ok.type;
  short = omega (
    arith,
    c.requires.short,
    c.in_ok-start.ensures.less,
    cut_less (plain c.args.under.version) c.args.text.now (Cell (c.args.count + 1)) c.in_ok-of.middle.now c.in_ok-of.ensures.ok.cut,
  );
}

pub returns-clause-ok : goal.returns-clause-ok
returns-clause-ok c =
    cell_read c.args.under.version c.args.under.types.now c.args.count c.args.names.now c.args.text.now c.in_ok-of.of.0 c.in_ok-of.middle.now c.in_ok-of.ensures.ok c.in_ok-start.start.now
    c.in_ok-start.ensures.ok _ c.value.new.names c.in_ok-val.after.now refl c.in_ok-val.ensures.ok
