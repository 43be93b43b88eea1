use Rattle.std.proofs.Common.{◌≡◌, [], subst}
use Rattle.std.proofs.lemmas.Bool.{MatchBool-at_true}
use Rattle.std.proofs.lemmas.Result.{err_from_is_err_and}
use Rattle.nd_value.specs.Seen.{cell_of}
use Rattle.text_grammar.specs.Tokens.{skip}
use Rattle.text_parser.specs.Lines.{LineHalts, IsCellLine}
use Rattle.text_parser.proofs.KnownTypes.{names_known}
use Rattle.text_parser.proofs.LineParts.{no_cells, cells_halt, cell_came}
use Rattle.text_parser.proofs.texts.cells.Goals as goal

pub loop-rest-init : goal.loop-rest-init
loop-rest-init c =
    (no_cells c.args.under.version c.args.under.types.now c.args.names.now c.args.text.now c.new-cells.result c.new-cells.ensures, c.requires.known)

pub returns-in_err-cell-clause-err : goal.returns-in_err-cell-clause-err
returns-in_err-cell-clause-err c =
    let p = err_from_is_err_and c.from_residual.result c.from_residual.ensures.1 in
    rw (p.1, p.2)
    (cells_halt c.args.under.version c.args.under.types.now c.args.names.now c.args.text.now c.loop-rest.cells c.loop-rest.names c.loop-rest.rest.now c.loop-rest.invariant.0
    c.in_err-cell.field-0.0
    (subst (λ n. LineHalts c.args.under.version c.args.under.types.now n c.loop-rest.names c.loop-rest.rest.now c.in_err-cell.field-0.0) c.len.ensures c.in_err-cell.ensures.err))

pub loop-rest-preserved : goal.loop-rest-preserved
loop-rest-preserved c =
    let line =
    subst (λ n. IsCellLine c.args.under.version c.args.under.types.now n c.loop-rest.names c.loop-rest.rest.now
    (cell_of c.in_ok-cell.cell) c.cell_line.new.names c.in_ok-cell.after.now) c.len.ensures c.in_ok-cell.ensures.ok in (
      cell_came c.args.under.version c.args.under.types.now c.args.names.now c.args.text.now c.loop-rest.cells c.loop-rest.names c.loop-rest.rest.now c.loop-rest.invariant.0
          (cell_of c.in_ok-cell.cell) c.cell_line.new.names c.in_ok-cell.after.now c.push.new.self line c.in-Ok.ensures.ok,
      names_known c.args.under.types.now c.args.under.known c.in_ok-cell.cell.of.0 (cell_of c.in_ok-cell.cell).val c.loop-rest.names c.cell_line.new.names c.loop-rest.invariant.1 line.names,
    )

pub returns-clause-ok : goal.returns-clause-ok
returns-clause-ok c =
    record {
      ms = c.loop-rest.names;
      rest = c.loop-rest.rest.now;
      came = c.loop-rest.invariant.0;
      ended = MatchBool-at_true (skip c.loop-rest.rest.now ≡ []) (skip c.loop-rest.rest.now ≡ [] → ⊥) c.loop-rest-test.false c.ends.ensures;
    }
