use Rattle.std.proofs.Common.{ap}
use Rattle.std.proofs.lemmas.Result.{err_from_is_err_and}
use Rattle.nd_value.specs.Tree as tree
use Rattle.nd_value.specs.Tree.{node, none}
use Rattle.text_parser.proofs.ValueForms.{pointer_value, pointer_halts}
use Rattle.text_parser.proofs.values.pointer.Goals as goal

pub returns-in_err-cell-clause-err : goal.returns-in_err-cell-clause-err
returns-in_err-cell-clause-err c =
    let p = err_from_is_err_and c.from_residual.result c.from_residual.ensures.1 in
    rw (p.1, p.2)
    (λ t class is. pointer_halts c.args.under.version c.args.under.types.now t class c.args.to is c.args.names.now c.args.text.now c.in_err-cell.field-0.0 (c.in_err-cell.ensures.err c.args.to.0))

pub returns-clause-ok : goal.returns-clause-ok
returns-clause-ok c =
    λ t class is. pointer_value c.args.under.version c.args.under.types.now t class c.args.to is c.args.names.now c.args.text.now c.in_ok-cell.cell c.note_reference.new.names c.in_ok-cell.rest.now _
    c.in_ok-cell.ensures.ok c.in_ok-cell.ensures.range c.in_ok-note_reference.ensures (ap (λ x. node (tree.Ptr x) none) c.cell_of.ensures)
