use Rattle.std.proofs.Common.{arith}
use Rattle.text_parser.proofs.FirstTokens.{cell_without_number, cell_out_of_range}
use Rattle.text_parser.proofs.lexeme.cell.Goals as goal
use Rattle.text_parser.proofs.lexeme.cell.Goals.{then-value-eq0-via-then-value-eq0, then-value-eq0-via-else-value-eq0+then-value-from}

pub returns-in_default : goal.returns-in_default
returns-in_default c = cell_without_number c.args.text.now c.args.digits.now c.requires c.in_default.ensures

pub returns-then-value-eq0 : goal.returns-then-value-eq0
returns-then-value-eq0 c =
    cell_out_of_range c.args.text.now c.args.digits.now c.in-Some.value c.in-Some.rest.now c.requires c.in-Some.ensures
    (λ some low. elim c.then-value-eq0.branch [
      | then-value-eq0-via-then-value-eq0 w ↦ omega (arith, some, w.if-value-eq0.true)
      | then-value-eq0-via-else-value-eq0+then-value-from w ↦ omega (arith, low, w.if-value-from.true, w.from.ensures)
    ])
