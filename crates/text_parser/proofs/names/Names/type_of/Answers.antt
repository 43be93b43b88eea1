use Rattle.std.proofs.Common.{◌∙◌, ap, sym}
use Rattle.text_grammar.specs.Dues.{named_type}
use Rattle.text_parser.proofs.names.Names.type_of.Goals as goal

pub returns-then-cell-self : goal.returns-then-cell-self
returns-then-cell-self c =
    sym (c.self.invariant.1 c.args.cell c.if-cell-self.true) ∙ (c.self.invariant.0 c.args.cell ∙ ap (λ l. named_type l c.args.cell) c.self.view_is)
