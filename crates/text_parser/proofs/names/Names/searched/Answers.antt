use Rattle.std.proofs.Common.{◌∙◌, ap, option_map}
use Rattle.text_grammar.specs.Dues.{named_type}
use Rattle.text_parser.proofs.names.Names.searched.Goals as goal

pub returns : goal.returns
returns c =
    ap (option_map (λ t. t.0)) (c.copied.ensures ∙ c.get.ensures.value) ∙ (c.self.invariant.0 c.args.cell ∙ ap (λ l. named_type l c.args.cell) c.self.view_is)
