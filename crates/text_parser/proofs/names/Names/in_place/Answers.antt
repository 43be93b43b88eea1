use Rattle.std.proofs.Common.{◌≡◌, ◌∙◌, ap, sym, subst, ℕ, Some, option_map, nat_eq}
use Rattle.indexmap.specs.IndexMap.{get}
use Rattle.text_grammar.specs.Dues.{named_type}
use Rattle.text_parser.proofs.names.Names.in_place.Goals as goal

pub returns : goal.returns
returns c =
    sym (c.self.invariant.0 c.args.cell ∙ ap (λ l. named_type l c.args.cell) c.self.view_is) ∙ ap (option_map (λ t. t.0))
    (subst (λ (k : ℕ). get nat_eq c.self.inside.types k ≡ Some c.in-Some.to.now) c.if-known-cell.false c.in-Some.ensures.value)
