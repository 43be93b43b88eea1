use Rattle.std.proofs.Common.{◌≡◌, ◌∙◌, ap, subst, List, ◌∷◌, None, ℕ, nat_eq, sym}
use Rattle.indexmap.proofs.CallerLemmas.{insert_entry-new}
use Rattle.indexmap.specs.IndexMap.{get}
use Rattle.nd_types.specs.declared.types.TypeId.{TypeId}
use Rattle.text_grammar.specs.Dues.{named_type}
use Rattle.text_parser.specs.NamedCells.{backwards, Agrees, HasNoneAfter}
use Rattle.text_parser.proofs.NamedLists.{backwards_more, is_new, agrees_more, none_more}
use Rattle.text_parser.proofs.names.Names.add.Goals as goal

pub returns : goal.returns
returns c =
    let es = c.self.inside.types.entries in
    let none : get nat_eq c.self.inside.types c.args.cell ≡ None = is_new es c.args.cell c.self.invariant.0 (ap (λ l. named_type l c.args.cell) c.self.view_is ∙ c.requires) in
    ap (λ l. backwards l) (c.in-Ok.ensures.entries ∙ insert_entry-new nat_eq c.self.inside.types c.args.cell c.args.to none)
    ∙ (backwards_more es c.args.cell c.args.to ∙ ap (λ (l : List (ℕ × ℕ)). (c.args.cell, c.args.to.0) ∷ l) c.self.view_is)

pub invariant_of-self-2 : goal.invariant_of-self-2
invariant_of-self-2 c =
    let es = c.self.inside.types.entries in
    let none : get nat_eq c.self.inside.types c.args.cell ≡ None = is_new es c.args.cell c.self.invariant.0 (ap (λ l. named_type l c.args.cell) c.self.view_is ∙ c.requires) in
    let entries = sym (c.in-Ok.ensures.entries ∙ insert_entry-new nat_eq c.self.inside.types c.args.cell c.args.to none) in (
      subst Agrees entries (agrees_more es c.args.cell c.args.to c.self.invariant.0 none),
      subst (λ (l : List (ℕ × TypeId)). HasNoneAfter l c.greater-self-inside.result) entries
          (none_more es c.args.cell _ _ c.args.to c.self.invariant.1 c.greater-self-inside.ensures.first c.greater-self-inside.ensures.second),
    )
