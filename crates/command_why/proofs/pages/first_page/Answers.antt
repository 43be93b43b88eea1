use Rattle.std.proofs.Common.{◌∙◌, ◌∷◌, ap, ap₂, sym, List, ℕ}
use Rattle.command_why.specs.Explained.{entries}
use Rattle.command_why.proofs.FirstEntry.{entry_before, entry_whole}
use Rattle.command_why.proofs.pages.first_page.Goals as goal

pub returns-in-Some-clause-first : goal.returns-in-Some-clause-first
returns-in-Some-clause-first c =
    entry_before c.args.text.now c.in-Some.at c.requires (sym c.entry_end.ensures.place ∙ c.in-Some.is)
    ∙ ap₂ (λ (x : List ℕ) (ys : List (List ℕ)). x ∷ ys) (sym c.front.ensures) (ap entries (sym c.rest_at.ensures))

pub returns-in-None-clause-first : goal.returns-in-None-clause-first
returns-in-None-clause-first c =
    entry_whole c.args.text.now c.requires (sym c.entry_end.ensures.place ∙ c.in-None.is)
    ∙ ap (λ (ys : List (List ℕ)). c.args.text.now ∷ ys) (ap entries (sym c.rest_at-in-None.ensures))
