use Rattle.std.proofs.Common.{◌≡◌, ◌∙◌, ap, refl, nat_eq, [], ◌∷◌, ◌++◌, None}
use Rattle.indexmap.proofs.CallerLemmas.{insert_entry-new}
use Rattle.ndr_refs.specs.Known.{known, first_met}
use Rattle.ndr_refs.proofs.referents.Referents.keep.Goals as goal

pub returns : goal.returns
returns c =
    let none : known c.args.number c.self.inside.entries.entries ≡ None = ap (known c.args.number) c.self.view_is ∙ c.requires in (
      refl,
      c.in-Ok.ensures.entries
          ∙ (insert_entry-new nat_eq c.self.inside.entries c.args.number (first_met c.args.of c.args.next) none
          ∙ ap (λ l. l ++ (c.args.number, first_met c.args.of c.args.next) ∷ []) c.self.view_is),
    )
