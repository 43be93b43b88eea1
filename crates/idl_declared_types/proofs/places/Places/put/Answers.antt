use Rattle.std.proofs.Common.{◌≡◌, ◌∙◌, ap, List, [], ◌∷◌, ◌++◌, None, ℕ, sym}
use Rattle.indexmap.proofs.CallerLemmas.{insert_entry-new}
use Rattle.indexmap.specs.IndexMap.{get}
use Rattle.nd_base.specs.declared.octets.Place.{Place}
use Rattle.idl_declared_types.specs.declared.places.Spot.{Spot}
use Rattle.idl_declared_types.specs.Places.{found_place, numbered}
use Rattle.idl_declared_types.specs.contracts.places.SpotPartialEq.TheImpl.{eq-value}
use Rattle.idl_declared_types.proofs.PlaceLists.{found_is, numbered-push}
use Rattle.idl_declared_types.proofs.places.Places.put.Goals as goal

pub returns : goal.returns
returns c =
    let spot : Spot = record { file = c.args.place.file; at = c.args.place.at } in
    let es = c.self.inside.entries.entries in
    let none : get eq-value.it c.self.inside.entries spot ≡ None = found_is spot es ∙ (ap (found_place c.args.place) c.self.view_is ∙ c.requires) in
    ap (λ l. numbered l) (c.in-Ok.ensures.entries ∙ insert_entry-new eq-value.it c.self.inside.entries spot c.args.number none)
    ∙ (numbered-push es spot c.args.number ∙ ap (λ l. l ++ (c.args.place, c.args.number) ∷ []) c.self.view_is)
