use Rattle.std.proofs.Common.{◌≡◌, ◌∙◌, ap}
use Rattle.idl_declared_types.specs.Places.{found_place}
use Rattle.idl_declared_types.proofs.PlaceLists.{found_is}
use Rattle.idl_declared_types.proofs.places.Places.get.Goals as goal

pub returns : goal.returns
returns c =
    c.copied.ensures
    ∙ (c.get.ensures.value ∙ (found_is (record { file = c.args.place.file; at = c.args.place.at }) c.self.inside.entries.entries ∙ ap (found_place c.args.place) c.self.view_is))
