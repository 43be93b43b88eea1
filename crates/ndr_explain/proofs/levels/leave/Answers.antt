use Rattle.std.proofs.Common.{ap, ◌∙◌, reverse}
use Rattle.ndr_explain.specs.Cursors.{types_after, paths_after, places_after}
use Rattle.ndr_explain.proofs.LevelPaths.{past_types, past_paths, innermost}
use Rattle.ndr_explain.proofs.LevelPlaces.{past_places}
use Rattle.ndr_explain.proofs.levels.leave.Goals as goal

pub loop-level-init : goal.loop-level-init
loop-level-init c =
    let outer = reverse c.args.below.items in
    record {
      types = past_types c.args.top outer c.in_default.ensures.is;
      paths = λ p. past_paths p c.args.top outer c.in_default.ensures.is;
      places = past_places c.args.top outer c.in_default.ensures.places;
    }

pub loop-level-preserved : goal.loop-level-preserved
loop-level-preserved c =
    let level = c.in-Some-pop.level in
    let left = c.pop.new.self.items in
    let e = innermost c.loop-level.left.items left level c.in-Some-pop.ensures.items in
    record {
      types = c.loop-level.invariant.types ∙ ap types_after e ∙ past_types level (reverse left) c.in_default-after.ensures.is;
      paths = λ p. c.loop-level.invariant.paths p ∙ ap (paths_after p) e ∙ past_paths p level (reverse left) c.in_default-after.ensures.is;
      places = c.loop-level.invariant.places ∙ ap places_after e ∙ past_places level (reverse left) c.in_default-after.ensures.places;
    }
