use Rattle.std.proofs.Common.{◌≡◌, ◌∷◌, List, ℕ, length, reverse}
use Rattle.ndr_explain.specs.Cursors.{types_after, paths_after, places_after}
use Rattle.ndr_explain.proofs.levels.leave.Given as goal

abbrev pub decreases-loop-level : goal.decreases-loop-level
decreases-loop-level l = length l.left.items

abbrev pub invariant-loop-level : goal.invariant-loop-level
invariant-loop-level l = record {
  types : types_after (l.fn.top ∷ reverse l.initial.left.items) ≡ types_after (reverse l.left.items);
  paths : (p : List ℕ) → paths_after p (l.fn.top ∷ reverse l.initial.left.items) ≡ paths_after p (reverse l.left.items);
  places : places_after (l.fn.top ∷ reverse l.initial.left.items) ≡ places_after (reverse l.left.items);
}
