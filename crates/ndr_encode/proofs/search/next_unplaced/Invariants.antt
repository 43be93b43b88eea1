use Rattle.std.proofs.Common.{◌≡◌, ◌<◌, length}
use Rattle.std.specs.List.{AllByRecursion}
use Rattle.ndr_encode.specs.Search.{unplaced, pending_names}
use Rattle.ndr_encode.proofs.search.next_unplaced.Given as goal

abbrev pub invariant-loop-named : goal.invariant-loop-named
invariant-loop-named l = record {
  rest : unplaced l.placed (pending_names l.initial.pending.items) ≡ unplaced l.placed (pending_names l.pending.items);
  within : AllByRecursion (λ x. x.0 < length l.placed) (pending_names l.pending.items);
}

abbrev pub decreases-loop-named : goal.decreases-loop-named
decreases-loop-named l = length l.pending.items
