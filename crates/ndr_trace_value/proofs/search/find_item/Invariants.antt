use Rattle.std.proofs.Common.{◌≡◌, ◌<◌, ℕ, Some}
use Rattle.std.specs.List.{slice_get}
use Rattle.nd_value.specs.declared.item.Item.{Item}
use Rattle.ndr_trace_value.proofs.search.find_item.Given as goal

abbrev pub invariant-loop-at : goal.invariant-loop-at
invariant-loop-at l = (n : ℕ) (i : Item) → n < l.at → slice_get l.items.items n ≡ Some i → i.at ≡ l.fn.place → ⊥
