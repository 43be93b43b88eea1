-- The calls of an object in memory: which are to fail, and how many were made.
use Rattle.std.specs.Prelude.{◌≡◌, ℕ, Bool, List, ◌==◌}
use Rattle.std.specs.List.{list_any}
use Rattle.nd_base.specs.declared.calls.Calls.{Calls}
use Rattle.nd_base.specs.Over.{next_count}

-- the numbers, from 1, of the calls that are to fail
abbrev pub failing_calls : Calls → List ℕ
failing_calls c = c.fails.items

-- how many calls were made
abbrev pub calls_done : Calls → ℕ
calls_done c = c.done

-- whether the next call is to fail: its number is in the list
abbrev pub fails_next : Calls → Bool
fails_next c = list_any (λ number. number == next_count c.done) c.fails.items

-- one call more was made, and the same calls are to fail
pub record CallMade (old new : Calls) : Type 0 where
  pub counted : new.done ≡ next_count old.done
  pub same_list : new.fails.items ≡ old.fails.items
