-- How many cells have been named: what a decoder keeps of them from entry to entry.
-- `n` is how many cells there are, `d` how many of them are referents of roots that are reference pointers.
use Rattle.std.specs.Prelude.{ℕ, ◌+◌, ◌≤◌, List, length, flat_map}
use Rattle.std.specs.List.{AllByRecursion}
use Rattle.nd_value.specs.Canon.{target}
use Rattle.nd_grammar.specs.Entry.{EntryAt}
use Rattle.nd_grammar.specs.NextMark.{named_cell}
use Rattle.nd_grammar.specs.decoded.Verdict.{cells_named}

-- the cells that the numbers of pointers among entries name, each as often as it is named
abbrev pub cells_in : List EntryAt → List ℕ
cells_in xs = flat_map (λ x. target (named_cell x.entry.kind)) xs

-- All cells that were named are there, and there are no more than these and the referents of the roots that are reference pointers.
pub record CellsSeen (seen : List EntryAt) (n d : ℕ) : Type 0 where
  pub each : AllByRecursion (λ c. c ≤ n) (cells_in seen)
  pub many : n ≤ length (cells_named seen) + d
