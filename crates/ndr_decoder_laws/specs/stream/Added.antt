-- Entries that were passed while the value of a home was read.
-- `p` and `q` are how far the octets are read before and after.
use Rattle.std.specs.Prelude.{◌≡◌, List, ◌++◌}
use Rattle.std.specs.List.{AllByRecursion}
use Rattle.nd_value.specs.declared.item.Home.{Home}
use Rattle.nd_grammar.specs.Entry.{EntryAt}
use Rattle.nd_grammar.specs.Reader.{Progress}

-- Entries of this home were added to those that were passed before.
pub record Added (h : Home) (p q : Progress) : Type 0 where
  pub added : List EntryAt
  pub seen : q.seen ≡ p.seen ++ added
  pub own : AllByRecursion (λ x. x.entry.home ≡ h) added

-- Entries, of whatever home, were added.
pub record Goes (p q : Progress) : Type 0 where
  pub added : List EntryAt
  pub seen : q.seen ≡ p.seen ++ added
