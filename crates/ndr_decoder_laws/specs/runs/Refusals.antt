-- What the plain reader says of octets after which a run ends.
-- `target` is what the plain reader gives for the home, by all octets, `fetched` are the octets so far, `noted` the items of the entries so far.
use Rattle.std.specs.Prelude.{◌≡◌, ℕ, List, [], ◌++◌, length}
use Rattle.nd_base.specs.declared.octets.Order.{Order}
use Rattle.nd_value.specs.declared.item.Item.{Item}
use Rattle.nd_grammar.specs.declared.reason.Reason.{Reason}
use Rattle.nd_grammar.specs.declared.reason.Reason.TheVariants as reason
use Rattle.nd_grammar.specs.Entry.{EntryAt}
use Rattle.nd_grammar.specs.Items.{items}
use Rattle.nd_grammar.specs.Reader.{Read}
use Rattle.ndr_decoder_laws.specs.verdict.CellsSeen.{CellsSeen}
use Rattle.ndr_decoder_laws.specs.reader.Around.{stopped}

-- The plain reader refuses all octets that begin with those fetched, at this place and for this reason, after the entries whose items were noted.
-- Where they are cut short, that is said of those fetched alone. So many cells are there: those that these entries named, and the referents of
-- `direct` roots.
pub record IsRefusedHere (order : Order) (fetched : List ℕ) (noted : List Item) (cells direct : ℕ) (target : List ℕ → Read) (place : ℕ)
    (why : Reason) : Type 0 where
  pub at : ℕ
  pub seen : List EntryAt
  pub stops : (later : List ℕ) → (why ≡ reason.Truncated → later ≡ []) → (target (fetched ++ later)).progress ≡ stopped at seen (place, why)
  pub items_are : items order fetched seen ≡ noted
  pub cells_named : CellsSeen seen cells direct

-- The plain reader finds these octets cut short where they end.
abbrev pub IsShort : (List ℕ → Read) → List ℕ → Type 0
IsShort target octets = (at : ℕ) × ((seen : List EntryAt) × ((target octets).progress ≡ stopped at seen (length octets, reason.Truncated)))
