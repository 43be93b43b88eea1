-- What noting the items of a chunk in the log of the stream comes to.
-- `n` is how many nodes came before, `own` are the chunk's items, `g` is the log before and `h` the one after.
use Rattle.std.specs.Prelude.{◌≡◌, ℕ, List, ◌++◌, map, Result, Ok, Err}
use Rattle.nd_base.specs.declared.octets.Memory.{Memory}
use Rattle.nd_value.specs.declared.item.Item.{Item}
use Rattle.nd_value.specs.Logged.{Logged}
use Rattle.nd_grammar.specs.decoded.Verdict.{with_items}
use Rattle.ndr_drain_laws.specs.reader.PartReader.{moved_item}

-- some of them were noted, from the first on
pub record AreNotedPart (n : ℕ) (own : List Item) (g h : Logged) : Type 0 where
  pub first : List Item
  pub others : List Item
  pub split : own ≡ first ++ others
  pub log : h ≡ with_items (map (moved_item n) first) g

abbrev pub HandsOn : ℕ → List Item → Logged → Logged → Result (Unit {0}) Memory → Type 0
HandsOn n own g h (Ok u) = h ≡ with_items (map (moved_item n) own) g
HandsOn n own g h (Err e) = AreNotedPart n own g h
