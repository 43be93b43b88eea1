-- Which entries are due while the items of a log are gone through, and at which of them the log ends.
-- `xs` are the entries that are due, none of them an agreement; `log` the items that are left, `here` is the entry at which reading stopped.
use Rattle.std.specs.Prelude.{◌≡◌, ◌⊎◌, ◌<◌, ℕ, ℤ, true, List, [], ◌∷◌, ◌++◌, Option}
use Rattle.std.specs.List.{AllByRecursion}
use Rattle.nd_base.specs.declared.octets.Order.{Order}
use Rattle.nd_value.specs.declared.item.Item.{Item}
use Rattle.nd_value.specs.declared.item.ItemKind.{ItemKind}
use Rattle.nd_grammar.specs.Entry.{Align, EntryAt, Kind, Unread, gap, size_at}
use Rattle.nd_grammar.specs.Items.{item_at, item_node, item_of, items}
use Rattle.nd_grammar.specs.Stream.{IsRendered, piece}
use Rattle.ndr_trace_value.specs.Untested.{is_test}

-- the kind and value of the item that an entry is, if it is one
abbrev pub its_item : Order → List ℕ → EntryAt → Option (ItemKind × ℤ)
its_item order octets x = item_of order x.entry.kind (piece octets x.at x.entry.kind)

-- reading stops neither at an empty gap nor at an unread value
abbrev pub CanStop : ℕ → Kind → Type 0
CanStop at (Align n) = 0 < gap at n
CanStop at Unread = ⊥
CanStop at _ = Unit {0}

-- the log ends before these entries: before the one at which reading stopped, or it stopped at an agreement
abbrev pub EndsBefore : EntryAt → List EntryAt → Type 0
EndsBefore here later =
    (is_test here.entry.kind ≡ true) ⊎ ((rest : List EntryAt) × (later ≡ here ∷ rest) × CanStop here.at here.entry.kind)

-- The items that are left are those of the first of these entries, which the octets spell; then the log ends.
pub record Stops (order : Order) (octets : List ℕ) (numbering : ℕ → ℕ) (here : EntryAt) (xs : List EntryAt) (log : List Item) : Type 0 where
  pub passed : List EntryAt
  pub later : List EntryAt
  pub split : xs ≡ passed ++ later
  pub rendered : AllByRecursion (IsRendered order numbering octets) passed
  pub log_is : log ≡ items order octets passed
  pub ends : EndsBefore here later

-- The next entry was read, and the log goes on with its item if it is one.
pub record Went (order : Order) (octets : List ℕ) (numbering : ℕ → ℕ) (here x : EntryAt) (xs : List EntryAt) (log : List Item) : Type 0 where
  pub rest : List Item
  pub rendered : IsRendered order numbering octets x
  pub log_is : log ≡ item_at x (its_item order octets x) ++ rest
  pub goes_on : Stops order octets numbering here xs rest

-- The log is at its end, and the next entry is that at which reading stopped, unless it stopped at an agreement.
pub record Stopped (here : EntryAt) (x : EntryAt) (log : List Item) : Type 0 where
  pub none_left : log ≡ []
  pub there : (is_test here.entry.kind ≡ true) ⊎ ((x ≡ here) × CanStop here.at here.entry.kind)

-- the next entry that is due
abbrev pub NextDue : Order → List ℕ → (ℕ → ℕ) → EntryAt → EntryAt → List EntryAt → List Item → Type 0
NextDue order octets numbering here x xs log = Went order octets numbering here x xs log ⊎ Stopped here x log

-- The next item of the log is that of the next entry, of this kind and value.
pub record Took (order : Order) (octets : List ℕ) (numbering : ℕ → ℕ) (here x : EntryAt) (xs : List EntryAt) (k : ItemKind × ℤ) (i : Item)
    (log : List Item) : Type 0 where
  pub rendered : IsRendered order numbering octets x
  pub is_item : i
      ≡ record {
        at = x.at;
        len = size_at x.at x.entry.kind;
        kind = k.0;
        home = x.entry.home;
        node = item_node x.entry.kind x.entry.node;
        value = k.1;
      }
  pub goes_on : Stops order octets numbering here xs log
