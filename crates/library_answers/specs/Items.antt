-- The items of octets, as programs in C see them.
-- `i` is an interface, `operation`, `side` and `order` are numbers, `q` is the request of a response, `xs` are items.
use Rattle.std.specs.Prelude.{◌≡◌, ℕ, List, Option, Some, None, slice_get}
use Rattle.nd_types.specs.declared.interface.Interface.{Interface}
use Rattle.nd_types.specs.declared.types.Operation.{Operation}
use Rattle.nd_types.specs.declared.types.Side.TheVariants.{Out}
use Rattle.nd_value.specs.declared.item.Home.{Home}
use Rattle.nd_value.specs.declared.item.Home.TheVariants as home
use Rattle.nd_value.specs.declared.item.Item.{Item}
use Rattle.nd_value.specs.declared.item.ItemKind.{ItemKind}
use Rattle.nd_value.specs.declared.item.ItemKind.TheVariants as kind
use Rattle.nd_value.specs.Fitting.{Fitting, setting_beside}
use Rattle.library_handles.specs.declared.held.Held.{Held}
use Rattle.library_handles.specs.declared.held.Held.TheVariants as kept
use Rattle.library_values.specs.Logged.{IsLoggedOf}
use Rattle.library_types.specs.Low.{low}
use Rattle.library_answers.specs.Answers.{OfSide, OfOrder}
use Rattle.library_answers.specs.declared.items.ItemDescription.{ItemDescription}

-- the items that a handle holds
abbrev pub items_in : Option Held → Option (List Item)
items_in (Some (kept.Items log)) = Some log.items
items_in _ = None

-- the items are those of that side, beside no request
abbrev pub IsItems : Interface → ℕ → ℕ → ℕ → List ℕ → List Item → Type 0
IsItems i operation side order octets xs = OfSide i operation side (λ o s. OfOrder order (λ r. IsLoggedOf (setting_beside i o s None) r octets xs))

-- the items are those of the response to the request
abbrev pub IsResponseItems : Fitting → ℕ → List ℕ → List Item → Type 0
IsResponseItems q order octets xs =
    OfOrder order
    (λ r. (o : Operation) → slice_get q.interface.operations q.op ≡ Some o → IsLoggedOf (setting_beside q.interface o Out (Some q.graph)) r octets xs)

abbrev pub kind_numbered : ItemKind → ℕ
kind_numbered kind.Gap = 1
kind_numbered kind.Max = 2
kind_numbered kind.Offset = 3
kind_numbered kind.Actual = 4
kind_numbered kind.Number = 5
kind_numbered kind.Tag = 6
kind_numbered kind.Num = 7
kind_numbered kind.Text = 8
kind_numbered kind.Context = 9
kind_numbered kind.Chunk = 10

-- 1 for a cell, 0 for a root
abbrev pub is_in_cell : Home → ℕ
is_in_cell (home.Root i) = 0
is_in_cell (home.Cell c) = 1

abbrev pub home_number : Home → ℕ
home_number (home.Root i) = i
home_number (home.Cell c) = c.0

abbrev pub item_described : Item → ItemDescription
item_described x = record {
  at = x.at;
  length = x.len;
  kind = kind_numbered x.kind;
  in_cell = is_in_cell x.home;
  home = home_number x.home;
  node = x.node;
  number = low x.value;
}
