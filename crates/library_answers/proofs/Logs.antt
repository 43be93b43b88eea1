-- What is answered of the items of octets, from what the calls below answer.
use Rattle.std.proofs.Common.{◌≡◌, ℕ, ◌<◌, List, length, Option, Some, None, IsSomeAnd}
use Rattle.std.specs.List.{slice_get}
use Rattle.nd_base.specs.declared.octets.Order.{Order}
use Rattle.nd_types.specs.declared.interface.Interface.{Interface}
use Rattle.nd_types.specs.declared.types.Operation.{Operation}
use Rattle.nd_types.specs.declared.types.Side.{Side}
use Rattle.nd_types.specs.declared.types.Side.TheVariants.{Out}
use Rattle.nd_value.specs.declared.item.Item.{Item}
use Rattle.nd_value.specs.Fitting.{Fitting, setting_beside}
use Rattle.library_handles.specs.declared.held.Held.{Held}
use Rattle.library_values.specs.Logged.{IsLoggedOf}
use Rattle.library_answers.specs.Answers.{side_numbered, order_numbered}
use Rattle.library_answers.specs.Items.{items_in, IsItems, IsResponseItems}
use Rattle.library_answers.proofs.Numbered.{there_and, of_side, of_order}

pub items_are : (i : Interface) (operation side order : ℕ) (octets : List ℕ) (s : Side) (r : Order) (xs : List Item) (held : Option Held)
    → operation < length i.operations → Some s ≡ side_numbered side → Some r ≡ order_numbered order
    → ((o : Operation) → slice_get i.operations operation ≡ Some o → IsLoggedOf (setting_beside i o s None) r octets xs) → items_in held ≡ Some xs
    → IsSomeAnd (items_in held) (IsItems i operation side order octets)
items_are i operation side order octets s r xs held low side_is order_is logged filled =
    there_and (items_in held) xs (IsItems i operation side order octets) filled
    (of_side i operation side s _ low side_is (λ o there. of_order order r _ order_is (logged o there)))

pub response_items_are : (q : Fitting) (order : ℕ) (octets : List ℕ) (r : Order) (xs : List Item) (held : Option Held) → Some r ≡ order_numbered order
    → ((o : Operation) → slice_get q.interface.operations q.op ≡ Some o → IsLoggedOf (setting_beside q.interface o Out (Some q.graph)) r octets xs) → items_in held ≡ Some xs
    → IsSomeAnd (items_in held) (IsResponseItems q order octets)
response_items_are q order octets r xs held order_is logged filled =
    there_and (items_in held) xs (IsResponseItems q order octets) filled (of_order order r _ order_is logged)
