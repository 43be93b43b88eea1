-- What a decoder answers of octets in memory, with the items that it logged.
-- `w` is a setting, `g` a graph.
use Rattle.std.specs.Prelude.{◌≡◌, ℕ, List, ◌++◌, length}
use Rattle.nd_base.specs.declared.octets.Order.{Order}
use Rattle.nd_value.specs.declared.item.Item.{Item}
use Rattle.nd_value.specs.declared.value.Graph.{Graph}
use Rattle.nd_value.specs.Canon.{IsCanon}
use Rattle.nd_value.specs.Conforms.{Conforms}
use Rattle.nd_value.specs.Setting.{Setting}
use Rattle.nd_grammar.specs.declared.reason.Reason.{Reason}
use Rattle.nd_grammar.specs.Refusal.{Bad}
use Rattle.nd_grammar.specs.decoded.Verdict.{MayFollow}
use Rattle.nd_grammar.specs.Entry.{end_to_end}
use Rattle.nd_grammar.specs.Items.{items}
use Rattle.nd_grammar.specs.Stream.{Represents}
use Rattle.ndr_decoder_laws.specs.verdict.InOrder.{HasOwnNumbers}

-- The first of the octets, so many, are a stream of a graph that conforms, and these are its items.
pub record IsLoggedFront (w : Setting) (order : Order) (octets : List ℕ) (taken : ℕ) (g : Graph) (log : List Item) : Type 0 where
  pub fetched : List ℕ
  pub rest : List ℕ
  pub split : octets ≡ fetched ++ rest
  pub taken_is : length fetched ≡ taken
  pub represents : Represents w order fetched g
  pub conforms : Conforms w g
  pub canonical : IsCanon w g g
  pub items_are : log ≡ items order fetched (end_to_end 0 represents.entries)

-- The first of the octets are refused at a place, and these are the items before it.
pub record IsRefusedFront (w : Setting) (order : Order) (octets : List ℕ) (place : ℕ) (why : Reason) (log : List Item) : Type 0 where
  pub fetched : List ℕ
  pub more : List ℕ
  pub split : octets ≡ fetched ++ more
  pub follow : MayFollow why more
  pub bad : Bad w order fetched place why
  pub numbered : HasOwnNumbers bad.partial bad.entries
  pub items_are : log ≡ items order fetched bad.earlier
