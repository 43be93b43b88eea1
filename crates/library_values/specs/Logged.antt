-- The items of octets in memory.
-- `w` is a setting, `octets` are all that are given.
use Rattle.std.specs.Prelude.{◌≡◌, ℕ, List, [], ◌++◌, true}
use Rattle.nd_base.specs.declared.octets.Order.{Order}
use Rattle.nd_value.specs.declared.item.Item.{Item}
use Rattle.nd_value.specs.declared.value.Graph.{Graph}
use Rattle.nd_value.specs.Logged.{Logged}
use Rattle.nd_value.specs.Setting.{Setting}
use Rattle.nd_grammar.specs.decoded.Verdict.{RepresentsAlone}
use Rattle.nd_grammar.specs.Entry.{end_to_end}
use Rattle.nd_grammar.specs.Items.{items}

-- a log that keeps items and has none yet
abbrev pub empty_log : Logged
empty_log = record { keeps = true; items = [] }

-- These are the items of the octets at the front that represent a graph, the one conforming graph that they represent.
pub record IsLoggedOf (w : Setting) (order : Order) (octets : List ℕ) (log : List Item) : Type 0 where
  pub front : List ℕ
  pub rest : List ℕ
  pub parts : octets ≡ front ++ rest
  pub graph : Graph
  pub alone : RepresentsAlone w order front graph
  pub items_are : log ≡ items order front (end_to_end 0 alone.represented.entries)
