-- How the cells of a graph are numbered at whose stream octets are refused.
-- `w` is a setting, `g` a graph, `ms` are the entries of its stream, `s` is a source over the call, `t` the log and the count over the call.
use Rattle.std.specs.Prelude.{◌≡◌, ◌≤◌, ◌<◌, ℕ, List, length}
use Rattle.nd_base.specs.declared.octets.Order.{Order}
use Rattle.nd_base.specs.Over.{SourceOver}
use Rattle.nd_value.specs.declared.value.Graph.{Graph}
use Rattle.nd_value.specs.Canon.{canonical_number}
use Rattle.nd_value.specs.Setting.{Setting}
use Rattle.nd_grammar.specs.declared.reason.Reason.{Reason}
use Rattle.nd_grammar.specs.Entry.{Entry}
use Rattle.nd_grammar.specs.NextMark.{cells_met}
use Rattle.nd_grammar.specs.decoded.Verdict.{DecodingSeen, IsRefused}

-- The cells of a graph with this stream have the numbers of the order in which the stream comes to them.
abbrev pub HasOwnNumbers : Graph → List Entry → Type 0
HasOwnNumbers g ms = (c : ℕ) → 0 < c → c ≤ length g.cells → canonical_number (cells_met ms) c ≡ c

-- The octets are refused, at an entry of the stream of a partial graph whose cells have their own numbers.
pub record IsRefusedInOrder (w : Setting) (order : Order) (s : SourceOver) (place : ℕ) (why : Reason) (t : DecodingSeen) : Type 0 where
  pub refused : IsRefused w order s place why t
  pub numbers : HasOwnNumbers refused.bad.partial refused.bad.entries
