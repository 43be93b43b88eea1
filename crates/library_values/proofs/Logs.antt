-- The items that a decoder logs of octets that are lent.
use Rattle.std.proofs.Common.{◌≡◌, ◌∙◌, ℕ, List, [], true, Some, ap}
use Rattle.nd_base.specs.declared.octets.Order.{Order}
use Rattle.nd_base.specs.Over.{SourceOver}
use Rattle.nd_base.proofs.Consumed.{rest_of, parts_of}
use Rattle.nd_value.specs.declared.value.Graph.{Graph}
use Rattle.nd_value.specs.Logged.{Logged}
use Rattle.nd_value.specs.Setting.{Setting}
use Rattle.nd_grammar.specs.Entry.{end_to_end}
use Rattle.nd_grammar.specs.Items.{items}
use Rattle.nd_grammar.specs.decoded.Verdict.{DecodingSeen, IsDecoded, with_items}
use Rattle.library_values.specs.Logged.{IsLoggedOf}

pub logged_is : (w : Setting) (order : Order) (octets : List ℕ) (s : SourceOver) (t : DecodingSeen) → s.left ≡ Some octets → t.log ≡ record { keeps = true; items = [] }
    → (taken : ℕ) (g : Graph) → IsDecoded w order s taken g t → IsLoggedOf w order octets t.log_now.items
logged_is w order octets s t lent empty taken g d = record {
  front = d.fetched;
  rest = rest_of s.left_now;
  parts = parts_of s.left s.left_now d.fetched octets lent d.left;
  graph = g;
  alone = d.graph;
  items_are =
      ap (λ (l : Logged). l.items) d.logged
      ∙ ap (λ (l : Logged). (with_items (items order d.fetched (end_to_end 0 d.graph.represented.entries)) l).items) empty;
}
