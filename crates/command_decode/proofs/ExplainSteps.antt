-- The steps of explaining a source, one after the other.
use Rattle.std.proofs.Common.{◌≡◌, ◌∙◌, ℕ, List, [], true, Option, ap, sym, subst}
use Rattle.std.proofs.KnownBytes.{Consumes-trans}
use Rattle.std.proofs.lemmas.List.{append-nil}
use Rattle.std.specs.Io.KnownBytes.{Consumes}
use Rattle.nd_base.specs.declared.octets.Order.{Order}
use Rattle.nd_base.specs.Over.{SourceOver}
use Rattle.nd_types.specs.declared.interface.Interface.{Interface}
use Rattle.nd_types.specs.declared.types.Operation.{Operation}
use Rattle.nd_types.specs.declared.types.Side.{Side}
use Rattle.nd_value.specs.declared.item.Item.{Item}
use Rattle.nd_value.specs.declared.value.Graph.{Graph}
use Rattle.nd_value.specs.Fitting.{setting_beside}
use Rattle.nd_value.specs.Logged.{Logged}
use Rattle.nd_value.specs.Setting.{Setting}
use Rattle.nd_grammar.specs.Entry.{end_to_end}
use Rattle.nd_grammar.specs.Items.{items}
use Rattle.nd_grammar.specs.decoded.Verdict.{DecodingSeen, IsDecoded, with_items}
use Rattle.command_decode.specs.Taken.{IsEnd}
use Rattle.command_decode.proofs.Steps.{over}
use Rattle.ndr_explain.specs.Explained.{explanation}
use Rattle.command_decode.specs.Decoded.{IsExplained, IsLogged}

-- what was decoded was taken, and its items are in a log that was empty
pub logged_is : (s : SourceOver) (w : Setting) (order : Order) (taken : ℕ) (g : Graph) (t : DecodingSeen) → t.log ≡ record { keeps = true; items = [] }
    → IsDecoded w order s taken g t → IsLogged s w order taken g t.log_now.items
logged_is s w order taken g t empty d =
    record {
      first = record { octets = d.fetched; left = d.left; taken_is = sym d.taken_is; represents = d.graph.represented; conforms = d.graph.conforms };
      canonical = d.graph.canonical;
      items_are =
          ap (λ (l : Logged). l.items) d.logged
          ∙ ap (λ (l : Logged). (with_items (items order d.fetched (end_to_end 0 d.graph.represented.entries)) l).items) empty;
    }

-- the items under an equal interface
pub logged_over : (s : SourceOver) (o : Operation) (side : Side) (q : Option Graph) (order : Order) (i j : Interface) (taken : ℕ) (g : Graph) (log : List Item) → j ≡ i
    → IsLogged s (setting_beside j o side q) order taken g log → IsLogged s (setting_beside i o side q) order taken g log
logged_over s o side q order i j taken g log is h = subst (λ (k : Interface). IsLogged s (setting_beside k o side q) order taken g log) is h

-- the lines on this side and beside this request
pub lines_are : (i : Interface) (o : Operation) (side own : Side) (given its : Option Graph) (g : Graph) (log : List Item) (text : List ℕ) → own ≡ side → its ≡ given
    → text ≡ explanation (setting_beside i o own its) g log → text ≡ explanation (setting_beside i o side given) g log
lines_are i o side own given its g log text same alone lines =
    subst (λ q. text ≡ explanation (setting_beside i o side q) g log) alone (subst (λ k. text ≡ explanation (setting_beside i o k its) g log) same lines)

-- what was decoded to the end of the source is explained
pub explained_is : (s t : SourceOver) (w : Setting) (order : Order) (taken : ℕ) (g : Graph) (log : List Item) (text : List ℕ) (h : IsLogged s w order taken g log)
    → t.left ≡ s.left_now → IsEnd t → text ≡ explanation w g log → IsExplained (over s t) w order text
explained_is s t w order taken g log text h meets end lines = record {
  octets = h.first.octets;
  whole = record {
    taken =
        subst (Consumes s.left t.left_now) (append-nil h.first.octets)
        (Consumes-trans s.left s.left_now t.left_now h.first.octets [] h.first.left (subst (λ l. Consumes l t.left_now []) meets end.nothing));
    ended = end.ended;
    none_left = end.none_left;
  };
  explanation = record {
    graph = g;
    conforms = h.first.conforms;
    canonical = h.canonical;
    represents = h.first.represents;
    lines = lines ∙ ap (explanation w g) h.items_are;
  };
}
