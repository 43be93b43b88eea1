-- The steps of tracing octets in memory, one after the other.
use Rattle.std.proofs.Common.{◌≡◌, ◌∙◌, ℕ, ◌+◌, true, List, [], ◌∷◌, ◌++◌, length, Option, Some, Result, Ok, Err, IfOk, refl, ap, sym, subst, arith}
use Rattle.std.specs.List.{AllByRecursion, slice_get}
use Rattle.std.proofs.lemmas.List.{append-nil, length-append}
use Rattle.nd_base.specs.declared.octets.Memory.{Memory as NoMemory}
use Rattle.nd_base.specs.declared.octets.Order.{Order}
use Rattle.nd_base.specs.Over.{SourceOver}
use Rattle.nd_base.proofs.Consumed.{rest_of, parts_of, none_left}
use Rattle.nd_types.specs.declared.interface.Interface.{Interface}
use Rattle.nd_types.specs.declared.types.Operation.{Operation}
use Rattle.nd_types.specs.declared.types.Side.{Side}
use Rattle.nd_value.specs.declared.item.Item.{Item}
use Rattle.nd_value.specs.declared.value.Graph.{Graph}
use Rattle.nd_value.specs.Fitting.{setting_beside}
use Rattle.nd_value.specs.Logged.{Logged}
use Rattle.nd_value.specs.Setting.{Setting}
use Rattle.nd_grammar.specs.declared.reason.Reason.{Reason}
use Rattle.nd_grammar.specs.decoded.Verdict.{DecodingSeen, IsDecoded, HasNoted, with_items}
use Rattle.nd_grammar.specs.Entry.{end_to_end}
use Rattle.nd_grammar.specs.Items.{items}
use Rattle.nd_grammar.specs.LegalSide.{IsLegalSide}
use Rattle.nd_grammar.proofs.LegalSides.{interface_side}
use Rattle.nd_grammar.proofs.Following.{may_follow}
use Rattle.ndr_decode.specs.Decoding.{IsInOrder}
use Rattle.ndr_decoder_laws.specs.verdict.InOrder.{IsRefusedInOrder}
use Rattle.ndr_decoder_state.specs.declared.fault.DecodeFault.{DecodeFault}
use Rattle.ndr_decoder_state.specs.declared.fault.DecodeFault.TheVariants as fault
use Rattle.ndr_explain.specs.Explained.{explanation_over, filled_gaps}
use Rattle.ndr_trace_value.specs.Traces.{IsTraceOf}
use Rattle.command_decode.specs.Decoded.{IsRefusedTrace, IsShown, IsTraced, IsTrailedTrace, IsWholeTrace, fault_line, gaps_line, trailing_line}
use Rattle.command_refusals.specs.declared.refusal.OctetsFault.TheVariants.{Refused, Trailing}
use Rattle.command_decode.specs.Fronts.{IsLoggedFront, IsRefusedFront}
use Rattle.command_decode.specs.declared.held.Traced.{Traced}
use Rattle.command_decode.specs.declared.held.Traced.TheVariants as traced
use Rattle.command_decode.proofs.Gaps.{IsWithin, as_many_gaps, items_within, same_lines}

-- ## What a decoder answers of octets that are lent

-- the items that were noted are in a log that was empty
noted_are : (xs : List Item) (t : DecodingSeen) → t.log ≡ record { keeps = true; items = [] } → HasNoted xs t → t.log_now.items ≡ xs
noted_are xs t empty noted = ap (λ (l : Logged). l.items) noted ∙ ap (λ (l : Logged). (with_items xs l).items) empty

module _ (w : Setting) (order : Order) (octets : List ℕ) (s : SourceOver) (t : DecodingSeen) (lent : s.left ≡ Some octets)
    (empty : t.log ≡ record { keeps = true; items = [] }) where
  pub logged_front : (taken : ℕ) (g : Graph) → IsDecoded w order s taken g t → IsLoggedFront w order octets taken g t.log_now.items
  logged_front taken g d = record {
    fetched = d.fetched;
    rest = rest_of s.left_now;
    split = parts_of s.left s.left_now d.fetched octets lent d.left;
    taken_is = d.taken_is;
    represents = d.graph.represented;
    conforms = d.graph.conforms;
    canonical = d.graph.canonical;
    items_are = noted_are (items order d.fetched (end_to_end 0 d.graph.represented.entries)) t empty d.logged;
  }

  refused_here : (place : ℕ) (why : Reason) → IsRefusedInOrder w order s place why t → IsRefusedFront w order octets place why t.log_now.items
  refused_here place why r = record {
    fetched = r.refused.fetched;
    more = rest_of s.left_now;
    split = parts_of s.left s.left_now r.refused.fetched octets lent r.refused.left;
    follow = may_follow why (rest_of s.left_now) (λ e. none_left s.left_now (r.refused.none_left e));
    bad = r.refused.bad;
    numbered = r.numbers;
    items_are = noted_are (items order r.refused.fetched r.refused.bad.earlier) t empty r.refused.logged;
  }

  pub refused_front : (e : DecodeFault) (place : ℕ) (why : Reason) → e ≡ fault.Bad place why → IsInOrder w order s e t
      → IsRefusedFront w order octets place why t.log_now.items
  refused_front e place why is h = refused_here place why (subst (λ (x : DecodeFault). IsInOrder w order s x t) is h)

-- ## What is written of it

-- the side of an operation is legal, beside any request
pub legal_side : (i : Interface) (n : ℕ) (o : Operation) (side : Side) (q : Option Graph) → slice_get i.operations n ≡ Some o → IsLegalSide (setting_beside i o side q)
legal_side i n o side q there = let own = interface_side i n o side there in record { operations = own.operations; legal = own.legal; operation = own.operation }

module _ (w : Setting) (order : Order) (octets : List ℕ) (taken : ℕ) (g : Graph) (log : List Item) (f : IsLoggedFront w order octets taken g log)
    (lines : List ℕ) (lines_are : lines ≡ explanation_over w g octets log) (gaps : ℕ) (gaps_are : gaps ≡ filled_gaps octets log) where
  all_within : AllByRecursion (IsWithin f.fetched) log
  all_within =
      subst (AllByRecursion (IsWithin f.fetched)) (sym f.items_are)
      (items_within f.fetched order f.represents.numbering (end_to_end 0 f.represents.entries) f.represents.rendered)

  front_explained : IsShown w order f.fetched gaps lines
  front_explained = record {
    graph = g;
    conforms = f.conforms;
    canonical = f.canonical;
    represents = f.represents;
    lines_are =
        lines_are ∙ ap (λ os. explanation_over w g os log) f.split ∙ same_lines f.fetched f.rest w g log all_within ∙ ap (explanation_over w g f.fetched) f.items_are;
    gaps_are = gaps_are ∙ ap (λ os. filled_gaps os log) f.split ∙ as_many_gaps f.fetched f.rest log all_within ∙ ap (filled_gaps f.fetched) f.items_are;
  }

  split_length : length octets ≡ length f.fetched + length f.rest
  split_length = ap length f.split ∙ length-append f.fetched f.rest

  -- all octets were taken
  whole_is : length octets ≡ taken → (text : List ℕ) → text ≡ lines ++ gaps_line gaps → IsWholeTrace w order octets text
  whole_is all text text_is = record {
    gaps = gaps;
    shown = lines;
    explanation =
        subst (λ os. IsShown w order os gaps lines) (sym (f.split ∙ ap (λ u. f.fetched ++ u) (nothing f.rest split_length) ∙ append-nil f.fetched)) front_explained;
    text_is = text_is;
  }
    where
      nothing : (rest : List ℕ) → length octets ≡ length f.fetched + length rest → rest ≡ []
      nothing [] e = refl
      nothing (x ∷ xs) e = let same = f.taken_is in absurd (omega (arith, e, same, all))

  -- an octet follows
  trailed_is : (length octets ≡ taken → ⊥) → (text : List ℕ) → text ≡ lines ++ (trailing_line taken ++ gaps_line gaps) → IsTrailedTrace w order octets taken text
  trailed_is more text text_is = go f.rest f.split split_length
    where
      go : (rest : List ℕ) → octets ≡ f.fetched ++ rest → length octets ≡ length f.fetched + length rest → IsTrailedTrace w order octets taken text
      go [] e n = let same = f.taken_is in absurd (more (omega (arith, n, same)))
      go (x ∷ xs) e n = record {
        fetched = f.fetched;
        next = x;
        rest = xs;
        split = e;
        gaps = gaps;
        shown = lines;
        explanation = front_explained;
        place_is = sym f.taken_is;
        lines_are = text_is;
      }

  -- what is answered of such octets
  pub whole_answer : length octets ≡ taken → (r : Result Traced NoMemory) → IfOk r (λ t. t ≡ traced.Whole (lines ++ gaps_line gaps)) → IfOk r (IsTraced w order octets)
  whole_answer all (Ok t) same = subst (IsTraced w order octets) (sym same) (whole_is all (lines ++ gaps_line gaps) refl)
  whole_answer all (Err e) same = tt

  pub trailed_answer : (length octets ≡ taken → ⊥) → (r : Result Traced NoMemory)
      → IfOk r (λ t. t ≡ traced.Refused (lines ++ (trailing_line taken ++ gaps_line gaps)) taken Trailing) → IfOk r (IsTraced w order octets)
  trailed_answer more (Ok t) same = subst (IsTraced w order octets) (sym same) (trailed_is more (lines ++ (trailing_line taken ++ gaps_line gaps)) refl)
  trailed_answer more (Err e) same = tt

-- on this side and beside this request
pub explained_on : (i : Interface) (o : Operation) (side own : Side) (given its : Option Graph) (order : Order) (octets : List ℕ) (taken : ℕ) (g : Graph) (log : List Item)
    (r : Result Traced NoMemory) → own ≡ side → its ≡ given
    → (IsLoggedFront (setting_beside i o own its) order octets taken g log → IfOk r (IsTraced (setting_beside i o own its) order octets))
    → IsLoggedFront (setting_beside i o side given) order octets taken g log → IfOk r (IsTraced (setting_beside i o side given) order octets)
explained_on i o side own given its order octets taken g log r same alone by =
    subst (λ q. IsLoggedFront (setting_beside i o side q) order octets taken g log → IfOk r (IsTraced (setting_beside i o side q) order octets)) alone
    (subst (λ k. IsLoggedFront (setting_beside i o k its) order octets taken g log → IfOk r (IsTraced (setting_beside i o k its) order octets)) same by)

-- the items before a fault, and the fault
pub refused_is : (w : Setting) (order : Order) (octets : List ℕ) (place : ℕ) (why : Reason) (log : List Item) (f : IsRefusedFront w order octets place why log)
    (shown path lines : List ℕ) (gaps : ℕ) → IsTraceOf w order f.fetched place why f.bad shown path → gaps ≡ filled_gaps octets log
    → lines ≡ shown ++ (fault_line place (Refused why) path ++ gaps_line gaps) → IsRefusedTrace w order octets place why lines
refused_is w order octets place why log f shown path lines gaps trace gaps_are lines_are = record {
  fetched = f.fetched;
  more = f.more;
  split = f.split;
  follow = f.follow;
  shown = shown;
  path = path;
  trace = record { bad = f.bad; numbered = f.numbered; trace = trace };
  lines_are = lines_are ∙ ap (λ n. shown ++ (fault_line place (Refused why) path ++ gaps_line n)) as_many;
}
  where
    all_in : AllByRecursion (IsWithin f.fetched) log
    all_in = subst (AllByRecursion (IsWithin f.fetched)) (sym f.items_are) (items_within f.fetched order f.bad.numbering f.bad.earlier f.bad.rendered)

    as_many : gaps ≡ filled_gaps f.fetched (items order f.fetched f.bad.earlier)
    as_many = gaps_are ∙ ap (λ os. filled_gaps os log) f.split ∙ as_many_gaps f.fetched f.more log all_in ∙ ap (filled_gaps f.fetched) f.items_are
