-- The steps of printing a source, one after the other.
use Rattle.std.proofs.Common.{◌≡◌, ◌∙◌, ℕ, ◌≤◌, List, [], ◌∷◌, ◌++◌, Option, sym, subst}
use Rattle.std.proofs.KnownBytes.{Consumes-trans}
use Rattle.std.proofs.lemmas.List.{append-nil}
use Rattle.std.specs.Io.KnownBytes.{Consumes}
use Rattle.nd_base.proofs.Rising.{rose_later}
use Rattle.nd_base.specs.declared.octets.Order.{Order}
use Rattle.nd_base.specs.Over.{Rose, SourceOver}
use Rattle.nd_types.specs.declared.interface.Interface.{Interface}
use Rattle.nd_types.specs.declared.types.Operation.{Operation}
use Rattle.nd_types.specs.declared.types.Side.{Side}
use Rattle.nd_value.specs.declared.value.Graph.{Graph}
use Rattle.nd_value.specs.Fitting.{setting_beside}
use Rattle.nd_value.specs.Setting.{Setting}
use Rattle.nd_grammar.specs.declared.reason.Reason.{Reason}
use Rattle.nd_grammar.specs.decoded.Verdict.{DecodingSeen, IsDecoded, IsRefused}
use Rattle.ndr_decode.specs.Decoding.{IsFault}
use Rattle.ndr_decoder_state.specs.declared.fault.DecodeFault.{DecodeFault}
use Rattle.ndr_decoder_state.specs.declared.fault.DecodeFault.TheVariants as fault
use Rattle.text_grammar.specs.Written.{IsText}
use Rattle.command_refusals.specs.declared.refusal.Refusal.{Refusal}
use Rattle.command_refusals.specs.declared.refusal.Refusal.TheVariants.{Memory, Absent, FileFailed, BadIdl, NoOperation, ReadFault, BadOctets, BadText, BadValue, TooLong, BadRequest, BadLabel}
use Rattle.command_refusals.specs.declared.refusal.Refusal.TheVariants.{ShortLabel, TooFewEnds, EndFailed}
use Rattle.command_refusals.specs.declared.refusal.Refusal.TheVariants.{BadPdu, NotCompatible, BadScript, LongScript}
use Rattle.command_refusals.specs.declared.refusal.OctetsFault.TheVariants as octets_fault
use Rattle.command_decode.specs.Decoded.{IsPrinted, IsInputCause, IsRefusedInput}
use Rattle.command_decode.specs.Taken.{IsTaken, IsEnd, IsNoEnd}

-- a source over one step and then over another
abbrev pub over : SourceOver → SourceOver → SourceOver
over s t = record { left = s.left; left_now = t.left_now; ended_now = t.ended_now; faults = record { before = s.faults.before; now = t.faults.now } }

-- ## Decoding

-- what was decoded was taken
pub taken_is : (s : SourceOver) (w : Setting) (order : Order) (taken : ℕ) (g : Graph) (t : DecodingSeen) → IsDecoded w order s taken g t → IsTaken s w order taken g
taken_is s w order taken g t d = record {
  octets = d.fetched;
  left = d.left;
  taken_is = sym d.taken_is;
  represents = d.graph.represented;
  conforms = d.graph.conforms;
}

-- what was refused is refused
pub refused_is : (s : SourceOver) (w : Setting) (order : Order) (place : ℕ) (why : Reason) (t : DecodingSeen) → IsRefused w order s place why t
    → IsRefusedInput s w order place why
refused_is s w order place why t r = record {
  octets = r.fetched;
  taken = r.left;
  bad = r.bad;
  ends = r.ends;
  stays = r.stays;
  ended = λ e. (r.ended e, r.none_left e);
}

-- a fault that is a refusal
pub fault_is : (s : SourceOver) (w : Setting) (order : Order) (e : DecodeFault) (place : ℕ) (why : Reason) (t : DecodingSeen) → e ≡ fault.Bad place why
    → IsFault w order s e t → IsRefusedInput s w order place why
fault_is s w order e place why t is h = refused_is s w order place why t (subst (λ x. IsFault w order s x t) is h)

-- a refusal under an equal interface
pub over_interface : (s : SourceOver) (o : Operation) (side : Side) (q : Option Graph) (order : Order) (i j : Interface) (r : Refusal) → j ≡ i
    → IsInputCause s (setting_beside j o side q) order r → IsInputCause s (setting_beside i o side q) order r
over_interface s o side q order i j r is h = subst (λ (k : Interface). IsInputCause s (setting_beside k o side q) order r) is h

-- ## The text

-- the text of a fit's graph, on this side and beside this request
pub text_is : (i : Interface) (o : Operation) (side own : Side) (given its : Option Graph) (g : Graph) (text : List ℕ) → own ≡ side → its ≡ given
    → IsText (setting_beside i o own its) g text → IsText (setting_beside i o side given) g text
text_is i o side own given its g text same alone printed =
    subst (λ q. IsText (setting_beside i o side q) g text) alone (subst (λ k. IsText (setting_beside i o k its) g text) same printed)

-- ## The end

module _ (s t : SourceOver) (w : Setting) (order : Order) (taken : ℕ) (g : Graph) (first : IsTaken s w order taken g) (meets : t.left ≡ s.left_now) where
  both : (octets : List ℕ) → Consumes t.left t.left_now octets → Consumes s.left t.left_now (first.octets ++ octets)
  both octets taken = Consumes-trans s.left s.left_now t.left_now first.octets octets first.left (subst (λ l. Consumes l t.left_now octets) meets taken)

  pub printed_is : (text : List ℕ) → IsEnd t → IsText w g text → IsPrinted (over s t) w order text
  printed_is text end printed = record {
    octets = first.octets;
    whole = record {
      taken = subst (Consumes s.left t.left_now) (append-nil first.octets) (both [] end.nothing);
      ended = end.ended;
      none_left = end.none_left;
    };
    decoding = record { graph = g; conforms = first.conforms; represents = first.represents; is_text = printed };
  }

  pub no_end : s.faults.before ≤ s.faults.now → t.faults.before ≡ s.faults.now → (r : Refusal) → IsNoEnd t taken r → IsInputCause (over s t) w order r
  no_end later same ReadFault (rose, kept) =
      rose_later s.faults.before s.faults.now t.faults.now later (subst (λ n. Rose n t.faults.now) same rose)
  no_end later same (BadOctets place octets_fault.Trailing) (there, (next, one)) = record {
    octets = first.octets;
    next = next;
    taken = both (next ∷ []) one;
    place_is = there ∙ first.taken_is;
    graph = g;
    represents = first.represents;
    conforms = first.conforms;
  }
  no_end later same (BadOctets place (octets_fault.Refused why)) never = absurd never
  no_end later same Memory never = absurd never
  no_end later same (Absent file) never = absurd never
  no_end later same (FileFailed file) never = absurd never
  no_end later same (BadIdl file line column why) never = absurd never
  no_end later same NoOperation never = absurd never
  no_end later same (TooLong many) never = absurd never
  no_end later same (BadText line column why) never = absurd never
  no_end later same (BadValue path why) never = absurd never
  no_end later same (BadRequest why) never = absurd never
  no_end later same (BadLabel fault) never = absurd never
  no_end later same ShortLabel never = absurd never
  no_end later same (TooFewEnds wanted found) never = absurd never
  no_end later same (EndFailed which) never = absurd never
  no_end later same (BadPdu spot because) never = absurd never
  no_end later same (NotCompatible differing) never = absurd never
  no_end later same (BadScript row) never = absurd never
  no_end later same LongScript never = absurd never
