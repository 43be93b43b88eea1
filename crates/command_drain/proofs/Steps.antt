-- The steps of draining a source, one after the other.
-- `s` is the source over the drain, `u` over the fetch after it, `e` are the ends over the drain.
use Rattle.std.proofs.Common.{◌≡◌, ◌∙◌, ℕ, ◌≤◌, ◌<◌, List, [], ◌∷◌, ◌++◌, length, Option, Some, None, sym, subst, ◌⊎◌, inl, inr}
use Rattle.std.proofs.KnownBytes.{Consumes-trans}
use Rattle.std.proofs.lemmas.List.{append-nil}
use Rattle.std.specs.Io.KnownBytes.{Consumes, Keeps}
use Rattle.std.proofs.lemmas.Bool.{cases_lt}
use Rattle.nd_base.proofs.Rising.{rose_later}
use Rattle.nd_base.specs.declared.octets.Order.{Order}
use Rattle.nd_base.specs.Over.{Rose, SourceOver}
use Rattle.nd_value.specs.declared.value.Graph.{Graph}
use Rattle.nd_value.specs.Setting.{Setting}
use Rattle.nd_grammar.specs.declared.reason.Reason.{Reason}
use Rattle.nd_grammar.specs.decoded.Verdict.{DecodingSeen}
use Rattle.ndr_pipe.specs.Ends.{EndsSeen}
use Rattle.ndr_drain.specs.Drained as drained
use Rattle.ndr_drain.specs.Drained.{pipe_count}
use Rattle.ndr_drain.specs.declared.fault.DrainFault.{DrainFault}
use Rattle.ndr_drain.specs.declared.fault.DrainFault.TheVariants as fault
use Rattle.command_decode.specs.Taken.{IsEnd, IsNoEnd}
use Rattle.text_grammar.specs.Written.{IsText}
use Rattle.command_refusals.specs.declared.refusal.Refusal.{Refusal}
use Rattle.command_refusals.specs.declared.refusal.Refusal.TheVariants.{Memory, Absent, FileFailed, BadIdl, NoOperation, ReadFault, BadOctets, BadText, BadValue, TooLong, BadRequest, BadLabel}
use Rattle.command_refusals.specs.declared.refusal.Refusal.TheVariants.{ShortLabel, TooFewEnds, EndFailed}
use Rattle.command_refusals.specs.declared.refusal.Refusal.TheVariants.{BadPdu, NotCompatible, BadScript, LongScript}
use Rattle.command_refusals.specs.declared.refusal.OctetsFault.TheVariants as octets_fault
use Rattle.command_drain.specs.Printed.{AreEnough, IsDrainRefusal, IsPrinted, IsTakenWhole}
use Rattle.command_drain.specs.Taken.{IsNotTaken, IsTaken}

-- a source over one step and then over another
abbrev pub over : SourceOver → SourceOver → SourceOver
over s u = record { left = s.left; left_now = u.left_now; ended_now = u.ended_now; faults = record { before = s.faults.before; now = u.faults.now } }

-- ## The drain

pub taken_is : (s : SourceOver) (e : EndsSeen) (w : Setting) (order : Order) (t : DecodingSeen) (taken : ℕ) (kept : Graph) → AreEnough w e → drained.IsDrained w order s e t taken kept
    → IsTaken s e w order taken kept
taken_is s e w order t taken kept enough d = record {
  octets = d.decoded.fetched;
  left = d.decoded.left;
  taken_is = sym d.decoded.taken_is;
  graph = d.graph;
  pipes = record { conforms = d.decoded.graph.conforms; represents = d.decoded.graph.represented; enough = enough; given = d.given };
  kept_is = d.kept_is;
}

-- there are enough ends where they are not too few
pub enough_of : (many found : ℕ) → (found < many → ⊥) → many ≤ found
enough_of many found h = go (cases_lt found many)
  where
    go : (found < many) ⊎ (many ≤ found) → many ≤ found
    go (inl k) = absurd (h k)
    go (inr k) = k

-- a fault of the drain, as the refusal that it is
module _ (s : SourceOver) (e : EndsSeen) (w : Setting) (order : Order) (t : DecodingSeen) (f : DrainFault) where
  abbrev Cause : DrainFault → Type 0
  Cause x = drained.IsDrainCause w order s e t x

  abbrev IfFew : DrainFault → Type 0
  IfFew x = length e.before < pipe_count w → drained.IsTooFewEnds x

  pub memory_is : f ≡ fault.Memory → Cause f → IsNotTaken s e w order Memory
  memory_is is h = (t, subst Cause is h)

  pub read_fault_is : f ≡ fault.ReadFault → IfFew f → Cause f → IsNotTaken s e w order ReadFault
  read_fault_is is few h =
      let c : Cause fault.ReadFault = subst Cause is h in
      let k : IfFew fault.ReadFault = subst IfFew is few in
      (c.0, enough_of (pipe_count w) (length e.before) k, (t, c))

  pub bad_is : (place : ℕ) (why : Reason) → f ≡ fault.Bad place why → IfFew f → Cause f → IsNotTaken s e w order (BadOctets place (octets_fault.Refused why))
  bad_is place why is few h = (enough_of (pipe_count w) (length e.before) (subst IfFew is few), (t, subst Cause is h))

  pub failed_is : (which : ℕ) → f ≡ fault.EndFailed which → IfFew f → Cause f → IsNotTaken s e w order (EndFailed which)
  failed_is which is few h = (enough_of (pipe_count w) (length e.before) (subst IfFew is few), (t, subst Cause is h))

  pub too_few_is : (wanted found : ℕ) → f ≡ fault.TooFewEnds wanted found → Cause f → IsNotTaken s e w order (TooFewEnds wanted found)
  too_few_is wanted found is h = (t, subst Cause is h)

-- a refusal of the drain is one of all
pub not_taken : (s : SourceOver) (e : EndsSeen) (w : Setting) (order : Order) (r : Refusal) → IsNotTaken s e w order r → IsDrainRefusal s e w order r
not_taken s e w order ReadFault h = (h.0, h.1, inl h.2)
not_taken s e w order Memory h = inr (inl h)
not_taken s e w order (BadOctets place (octets_fault.Refused why)) h = h
not_taken s e w order (BadOctets place octets_fault.Trailing) never = absurd never
not_taken s e w order (EndFailed which) h = h
not_taken s e w order (BadPdu spot because) never = absurd never
not_taken s e w order (NotCompatible differing) never = absurd never
not_taken s e w order (BadScript row) never = absurd never
not_taken s e w order LongScript never = absurd never
not_taken s e w order (TooFewEnds wanted found) h = h
not_taken s e w order (Absent file) never = absurd never
not_taken s e w order (FileFailed file) never = absurd never
not_taken s e w order (BadIdl file line column why) never = absurd never
not_taken s e w order NoOperation never = absurd never
not_taken s e w order (TooLong many) never = absurd never
not_taken s e w order (BadText line column why) never = absurd never
not_taken s e w order (BadValue path why) never = absurd never
not_taken s e w order (BadRequest why) never = absurd never
not_taken s e w order (BadLabel fault) never = absurd never
not_taken s e w order ShortLabel never = absurd never

-- ## The text

-- ## The end

none_taken : (left now : Option (List ℕ)) → Keeps left now → Consumes left now []
none_taken None now kept = tt
none_taken (Some xs) None kept = absurd kept
none_taken (Some xs) (Some ys) kept = sym kept

module _ (s u : SourceOver) (e : EndsSeen) (w : Setting) (order : Order) (taken : ℕ) (kept : Graph) (first : IsTaken s e w order taken kept) (meets : u.left ≡ s.left_now) where
  both : (octets : List ℕ) → Consumes u.left u.left_now octets → Consumes s.left u.left_now (first.octets ++ octets)
  both octets taken = Consumes-trans s.left s.left_now u.left_now first.octets octets first.left (subst (λ l. Consumes l u.left_now octets) meets taken)

  pub printed_is : (text : List ℕ) → IsEnd u → IsText w kept text → IsPrinted (over s u) e w order text
  printed_is text end printed = record {
    octets = first.octets;
    whole = record {
      taken = subst (Consumes s.left u.left_now) (append-nil first.octets) (both [] end.nothing);
      ended = end.ended;
      none_left = end.none_left;
    };
    graph = first.graph;
    pipes = first.pipes;
    is_text = subst (λ g. IsText w g text) first.kept_is printed;
  }

  -- nothing was taken after the value
  taken_whole : Consumes u.left u.left_now [] → IsTakenWhole (over s u) e w order
  taken_whole nothing =
      record { octets = first.octets; taken = subst (Consumes s.left u.left_now) (append-nil first.octets) (both [] nothing); graph = first.graph; pipes = first.pipes }

  -- out of memory after the end
  pub no_text : IsEnd u → IsDrainRefusal (over s u) e w order Memory
  no_text end = inr (inr (taken_whole end.nothing))

  pub no_end : s.faults.before ≤ s.faults.now → u.faults.before ≡ s.faults.now → (r : Refusal) → IsNoEnd u taken r → IsDrainRefusal (over s u) e w order r
  no_end later same ReadFault (rose, kept) =
      (rose_later s.faults.before s.faults.now u.faults.now later (subst (λ n. Rose n u.faults.now) same rose), first.pipes.enough, inr (taken_whole (none_taken u.left u.left_now kept)))
  no_end later same (BadOctets place octets_fault.Trailing) (there, (next, one)) = record {
    octets = first.octets;
    next = next;
    taken = both (next ∷ []) one;
    place_is = there ∙ first.taken_is;
    graph = first.graph;
    pipes = first.pipes;
  }
  no_end later same (BadOctets place (octets_fault.Refused why)) never = absurd never
  no_end later same Memory never = absurd never
  no_end later same (Absent file) never = absurd never
  no_end later same (FileFailed file) never = absurd never
  no_end later same (BadIdl file line column why) never = absurd never
  no_end later same NoOperation never = absurd never
  no_end later same (TooLong many) never = absurd never
  no_end later same (BadText line column why) never = absurd never
  no_end later same (BadValue path why) never = absurd never
  no_end later same (BadRequest why) never = absurd never
  no_end later same (BadLabel fault) never = absurd never
  no_end later same ShortLabel never = absurd never
  no_end later same (TooFewEnds wanted found) never = absurd never
  no_end later same (EndFailed which) never = absurd never
  no_end later same (BadPdu spot because) never = absurd never
  no_end later same (NotCompatible differing) never = absurd never
  no_end later same (BadScript row) never = absurd never
  no_end later same LongScript never = absurd never
