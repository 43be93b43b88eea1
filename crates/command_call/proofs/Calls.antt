-- The steps of printing a call, one after the other.
use Rattle.std.proofs.Common.{◌≡◌, ◌∙◌, ℕ, ◌+◌, ◌≤◌, ◌<◌, true, List, [], ◌∷◌, ◌++◌, length, Option, Some, None, Result, Ok, Err, IfOk, IfErr, refl, ap, sym, subst, arith, get_or, inl, inr, ◌⊎◌}
use Rattle.std.proofs.KnownBytes.{Consumes-trans, Consumes-kept}
use Rattle.std.proofs.lemmas.List.{append-nil}
use Rattle.std.proofs.lemmas.Option.{slice_get_cases}
use Rattle.std.specs.List.{slice_get}
use Rattle.std.specs.Io.KnownBytes.{Consumes, IsAtEnd, Keeps}
use Rattle.nd_base.proofs.Rising.{rose_later}
use Rattle.nd_base.specs.declared.octets.Order.{Order}
use Rattle.nd_base.specs.Over.{Rose, SourceOver, HasRisen}
use Rattle.nd_types.specs.declared.interface.Interface.{Interface}
use Rattle.nd_types.specs.declared.types.Operation.{Operation}
use Rattle.nd_value.specs.Setting.{Setting}
use Rattle.nd_value.specs.Fitting.{setting_of}
use Rattle.rpc_pdu.specs.declared.pdu.Wanted.{Wanted}
use Rattle.rpc_pdu.specs.declared.pdu.Joined.{Joined}
use Rattle.rpc_pdu.specs.Fragments.{Fragments}
use Rattle.rpc_pdu.specs.Fragments as pdu
use Rattle.command_decode.specs.Decoded.{IsDecoding, IsWhole, IsPrinted, IsInputCause}
use Rattle.command_refusals.specs.declared.refusal.Refusal.{Refusal}
use Rattle.command_refusals.specs.declared.refusal.Refusal.TheVariants.{Memory, Absent, FileFailed, BadIdl, NoOperation, ReadFault, BadOctets, BadText, BadValue, TooLong, BadRequest, BadLabel}
use Rattle.command_refusals.specs.declared.refusal.Refusal.TheVariants.{ShortLabel, TooFewEnds, EndFailed, BadPdu, NotCompatible, BadScript, LongScript}
use Rattle.command_refusals.specs.declared.refusal.FragmentsFault.TheVariants as fragments
use Rattle.command_call.specs.Called as called
use Rattle.command_call.specs.Called.{IsCall, IsCalled, IsCallCause, IsUnjoined, IsEnd, IsNoEnd, IsNoNumber, IsStubSource, IsStubCause, call_line}

-- a source over one step and then over another
abbrev pub over : SourceOver → SourceOver → SourceOver
over s t = record { left = s.left; left_now = t.left_now; ended_now = t.ended_now; faults = record { before = s.faults.before; now = t.faults.now } }

-- ## Fragments

-- where fragments are not joined, nothing is printed
pub unjoined : (s : SourceOver) (i : Interface) (op : Option ℕ) (r : Refusal) → IsUnjoined (called.wanted op) s r → IsCallCause s i op r
unjoined s i op Memory h = tt
unjoined s i op ReadFault h = record { octets = h.octets; taken = h.taken; sound = inl h.short; failed = h.failed }
unjoined s i op (BadPdu place (fragments.Refused why)) h = h
unjoined s i op (BadPdu place fragments.Trailing) h = absurd h
unjoined s i op (BadPdu place (fragments.NoOperation n)) h = absurd h
unjoined s i op (Absent file) h = absurd h
unjoined s i op (FileFailed file) h = absurd h
unjoined s i op (BadIdl file line column why) h = absurd h
unjoined s i op NoOperation h = absurd h
unjoined s i op (BadOctets place why) h = absurd h
unjoined s i op (BadText line column why) h = absurd h
unjoined s i op (BadValue path why) h = absurd h
unjoined s i op (TooLong many) h = absurd h
unjoined s i op (BadRequest why) h = absurd h
unjoined s i op (BadLabel why) h = absurd h
unjoined s i op ShortLabel h = absurd h
unjoined s i op (TooFewEnds wanted found) h = absurd h
unjoined s i op (EndFailed which) h = absurd h
unjoined s i op (NotCompatible differing) h = absurd h
unjoined s i op (BadScript row) h = absurd h
unjoined s i op LongScript h = absurd h

-- ## The operation

pub operation_there : (i : Interface) (n : ℕ) → n < length i.operations → (o : Operation) × (slice_get i.operations n ≡ Some o)
operation_there i n below = by (slice_get_cases i.operations n).1 where
  by : ((x : Operation) × (n < length i.operations) × (slice_get i.operations n ≡ Some x) × (get_or i.operations n x ≡ x))
      ⊎ ((length i.operations ≤ n) × (slice_get i.operations n ≡ None)) → (o : Operation) × (slice_get i.operations n ≡ Some o)
  by (inl (x, within, there, is)) = (x, there)
  by (inr (past, none)) = absurd (omega (arith, below, past))

-- ## Stub data

-- all octets of a source that is known
same_list : (xs ys : List ℕ) → Some xs ≡ Some ys → xs ≡ ys
same_list xs ys h = cc

all_of : (left left_now : Option (List ℕ)) (octets all : List ℕ) → Consumes left left_now octets → IsAtEnd left_now → left ≡ Some all → octets ≡ all
all_of None n octets all c end e = cc
all_of (Some xs) None octets all c end e = absurd c
all_of (Some xs) (Some ys) octets all c end e = sym (append-nil octets) ∙ ap (λ l. octets ++ l) (sym end) ∙ sym c ∙ same_list xs all e

pub stub_printed : (p : SourceOver) (stub : List ℕ) (w : Setting) (order : Order) (text : List ℕ) → p.left ≡ Some stub → IsPrinted p w order text
    → IsDecoding w order stub text
stub_printed p stub w order text e h =
    subst (λ (l : List ℕ). IsDecoding w order l text) (all_of p.left p.left_now h.octets stub h.whole.taken h.whole.none_left e) h.decoding

pub stub_refused : (p : SourceOver) (stub : List ℕ) (w : Setting) (order : Order) → IsStubSource p stub → (r : Refusal) → IsInputCause p w order r
    → IsStubCause stub w order r
stub_refused p stub w order source Memory h = tt
stub_refused p stub w order source (BadOctets place why) h = (p, source, h)
stub_refused p stub w order source ReadFault h = source.reads h
stub_refused p stub w order source (BadPdu place why) h = absurd h
stub_refused p stub w order source (Absent file) h = absurd h
stub_refused p stub w order source (FileFailed file) h = absurd h
stub_refused p stub w order source (BadIdl file line column why) h = absurd h
stub_refused p stub w order source NoOperation h = absurd h
stub_refused p stub w order source (BadText line column why) h = absurd h
stub_refused p stub w order source (BadValue path why) h = absurd h
stub_refused p stub w order source (TooLong many) h = absurd h
stub_refused p stub w order source (BadRequest why) h = absurd h
stub_refused p stub w order source (BadLabel why) h = absurd h
stub_refused p stub w order source ShortLabel h = absurd h
stub_refused p stub w order source (TooFewEnds wanted found) h = absurd h
stub_refused p stub w order source (EndFailed which) h = absurd h
stub_refused p stub w order source (NotCompatible differing) h = absurd h
stub_refused p stub w order source (BadScript row) h = absurd h
stub_refused p stub w order source LongScript h = absurd h

pub stub_refused_by : (result : Result (List ℕ) Refusal) (p : SourceOver) (stub : List ℕ) (w : Setting) (order : Order) → IfErr result (IsInputCause p w order)
    → IsStubSource p stub → IfErr result (IsStubCause stub w order)
stub_refused_by (Ok made) p stub w order h source = tt
stub_refused_by (Err e) p stub w order h source = stub_refused p stub w order source e h

-- an answer that says more says this
pub if_ok : {T E : Type 0} (r : Result T E) (P Q : T → Type 0) → ((t : T) → P t → Q t) → IfOk r P → IfOk r Q
if_ok (Ok t) P Q f h = f t h
if_ok (Err e) P Q f h = h

pub no_rise : Rose 0 0 → ⊥
no_rise h = omega (arith, h)

-- ## The whole

module _ (s t : SourceOver) (i : Interface) (op : Option ℕ) (j : Joined) (first : pdu.IsJoined (called.wanted op) s j) (meets : t.left ≡ s.left_now) where
  both : (octets : List ℕ) → Consumes t.left t.left_now octets → Consumes s.left t.left_now (first.octets ++ octets)
  both octets taken = Consumes-trans s.left s.left_now t.left_now first.octets octets first.taken (subst (λ l. Consumes l t.left_now octets) meets taken)

  pub no_end : s.faults.before ≤ s.faults.now → t.faults.before ≡ s.faults.now → (r : Refusal) → IsNoEnd t j.taken r → IsCallCause (over s t) i op r
  no_end later same ReadFault (kept, rose) = record {
    octets = first.octets;
    taken = Consumes-kept s.left s.left_now t.left_now first.octets first.taken (subst (λ l. Keeps l t.left_now) meets kept);
    sound = inr (j.order, j.call, j.opnum, j.stub, first.fragments);
    failed = rose_later s.faults.before s.faults.now t.faults.now later (subst (λ n. Rose n t.faults.now) same rose);
  }
  no_end later same (BadPdu place fragments.Trailing) (there, (next, one)) = record {
    octets = first.octets;
    next = next;
    taken = both (next ∷ []) one;
    order = j.order;
    call = j.call;
    stated = j.opnum;
    stub = j.stub;
    fragments = first.fragments;
    place_is = there ∙ sym first.count;
  }
  no_end later same (BadPdu place (fragments.Refused why)) h = absurd h
  no_end later same (BadPdu place (fragments.NoOperation n)) h = absurd h
  no_end later same Memory h = absurd h
  no_end later same (Absent file) h = absurd h
  no_end later same (FileFailed file) h = absurd h
  no_end later same (BadIdl file line column why) h = absurd h
  no_end later same NoOperation h = absurd h
  no_end later same (BadOctets place why) h = absurd h
  no_end later same (BadText line column why) h = absurd h
  no_end later same (BadValue path why) h = absurd h
  no_end later same (TooLong many) h = absurd h
  no_end later same (BadRequest why) h = absurd h
  no_end later same (BadLabel why) h = absurd h
  no_end later same ShortLabel h = absurd h
  no_end later same (TooFewEnds wanted found) h = absurd h
  no_end later same (EndFailed which) h = absurd h
  no_end later same (NotCompatible differing) h = absurd h
  no_end later same (BadScript row) h = absurd h
  no_end later same LongScript h = absurd h

  module _ (end : IsEnd t) where
    all_read : IsWhole (over s t) first.octets
    all_read = record {
      taken = subst (Consumes s.left t.left_now) (append-nil first.octets) (both [] end.nothing);
      ended = end.ended;
      none_left = end.none_left;
    }

    pub no_number : (r : Refusal) → IsNoNumber i j.opnum r → IsCallCause (over s t) i op r
    no_number (BadPdu place (fragments.NoOperation n)) h = record {
      octets = first.octets;
      whole = all_read;
      order = j.order;
      call = j.call;
      stub = j.stub;
      fragments = subst (λ (x : Option ℕ). Fragments first.octets (called.wanted op) j.order j.call x j.stub) h.stated_is first.fragments;
      none = h.none;
      place_is = h.place_is;
    }
    no_number (BadPdu place (fragments.Refused why)) h = absurd h
    no_number (BadPdu place fragments.Trailing) h = absurd h
    no_number Memory h = absurd h
    no_number ReadFault h = absurd h
    no_number (Absent file) h = absurd h
    no_number (FileFailed file) h = absurd h
    no_number (BadIdl file line column why) h = absurd h
    no_number NoOperation h = absurd h
    no_number (BadOctets place why) h = absurd h
    no_number (BadText line column why) h = absurd h
    no_number (BadValue path why) h = absurd h
    no_number (TooLong many) h = absurd h
    no_number (BadRequest why) h = absurd h
    no_number (BadLabel why) h = absurd h
    no_number ShortLabel h = absurd h
    no_number (TooFewEnds wanted found) h = absurd h
    no_number (EndFailed which) h = absurd h
    no_number (NotCompatible differing) h = absurd h
    no_number (BadScript row) h = absurd h
    no_number LongScript h = absurd h

    module _ (n : ℕ) (number_is : called.number op j.opnum ≡ Some n) (o : Operation) (there : slice_get i.operations n ≡ Some o) where
      is_call : IsCall i op first.octets j.order j.call o j.stub
      is_call = record { stated = j.opnum; fragments = first.fragments; n = n; number_is = number_is; known = there }

      pub bad_stub : (r : Refusal) → IsStubCause j.stub (setting_of i o (called.side op)) j.order r → IsCallCause (over s t) i op r
      bad_stub Memory h = tt
      bad_stub (BadOctets place why) h = record {
        octets = first.octets;
        whole = all_read;
        order = j.order;
        call = j.call;
        operation = o;
        stub = j.stub;
        is_call = is_call;
        cause = h;
      }
      bad_stub ReadFault h = absurd h
      bad_stub (Absent file) h = absurd h
      bad_stub (FileFailed file) h = absurd h
      bad_stub (BadIdl file line column why) h = absurd h
      bad_stub NoOperation h = absurd h
      bad_stub (BadText line column why) h = absurd h
      bad_stub (BadValue path why) h = absurd h
      bad_stub (TooLong many) h = absurd h
      bad_stub (BadRequest why) h = absurd h
      bad_stub (BadLabel why) h = absurd h
      bad_stub ShortLabel h = absurd h
      bad_stub (TooFewEnds wanted found) h = absurd h
      bad_stub (EndFailed which) h = absurd h
      bad_stub (NotCompatible differing) h = absurd h
      bad_stub (BadScript row) h = absurd h
      bad_stub LongScript h = absurd h
      bad_stub (BadPdu place why) h = absurd h

      pub called_is : (text made : List ℕ) → IsDecoding (setting_of i o (called.side op)) j.order j.stub text → made ≡ call_line j.call ++ text
          → IsCalled (over s t) i op made
      called_is text made decoding is = record {
        octets = first.octets;
        whole = all_read;
        order = j.order;
        call = j.call;
        operation = o;
        stub = j.stub;
        is_call = is_call;
        text = text;
        decoding = decoding;
        made_is = is;
      }
