-- What the fragments of an input come to, where its octets are known: they are refused in one way, or are one call.
use Rattle.std.proofs.Common.{◌≡◌, ◌∙◌, ℕ, ◌+◌, suc, List, [], ◌∷◌, ◌++◌, length, Option, Some, None, refl, sym, ap, ap₂, subst, inl, inr, ◌⊎◌, arith}
use Rattle.std.proofs.lemmas.Option.{same_Some}
use Rattle.std.proofs.lemmas.List.{append-nil, append_assoc, length-append}
use Rattle.std.specs.List.{slice_get}
use Rattle.std.specs.Io.KnownBytes.{IsAtEnd}
use Rattle.nd_base.specs.declared.octets.Order.{Order}
use Rattle.nd_base.specs.Over.{SourceOver}
use Rattle.nd_types.specs.declared.interface.Interface.{Interface}
use Rattle.nd_types.specs.declared.types.Operation.{Operation}
use Rattle.nd_types.specs.declared.types.Side.{Side}
use Rattle.nd_value.specs.declared.value.Graph.{Graph}
use Rattle.nd_value.specs.Setting.{Setting}
use Rattle.nd_value.specs.Conforms.{Conforms}
use Rattle.nd_value.specs.Fitting.{setting_of}
use Rattle.nd_grammar.specs.LegalSide.{IsLegalSide}
use Rattle.nd_grammar.specs.Stream.{Represents}
use Rattle.rpc_pdu.specs.declared.pdu.Wanted.{Wanted}
use Rattle.rpc_pdu.specs.declared.pdu.PduReason.{PduReason}
use Rattle.rpc_pdu.specs.Fragments.{Fragments, SameCall, HasNumber, IsRefused}
use Rattle.rpc_pdu.specs.Fragments as pdu
use Rattle.rpc_pdu.proofs.Reading.{never_both, one_call, one_refusal}
use Rattle.rpc_pdu.proofs.KnownOctets.{known_bad}
use Rattle.rpc_pdu.proofs.Numbers.{call_number}
use Rattle.command_decode.specs.Decoded.{IsDecoding, IsWhole}
use Rattle.command_call.specs.Called.{IsCall, IsCalled, IsTrailed, IsOfNoOperation, HasBadStub, IsStubSource, IsStubCause, IsCallCause}
use Rattle.command_call.specs.Called as called
use Rattle.command_refusals.specs.declared.refusal.OctetsFault.{OctetsFault}
use Rattle.command_refusals.specs.declared.refusal.FragmentsFault.{FragmentsFault}
use Rattle.command_refusals.specs.declared.refusal.FragmentsFault.TheVariants as fragments
use Rattle.command_refusals.specs.declared.refusal.Refusal.{Refusal}
use Rattle.command_refusals.specs.declared.refusal.Refusal.TheVariants.{Memory, Absent, FileFailed, BadIdl, NoOperation, ReadFault, BadOctets, BadText, BadValue}
use Rattle.command_refusals.specs.declared.refusal.Refusal.TheVariants.{TooLong, BadRequest, BadLabel, ShortLabel, TooFewEnds, EndFailed}
use Rattle.command_refusals.specs.declared.refusal.Refusal.TheVariants.{BadPdu, NotCompatible, BadScript, LongScript}
use Rattle.dceidl.specs.Rows.{IsRefusedAt, IsRefusedCall, IsTrailedCall, IsCallOfNone}
use Rattle.command_streams.specs.Input.{AreGiven}
use Rattle.command_streams.proofs.OneInput.{split_input}
use Rattle.dceidl.proofs.OneReading.{IsOctetsCause, read_causes, decoded_cause, refused_value, refused_cause}
use Rattle.nd_grammar.proofs.LegalSides.{interface_side as legal_side_of}

-- ## Two interfaces of one meaning

module _ (i j : Interface) (types : j.types ≡ i.types) (operations : j.operations ≡ i.operations) (s : SourceOver) (number : Option ℕ) where
  setting_over : (o : Operation) (side : Side) → ◌≡◌ {A = Setting} (setting_of j o side) (setting_of i o side)
  setting_over o side = λ k. record { table = types k; op = o; side = side; given = None }

  call_over : (octets : List ℕ) (order : Order) (call : ℕ) (o : Operation) (stub : List ℕ) → IsCall j number octets order call o stub
      → IsCall i number octets order call o stub
  call_over octets order call o stub h = record {
    stated = h.stated;
    fragments = h.fragments;
    n = h.n;
    number_is = h.number_is;
    known = ap (λ (os : List Operation). slice_get os h.n) (sym operations) ∙ h.known;
  }

  pub cause_over : (r : Refusal) → IsCallCause s j number r → IsCallCause s i number r
  cause_over Memory h = tt
  cause_over ReadFault h = h
  cause_over (BadPdu place (fragments.Refused why)) h = h
  cause_over (BadPdu place fragments.Trailing) h = h
  cause_over (BadPdu place (fragments.NoOperation n)) h = record {
    octets = h.octets;
    whole = h.whole;
    order = h.order;
    call = h.call;
    stub = h.stub;
    fragments = h.fragments;
    none = ap (λ (os : List Operation). slice_get os n) (sym operations) ∙ h.none;
    place_is = h.place_is;
  }
  cause_over (BadOctets place why) h = record {
    octets = h.octets;
    whole = h.whole;
    order = h.order;
    call = h.call;
    operation = h.operation;
    stub = h.stub;
    is_call = call_over h.octets h.order h.call h.operation h.stub h.is_call;
    cause = subst (λ w. IsStubCause h.stub w h.order (BadOctets place why)) (setting_over h.operation (called.side number)) h.cause;
  }
  cause_over (Absent file) h = absurd h
  cause_over (FileFailed file) h = absurd h
  cause_over (BadIdl file line column reason) h = absurd h
  cause_over NoOperation h = absurd h
  cause_over (BadText line column reason) h = absurd h
  cause_over (BadValue path reason) h = absurd h
  cause_over (TooLong many) h = absurd h
  cause_over (BadRequest fault) h = absurd h
  cause_over (BadLabel fault) h = absurd h
  cause_over ShortLabel h = absurd h
  cause_over (TooFewEnds wanted found) h = absurd h
  cause_over (EndFailed which) h = absurd h
  cause_over (NotCompatible differing) h = absurd h
  cause_over (BadScript row) h = absurd h
  cause_over LongScript h = absurd h

  pub called_over : (made : List ℕ) → IsCalled s j number made → IsCalled s i number made
  called_over made h = record {
    octets = h.octets;
    whole = h.whole;
    order = h.order;
    call = h.call;
    operation = h.operation;
    stub = h.stub;
    is_call = call_over h.octets h.order h.call h.operation h.stub h.is_call;
    text = h.text;
    decoding = subst (λ w. IsDecoding w h.order h.stub h.text) (setting_over h.operation (called.side number)) h.decoding;
    made_is = h.made_is;
  }

-- ## One verdict of octets

module _ (i : Interface) (number : Option ℕ) (octets : List ℕ) where
  abbrev want : Wanted
  want = called.wanted number

  at_end : octets ≡ octets ++ []
  at_end = sym (append-nil octets)

  -- octets that begin with the fragments of a call are not refused
  begun : (first more : List ℕ) (order : Order) (call : ℕ) (opnum : Option ℕ) (stub : List ℕ) → octets ≡ first ++ more → Fragments first want order call opnum stub
      → (place : ℕ) (why : PduReason) → pdu.BadPdu want octets place why → ⊥
  begun first more order call opnum stub e f place why bad =
      never_both want first more order call opnum stub place why f (subst (λ (l : List ℕ). pdu.BadPdu want l place why) e bad)

  -- the whole is not followed by an octet
  no_more : (first : List ℕ) (next : ℕ) (rest : List ℕ) → octets ≡ first ++ next ∷ rest → octets ≡ first → ⊥
  no_more first next rest e f =
      let many : length octets ≡ length first + suc (length rest) = ap length e ∙ length-append first (next ∷ rest) in
      let same : length octets ≡ length first = ap length f in
      omega (arith, many, same)

  -- the number that a call states is that of its operation
  same_stated : (of stated : Option ℕ) (n m : ℕ) → called.number of stated ≡ Some n → stated ≡ Some m → HasNumber (called.wanted of) stated → n ≡ m
  same_stated None stated n m e f h = same_Some _ _ (sym e ∙ f)
  same_stated (Some k) stated n m e f h = let never : Some m ≡ None = sym f ∙ h in cc

  of_none : (order : Order) (call : ℕ) (o : Operation) (stub : List ℕ) → IsCall i number octets order call o stub → (n : ℕ) → slice_get i.operations n ≡ None
      → (order' : Order) (call' : ℕ) (stub' : List ℕ) → Fragments octets want order' call' (Some n) stub' → ⊥
  of_none order call o stub c n none order' call' stub' f =
      let same = one_call want octets octets [] [] order order' call call' c.stated (Some n) stub stub' refl c.fragments f in
      let number_same : c.n ≡ n =
      same_stated number c.stated c.n n c.number_is same.opnum_same (call_number want octets order call c.stated stub c.fragments) in
      let there : slice_get i.operations n ≡ Some o = ap (slice_get i.operations) (sym number_same) ∙ c.known in
      let never : None ≡ Some o = sym none ∙ there in
      cc

  -- what is a call is not refused
  pub call_or_refused : (order : Order) (call : ℕ) (o : Operation) (stub : List ℕ) → IsCall i number octets order call o stub
      → (place : ℕ) (why : FragmentsFault) → IsRefusedCall i number octets place why → ⊥
  call_or_refused order call o stub c place (fragments.Refused why) bad = begun octets [] order call c.stated stub at_end c.fragments place why bad
  call_or_refused order call o stub c place fragments.Trailing t =
      let same = one_call want octets t.first [] (t.next ∷ t.rest) order t.order call t.call c.stated t.stated stub t.stub (sym at_end ∙ t.split) c.fragments t.fragments in
      no_more t.first t.next t.rest t.split same.octets_same
  call_or_refused order call o stub c place (fragments.NoOperation n) u = of_none order call o stub c n u.none u.order u.call u.stub u.fragments

  -- it is refused in one way
  pub one_refused : (p q : ℕ) (w v : FragmentsFault) → IsRefusedCall i number octets p w → IsRefusedCall i number octets q v → BadPdu q v ≡ BadPdu p w
  one_refused p q (fragments.Refused w) (fragments.Refused v) a b =
      let same = one_refusal want octets q p v w b a in ap₂ (λ (x : ℕ) (y : PduReason). BadPdu x (fragments.Refused y)) same.0 same.1
  one_refused p q (fragments.Refused w) fragments.Trailing a t =
      absurd (begun t.first (t.next ∷ t.rest) t.order t.call t.stated t.stub t.split t.fragments p w a)
  one_refused p q (fragments.Refused w) (fragments.NoOperation n) a u = absurd (begun octets [] u.order u.call (Some n) u.stub at_end u.fragments p w a)
  one_refused p q fragments.Trailing (fragments.Refused v) t b =
      absurd (begun t.first (t.next ∷ t.rest) t.order t.call t.stated t.stub t.split t.fragments q v b)
  one_refused p q fragments.Trailing fragments.Trailing t u =
      let same = one_call want u.first t.first (u.next ∷ u.rest) (t.next ∷ t.rest) u.order t.order u.call t.call u.stated t.stated u.stub t.stub (sym u.split ∙ t.split)
      u.fragments t.fragments in
      ap (λ (x : ℕ). BadPdu x fragments.Trailing) (u.place_is ∙ ap length same.octets_same ∙ sym t.place_is)
  one_refused p q fragments.Trailing (fragments.NoOperation n) t u =
      let same = one_call want octets t.first [] (t.next ∷ t.rest) u.order t.order u.call t.call (Some n) t.stated u.stub t.stub (sym at_end ∙ t.split) u.fragments
      t.fragments in
      absurd (no_more t.first t.next t.rest t.split same.octets_same)
  one_refused p q (fragments.NoOperation n) (fragments.Refused v) u b = absurd (begun octets [] u.order u.call (Some n) u.stub at_end u.fragments q v b)
  one_refused p q (fragments.NoOperation n) fragments.Trailing u t =
      let same = one_call want octets t.first [] (t.next ∷ t.rest) u.order t.order u.call t.call (Some n) t.stated u.stub t.stub (sym at_end ∙ t.split) u.fragments
      t.fragments in
      absurd (no_more t.first t.next t.rest t.split same.octets_same)
  one_refused p q (fragments.NoOperation n) (fragments.NoOperation m) u x =
      let same = one_call want octets octets [] [] x.order u.order x.call u.call (Some m) (Some n) x.stub u.stub refl x.fragments u.fragments in
      ap₂ (λ (a b : ℕ). BadPdu a (fragments.NoOperation b)) (x.place_is ∙ sym u.place_is) (same_Some _ _ same.opnum_same)

  -- it is one call
  record IsSame (order order' : Order) (o o' : Operation) (stub stub' : List ℕ) : Type 0 where
    pub order_same : order' ≡ order
    pub operation_same : o' ≡ o
    pub stub_same : stub' ≡ stub

  same_call : (order order' : Order) (call call' : ℕ) (o o' : Operation) (stub stub' : List ℕ) → IsCall i number octets order call o stub
      → IsCall i number octets order' call' o' stub' → IsSame order order' o o' stub stub'
  same_call order order' call call' o o' stub stub' c d =
      let same = one_call want octets octets [] [] order' order call' call d.stated c.stated stub' stub refl d.fragments c.fragments in
      let number_same : d.n ≡ c.n = same_Some _ _ (sym d.number_is ∙ ap (called.number number) same.opnum_same ∙ c.number_is) in
      record {
        order_same = same.order_same;
        operation_same = same_Some _ _ (sym d.known ∙ ap (slice_get i.operations) number_same ∙ c.known);
        stub_same = same.stub_same;
      }

-- ## The input

module _ (s : SourceOver) (octets : List ℕ) (given : AreGiven s octets) (i : Interface) (number : Option ℕ) where
  -- all octets that were read are those of the input
  pub own_is : (own : List ℕ) → IsWhole s own → own ≡ octets
  own_is own whole =
      let (rest, now, all) = split_input s octets own given whole.taken in
      let none : rest ≡ [] = subst IsAtEnd now whole.none_left in
      sym (all ∙ ap (λ u. own ++ u) none ∙ append-nil own)

  trailed_here : (place : ℕ) → IsTrailed s (called.wanted number) place → IsTrailedCall (called.wanted number) octets place
  trailed_here place t =
      let (rest, now, all) = split_input s octets (t.octets ++ t.next ∷ []) given t.taken in record {
        first = t.octets;
        next = t.next;
        rest = rest;
        split = all ∙ append_assoc t.octets (t.next ∷ []) rest;
        order = t.order;
        call = t.call;
        stated = t.stated;
        stub = t.stub;
        fragments = t.fragments;
        place_is = t.place_is;
      }

  none_here : (place n : ℕ) → IsOfNoOperation s i (called.wanted number) place n → IsCallOfNone i (called.wanted number) octets place n
  none_here place n u = record {
    order = u.order;
    call = u.call;
    stub = u.stub;
    fragments = subst (λ (l : List ℕ). Fragments l (called.wanted number) u.order u.call (Some n) u.stub) (own_is u.octets u.whole) u.fragments;
    none = u.none;
    place_is = u.place_is;
  }

  call_here : (own : List ℕ) (order : Order) (call : ℕ) (o : Operation) (stub : List ℕ) → IsWhole s own → IsCall i number own order call o stub
      → IsCall i number octets order call o stub
  call_here own order call o stub whole c = subst (λ (l : List ℕ). IsCall i number l order call o stub) (own_is own whole) c

  -- a call whose stub data are refused
  record HasStubFault (place : ℕ) (why : OctetsFault) : Type 0 where
    pub order : Order
    pub call : ℕ
    pub operation : Operation
    pub stub : List ℕ
    pub is_call : IsCall i number octets order call operation stub
    pub cause : IsStubCause stub (setting_of i operation (called.side number)) order (BadOctets place why)

  -- the causes, of the octets of the input
  causes_here : (P : Refusal → Type 0) → P Memory → ((place : ℕ) (why : FragmentsFault) → IsRefusedCall i number octets place why → P (BadPdu place why))
      → ((place : ℕ) (why : OctetsFault) → HasStubFault place why → P (BadOctets place why)) → (r : Refusal) → IsCallCause s i number r → P r
  causes_here P wanting refused stub Memory h = wanting
  causes_here P wanting refused stub ReadFault h = absurd (given.reads h.failed)
  causes_here P wanting refused stub (BadPdu place (fragments.Refused why)) h =
      refused place (fragments.Refused why) (known_bad (called.wanted number) s place why h octets given.left)
  causes_here P wanting refused stub (BadPdu place fragments.Trailing) h = refused place fragments.Trailing (trailed_here place h)
  causes_here P wanting refused stub (BadPdu place (fragments.NoOperation n)) h = refused place (fragments.NoOperation n) (none_here place n h)
  causes_here P wanting refused stub (BadOctets place why) h =
      stub place why
      (record {
        order = h.order;
        call = h.call;
        operation = h.operation;
        stub = h.stub;
        is_call = call_here h.octets h.order h.call h.operation h.stub h.whole h.is_call;
        cause = h.cause;
      })
  causes_here P wanting refused stub (Absent file) h = absurd h
  causes_here P wanting refused stub (FileFailed file) h = absurd h
  causes_here P wanting refused stub (BadIdl file line column reason) h = absurd h
  causes_here P wanting refused stub NoOperation h = absurd h
  causes_here P wanting refused stub (BadText line column reason) h = absurd h
  causes_here P wanting refused stub (BadValue path reason) h = absurd h
  causes_here P wanting refused stub (TooLong many) h = absurd h
  causes_here P wanting refused stub (BadRequest fault) h = absurd h
  causes_here P wanting refused stub (BadLabel fault) h = absurd h
  causes_here P wanting refused stub ShortLabel h = absurd h
  causes_here P wanting refused stub (TooFewEnds wanted found) h = absurd h
  causes_here P wanting refused stub (EndFailed which) h = absurd h
  causes_here P wanting refused stub (NotCompatible differing) h = absurd h
  causes_here P wanting refused stub (BadScript row) h = absurd h
  causes_here P wanting refused stub LongScript h = absurd h

  -- fragments that are refused are refused in one way
  pub refused_calls : (place : ℕ) (why : FragmentsFault) → IsRefusedCall i number octets place why → (r : Refusal) → IsCallCause s i number r
      → (r ≡ Memory) ⊎ (r ≡ BadPdu place why)
  refused_calls place why bad =
      causes_here (λ r. (r ≡ Memory) ⊎ (r ≡ BadPdu place why)) (inl refl) (λ p w b. inr (one_refused i number octets place p why w bad b))
      (λ p w h. absurd (call_or_refused i number octets h.order h.call h.operation h.stub h.is_call place why bad))

  pub refused_unmade : (place : ℕ) (why : FragmentsFault) → IsRefusedCall i number octets place why → (made : List ℕ) → IsCalled s i number made → ⊥
  refused_unmade place why bad made h =
      call_or_refused i number octets h.order h.call h.operation h.stub (call_here h.octets h.order h.call h.operation h.stub h.whole h.is_call) place why bad

  module _ (order : Order) (call : ℕ) (o : Operation) (stub : List ℕ) (c : IsCall i number octets order call o stub) where
    abbrev w : Setting
    w = setting_of i o (called.side number)

    legal : IsLegalSide w
    legal = legal_side_of i c.n o (called.side number) c.known

    -- its stub data are refused as they must be
    stub_here : (place : ℕ) (why : OctetsFault) → HasStubFault place why → IsRefusedAt w order stub place why
    stub_here place why h =
        let same = same_call i number octets order h.order call h.call o h.operation stub h.stub c h.is_call in
        let own : IsStubCause stub w order (BadOctets place why) =
        subst (λ (l : List ℕ). IsStubCause l w order (BadOctets place why)) same.stub_same
        (subst (λ (q : Operation). IsStubCause h.stub (setting_of i q (called.side number)) order (BadOctets place why)) same.operation_same
        (subst (λ (k : Order). IsStubCause h.stub (setting_of i h.operation (called.side number)) k (BadOctets place why)) same.order_same h.cause)) in
        let (p, source, cause) = own in
        read_causes p w order stub (record { left = source.left; reads = source.reads }) (λ r. IsOctetsCause w order stub r) tt (λ r q. q) (BadOctets place why) cause

    -- where they represent a graph that conforms, nothing is refused
    pub good_call : (g : Graph) → Represents w order stub g → Conforms w g → (r : Refusal) → IsCallCause s i number r → r ≡ Memory
    good_call g represents conforms =
        causes_here (λ r. r ≡ Memory) refl (λ p v b. absurd (call_or_refused i number octets order call o stub c p v b))
        (λ p v h. decoded_cause w legal order stub g represents conforms (BadOctets p v) (stub_here p v h))

    -- where they are refused, that is the answer
    pub bad_stub : (place : ℕ) (why : OctetsFault) → IsRefusedAt w order stub place why → (r : Refusal) → IsCallCause s i number r
        → (r ≡ Memory) ⊎ (r ≡ BadOctets place why)
    bad_stub place why bad =
        causes_here (λ r. (r ≡ Memory) ⊎ (r ≡ BadOctets place why)) (inl refl) (λ p v b. absurd (call_or_refused i number octets order call o stub c p v b))
        (λ p v h. refused_cause w legal order stub place why bad (BadOctets p v) (stub_here p v h))

    pub bad_unmade : (place : ℕ) (why : OctetsFault) → IsRefusedAt w order stub place why → (made : List ℕ) → IsCalled s i number made → ⊥
    bad_unmade place why bad made h =
        let d = call_here h.octets h.order h.call h.operation h.stub h.whole h.is_call in
        let same = same_call i number octets order h.order call h.call o h.operation stub h.stub c d in
        let own : IsDecoding w order stub h.text =
        subst (λ (l : List ℕ). IsDecoding w order l h.text) same.stub_same
        (subst (λ (q : Operation). IsDecoding (setting_of i q (called.side number)) order h.stub h.text) same.operation_same
        (subst (λ (k : Order). IsDecoding (setting_of i h.operation (called.side number)) k h.stub h.text) same.order_same h.decoding)) in
        refused_value w legal order stub place why bad own.graph own.represents own.conforms
