-- Which outcome a command has where no load fails and notes do not.
use Rattle.std.proofs.Common.{◌≡◌, ℕ, ◌<◌, true, false, List, length, Option, Some, None, refl, sym, ◌∙◌, ap, subst, inl, inr, ◌⊎◌}
use Rattle.idl_grammar.specs.Files.{Idl}
use Rattle.nd_base.specs.declared.octets.Order.{Order}
use Rattle.nd_base.specs.Over.{FilesOver, SourceOver, SinkOver, HasRisen, Got}
use Rattle.nd_value.specs.Setting.{Setting}
use Rattle.nd_grammar.specs.LegalSide.{IsLegalSide}
use Rattle.text_grammar.specs.declared.TheConstants.{TEXT_LIMIT}
use Rattle.ndr_pipe.specs.Ends.{EndsSeen}
use Rattle.command_line.specs.declared.command.Reading.{Reading}
use Rattle.command_line.specs.declared.command.Reading.TheVariants.{Decode, Explain, Trace, Drain}
use Rattle.command_line.specs.declared.command.OrderWord.{OrderWord}
use Rattle.command_line.specs.declared.command.OrderWord.TheVariants.{Fixed, Label}
use Rattle.command_line.specs.declared.command.Task.{Task}
use Rattle.command_line.specs.declared.command.Task.TheVariants.{Read, Encode, Migrate}
use Rattle.command_refusals.specs.declared.refusal.OctetsFault.{OctetsFault}
use Rattle.command_refusals.specs.declared.refusal.Refusal.{Refusal}
use Rattle.command_refusals.specs.declared.refusal.Refusal.TheVariants.{Memory, Absent, FileFailed, BadIdl, NoOperation, ReadFault, BadOctets, BadText, BadValue, TooLong, BadRequest, BadLabel}
use Rattle.command_refusals.specs.declared.refusal.Refusal.TheVariants.{ShortLabel, TooFewEnds, EndFailed}
use Rattle.command_refusals.specs.declared.refusal.Refusal.TheVariants.{BadPdu, NotCompatible, BadScript, LongScript}
use Rattle.command_refusals.specs.declared.refusal.OctetsFault.TheVariants.{Refused, Trailing}
use Rattle.command_refusals.specs.declared.refusal.RequestFault.{RequestFault}
use Rattle.command_refusals.specs.Lines.{status_of, line_of}
use Rattle.nd_grammar.specs.Stream.{Represents}
use Rattle.ndr_drain.specs.Drained.{pipe_count}
use Rattle.command_drain.specs.Printed as draining
use Rattle.command_drain.specs.Printed.{IsDrainRefusal}
use Rattle.command_decode.specs.Decoded.{IsExplained, IsInputCause, IsPrinted, IsTraceCause, IsTracedWhole}
use Rattle.command_encode.specs.Encoded.{IsTextCause}
use Rattle.command_encode.proofs.OneText.{good_cause, fault_cause, misfit_cause}
use Rattle.dceidl.specs.Causes.{IsMade, IsCause, IsWrittenBeside, IsUnexplained}
use Rattle.command_why.specs.declared.lookup.Explained.TheVariants.{Found, Nearest}
use Rattle.dceidl.proofs.Compats.{compat_done, compat_settled}
use Rattle.dceidl.specs.Input.{IsLabelledEncoding, IsLongEncoding, IsEncodingCause, IsMigration, OfText, IsMadeOf, IsTaskCause, IsInputTextCause, IsInputEncodingCause, HasCalled, IsNoCall, IsWrapped}
use Rattle.dceidl.specs.Input.{IsNoWrap, wrap_task}
use Rattle.dceidl.specs.Rows.{IsSound, AreAccepted, AreGivenIn, IsRefusedAt, HasEnds, CanBeMade, MustBeUnready, MustBeNoRequest, MustBeNoLabel, MustBeNoOctets, MustBeNoText}
use Rattle.command_streams.specs.Input.{IsInput, AreGiven}
use Rattle.dceidl.specs.Rows.{MustBeNoEncoding, MustBeNoInput, CanBeDone, MustBeRefused, Refuses}
use Rattle.command_streams.specs.Delivery.{IsCompleted}
use Rattle.dceidl.specs.Asked.{Seen}
use Rattle.command_line.specs.Words.{Command, Subject, Values, Compile, Plan, Call, Wrap, Compat, Why, Sample, Help, Version}
use Rattle.command_line.specs.Words.{idl_of, op_of, order_in}
use Rattle.nd_types.specs.Meant.{Meant, meant_by}
use Rattle.nd_types.specs.declared.interface.Interface.{Interface}
use Rattle.nd_types.specs.declared.types.Side.TheVariants.{Out}
use Rattle.nd_value.specs.Fitting.{setting_of}
use Rattle.command_call.specs.Called.{IsCalled, IsCallCause}
use Rattle.dceidl.specs.Ready.{IsReady, IsNumbered, IsCallReady, IsCallUnready}
use Rattle.dceidl.specs.Rows.{IsAccepted, IsCallAccepted, MustBeNoCall, MustBeNoFragments}
use Rattle.dceidl.specs.Input.{wrap_chunk}
use Rattle.dceidl.proofs.Calls.{cause_over, called_over, refused_calls, refused_unmade, good_call, bad_stub, bad_unmade}
use Rattle.dceidl.proofs.HeldFiles.{compiled_cause, no_idl, no_idl_cause, same_number, one_meaning, means_here, one_setting}
use Rattle.dceidl.proofs.HeldFiles.{accepted_cause, unready, unready_cause}
use Rattle.command_streams.proofs.OneInput.{same_octets}
use Rattle.dceidl.proofs.Labels.{given_after, one_order, never_unopened, bad_opened, bad_cause, short_opened, short_cause}
use Rattle.dceidl.proofs.HeldRequests.{legal_all, all_one, all_cause, all_unready, all_unready_cause, no_request, no_request_cause}
use Rattle.dceidl.proofs.OneReading.{IsOctetsCause, read_causes, whole_here, decoded_cause, refused_value, refused_cause}
use Rattle.dceidl.proofs.Tracings.{trace_causes}
use Rattle.dceidl.proofs.Beside.{beside_cause, beside_one, beside_tells}
use Rattle.dceidl.proofs.Drains.{drain_causes, few_made, few_cause}
use Rattle.dceidl.proofs.OneWriting.{IsGood, migrated_good, fault_good, misfit_good, encodes_cause, text_cause, long_cause, labelled_good, long_labelled}
use Rattle.dceidl.proofs.Rows.{Ended, ended_done, ended_refused, ended_unknown, ended_untold, ended_told, ended_cut, ended_wanting, ended_unwritten, ended_unreported}

-- ## The input, by what its octets come to

-- all octets that are read of the input to its end or past a limit are those that count
of_text : (s : SourceOver) (text : List ℕ) → IsInput s TEXT_LIMIT text → (P : List ℕ → Type 0) → OfText s P → P text
of_text s text input P (others, read, h) = subst P (same_octets s TEXT_LIMIT text others input read) h

text_causes : (s : SourceOver) (w : Setting) (text : List ℕ) → IsInput s TEXT_LIMIT text → (P : Refusal → Type 0) → P Memory
    → ((r : Refusal) → IsTextCause w text r → P r) → (r : Refusal) → IsInputTextCause s w r → P r
text_causes s w text input P wanting by Memory cause = wanting
text_causes s w text input P wanting by ReadFault rose = absurd (input.reads rose)
text_causes s w text input P wanting by (Absent other) cause = by (Absent other) (of_text s text input (λ l. IsTextCause w l (Absent other)) cause)
text_causes s w text input P wanting by (FileFailed other) cause = by (FileFailed other) (of_text s text input (λ l. IsTextCause w l (FileFailed other)) cause)
text_causes s w text input P wanting by (BadIdl file line column reason) cause =
    by (BadIdl file line column reason) (of_text s text input (λ l. IsTextCause w l (BadIdl file line column reason)) cause)
text_causes s w text input P wanting by NoOperation cause = by NoOperation (of_text s text input (λ l. IsTextCause w l NoOperation) cause)
text_causes s w text input P wanting by (BadOctets place why) cause = by (BadOctets place why) (of_text s text input (λ l. IsTextCause w l (BadOctets place why)) cause)
text_causes s w text input P wanting by (BadText line column reason) cause = by (BadText line column reason) (of_text s text input (λ l. IsTextCause w l (BadText line column reason)) cause)
text_causes s w text input P wanting by (BadValue path reason) cause = by (BadValue path reason) (of_text s text input (λ l. IsTextCause w l (BadValue path reason)) cause)
text_causes s w text input P wanting by (TooLong many) cause = by (TooLong many) (of_text s text input (λ l. IsTextCause w l (TooLong many)) cause)
text_causes s w text input P wanting by (BadRequest fault) cause = by (BadRequest fault) (of_text s text input (λ l. IsTextCause w l (BadRequest fault)) cause)
text_causes s w text input P wanting by (BadLabel fault) cause = by (BadLabel fault) (of_text s text input (λ l. IsTextCause w l (BadLabel fault)) cause)
text_causes s w text input P wanting by ShortLabel cause = by ShortLabel (of_text s text input (λ l. IsTextCause w l ShortLabel) cause)
text_causes s w text input P wanting by (TooFewEnds wanted found) cause = by (TooFewEnds wanted found) (of_text s text input (λ l. IsTextCause w l (TooFewEnds wanted found)) cause)
text_causes s w text input P wanting by (EndFailed which) cause = by (EndFailed which) (of_text s text input (λ l. IsTextCause w l (EndFailed which)) cause)
text_causes s w text input P wanting by (BadPdu spot because) cause = by (BadPdu spot because) (of_text s text input (λ l. IsTextCause w l (BadPdu spot because)) cause)
text_causes s w text input P wanting by (NotCompatible differing) cause = by (NotCompatible differing) (of_text s text input (λ l. IsTextCause w l (NotCompatible differing)) cause)
text_causes s w text input P wanting by (BadScript row) cause = by (BadScript row) (of_text s text input (λ l. IsTextCause w l (BadScript row)) cause)
text_causes s w text input P wanting by LongScript cause = by LongScript (of_text s text input (λ l. IsTextCause w l LongScript) cause)

-- the same of a text that is encoded
encoding_causes : (s : SourceOver) (w : Setting) (chunk : ℕ) (text : List ℕ) → IsInput s TEXT_LIMIT text → (P : Refusal → Type 0) → P Memory
    → ((r : Refusal) → IsEncodingCause w chunk text r → P r) → (r : Refusal) → IsInputEncodingCause s w chunk r → P r
encoding_causes s w chunk text input P wanting by (TooLong many) cause = by (TooLong many) (of_text s text input (λ l. IsLongEncoding w chunk l many) cause)
encoding_causes s w chunk text input P wanting by Memory cause = wanting
encoding_causes s w chunk text input P wanting by ReadFault rose = absurd (input.reads rose)
encoding_causes s w chunk text input P wanting by (Absent other) cause = by (Absent other) (of_text s text input (λ l. IsTextCause w l (Absent other)) cause)
encoding_causes s w chunk text input P wanting by (FileFailed other) cause = by (FileFailed other) (of_text s text input (λ l. IsTextCause w l (FileFailed other)) cause)
encoding_causes s w chunk text input P wanting by (BadIdl file line column reason) cause =
    by (BadIdl file line column reason) (of_text s text input (λ l. IsTextCause w l (BadIdl file line column reason)) cause)
encoding_causes s w chunk text input P wanting by NoOperation cause = by NoOperation (of_text s text input (λ l. IsTextCause w l NoOperation) cause)
encoding_causes s w chunk text input P wanting by (BadOctets place why) cause = by (BadOctets place why) (of_text s text input (λ l. IsTextCause w l (BadOctets place why)) cause)
encoding_causes s w chunk text input P wanting by (BadText line column reason) cause = by (BadText line column reason) (of_text s text input (λ l. IsTextCause w l (BadText line column reason)) cause)
encoding_causes s w chunk text input P wanting by (BadValue path reason) cause = by (BadValue path reason) (of_text s text input (λ l. IsTextCause w l (BadValue path reason)) cause)
encoding_causes s w chunk text input P wanting by (BadRequest fault) cause = by (BadRequest fault) (of_text s text input (λ l. IsTextCause w l (BadRequest fault)) cause)
encoding_causes s w chunk text input P wanting by (BadLabel fault) cause = by (BadLabel fault) (of_text s text input (λ l. IsTextCause w l (BadLabel fault)) cause)
encoding_causes s w chunk text input P wanting by ShortLabel cause = by ShortLabel (of_text s text input (λ l. IsTextCause w l ShortLabel) cause)
encoding_causes s w chunk text input P wanting by (TooFewEnds wanted found) cause = by (TooFewEnds wanted found) (of_text s text input (λ l. IsTextCause w l (TooFewEnds wanted found)) cause)
encoding_causes s w chunk text input P wanting by (EndFailed which) cause = by (EndFailed which) (of_text s text input (λ l. IsTextCause w l (EndFailed which)) cause)
encoding_causes s w chunk text input P wanting by (BadPdu spot because) cause = by (BadPdu spot because) (of_text s text input (λ l. IsTextCause w l (BadPdu spot because)) cause)
encoding_causes s w chunk text input P wanting by (NotCompatible differing) cause = by (NotCompatible differing) (of_text s text input (λ l. IsTextCause w l (NotCompatible differing)) cause)
encoding_causes s w chunk text input P wanting by (BadScript row) cause = by (BadScript row) (of_text s text input (λ l. IsTextCause w l (BadScript row)) cause)
encoding_causes s w chunk text input P wanting by LongScript cause = by LongScript (of_text s text input (λ l. IsTextCause w l LongScript) cause)

-- ## The input, by what is done

module _ (s : SourceOver) (e : EndsSeen) (w : Setting) (legal : IsLegalSide w) where
  -- an input of which something can be made is not refused
  made_cause : (task : Task) → CanBeMade s e task w → (r : Refusal) → IsTaskCause s e task w r → r ≡ Memory
  made_cause (Read how word) (order, octets, g, given, represents, conforms, ends) r (inl (cause, kept)) = absurd (never_unopened s order octets word given r cause)
  made_cause (Read Decode word) (order, octets, g, given, represents, conforms, ends) r (inr (rest, other, opened, cause)) =
      read_causes rest w order octets (given_after s order octets word given rest other opened) (λ p. p ≡ Memory) refl
      (decoded_cause w legal order octets g represents conforms) r (subst (λ o. IsInputCause rest w o r) (one_order s order octets word given rest other opened) cause)
  made_cause (Read Explain word) (order, octets, g, given, represents, conforms, ends) r (inr (rest, other, opened, cause)) =
      read_causes rest w order octets (given_after s order octets word given rest other opened) (λ p. p ≡ Memory) refl
      (decoded_cause w legal order octets g represents conforms) r (subst (λ o. IsInputCause rest w o r) (one_order s order octets word given rest other opened) cause)
  made_cause (Read Trace word) (order, octets, g, given, represents, conforms, ends) r (inr (rest, other, opened, cause)) =
      trace_causes rest octets (given_after s order octets word given rest other opened) w order (λ p. p ≡ Memory) refl
      (decoded_cause w legal order octets g represents conforms) r (subst (λ o. IsTraceCause rest w o r) (one_order s order octets word given rest other opened) cause)
  made_cause (Read Drain word) (order, octets, g, given, represents, conforms, ends) r (inr (rest, other, opened, cause)) =
      drain_causes rest e w order octets (given_after s order octets word given rest other opened) ends (λ p. p ≡ Memory) refl
      (decoded_cause w legal order octets g represents conforms) r (subst (λ o. IsDrainRefusal rest e w o r) (one_order s order octets word given rest other opened) cause)
  made_cause (Encode order chunk) (text, g, octets, input, reads, conforms, is) r cause =
      encoding_causes s w chunk text input (λ p. p ≡ Memory) refl (encodes_cause w legal text chunk g (order_in order) octets reads conforms is) r cause
  made_cause Migrate (text, g, input, reads, conforms) r cause =
      text_causes s w text input (λ p. p ≡ Memory) refl (good_cause w legal text g reads conforms) r cause

  -- nothing is made of an input that must be refused, and it is refused in one way
  abbrev Refuted : Task → Refusal → Type 0
  Refuted task r = ((made : List ℕ) → IsMadeOf s e task w made → ⊥) × ((q : Refusal) → IsTaskCause s e task w q → (q ≡ Memory) ⊎ (q ≡ r))

  abbrev Only : Refusal → Refusal → Type 0
  Only r p = (p ≡ Memory) ⊎ (p ≡ r)

  -- a label that must be refused
  no_label : (how : Reading) (word : OrderWord) (r : Refusal) → MustBeNoLabel s word r → Refuted (Read how word) r
  no_label how (Fixed named) r must = absurd must
  no_label how Label (BadLabel why) (label, octets, given, four, bad) = (
    (λ made m. bad_opened s label octets given four why bad m.0 m.1 m.2),
    by,
  )
    where
      by : (q : Refusal) → IsTaskCause s e (Read how Label) w q → Only (BadLabel why) q
      by q (inl (cause, kept)) = inr (bad_cause s label octets given four why bad q cause)
      by q (inr (rest, order, opened, cause)) = absurd (bad_opened s label octets given four why bad rest order opened)
  no_label how Label ShortLabel (octets, given, few) = (
    (λ made m. short_opened s octets given few m.0 m.1 m.2),
    by,
  )
    where
      by : (q : Refusal) → IsTaskCause s e (Read how Label) w q → Only ShortLabel q
      by q (inl (cause, kept)) = inr (short_cause s octets given few q cause)
      by q (inr (rest, order, opened, cause)) = absurd (short_opened s octets given few rest order opened)
  no_label how Label Memory must = absurd must
  no_label how Label (Absent other) must = absurd must
  no_label how Label (FileFailed other) must = absurd must
  no_label how Label (BadIdl file line column reason) must = absurd must
  no_label how Label NoOperation must = absurd must
  no_label how Label ReadFault must = absurd must
  no_label how Label (BadOctets place why) must = absurd must
  no_label how Label (BadText line column why) must = absurd must
  no_label how Label (BadValue path why) must = absurd must
  no_label how Label (TooLong many) must = absurd must
  no_label how Label (BadRequest fault) must = absurd must
  no_label how Label (TooFewEnds wanted found) must = absurd must
  no_label how Label (EndFailed which) must = absurd must
  no_label how Label (BadPdu spot because) must = absurd must
  no_label how Label (NotCompatible differing) must = absurd must
  no_label how Label (BadScript row) must = absurd must
  no_label how Label LongScript must = absurd must

  -- octets that must be refused
  module _ (word : OrderWord) (place : ℕ) (why : OctetsFault) (order : Order) (octets : List ℕ) (given : AreGivenIn s word order octets)
      (refused : IsRefusedAt w order octets place why) where
    unmade : (how : Reading) (made : List ℕ) → IsMadeOf s e (Read how word) w made → ⊥
    unmade Decode made (rest, other, opened, m) =
        let p = subst (λ o. IsPrinted rest w o made) (one_order s order octets word given rest other opened) m in
        let input = given_after s order octets word given rest other opened in
        refused_value w legal order octets place why refused p.decoding.graph
        (whole_here rest octets input w order (λ os. Represents w order os p.decoding.graph) p.octets p.whole p.decoding.represents) p.decoding.conforms
    unmade Explain made (rest, other, opened, m) =
        let p = subst (λ o. IsExplained rest w o made) (one_order s order octets word given rest other opened) m in
        let input = given_after s order octets word given rest other opened in
        refused_value w legal order octets place why refused p.explanation.graph
        (whole_here rest octets input w order (λ os. Represents w order os p.explanation.graph) p.octets p.whole p.explanation.represents) p.explanation.conforms
    unmade Trace made (rest, other, opened, m) =
        let p = subst (λ o. IsTracedWhole rest w o made) (one_order s order octets word given rest other opened) m in
        let input = given_after s order octets word given rest other opened in
        refused_value w legal order octets place why refused p.trace.explanation.graph
        (whole_here rest octets input w order (λ os. Represents w order os p.trace.explanation.graph) p.octets p.whole p.trace.explanation.represents) p.trace.explanation.conforms
    unmade Drain made (rest, other, opened, m) =
        let p = subst (λ o. draining.IsPrinted rest e w o made) (one_order s order octets word given rest other opened) m in
        let input = given_after s order octets word given rest other opened in
        refused_value w legal order octets place why refused p.graph
        (whole_here rest octets input w order (λ os. Represents w order os p.graph) p.octets p.whole p.pipes.represents) p.pipes.conforms

    only_refused : (how : Reading) → HasEnds how w e → (q : Refusal) → IsTaskCause s e (Read how word) w q → Only (BadOctets place why) q
    only_refused how ends q (inl (cause, kept)) = absurd (never_unopened s order octets word given q cause)
    only_refused Decode ends q (inr (rest, other, opened, cause)) =
        read_causes rest w order octets (given_after s order octets word given rest other opened) (Only (BadOctets place why)) (inl refl)
        (refused_cause w legal order octets place why refused) q (subst (λ o. IsInputCause rest w o q) (one_order s order octets word given rest other opened) cause)
    only_refused Explain ends q (inr (rest, other, opened, cause)) =
        read_causes rest w order octets (given_after s order octets word given rest other opened) (Only (BadOctets place why)) (inl refl)
        (refused_cause w legal order octets place why refused) q (subst (λ o. IsInputCause rest w o q) (one_order s order octets word given rest other opened) cause)
    only_refused Trace ends q (inr (rest, other, opened, cause)) =
        trace_causes rest octets (given_after s order octets word given rest other opened) w order (Only (BadOctets place why)) (inl refl)
        (refused_cause w legal order octets place why refused) q (subst (λ o. IsTraceCause rest w o q) (one_order s order octets word given rest other opened) cause)
    only_refused Drain ends q (inr (rest, other, opened, cause)) =
        drain_causes rest e w order octets (given_after s order octets word given rest other opened) ends (Only (BadOctets place why)) (inl refl)
        (refused_cause w legal order octets place why refused) q (subst (λ o. IsDrainRefusal rest e w o q) (one_order s order octets word given rest other opened) cause)

  -- too few ends
  module _ (word : OrderWord) (wanted found : ℕ) (order : Order) (octets : List ℕ) (given : AreGivenIn s word order octets) (wanted_is : wanted ≡ pipe_count w)
      (found_is : found ≡ length e.before) (less : found < wanted) where
    too_few : Refuted (Read Drain word) (TooFewEnds wanted found)
    too_few = (unmade_few, only_few)
      where
        unmade_few : (made : List ℕ) → IsMadeOf s e (Read Drain word) w made → ⊥
        unmade_few made (rest, other, opened, m) = few_made rest e w other wanted found wanted_is found_is less made m

        only_few : (q : Refusal) → IsTaskCause s e (Read Drain word) w q → Only (TooFewEnds wanted found) q
        only_few q (inl (cause, kept)) = absurd (never_unopened s order octets word given q cause)
        only_few q (inr (rest, other, opened, cause)) = few_cause rest e w other wanted found wanted_is found_is less q cause

  no_octets : (how : Reading) (word : OrderWord) (r : Refusal) → MustBeNoOctets s e how word w r → Refuted (Read how word) r
  no_octets how word (BadOctets place why) (order, octets, given, ends, refused) =
      (unmade word place why order octets given refused how, only_refused word place why order octets given refused how ends)
  no_octets how word (BadLabel why) must = no_label how word (BadLabel why) must
  no_octets how word ShortLabel must = no_label how word ShortLabel must
  no_octets how word Memory must = absurd must
  no_octets how word (Absent other) must = absurd must
  no_octets how word (FileFailed other) must = absurd must
  no_octets how word (BadIdl file line column reason) must = absurd must
  no_octets how word NoOperation must = absurd must
  no_octets how word ReadFault must = absurd must
  no_octets how word (BadText line column why) must = absurd must
  no_octets how word (BadValue path why) must = absurd must
  no_octets how word (TooLong many) must = absurd must
  no_octets how word (BadRequest fault) must = absurd must
  no_octets Drain word (TooFewEnds wanted found) (order, octets, given, wanted_is, found_is, less) = too_few word wanted found order octets given wanted_is found_is less
  no_octets Decode word (TooFewEnds wanted found) must = absurd must
  no_octets Explain word (TooFewEnds wanted found) must = absurd must
  no_octets Trace word (TooFewEnds wanted found) must = absurd must
  no_octets how word (EndFailed which) must = absurd must
  no_octets how word (BadPdu spot because) must = absurd must
  no_octets how word (NotCompatible differing) must = absurd must
  no_octets how word (BadScript row) must = absurd must
  no_octets how word LongScript must = absurd must

  -- the text of an input that must be refused
  pub record IsBadText (r : Refusal) : Type 0 where
    pub text : List ℕ
    pub input : IsInput s TEXT_LIMIT text
    pub bad : IsGood w text → ⊥
    pub only : (q : Refusal) → IsTextCause w text q → (q ≡ Memory) ⊎ (q ≡ r)

  bad_text : (r : Refusal) → MustBeNoText s w r → IsBadText r
  bad_text (BadText line column why) (text, input, fault) = record {
    text = text;
    input = input;
    bad = fault_good w legal text line column why fault;
    only = fault_cause w legal text line column why fault;
  }
  bad_text (BadValue path why) (text, g, input, reads, misfit) = record {
    text = text;
    input = input;
    bad = misfit_good w legal text g path why reads misfit;
    only = misfit_cause w legal text g path why reads misfit;
  }
  bad_text Memory must = absurd must
  bad_text (Absent other) must = absurd must
  bad_text (FileFailed other) must = absurd must
  bad_text (BadIdl file line column reason) must = absurd must
  bad_text NoOperation must = absurd must
  bad_text ReadFault must = absurd must
  bad_text (BadOctets place why) must = absurd must
  bad_text (TooLong many) must = absurd must
  bad_text (BadRequest fault) must = absurd must
  bad_text (BadLabel fault) must = absurd must
  bad_text ShortLabel must = absurd must
  bad_text (TooFewEnds wanted found) must = absurd must
  bad_text (EndFailed which) must = absurd must
  bad_text (BadPdu spot because) must = absurd must
  bad_text (NotCompatible differing) must = absurd must
  bad_text (BadScript row) must = absurd must
  bad_text LongScript must = absurd must

  no_migration : (r : Refusal) → IsBadText r → Refuted Migrate r
  no_migration r b = (
    λ made m. b.bad (migrated_good w b.text made (of_text s b.text b.input (λ l. IsMigration w l made) m)),
    λ q cause. text_causes s w b.text b.input (Only r) (inl refl) b.only q cause,
  )

  no_encoding : (order : OrderWord) (chunk : ℕ) (r : Refusal) → IsBadText r → Refuted (Encode order chunk) r
  no_encoding order chunk r b = (
    λ made m. b.bad (labelled_good w order chunk b.text made (of_text s b.text b.input (λ l. IsLabelledEncoding w order chunk l made) m)),
    λ q cause. encoding_causes s w chunk b.text b.input (Only r) (inl refl) (text_cause w legal b.text chunk b.bad r b.only) q cause,
  )

  encoding_refuted : (order : OrderWord) (chunk : ℕ) (r : Refusal) → MustBeNoEncoding s w chunk r → Refuted (Encode order chunk) r
  encoding_refuted order chunk (TooLong many) (text, g, input, reads, conforms, long) = (
    λ made m. long_labelled w legal text chunk g reads conforms many long order made (of_text s text input (λ l. IsLabelledEncoding w order chunk l made) m),
    λ q cause. encoding_causes s w chunk text input (Only (TooLong many)) (inl refl) (long_cause w legal text chunk g reads conforms many long) q cause,
  )
  encoding_refuted order chunk Memory must = absurd must
  encoding_refuted order chunk (Absent other) must = absurd must
  encoding_refuted order chunk (FileFailed other) must = absurd must
  encoding_refuted order chunk (BadIdl file line column reason) must = absurd must
  encoding_refuted order chunk NoOperation must = absurd must
  encoding_refuted order chunk ReadFault must = absurd must
  encoding_refuted order chunk (BadOctets place why) must = absurd must
  encoding_refuted order chunk (BadText line column why) must = no_encoding order chunk (BadText line column why) (bad_text (BadText line column why) must)
  encoding_refuted order chunk (BadValue path why) must = no_encoding order chunk (BadValue path why) (bad_text (BadValue path why) must)
  encoding_refuted order chunk (BadRequest fault) must = absurd must
  encoding_refuted order chunk (BadLabel fault) must = absurd must
  encoding_refuted order chunk ShortLabel must = absurd must
  encoding_refuted order chunk (TooFewEnds wanted found) must = absurd must
  encoding_refuted order chunk (EndFailed which) must = absurd must
  encoding_refuted order chunk (BadPdu spot because) must = absurd must
  encoding_refuted order chunk (NotCompatible differing) must = absurd must
  encoding_refuted order chunk (BadScript row) must = absurd must
  encoding_refuted order chunk LongScript must = absurd must

  input_refuted : (task : Task) (r : Refusal) → MustBeNoInput s e task w r → Refuted task r
  input_refuted (Read how word) r must = no_octets how word r must
  input_refuted (Encode order chunk) r must = encoding_refuted order chunk r must
  input_refuted Migrate r must = no_migration r (bad_text r must)

module _ (x : Seen) (loads : HasRisen x.files.faults → ⊥) where
  module _ (task : Task) (of : Subject) (given : Option (List ℕ)) where
    -- the causes of a command on values, once what it speaks of is accepted
    of_values : (w : Setting) → AreAccepted x.files of given w → (P : Refusal → Type 0) → P Memory → ((r : Refusal) → IsTaskCause x.input x.ends task w r → P r)
        → (r : Refusal) → IsCause x (Values task of given) r → P r
    of_values w a P wanting by r (inl (cause, before, kept)) = subst P (sym (all_cause x.files of loads given w a r cause)) wanting
    of_values w a P wanting by r (inr (v, ready, cause)) = by r (subst (λ u. IsTaskCause x.input x.ends task u r) (all_one x.files of given w v a ready) cause)

    values_made : (w : Setting) → AreAccepted x.files of given w → (made : List ℕ) → IsMade x (Values task of given) made → IsMadeOf x.input x.ends task w made
    values_made w a made (v, ready, m) = subst (λ u. IsMadeOf x.input x.ends task u made) (all_one x.files of given w v a ready) m

    abbrev Settled_values : Refusal → Type 0
    Settled_values r = ((made : List ℕ) → IsMade x (Values task of given) made → ⊥) × ((q : Refusal) → IsCause x (Values task of given) q → (q ≡ Memory) ⊎ (q ≡ r))

    -- what a command on values speaks of is refused
    values_unready : (r : Refusal) → MustBeUnready x.files of r → Settled_values r
    values_unready r must = (λ made m. all_unready x.files of loads given r must m.0 m.1, by)
      where
        by : (q : Refusal) → IsCause x (Values task of given) q → (q ≡ Memory) ⊎ (q ≡ r)
        by q (inl (cause, before, kept)) = all_unready_cause x.files of loads given r must q cause
        by q (inr (w, ready, cause)) = absurd (all_unready x.files of loads given r must w ready)

    -- the request beside which it judges is refused
    values_no_request : (why : RequestFault) → MustBeNoRequest x.files of given why → Settled_values (BadRequest why)
    values_no_request why must = (λ made m. no_request x.files of loads given why must m.0 m.1, by)
      where
        by : (q : Refusal) → IsCause x (Values task of given) q → (q ≡ Memory) ⊎ (q ≡ BadRequest why)
        by q (inl (cause, before, kept)) = no_request_cause x.files of loads given why must q cause
        by q (inr (w, ready, cause)) = absurd (no_request x.files of loads given why must w ready)

    -- the input is refused
    values_no_input : (r : Refusal) (w : Setting) → AreAccepted x.files of given w → MustBeNoInput x.input x.ends task w r → Settled_values r
    values_no_input r w a must =
        let (unmade, only) = input_refuted x.input x.ends w (legal_all x.files of given w a) task r must in
        ((λ made m. unmade made (values_made w a made m)), of_values w a (λ q. (q ≡ Memory) ⊎ (q ≡ r)) (inl refl) only)

  -- ## Calls

  -- a response to the operation of a name
  abbrev response_to : Idl → Option (List ℕ) → List ℕ → Subject
  response_to idl acf name = record { idl = idl; acf = acf; op = name; side = Out }

  same_operation_number : (op : Option (List ℕ)) (i j : Interface) (n m : Option ℕ) → meant_by j ≡ meant_by i → IsNumbered j op m → IsNumbered i op n → m ≡ n
  same_operation_number None i j n m e x y = x ∙ sym y
  same_operation_number (Some name) i j n m e (k, o, named, is) (k', o', named', is') =
      is ∙ ap (λ (z : ℕ). Some z) (same_number j i name k k' o o' e named named') ∙ sym is'

  module _ (idl : Idl) (acf : Option (List ℕ)) where
    -- what it speaks of is not refused where it is accepted
    call_files : (op : Option (List ℕ)) (i : Interface) (number : Option ℕ) → IsCallAccepted x.files idl acf op i number → (r : Refusal)
        → IsCallUnready x.files idl acf op r → r ≡ Memory
    call_files None i number a r cause = compiled_cause x.files idl acf loads a.file i a.held a.means r cause
    call_files (Some name) i number a r cause =
        let (n, o, named, is) = a.numbered in
        accepted_cause x.files (response_to idl acf name) loads (setting_of i o Out)
        (record { file = a.file; interface = i; number = n; operation = o; held = a.held; means = a.means; named = named; setting_is = refl }) r cause

    -- where it is refused it is not ready
    call_unready : (op : Option (List ℕ)) (r : Refusal) → MustBeNoCall x.files idl acf op r → (i : Interface) (number : Option ℕ)
        → IsCallReady x.files idl acf op i number → ⊥
    call_unready None r must i number ready = no_idl x.files idl acf loads r must i ready.compiled
    call_unready (Some name) r must i number ready =
        let (n, o, named, is) = ready.numbered in
        unready x.files (response_to idl acf name) loads r must (setting_of i o Out)
        (record { interface = i; number = n; operation = o; found = record { compiled = ready.compiled; named = named }; setting_is = refl })

    call_unready_cause : (op : Option (List ℕ)) (r : Refusal) → MustBeNoCall x.files idl acf op r → (q : Refusal) → IsCallUnready x.files idl acf op q
        → (q ≡ Memory) ⊎ (q ≡ r)
    call_unready_cause None r must q cause = no_idl_cause x.files idl acf loads r must q cause
    call_unready_cause (Some name) r must q cause = unready_cause x.files (response_to idl acf name) loads r must q cause

    module _ (op : Option (List ℕ)) where
      -- the causes of a call, once what it speaks of is accepted
      of_call : (i : Interface) (number : Option ℕ) → IsCallAccepted x.files idl acf op i number → (P : Refusal → Type 0) → P Memory
          → ((r : Refusal) → IsCallCause x.input i number r → P r) → (r : Refusal) → IsNoCall x.files x.input idl acf op r → P r
      of_call i number a P wanting by r (inl (cause, before)) = subst P (sym (call_files op i number a r cause)) wanting
      of_call i number a P wanting by r (inr (j, m, ready, cause)) =
          let meant : meant_by j ≡ meant_by i = one_meaning x.files idl a.file acf a.held j i (means_here x.files idl a.file acf a.held j ready.compiled) a.means in
          let same : m ≡ number = same_operation_number op i j number m meant ready.numbered a.numbered in
          by r (cause_over i j (ap (λ (z : Meant). z.types) meant) (ap (λ (z : Meant). z.operations) meant) x.input number r
          (subst (λ (n : Option ℕ). IsCallCause x.input j n r) same cause))

      of_called : (i : Interface) (number : Option ℕ) → IsCallAccepted x.files idl acf op i number → (made : List ℕ) → HasCalled x.files x.input idl acf op made
          → IsCalled x.input i number made
      of_called i number a made (j, m, ready, h) =
          let meant : meant_by j ≡ meant_by i = one_meaning x.files idl a.file acf a.held j i (means_here x.files idl a.file acf a.held j ready.compiled) a.means in
          let same : m ≡ number = same_operation_number op i j number m meant ready.numbered a.numbered in
          called_over i j (ap (λ (z : Meant). z.types) meant) (ap (λ (z : Meant). z.operations) meant) x.input number made
          (subst (λ (n : Option ℕ). IsCalled x.input j n made) same h)

      abbrev Settled_call : Refusal → Type 0
      Settled_call r =
          ((made : List ℕ) → HasCalled x.files x.input idl acf op made → ⊥) × ((q : Refusal) → IsNoCall x.files x.input idl acf op q → (q ≡ Memory) ⊎ (q ≡ r))

      call_no_files : (r : Refusal) → MustBeNoCall x.files idl acf op r → Settled_call r
      call_no_files r must = (never, by)
        where
          never : (made : List ℕ) → HasCalled x.files x.input idl acf op made → ⊥
          never made (i, number, ready, h) = call_unready op r must i number ready

          by : (q : Refusal) → IsNoCall x.files x.input idl acf op q → (q ≡ Memory) ⊎ (q ≡ r)
          by q (inl (cause, before)) = call_unready_cause op r must q cause
          by q (inr (i, number, ready, cause)) = absurd (call_unready op r must i number ready)

      call_no_fragments : (r : Refusal) (i : Interface) (number : Option ℕ) → IsCallAccepted x.files idl acf op i number → MustBeNoFragments x.input i number r
          → Settled_call r
      call_no_fragments (BadPdu place why) i number a (octets, given, bad) = (
        λ made m. refused_unmade x.input octets given i number place why bad made (of_called i number a made m),
        of_call i number a (λ q. (q ≡ Memory) ⊎ (q ≡ BadPdu place why)) (inl refl) (refused_calls x.input octets given i number place why bad),
      )
      call_no_fragments (BadOctets place why) i number a (order, operation, stub, g, bad) = (
        λ made m. bad_unmade x.input g.octets g.given i number order g.call operation stub g.is_call place why bad made (of_called i number a made m),
        of_call i number a (λ q. (q ≡ Memory) ⊎ (q ≡ BadOctets place why)) (inl refl)
            (bad_stub x.input g.octets g.given i number order g.call operation stub g.is_call place why bad),
      )
      call_no_fragments Memory i number a must = absurd must
      call_no_fragments (Absent other) i number a must = absurd must
      call_no_fragments (FileFailed other) i number a must = absurd must
      call_no_fragments ReadFault i number a must = absurd must
      call_no_fragments (BadText line column why) i number a must = absurd must
      call_no_fragments (BadValue path why) i number a must = absurd must
      call_no_fragments (TooLong many) i number a must = absurd must
      call_no_fragments (BadRequest why) i number a must = absurd must
      call_no_fragments (BadLabel why) i number a must = absurd must
      call_no_fragments ShortLabel i number a must = absurd must
      call_no_fragments (TooFewEnds wanted found) i number a must = absurd must
      call_no_fragments (EndFailed which) i number a must = absurd must
      call_no_fragments (NotCompatible differing) i number a must = absurd must
      call_no_fragments (BadScript row) i number a must = absurd must
      call_no_fragments LongScript i number a must = absurd must
      call_no_fragments (BadIdl file line column why) i number a must = absurd must
      call_no_fragments NoOperation i number a must = absurd must

  -- ## Fragments of the values of a text

  module _ (of : Subject) (order : Order) where
    -- the causes, once what it speaks of is accepted
    of_wrap : (w : Setting) → IsAccepted x.files of w → (P : Refusal → Type 0) → P Memory → ((r : Refusal) → IsTaskCause x.input x.ends (wrap_task order) w r → P r)
        → (r : Refusal) → IsNoWrap x.files x.input of r → P r
    of_wrap w a P wanting by r (inl (cause, before)) = subst P (sym (accepted_cause x.files of loads w a r cause)) wanting
    of_wrap w a P wanting by r (inr (v, ready, cause)) =
        by r (subst (λ (u : Setting). IsInputEncodingCause x.input u wrap_chunk r) (one_setting x.files of w v a ready) cause)

    module _ (call max : ℕ) where
      wrap_ready : (made : List ℕ) → (m : IsWrapped x.files x.input of order call max made) → IsReady x.files of (setting_of m.interface m.operation of.side)
      wrap_ready made m = record { interface = m.interface; number = m.number; operation = m.operation; found = m.found; setting_is = refl }

      wrap_made : (w : Setting) → IsAccepted x.files of w → (made : List ℕ) → IsWrapped x.files x.input of order call max made
          → (stub : List ℕ) × IsMadeOf x.input x.ends (wrap_task order) w stub
      wrap_made w a made m = (
        m.stub,
        subst (λ (u : Setting). IsMadeOf x.input x.ends (wrap_task order) u m.stub)
            (one_setting x.files of w (setting_of m.interface m.operation of.side) a (wrap_ready made m)) m.encoded,
      )

      abbrev Settled_wrap : Refusal → Type 0
      Settled_wrap r =
          ((made : List ℕ) → IsWrapped x.files x.input of order call max made → ⊥) × ((q : Refusal) → IsNoWrap x.files x.input of q → (q ≡ Memory) ⊎ (q ≡ r))

      wrap_unready : (r : Refusal) → MustBeUnready x.files of r → Settled_wrap r
      wrap_unready r must = (λ made m. unready x.files of loads r must (setting_of m.interface m.operation of.side) (wrap_ready made m), by)
        where
          by : (q : Refusal) → IsNoWrap x.files x.input of q → (q ≡ Memory) ⊎ (q ≡ r)
          by q (inl (cause, before)) = unready_cause x.files of loads r must q cause
          by q (inr (w, ready, cause)) = absurd (unready x.files of loads r must w ready)

      wrap_no_input : (r : Refusal) (w : Setting) → IsAccepted x.files of w → MustBeNoInput x.input x.ends (wrap_task order) w r → Settled_wrap r
      wrap_no_input r w a must =
          let (unmade, only) = input_refuted x.input x.ends w (legal_all x.files of None w a) (wrap_task order) r must in (
            λ made m. let (stub, is) = wrap_made w a made m in unmade stub is,
            of_wrap w a (λ q. (q ≡ Memory) ⊎ (q ≡ r)) (inl refl) only,
          )

  -- ## Commands that can be done

  pub not_refused : (c : Command) → CanBeDone x c → (r : Refusal) → IsCause x c r → r ≡ Memory
  not_refused (Values task of given) (w, a, can) r cause =
      of_values task of given w a (λ q. q ≡ Memory) refl (made_cause x.input x.ends w (legal_all x.files of given w a) task can) r cause
  not_refused (Compile idl acf) (text, i, held, means) r cause = compiled_cause x.files idl acf loads text i held means r cause
  not_refused (Plan idl acf) (text, i, held, means) r cause = compiled_cause x.files idl acf loads text i held means r cause
  not_refused (Call idl acf op) (i, number, a, (order, operation, stub, g, given, represents, conforms)) r cause =
      of_call idl acf op i number a (λ q. q ≡ Memory) refl
      (good_call x.input given.octets given.given i number order given.call operation stub given.is_call g represents conforms) r cause
  not_refused (Wrap of order call max) (w, a, can) r cause =
      of_wrap of order w a (λ q. q ≡ Memory) refl (made_cause x.input x.ends w (legal_all x.files of None w a) (wrap_task order) can) r cause
  not_refused (Compat old old_acf new new_acf why) can r cause = compat_done x.files (record { idl = old; acf = old_acf }) (record { idl = new; acf = new_acf }) loads can r cause
  not_refused (Why words) can r cause = cause
  not_refused (Sample seed count) can r cause = cause
  not_refused Help can r cause = cause
  not_refused Version can r cause = cause

  -- ## Commands that must be refused

  abbrev Settled : Command → Refusal → Type 0
  Settled c r = ((made : List ℕ) → IsMade x c made → ⊥) × ((q : Refusal) → IsCause x c q → (q ≡ Memory) ⊎ (q ≡ r))

  pub settled : (c : Command) (r : Refusal) → MustBeRefused x c r → Settled c r
  settled (Values task of given) NoOperation must = values_unready task of given NoOperation must
  settled (Values task of given) (BadIdl file line column reason) must = values_unready task of given (BadIdl file line column reason) must
  settled (Values task of given) (BadRequest why) must = values_no_request task of given why must
  settled (Values task of given) Memory (w, a, must) = values_no_input task of given Memory w a must
  settled (Values task of given) (Absent other) (w, a, must) = values_no_input task of given (Absent other) w a must
  settled (Values task of given) (FileFailed other) (w, a, must) = values_no_input task of given (FileFailed other) w a must
  settled (Values task of given) ReadFault (w, a, must) = values_no_input task of given ReadFault w a must
  settled (Values task of given) (BadOctets place why) (w, a, must) = values_no_input task of given (BadOctets place why) w a must
  settled (Values task of given) (BadText line column why) (w, a, must) = values_no_input task of given (BadText line column why) w a must
  settled (Values task of given) (BadValue path why) (w, a, must) = values_no_input task of given (BadValue path why) w a must
  settled (Values task of given) (TooLong many) (w, a, must) = values_no_input task of given (TooLong many) w a must
  settled (Values task of given) (BadLabel why) (w, a, must) = values_no_input task of given (BadLabel why) w a must
  settled (Values task of given) ShortLabel (w, a, must) = values_no_input task of given ShortLabel w a must
  settled (Values task of given) (TooFewEnds wanted found) (w, a, must) = values_no_input task of given (TooFewEnds wanted found) w a must
  settled (Values task of given) (EndFailed which) (w, a, must) = values_no_input task of given (EndFailed which) w a must
  settled (Values task of given) (BadPdu spot because) (w, a, must) = values_no_input task of given (BadPdu spot because) w a must
  settled (Values task of given) (NotCompatible differing) (w, a, must) = values_no_input task of given (NotCompatible differing) w a must
  settled (Values task of given) (BadScript row) (w, a, must) = values_no_input task of given (BadScript row) w a must
  settled (Values task of given) LongScript (w, a, must) = values_no_input task of given LongScript w a must
  settled (Compile idl acf) r must = (λ made m. no_idl x.files idl acf loads r must m.interface m.compiled, no_idl_cause x.files idl acf loads r must)
  settled (Plan idl acf) r must = (λ made m. no_idl x.files idl acf loads r must m.interface m.compiled, no_idl_cause x.files idl acf loads r must)
  settled (Call idl acf op) NoOperation must = call_no_files idl acf op NoOperation must
  settled (Call idl acf op) (BadIdl file line column why) must = call_no_files idl acf op (BadIdl file line column why) must
  settled (Call idl acf op) Memory (i, number, a, must) = call_no_fragments idl acf op Memory i number a must
  settled (Call idl acf op) (Absent other) (i, number, a, must) = call_no_fragments idl acf op (Absent other) i number a must
  settled (Call idl acf op) (FileFailed other) (i, number, a, must) = call_no_fragments idl acf op (FileFailed other) i number a must
  settled (Call idl acf op) ReadFault (i, number, a, must) = call_no_fragments idl acf op ReadFault i number a must
  settled (Call idl acf op) (BadOctets place why) (i, number, a, must) = call_no_fragments idl acf op (BadOctets place why) i number a must
  settled (Call idl acf op) (BadText line column why) (i, number, a, must) = call_no_fragments idl acf op (BadText line column why) i number a must
  settled (Call idl acf op) (BadValue path why) (i, number, a, must) = call_no_fragments idl acf op (BadValue path why) i number a must
  settled (Call idl acf op) (TooLong many) (i, number, a, must) = call_no_fragments idl acf op (TooLong many) i number a must
  settled (Call idl acf op) (BadRequest why) (i, number, a, must) = call_no_fragments idl acf op (BadRequest why) i number a must
  settled (Call idl acf op) (BadLabel why) (i, number, a, must) = call_no_fragments idl acf op (BadLabel why) i number a must
  settled (Call idl acf op) ShortLabel (i, number, a, must) = call_no_fragments idl acf op ShortLabel i number a must
  settled (Call idl acf op) (TooFewEnds wanted found) (i, number, a, must) = call_no_fragments idl acf op (TooFewEnds wanted found) i number a must
  settled (Call idl acf op) (EndFailed which) (i, number, a, must) = call_no_fragments idl acf op (EndFailed which) i number a must
  settled (Call idl acf op) (BadPdu spot because) (i, number, a, must) = call_no_fragments idl acf op (BadPdu spot because) i number a must
  settled (Call idl acf op) (NotCompatible differing) (i, number, a, must) = call_no_fragments idl acf op (NotCompatible differing) i number a must
  settled (Call idl acf op) (BadScript row) (i, number, a, must) = call_no_fragments idl acf op (BadScript row) i number a must
  settled (Call idl acf op) LongScript (i, number, a, must) = call_no_fragments idl acf op LongScript i number a must
  settled (Wrap of order call max) NoOperation must = wrap_unready of order call max NoOperation must
  settled (Wrap of order call max) (BadIdl file line column why) must = wrap_unready of order call max (BadIdl file line column why) must
  settled (Wrap of order call max) Memory (w, a, must) = wrap_no_input of order call max Memory w a must
  settled (Wrap of order call max) (Absent other) (w, a, must) = wrap_no_input of order call max (Absent other) w a must
  settled (Wrap of order call max) (FileFailed other) (w, a, must) = wrap_no_input of order call max (FileFailed other) w a must
  settled (Wrap of order call max) ReadFault (w, a, must) = wrap_no_input of order call max ReadFault w a must
  settled (Wrap of order call max) (BadOctets place why) (w, a, must) = wrap_no_input of order call max (BadOctets place why) w a must
  settled (Wrap of order call max) (BadText line column why) (w, a, must) = wrap_no_input of order call max (BadText line column why) w a must
  settled (Wrap of order call max) (BadValue path why) (w, a, must) = wrap_no_input of order call max (BadValue path why) w a must
  settled (Wrap of order call max) (TooLong many) (w, a, must) = wrap_no_input of order call max (TooLong many) w a must
  settled (Wrap of order call max) (BadRequest why) (w, a, must) = wrap_no_input of order call max (BadRequest why) w a must
  settled (Wrap of order call max) (BadLabel why) (w, a, must) = wrap_no_input of order call max (BadLabel why) w a must
  settled (Wrap of order call max) ShortLabel (w, a, must) = wrap_no_input of order call max ShortLabel w a must
  settled (Wrap of order call max) (TooFewEnds wanted found) (w, a, must) = wrap_no_input of order call max (TooFewEnds wanted found) w a must
  settled (Wrap of order call max) (EndFailed which) (w, a, must) = wrap_no_input of order call max (EndFailed which) w a must
  settled (Wrap of order call max) (BadPdu spot because) (w, a, must) = wrap_no_input of order call max (BadPdu spot because) w a must
  settled (Wrap of order call max) (NotCompatible differing) (w, a, must) = wrap_no_input of order call max (NotCompatible differing) w a must
  settled (Wrap of order call max) (BadScript row) (w, a, must) = wrap_no_input of order call max (BadScript row) w a must
  settled (Wrap of order call max) LongScript (w, a, must) = wrap_no_input of order call max LongScript w a must
  settled (Compat old old_acf new new_acf why) r must = compat_settled x.files (record { idl = old; acf = old_acf }) (record { idl = new; acf = new_acf }) loads r must
  settled (Why words) r must = absurd must
  settled (Sample seed count) r must = absurd must
  settled Help r must = absurd must
  settled Version r must = absurd must

-- ## Rows

-- words that have an entry are not told the nearest
explained_once : (x : Seen) (c : Command) → CanBeDone x c → (text : List ℕ) → IsUnexplained c text → ⊥
explained_once x (Why words) (found, is) text nearest = let never : Found found ≡ Nearest text = sym is ∙ nearest in cc
explained_once x (Values task of given) can text nearest = nearest
explained_once x (Compile idl acf) can text nearest = nearest
explained_once x (Plan idl acf) can text nearest = nearest
explained_once x (Call idl acf op) can text nearest = nearest
explained_once x (Wrap of order call max) can text nearest = nearest
explained_once x (Compat old old_acf new new_acf why) can text nearest = nearest
explained_once x (Sample seed count) can text nearest = nearest
explained_once x Help can text nearest = nearest
explained_once x Version can text nearest = nearest

-- nor is a command that must be refused for a cause
caused_once : (x : Seen) (c : Command) (r : Refusal) → MustBeRefused x c r → (text : List ℕ) → IsUnexplained c text → ⊥
caused_once x (Why words) r must text nearest = must
caused_once x (Values task of given) r must text nearest = nearest
caused_once x (Compile idl acf) r must text nearest = nearest
caused_once x (Plan idl acf) r must text nearest = nearest
caused_once x (Call idl acf op) r must text nearest = nearest
caused_once x (Wrap of order call max) r must text nearest = nearest
caused_once x (Compat old old_acf new new_acf why) r must text nearest = nearest
caused_once x (Sample seed count) r must text nearest = nearest
caused_once x Help r must text nearest = nearest
caused_once x Version r must text nearest = nearest

module _ (x : Seen) (c : Command) (loads : HasRisen x.files.faults → ⊥) where
  -- nothing is written beside a line where a command must be done
  beside_once : CanBeDone x c → (r : Refusal) (text : List ℕ) → IsWrittenBeside x c r text → ⊥
  beside_once can r text beside =
      never (sym (ap status_of (not_refused x loads c can r (beside_cause x c r text beside))) ∙ beside_one x c r text beside)
    where
      never : status_of Memory ≡ 1 → ⊥
      never e = cc

  -- and where it must be refused, beside that line alone
  beside_as : (r : Refusal) → MustBeRefused x c r → (q : Refusal) (text : List ℕ) → IsWrittenBeside x c q text → q ≡ r
  beside_as r must q text beside = by ((settled x loads c r must).1 q (beside_cause x c q text beside)) (beside_one x c q text beside)
    where
      by : (q ≡ Memory) ⊎ (q ≡ r) → status_of q ≡ 1 → q ≡ r
      by (inl e) one = let never : status_of Memory ≡ 1 = sym (ap status_of e) ∙ one in cc
      by (inr e) one = e

module _ (x : Seen) (out notes : SinkOver) (c : Command) (status : ℕ) (sound : IsSound x notes) (end : Ended x out notes c status) where
  pub complete : CanBeDone x c → IsCompleted out status
  complete can = by end
    where
      by : Ended x out notes c status → IsCompleted out status
      by (ended_done is d) = inl is
      by (ended_refused r) = inr (inl (r.own_status ∙ ap status_of (not_refused x sound.loads c can r.refusal r.cause)))
      by (ended_unknown is text nearest given told) = absurd (explained_once x c can text nearest)
      by (ended_untold is rose text nearest) = inr (inr (is, rose))
      by (ended_told t) = absurd (beside_once x c sound.loads can t.refusal t.text t.beside)
      by (ended_cut is rose q text beside) = inr (inr (is, rose))
      by (ended_wanting is) = inr (inl is)
      by (ended_unwritten is rose made is_made) = inr (inr (is, rose))
      by (ended_unreported is rose) = absurd (sound.reports rose)

  pub exactly : (r : Refusal) → MustBeRefused x c r → Refuses c notes status r
  exactly r must = by end
    where
      by_cause : (q : Refusal) → status ≡ status_of q → Got notes (line_of (idl_of c) (op_of c) q) → (q ≡ Memory) ⊎ (q ≡ r) → Refuses c notes status r
      by_cause q is line (inl e) = inr (inl (is ∙ ap status_of e))
      by_cause q is line (inr e) = inl (is ∙ ap status_of e, subst (λ p. Got notes (line_of (idl_of c) (op_of c) p)) e line)

      by : Ended x out notes c status → Refuses c notes status r
      by (ended_done is d) = absurd ((settled x sound.loads c r must).0 d.made d.is_made)
      by (ended_refused q) = by_cause q.refusal q.own_status q.line ((settled x sound.loads c r must).1 q.refusal q.cause)
      by (ended_unknown is text nearest given told) = absurd (caused_once x c r must text nearest)
      by (ended_untold is rose text nearest) = absurd (caused_once x c r must text nearest)
      by (ended_told t) = by_cause t.refusal t.own_status t.line (inr (beside_as x c sound.loads r must t.refusal t.text t.beside))
      by (ended_cut is rose q text beside) = inr (inr (beside_tells x c q text beside, is))
      by (ended_wanting is) = inr (inl is)
      by (ended_unwritten is rose made is_made) = absurd ((settled x sound.loads c r must).0 made is_made)
      by (ended_unreported is rose) = absurd (sound.reports rose)
