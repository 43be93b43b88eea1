-- Why the octets of an input are refused that is read before they are traced.
use Rattle.std.proofs.Common.{◌≡◌, ◌∙◌, ℕ, ◌+◌, ◌<◌, ◌≤◌, List, [], ◌∷◌, ◌++◌, length, take, refl, ap, sym, subst, arith}
use Rattle.std.proofs.lemmas.List.{append-nil, append_assoc, length-append}
use Rattle.std.specs.Io.KnownBytes.{IsAtEnd}
use Rattle.nd_base.specs.declared.octets.Order.{Order}
use Rattle.nd_base.specs.declared.TheConstants.{STREAM_LIMIT}
use Rattle.nd_base.specs.Over.{SourceOver}
use Rattle.nd_lemmas.proofs.Lists.{take_front}
use Rattle.nd_value.specs.Setting.{Setting}
use Rattle.nd_grammar.specs.declared.reason.Reason.{Reason}
use Rattle.nd_grammar.specs.declared.reason.Reason.TheVariants as reason
use Rattle.nd_grammar.specs.Refusal.{Bad}
use Rattle.nd_grammar.specs.decoded.Verdict.{MayFollow}
use Rattle.nd_grammar.specs.Stream.{Represents}
use Rattle.nd_grammar.proofs.StaysBad.{stays_bad}
use Rattle.command_refusals.specs.declared.refusal.OctetsFault.{OctetsFault}
use Rattle.command_refusals.specs.declared.refusal.OctetsFault.TheVariants as fault
use Rattle.command_refusals.specs.declared.refusal.Refusal.{Refusal}
use Rattle.command_refusals.specs.declared.refusal.Refusal.TheVariants.{Memory, Absent, FileFailed, BadIdl, NoOperation, ReadFault, BadOctets, BadText, BadValue, TooLong, BadRequest, BadLabel}
use Rattle.command_refusals.specs.declared.refusal.Refusal.TheVariants.{ShortLabel, TooFewEnds, EndFailed}
use Rattle.command_refusals.specs.declared.refusal.Refusal.TheVariants.{BadPdu, NotCompatible, BadScript, LongScript}
use Rattle.command_streams.specs.Input.{AreGiven, AreRead}
use Rattle.command_streams.proofs.OneInput.{split_input}
use Rattle.command_decode.specs.Decoded.{IsRefusedSource, IsTraceCause, IsRefusedTrace, IsRefusedWith, IsTrailedTrace}
use Rattle.command_decode.proofs.Limits.{truncated_within}
use Rattle.dceidl.specs.Rows.{IsRefusedAt, IsTrailing}
use Rattle.dceidl.proofs.OneReading.{IsOctetsCause}

module _ (s : SourceOver) (octets : List ℕ) (input : AreGiven s octets) (w : Setting) (order : Order) where
  module _ (own : List ℕ) (read : AreRead s STREAM_LIMIT own) where
    abbrev Rest : Type 0
    Rest = (rest : List ℕ) × (octets ≡ own ++ rest) × (length own < STREAM_LIMIT + 1 → rest ≡ [])

    rest_is : Rest
    rest_is =
        let (rest, now, whole) = split_input s octets own input read.taken in
        (rest, whole, λ few. subst IsAtEnd now (read.none_left few))

    -- octets that are cut short are all that there are, and any others stay refused
    refused_here : (place : ℕ) (why : Reason) (lines : List ℕ) → IsRefusedTrace w order own place why lines → Bad w order octets place why
    refused_here place why lines t = go why t.follow t.trace.bad
      where
        beyond : (r : Reason) → (r ≡ reason.Truncated → ⊥) → Bad w order t.fetched place r → Bad w order octets place r
        beyond r other b =
            let (rest, whole, over) = rest_is in
            let all : octets ≡ t.fetched ++ (t.more ++ rest) = whole ∙ ap (λ u. u ++ rest) t.split ∙ append_assoc t.fetched t.more rest in
            subst (λ l. Bad w order l place r) (sym all) (stays_bad w order t.fetched (t.more ++ rest) place r b other)

        go : (r : Reason) → MayFollow r t.more → Bad w order t.fetched place r → Bad w order octets place r
        go reason.Truncated none b =
            let (rest, whole, over) = rest_is in
            let own_is : own ≡ t.fetched = t.split ∙ ap (λ u. t.fetched ++ u) none ∙ append-nil t.fetched in
            let within = truncated_within w order t.fetched place b in
            let few : length own < STREAM_LIMIT + 1 = subst (λ l. length l < STREAM_LIMIT + 1) (sym own_is) (omega (arith, within)) in
            let all : octets ≡ t.fetched = whole ∙ ap (λ u. own ++ u) (over few) ∙ append-nil own ∙ own_is in
            subst (λ l. Bad w order l place reason.Truncated) (sym all) b
        go reason.TooLong may b = beyond reason.TooLong (λ e. cc) b
        go reason.EnumValue may b = beyond reason.EnumValue (λ e. cc) b
        go reason.PastBound may b = beyond reason.PastBound (λ e. cc) b
        go reason.TextOffset may b = beyond reason.TextOffset (λ e. cc) b
        go reason.TextEmpty may b = beyond reason.TextEmpty (λ e. cc) b
        go reason.TextUnended may b = beyond reason.TextUnended (λ e. cc) b
        go reason.TextZero may b = beyond reason.TextZero (λ e. cc) b
        go reason.NoArm may b = beyond reason.NoArm (λ e. cc) b
        go reason.OtherType may b = beyond reason.OtherType (λ e. cc) b
        go (reason.Disagrees wanted found) may b = beyond (reason.Disagrees wanted found) (λ e. cc) b

    -- an octet that follows a graph is of the input
    trailing_here : (place : ℕ) (lines : List ℕ) → IsTrailedTrace w order own place lines → IsTrailing w order octets place
    trailing_here place lines t =
        let (rest, whole, over) = rest_is in
        let all : octets ≡ t.fetched ++ (t.next ∷ t.rest ++ rest) = whole ∙ ap (λ u. u ++ rest) t.split ∙ append_assoc t.fetched (t.next ∷ t.rest) rest in
        let many : length octets ≡ length t.fetched + length (t.next ∷ t.rest ++ rest) = ap length all ∙ length-append t.fetched (t.next ∷ t.rest ++ rest) in
        let first : take place octets ≡ t.fetched = ap (take place) all ∙ take_front place t.fetched (t.next ∷ t.rest ++ rest) (sym t.place_is) in
        record {
          graph = t.explanation.graph;
          begins = record {
            within = omega (arith, many, t.place_is);
            represented = subst (λ l. Represents w order l t.explanation.graph) (sym first) t.explanation.represents;
            conforms = t.explanation.conforms;
          };
          follows = omega (arith, many, t.place_is);
        }

    refused_at : (place : ℕ) (why : OctetsFault) (lines : List ℕ) → IsRefusedWith w order own place why lines → IsRefusedAt w order octets place why
    refused_at place (fault.Refused why) lines t = refused_here place why lines t
    refused_at place fault.Trailing lines t = trailing_here place lines t

  -- the octets of the input are known, and no fetch failed: they are refused as they must be
  pub trace_causes : (P : Refusal → Type 0) → P Memory → ((r : Refusal) → IsOctetsCause w order octets r → P r) → (r : Refusal) → IsTraceCause s w order r → P r
  trace_causes P wanting by Memory cause = wanting
  trace_causes P wanting by ReadFault rose = absurd (input.reads rose)
  trace_causes P wanting by (BadOctets place why) (lines, source) = by (BadOctets place why) (refused_at source.octets source.read place why lines source.refused)
  trace_causes P wanting by (Absent other) cause = absurd cause
  trace_causes P wanting by (FileFailed other) cause = absurd cause
  trace_causes P wanting by (BadIdl file line column reason) cause = absurd cause
  trace_causes P wanting by NoOperation cause = absurd cause
  trace_causes P wanting by (BadText line column reason) cause = absurd cause
  trace_causes P wanting by (BadValue path reason) cause = absurd cause
  trace_causes P wanting by (TooLong many) cause = absurd cause
  trace_causes P wanting by (BadRequest because) cause = absurd cause
  trace_causes P wanting by (BadLabel because) cause = absurd cause
  trace_causes P wanting by ShortLabel cause = absurd cause
  trace_causes P wanting by (TooFewEnds wanted found) cause = absurd cause
  trace_causes P wanting by (EndFailed which) cause = absurd cause
  trace_causes P wanting by (BadPdu spot because) cause = absurd cause
  trace_causes P wanting by (NotCompatible differing) cause = absurd cause
  trace_causes P wanting by (BadScript row) cause = absurd cause
  trace_causes P wanting by LongScript cause = absurd cause
