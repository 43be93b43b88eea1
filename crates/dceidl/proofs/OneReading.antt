-- What octets come to: they are decoded, or refused at one place, or memory runs out.
use Rattle.std.proofs.Common.{◌≡◌, ℕ, ◌+◌, List, [], ◌∷◌, ◌++◌, length, take, refl, sym, ◌∙◌, ap, ap₂, subst, inl, inr, ◌⊎◌, arith}
use Rattle.std.specs.Prelude.{⊤}
use Rattle.std.proofs.lemmas.List.{append-nil, append_assoc, length-append}
use Rattle.nd_base.specs.declared.octets.Order.{Order}
use Rattle.nd_value.specs.declared.value.Graph.{Graph}
use Rattle.nd_value.specs.Setting.{Setting}
use Rattle.nd_value.specs.Conforms.{Conforms}
use Rattle.nd_grammar.specs.LegalSide.{IsLegalSide}
use Rattle.nd_grammar.specs.Stream.{Represents}
use Rattle.nd_grammar.proofs.ReaderLaws.{never_both, one_beginning}
use Rattle.nd_grammar.proofs.OneRefusal.{one_bad}
use Rattle.command_refusals.specs.declared.refusal.Refusal.{Refusal}
use Rattle.command_refusals.specs.declared.refusal.Refusal.TheVariants.{Memory, Absent, FileFailed, BadIdl, NoOperation, ReadFault, BadOctets, BadText, BadValue, TooLong, BadRequest, BadLabel}
use Rattle.command_refusals.specs.declared.refusal.Refusal.TheVariants.{ShortLabel, TooFewEnds, EndFailed}
use Rattle.command_refusals.specs.declared.refusal.Refusal.TheVariants.{BadPdu, NotCompatible, BadScript, LongScript}
use Rattle.command_refusals.specs.declared.refusal.OctetsFault.{OctetsFault}
use Rattle.command_refusals.specs.declared.refusal.OctetsFault.TheVariants as fault
use Rattle.nd_base.specs.Over.{SourceOver}
use Rattle.nd_grammar.specs.declared.reason.Reason.{Reason}
use Rattle.nd_grammar.specs.declared.reason.Reason.TheVariants as reason
use Rattle.nd_grammar.specs.Refusal.{Bad}
use Rattle.nd_grammar.proofs.Following.{may_follow}
use Rattle.std.specs.Io.KnownBytes.{IsAtEnd}
use Rattle.command_decode.specs.Decoded.{IsWhole, IsInputCause, IsRefusedInput, IsTrailedInput}
use Rattle.dceidl.specs.Rows.{IsRefusedAt, IsTrailing}
use Rattle.command_streams.specs.Input.{AreGiven}
use Rattle.command_streams.proofs.OneInput.{split_input}
use Rattle.nd_lemmas.proofs.Lists.{take_front}
use Rattle.dceidl.proofs.Sides.{whole_begins}

-- why octets are refused; running out of memory needs no cause
abbrev pub IsOctetsCause : Setting → Order → List ℕ → Refusal → Type 0
IsOctetsCause w order octets Memory = ⊤
IsOctetsCause w order octets (BadOctets place why) = IsRefusedAt w order octets place why
IsOctetsCause w order octets _ = ⊥

-- ## What was taken, where the octets of the input are known

module _ (s : SourceOver) (octets : List ℕ) (input : AreGiven s octets) (w : Setting) (order : Order) where
  -- octets that were refused are those of the input
  pub refused_here : (place : ℕ) (why : Reason) → IsRefusedInput s w order place why → Bad w order octets place why
  refused_here place why r =
      let (rest, now, whole) = split_input s octets r.octets input r.taken in
      subst (λ l. Bad w order l place why) (sym whole) (r.stays rest (may_follow why rest (λ e. subst IsAtEnd now (r.ended e).1)))

  -- an octet that follows a graph is of the input
  pub trailing_here : (place : ℕ) → IsTrailedInput s w order place → IsTrailing w order octets place
  trailing_here place r =
      let (rest, now, whole) = split_input s octets (r.octets ++ r.next ∷ []) input r.taken in
      let all : octets ≡ r.octets ++ (r.next ∷ [] ++ rest) = whole ∙ append_assoc r.octets (r.next ∷ []) rest in
      let many : length octets ≡ length r.octets + length (r.next ∷ [] ++ rest) = ap length all ∙ length-append r.octets (r.next ∷ [] ++ rest) in
      let first : take place octets ≡ r.octets = ap (take place) all ∙ take_front place r.octets (r.next ∷ [] ++ rest) (sym r.place_is) in
      record {
        graph = r.graph;
        begins = record {
          within = omega (arith, many, r.place_is);
          represented = subst (λ l. Represents w order l r.graph) (sym first) r.represents;
          conforms = r.conforms;
        };
        follows = omega (arith, many, r.place_is);
      }

  -- all octets of the input were read
  pub whole_here : (P : List ℕ → Type 0) (own : List ℕ) → IsWhole s own → P own → P octets
  whole_here P own whole p =
      let (rest, now, all) = split_input s octets own input whole.taken in
      let none : rest ≡ [] = subst IsAtEnd now whole.none_left in
      subst P (sym (all ∙ ap (λ u. own ++ u) none ∙ append-nil own)) p

-- the octets of the input are known, and no fetch failed: they are refused as they must be
pub read_causes : (s : SourceOver) (w : Setting) (order : Order) (octets : List ℕ) → AreGiven s octets → (P : Refusal → Type 0) → P Memory
    → ((r : Refusal) → IsOctetsCause w order octets r → P r) → (r : Refusal) → IsInputCause s w order r → P r
read_causes s w order octets input P wanting by Memory cause = wanting
read_causes s w order octets input P wanting by ReadFault rose = absurd (input.reads rose)
read_causes s w order octets input P wanting by (BadOctets place (fault.Refused why)) cause = by (BadOctets place (fault.Refused why)) (refused_here s octets input w order place why cause)
read_causes s w order octets input P wanting by (BadOctets place fault.Trailing) cause = by (BadOctets place fault.Trailing) (trailing_here s octets input w order place cause)
read_causes s w order octets input P wanting by (Absent other) cause = absurd cause
read_causes s w order octets input P wanting by (FileFailed other) cause = absurd cause
read_causes s w order octets input P wanting by (BadIdl file line column reason) cause = absurd cause
read_causes s w order octets input P wanting by NoOperation cause = absurd cause
read_causes s w order octets input P wanting by (BadText line column reason) cause = absurd cause
read_causes s w order octets input P wanting by (BadValue path reason) cause = absurd cause
read_causes s w order octets input P wanting by (TooLong many) cause = absurd cause
read_causes s w order octets input P wanting by (BadRequest because) cause = absurd cause
read_causes s w order octets input P wanting by (BadLabel because) cause = absurd cause
read_causes s w order octets input P wanting by ShortLabel cause = absurd cause
read_causes s w order octets input P wanting by (TooFewEnds wanted found) cause = absurd cause
read_causes s w order octets input P wanting by (EndFailed which) cause = absurd cause
read_causes s w order octets input P wanting by (BadPdu spot because) cause = absurd cause
read_causes s w order octets input P wanting by (NotCompatible differing) cause = absurd cause
read_causes s w order octets input P wanting by (BadScript row) cause = absurd cause
read_causes s w order octets input P wanting by LongScript cause = absurd cause

-- ## Octets

module _ (w : Setting) (side : IsLegalSide w) (order : Order) (octets : List ℕ) where
  -- octets that represent a graph that conforms are not refused
  pub decoded_cause : (g : Graph) → Represents w order octets g → Conforms w g → (r : Refusal) → IsOctetsCause w order octets r → r ≡ Memory
  decoded_cause g represents conforms Memory cause = refl
  decoded_cause g represents conforms (BadOctets place (fault.Refused reason)) bad =
      absurd (never_both w side order octets (length octets) g place reason (whole_begins w order octets g represents conforms) bad)
  decoded_cause g represents conforms (BadOctets place fault.Trailing) trailing =
      let same = (one_beginning w side order octets place (length octets) trailing.graph g trailing.begins (whole_begins w order octets g represents conforms)).0 in
      absurd (omega (arith, same, trailing.follows))
  decoded_cause g represents conforms (Absent other) cause = absurd cause
  decoded_cause g represents conforms (FileFailed other) cause = absurd cause
  decoded_cause g represents conforms (BadIdl file line column reason) cause = absurd cause
  decoded_cause g represents conforms NoOperation cause = absurd cause
  decoded_cause g represents conforms (TooLong many) cause = absurd cause
  decoded_cause g represents conforms ReadFault cause = absurd cause
  decoded_cause g represents conforms (BadText line column reason) cause = absurd cause
  decoded_cause g represents conforms (BadValue path reason) cause = absurd cause
  decoded_cause g represents conforms (BadRequest fault) cause = absurd cause
  decoded_cause g represents conforms (BadLabel fault) cause = absurd cause
  decoded_cause g represents conforms ShortLabel cause = absurd cause
  decoded_cause g represents conforms (TooFewEnds wanted found) cause = absurd cause
  decoded_cause g represents conforms (EndFailed which) cause = absurd cause
  decoded_cause g represents conforms (BadPdu spot because) cause = absurd cause
  decoded_cause g represents conforms (NotCompatible differing) cause = absurd cause
  decoded_cause g represents conforms (BadScript row) cause = absurd cause
  decoded_cause g represents conforms LongScript cause = absurd cause

  -- octets that are refused represent no graph that conforms
  pub refused_value : (place : ℕ) (why : OctetsFault) → IsRefusedAt w order octets place why → (g : Graph) → Represents w order octets g → Conforms w g → ⊥
  refused_value place (fault.Refused reason) bad g represents conforms =
      never_both w side order octets (length octets) g place reason (whole_begins w order octets g represents conforms) bad
  refused_value place fault.Trailing trailing g represents conforms =
      let same = (one_beginning w side order octets place (length octets) trailing.graph g trailing.begins (whole_begins w order octets g represents conforms)).0 in
      omega (arith, same, trailing.follows)

  -- and they are refused at one place for one reason
  one_place : (place other : ℕ) (why because : OctetsFault) → IsRefusedAt w order octets place why → IsRefusedAt w order octets other because
      → BadOctets other because ≡ BadOctets place why
  one_place place other (fault.Refused why) (fault.Refused because) x y =
      let same = one_bad w side order octets other place because why y x in ap₂ (λ p q. BadOctets p (fault.Refused q)) same.0 same.1
  one_place place other (fault.Refused why) fault.Trailing x y = absurd (never_both w side order octets other y.graph place why y.begins x)
  one_place place other fault.Trailing (fault.Refused because) x y = absurd (never_both w side order octets place x.graph other because x.begins y)
  one_place place other fault.Trailing fault.Trailing x y =
      ap (λ p. BadOctets p fault.Trailing) (one_beginning w side order octets other place y.graph x.graph y.begins x.begins).0

  pub refused_cause : (place : ℕ) (why : OctetsFault) → IsRefusedAt w order octets place why → (r : Refusal) → IsOctetsCause w order octets r
      → (r ≡ Memory) ⊎ (r ≡ BadOctets place why)
  refused_cause place why refused Memory cause = inl refl
  refused_cause place why refused (BadOctets other because) cause = inr (one_place place other why because refused cause)
  refused_cause place why refused (Absent other) cause = absurd cause
  refused_cause place why refused (FileFailed other) cause = absurd cause
  refused_cause place why refused (BadIdl file line column reason) cause = absurd cause
  refused_cause place why refused NoOperation cause = absurd cause
  refused_cause place why refused (TooLong many) cause = absurd cause
  refused_cause place why refused ReadFault cause = absurd cause
  refused_cause place why refused (BadText line column reason) cause = absurd cause
  refused_cause place why refused (BadValue path reason) cause = absurd cause
  refused_cause place why refused (BadRequest fault) cause = absurd cause
  refused_cause place why refused (BadLabel fault) cause = absurd cause
  refused_cause place why refused ShortLabel cause = absurd cause
  refused_cause place why refused (TooFewEnds wanted found) cause = absurd cause
  refused_cause place why refused (EndFailed which) cause = absurd cause
  refused_cause place why refused (BadPdu spot because) cause = absurd cause
  refused_cause place why refused (NotCompatible differing) cause = absurd cause
  refused_cause place why refused (BadScript row) cause = absurd cause
  refused_cause place why refused LongScript cause = absurd cause
