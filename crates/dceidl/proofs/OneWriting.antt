-- Something is made of a text exactly if it reads as a graph that conforms, and it is encoded exactly if no more octets are chosen than a stream may have.
use Rattle.std.proofs.Common.{◌≡◌, ℕ, List, length, refl, sym, ◌∙◌, ap, subst, inl, inr, ◌⊎◌, arith}
use Rattle.nd_base.specs.declared.octets.Order.{Order}
use Rattle.nd_base.specs.declared.octets.Order.TheVariants.{Little}
use Rattle.nd_value.specs.declared.misfit.MisfitReason.{MisfitReason}
use Rattle.nd_value.specs.declared.value.Graph.{Graph}
use Rattle.nd_value.specs.Setting.{Setting}
use Rattle.nd_value.specs.Conforms.{Conforms}
use Rattle.nd_value.proofs.Misfits.{misfit_is_no_fit}
use Rattle.nd_grammar.specs.LegalSide.{IsLegalSide}
use Rattle.nd_grammar.proofs.ChosenRepresents.{chosen_exists}
use Rattle.command_encode.specs.Encoded.{IsWritten, IsLong, IsTextCause, IsMisfitAt}
use Rattle.text_grammar.specs.declared.fault.TextReason.{TextReason}
use Rattle.text_grammar.specs.Reads.{ReadsAs, IsTextFault}
use Rattle.text_grammar.proofs.Stated.{one_graph}
use Rattle.text_grammar.proofs.OneText.{never_both}
use Rattle.command_encode.proofs.OneText.{good_cause}
use Rattle.command_refusals.specs.declared.refusal.Refusal.{Refusal}
use Rattle.command_refusals.specs.declared.refusal.Refusal.TheVariants.{Memory, Absent, FileFailed, BadIdl, NoOperation, ReadFault, BadOctets, BadText, BadValue, TooLong, BadRequest, BadLabel}
use Rattle.command_refusals.specs.declared.refusal.Refusal.TheVariants.{ShortLabel, TooFewEnds, EndFailed}
use Rattle.command_refusals.specs.declared.refusal.Refusal.TheVariants.{BadPdu, NotCompatible, BadScript, LongScript}
use Rattle.command_line.specs.Words.{order_in}
use Rattle.command_line.specs.declared.command.OrderWord.{OrderWord}
use Rattle.dceidl.specs.Input.{IsEncoding, IsLabelledEncoding, IsLongEncoding, IsEncodingCause, IsMigration}

-- a text that reads as a graph that conforms
pub record IsGood (w : Setting) (text : List ℕ) : Type 0 where
  pub graph : Graph
  pub reads : ReadsAs w text graph
  pub conforms : Conforms w graph

-- what was encoded, what is too long to be encoded, and what was migrated is such a text
pub encoded_good : (w : Setting) (order : Order) (chunk : ℕ) (text made : List ℕ) → IsEncoding w order chunk text made → IsGood w text
encoded_good w order chunk text made e = record { graph = e.graph; reads = e.reads; conforms = e.conforms }

pub labelled_good : (w : Setting) (word : OrderWord) (chunk : ℕ) (text made : List ℕ) → IsLabelledEncoding w word chunk text made → IsGood w text
labelled_good w word chunk text made e = encoded_good w (order_in word) chunk text e.octets e.encoding

pub long_good : (w : Setting) (chunk : ℕ) (text : List ℕ) (many : ℕ) → IsLongEncoding w chunk text many → IsGood w text
long_good w chunk text many e = record { graph = e.graph; reads = e.reads; conforms = e.conforms }

pub migrated_good : (w : Setting) (text made : List ℕ) → IsMigration w text made → IsGood w text
migrated_good w text made e = record { graph = e.graph; reads = e.reads; conforms = e.conforms }

module _ (w : Setting) (side : IsLegalSide w) (text : List ℕ) where
  -- a text with a fault is no such text
  pub fault_good : (line column : ℕ) (why : TextReason) → IsTextFault w text line column why → IsGood w text → ⊥
  fault_good line column why fault good = never_both w text good.graph line column why good.reads fault

  -- nor is a text of values that do not conform
  pub misfit_good : (g : Graph) (path : List ℕ) (why : MisfitReason) → ReadsAs w text g → IsMisfitAt w g path why → IsGood w text → ⊥
  misfit_good g path why reads m good =
      misfit_is_no_fit w g _ m.first (subst (Conforms w) (one_graph w text good.graph g side good.reads reads) good.conforms)

  module _ (chunk : ℕ) where
    -- octets that are too many for one order are too many for the other
    long_or_written : (g : Graph) (order : Order) (octets : List ℕ) (many : ℕ) → IsWritten w order chunk g octets → IsLong w chunk g many → ⊥
    long_or_written g order octets many is long =
        let same : length octets ≡ many = long.chosen order octets is.chosen in
        let within = is.within in
        let more = long.long in
        omega (arith, same, within, more)

    one_length : (g : Graph) → Conforms w g → (many other : ℕ) → IsLong w chunk g many → IsLong w chunk g other → other ≡ many
    one_length g conforms many other x y =
        let (octets, chosen) = chosen_exists w Little chunk g conforms in
        sym (y.chosen Little octets chosen) ∙ x.chosen Little octets chosen

    -- a text whose octets are within the limit is not refused
    pub encodes_cause : (g : Graph) (order : Order) (octets : List ℕ) → ReadsAs w text g → Conforms w g → IsWritten w order chunk g octets → (r : Refusal)
        → IsEncodingCause w chunk text r → r ≡ Memory
    encodes_cause g order octets reads conforms is (TooLong many) e =
        absurd (long_or_written g order octets many is (subst (λ h. IsLong w chunk h many) (one_graph w text e.graph g side e.reads reads) e.long))
    encodes_cause g order octets reads conforms is Memory cause = refl
    encodes_cause g order octets reads conforms is (Absent other) cause = absurd cause
    encodes_cause g order octets reads conforms is (FileFailed other) cause = absurd cause
    encodes_cause g order octets reads conforms is (BadIdl file line column reason) cause = absurd cause
    encodes_cause g order octets reads conforms is NoOperation cause = absurd cause
    encodes_cause g order octets reads conforms is ReadFault cause = absurd cause
    encodes_cause g order octets reads conforms is (BadOctets place why) cause = absurd cause
    encodes_cause g order octets reads conforms is (BadText line column why) cause = good_cause w side text g reads conforms (BadText line column why) cause
    encodes_cause g order octets reads conforms is (BadValue path why) cause = good_cause w side text g reads conforms (BadValue path why) cause
    encodes_cause g order octets reads conforms is (BadRequest fault) cause = absurd cause
    encodes_cause g order octets reads conforms is (BadLabel fault) cause = absurd cause
    encodes_cause g order octets reads conforms is ShortLabel cause = absurd cause
    encodes_cause g order octets reads conforms is (TooFewEnds wanted found) cause = absurd cause
    encodes_cause g order octets reads conforms is (EndFailed which) cause = absurd cause
    encodes_cause g order octets reads conforms is (BadPdu spot because) cause = absurd cause
    encodes_cause g order octets reads conforms is (NotCompatible differing) cause = absurd cause
    encodes_cause g order octets reads conforms is (BadScript row) cause = absurd cause
    encodes_cause g order octets reads conforms is LongScript cause = absurd cause

    -- what is refused as a text is refused so if it is to be encoded
    module _ (bad : IsGood w text → ⊥) (r : Refusal) (by : (q : Refusal) → IsTextCause w text q → (q ≡ Memory) ⊎ (q ≡ r)) where
      pub text_cause : (q : Refusal) → IsEncodingCause w chunk text q → (q ≡ Memory) ⊎ (q ≡ r)
      text_cause (TooLong many) e = absurd (bad (long_good w chunk text many e))
      text_cause Memory cause = inl refl
      text_cause (Absent other) cause = absurd cause
      text_cause (FileFailed other) cause = absurd cause
      text_cause (BadIdl file line column reason) cause = absurd cause
      text_cause NoOperation cause = absurd cause
      text_cause ReadFault cause = absurd cause
      text_cause (BadOctets place why) cause = absurd cause
      text_cause (BadText line column why) cause = by (BadText line column why) cause
      text_cause (BadValue path why) cause = by (BadValue path why) cause
      text_cause (BadRequest fault) cause = absurd cause
      text_cause (BadLabel fault) cause = absurd cause
      text_cause ShortLabel cause = absurd cause
      text_cause (TooFewEnds wanted found) cause = absurd cause
      text_cause (EndFailed which) cause = absurd cause
      text_cause (BadPdu spot because) cause = absurd cause
      text_cause (NotCompatible differing) cause = absurd cause
      text_cause (BadScript row) cause = absurd cause
      text_cause LongScript cause = absurd cause

    module _ (g : Graph) (reads : ReadsAs w text g) (conforms : Conforms w g) (many : ℕ) (long : IsLong w chunk g many) where
      -- a text whose octets are too many is refused as that alone
      pub long_cause : (q : Refusal) → IsEncodingCause w chunk text q → (q ≡ Memory) ⊎ (q ≡ TooLong many)
      long_cause (TooLong other) e =
          inr (ap TooLong (one_length g conforms many other long (subst (λ h. IsLong w chunk h other) (one_graph w text e.graph g side e.reads reads) e.long)))
      long_cause Memory cause = inl refl
      long_cause (Absent other) cause = absurd cause
      long_cause (FileFailed other) cause = absurd cause
      long_cause (BadIdl file line column reason) cause = absurd cause
      long_cause NoOperation cause = absurd cause
      long_cause ReadFault cause = absurd cause
      long_cause (BadOctets place why) cause = absurd cause
      long_cause (BadText line column why) cause = inl (good_cause w side text g reads conforms (BadText line column why) cause)
      long_cause (BadValue path why) cause = inl (good_cause w side text g reads conforms (BadValue path why) cause)
      long_cause (BadRequest fault) cause = absurd cause
      long_cause (BadLabel fault) cause = absurd cause
      long_cause ShortLabel cause = absurd cause
      long_cause (TooFewEnds wanted found) cause = absurd cause
      long_cause (EndFailed which) cause = absurd cause
      long_cause (BadPdu spot because) cause = absurd cause
      long_cause (NotCompatible differing) cause = absurd cause
      long_cause (BadScript row) cause = absurd cause
      long_cause LongScript cause = absurd cause

      -- and is not encoded
      long_made : (order : Order) (made : List ℕ) → IsEncoding w order chunk text made → ⊥
      long_made order made e =
          long_or_written g order made many (subst (λ h. IsWritten w order chunk h made) (one_graph w text e.graph g side e.reads reads) e.written) long

      pub long_labelled : (word : OrderWord) (made : List ℕ) → IsLabelledEncoding w word chunk text made → ⊥
      long_labelled word made e = long_made (order_in word) e.octets e.encoding
