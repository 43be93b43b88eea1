-- What a text comes to: it reads as a graph that conforms, or it is refused at one place, or its values are refused at one path, or memory runs out.
use Rattle.std.proofs.Common.{◌≡◌, ℕ, ◌≤◌, ◌<◌, List, length, refl, ◌∙◌, ap, ap₂, subst, sym, inl, inr, ◌⊎◌, arith}
use Rattle.nd_base.specs.declared.TheConstants.{FILE_LIMIT}
use Rattle.nd_value.specs.declared.misfit.MisfitReason.{MisfitReason}
use Rattle.nd_value.specs.declared.value.Graph.{Graph}
use Rattle.nd_value.specs.Setting.{Setting}
use Rattle.nd_value.specs.Conforms.{Conforms, MisfitAt}
use Rattle.nd_value.proofs.Misfits.{misfit_is_no_fit, one_first_misfit}
use Rattle.nd_grammar.specs.LegalSide.{IsLegalSide}
use Rattle.text_grammar.specs.declared.fault.TextReason.{TextReason}
use Rattle.text_grammar.specs.declared.fault.TextReason.TheVariants.{TooLong as too_long}
use Rattle.text_grammar.specs.Paths.{IsPath}
use Rattle.text_grammar.specs.Reads.{ReadsAs, IsTextFault}
use Rattle.text_grammar.proofs.Stated.{one_graph, one_fault}
use Rattle.text_grammar.proofs.OneText.{never_both}
use Rattle.command_refusals.specs.declared.refusal.Refusal.{Refusal}
use Rattle.command_refusals.specs.declared.refusal.Refusal.TheVariants.{Memory, Absent, FileFailed, BadIdl, NoOperation, ReadFault, BadOctets, BadText, BadValue, TooLong, BadRequest, BadLabel}
use Rattle.command_refusals.specs.declared.refusal.Refusal.TheVariants.{ShortLabel, TooFewEnds, EndFailed}
use Rattle.command_refusals.specs.declared.refusal.Refusal.TheVariants.{BadPdu, NotCompatible, BadScript, LongScript}
use Rattle.command_refusals.specs.declared.refusal.RequestFault.{RequestFault}
use Rattle.command_refusals.specs.declared.refusal.RequestFault.TheVariants.{Text, Value}
use Rattle.command_encode.specs.Encoded.{IsTextCause, IsMisfitAt, inputs, IsRequestText, IsRequestFault}
use Rattle.command_encode.proofs.Paths.{one_path}

module _ (w : Setting) (side : IsLegalSide w) (text : List ℕ) where
  -- a text that reads as a graph that conforms is not refused
  pub good_cause : (g : Graph) → ReadsAs w text g → Conforms w g → (r : Refusal) → IsTextCause w text r → r ≡ Memory
  good_cause g reads conforms Memory cause = refl
  good_cause g reads conforms (BadText line column why) fault = absurd (never_both w text g line column why reads fault)
  good_cause g reads conforms (BadValue path reason) bad =
      absurd (misfit_is_no_fit w bad.graph _ bad.misfit.first (subst (Conforms w) (one_graph w text g bad.graph side reads bad.reads) conforms))
  good_cause g reads conforms (Absent other) cause = absurd cause
  good_cause g reads conforms (FileFailed other) cause = absurd cause
  good_cause g reads conforms (BadIdl file line column reason) cause = absurd cause
  good_cause g reads conforms NoOperation cause = absurd cause
  good_cause g reads conforms (TooLong many) cause = absurd cause
  good_cause g reads conforms ReadFault cause = absurd cause
  good_cause g reads conforms (BadRequest other) cause = absurd cause
  good_cause g reads conforms (BadLabel fault) cause = absurd cause
  good_cause g reads conforms ShortLabel cause = absurd cause
  good_cause g reads conforms (TooFewEnds wanted found) cause = absurd cause
  good_cause g reads conforms (EndFailed which) cause = absurd cause
  good_cause g reads conforms (BadPdu spot because) cause = absurd cause
  good_cause g reads conforms (NotCompatible differing) cause = absurd cause
  good_cause g reads conforms (BadScript row) cause = absurd cause
  good_cause g reads conforms LongScript cause = absurd cause
  good_cause g reads conforms (BadOctets place why) cause = absurd cause

  -- a text with a fault is refused there
  pub fault_cause : (line column : ℕ) (why : TextReason) → IsTextFault w text line column why → (r : Refusal) → IsTextCause w text r
      → (r ≡ Memory) ⊎ (r ≡ BadText line column why)
  fault_cause line column why fault Memory cause = inl refl
  fault_cause line column why fault (BadText row at because) other =
      let (rows, columns, reasons) = one_fault w text row line at column because why side other fault in
      inr (ap (λ l. BadText l at because) rows ∙ ap₂ (λ c y. BadText line c y) columns reasons)
  fault_cause line column why fault (BadValue path reason) bad = absurd (never_both w text bad.graph line column why bad.reads fault)
  fault_cause line column why fault (Absent other) cause = absurd cause
  fault_cause line column why fault (FileFailed other) cause = absurd cause
  fault_cause line column why fault (BadIdl file row at reason) cause = absurd cause
  fault_cause line column why fault NoOperation cause = absurd cause
  fault_cause line column why fault (TooLong many) cause = absurd cause
  fault_cause line column why fault ReadFault cause = absurd cause
  fault_cause line column why fault (BadRequest other) cause = absurd cause
  fault_cause line column why fault (BadLabel other) cause = absurd cause
  fault_cause line column why fault ShortLabel cause = absurd cause
  fault_cause line column why fault (TooFewEnds wanted found) cause = absurd cause
  fault_cause line column why fault (EndFailed which) cause = absurd cause
  fault_cause line column why fault (BadPdu spot because) cause = absurd cause
  fault_cause line column why fault (NotCompatible differing) cause = absurd cause
  fault_cause line column why fault (BadScript row) cause = absurd cause
  fault_cause line column why fault LongScript cause = absurd cause
  fault_cause line column why fault (BadOctets place because) cause = absurd cause

  one_place : (g : Graph) (path other : List ℕ) (why because : MisfitReason) → IsMisfitAt w g path why → IsMisfitAt w g other because → BadValue other because ≡ BadValue path why
  one_place g path other why because x y =
      let same = one_first_misfit w g (record { home = y.home; node = y.node; reason = because }) (record { home = x.home; node = x.node; reason = why }) y.first x.first in
      let there : IsPath w g x.home x.node other = subst (λ (z : MisfitAt). IsPath w g z.home z.node other) same y.path_is in
      ap₂ BadValue (one_path w g x.home x.node other path there x.path_is) (ap (λ (z : MisfitAt). z.reason) same)

  -- a text of values that do not conform is refused at the first misfit
  pub misfit_cause : (g : Graph) (path : List ℕ) (why : MisfitReason) → ReadsAs w text g → IsMisfitAt w g path why → (r : Refusal) → IsTextCause w text r
      → (r ≡ Memory) ⊎ (r ≡ BadValue path why)
  misfit_cause g path why reads m Memory cause = inl refl
  misfit_cause g path why reads m (BadText line column other) fault = absurd (never_both w text g line column other reads fault)
  misfit_cause g path why reads m (BadValue other because) bad =
      inr (one_place g path other why because m (subst (λ h. IsMisfitAt w h other because) (one_graph w text bad.graph g side bad.reads reads) bad.misfit))
  misfit_cause g path why reads m (Absent other) cause = absurd cause
  misfit_cause g path why reads m (FileFailed other) cause = absurd cause
  misfit_cause g path why reads m (BadIdl file line column reason) cause = absurd cause
  misfit_cause g path why reads m NoOperation cause = absurd cause
  misfit_cause g path why reads m (TooLong many) cause = absurd cause
  misfit_cause g path why reads m ReadFault cause = absurd cause
  misfit_cause g path why reads m (BadRequest other) cause = absurd cause
  misfit_cause g path why reads m (BadLabel fault) cause = absurd cause
  misfit_cause g path why reads m ShortLabel cause = absurd cause
  misfit_cause g path why reads m (TooFewEnds wanted found) cause = absurd cause
  misfit_cause g path why reads m (EndFailed which) cause = absurd cause
  misfit_cause g path why reads m (BadPdu spot because) cause = absurd cause
  misfit_cause g path why reads m (NotCompatible differing) cause = absurd cause
  misfit_cause g path why reads m (BadScript row) cause = absurd cause
  misfit_cause g path why reads m LongScript cause = absurd cause
  misfit_cause g path why reads m (BadOctets place because) cause = absurd cause

-- ## The text of a request

-- the same of the text of any values
abbrev of_text : RequestFault → Refusal
of_text (Text line column reason) = BadText line column reason
of_text (Value path reason) = BadValue path reason

not_memory : (why : RequestFault) → of_text why ≡ Memory → ⊥
not_memory (Text line column reason) e = cc
not_memory (Value path reason) e = cc

same_fault : (why because : RequestFault) → of_text because ≡ of_text why → BadRequest because ≡ BadRequest why
same_fault (Text line column reason) (Text row at other) e =
    let lines : row ≡ line = cc in
    let columns : at ≡ column = cc in
    let reasons : other ≡ reason = cc in
    ap (λ l. BadRequest (Text l at other)) lines ∙ ap₂ (λ c y. BadRequest (Text line c y)) columns reasons
same_fault (Text line column reason) (Value path other) e = cc
same_fault (Value path reason) (Text row at other) e = cc
same_fault (Value path reason) (Value there other) e =
    let paths : there ≡ path = cc in
    let reasons : other ≡ reason = cc in
    ap₂ (λ p y. BadRequest (Value p y)) paths reasons

module _ (w : Setting) (side : IsLegalSide (inputs w)) (text : List ℕ) where
  -- a text is past the limit of a file, or is refused as the text of any values
  abbrev Verdict : RequestFault → Type 0
  Verdict why = ((FILE_LIMIT < length text) × (BadRequest why ≡ BadRequest (Text 1 1 too_long))) ⊎ ((length text ≤ FILE_LIMIT) × IsTextCause (inputs w) text (of_text why))

  by_length : (why : RequestFault) → IsRequestFault w text why
      → Verdict why
  by_length (Text line column reason) (inl long) =
      inl (long.long, ap (λ l. BadRequest (Text l column reason)) long.line_is ∙ ap₂ (λ c y. BadRequest (Text 1 c y)) long.column_is long.reason_is)
  by_length (Text line column reason) (inr (within, fault)) = inr (within, fault)
  by_length (Value path reason) (within, bad) = inr (within, bad)

  -- the text of a request is not refused
  pub request_or_fault : (q : Graph) (why : RequestFault) → IsRequestText w text q → IsRequestFault w text why → ⊥
  request_or_fault q why is fault = by (by_length why fault)
    where
      by : Verdict why → ⊥
      by (inl (long, e)) = let within = is.within in omega (arith, long, within)
      by (inr (within, cause)) = not_memory why (good_cause (inputs w) side text q is.reads is.conforms (of_text why) cause)

  -- it reads as one request
  pub one_request : (q p : Graph) → IsRequestText w text q → IsRequestText w text p → q ≡ p
  one_request q p x y = one_graph (inputs w) text q p side x.reads y.reads

  -- and it is refused in one way
  by_fault : (why because : RequestFault) → IsTextCause (inputs w) text (of_text why) → IsTextCause (inputs w) text (of_text because) → of_text because ≡ of_text why
  by_fault (Text line column reason) because fault cause = settle (fault_cause (inputs w) side text line column reason fault (of_text because) cause)
    where
      settle : ((of_text because ≡ Memory) ⊎ (of_text because ≡ BadText line column reason)) → of_text because ≡ BadText line column reason
      settle (inl e) = absurd (not_memory because e)
      settle (inr e) = e
  by_fault (Value path reason) because bad cause = settle (misfit_cause (inputs w) side text bad.graph path reason bad.reads bad.misfit (of_text because) cause)
    where
      settle : ((of_text because ≡ Memory) ⊎ (of_text because ≡ BadValue path reason)) → of_text because ≡ BadValue path reason
      settle (inl e) = absurd (not_memory because e)
      settle (inr e) = e

  pub one_request_fault : (why because : RequestFault) → IsRequestFault w text why → IsRequestFault w text because → BadRequest because ≡ BadRequest why
  one_request_fault why because x y = by (by_length why x) (by_length because y)
    where
      by : Verdict why
          → Verdict because
          → BadRequest because ≡ BadRequest why
      by (inl (long, e)) (inl (also, d)) = d ∙ sym e
      by (inl (long, e)) (inr (within, cause)) = absurd (omega (arith, long, within))
      by (inr (within, fault)) (inl (long, d)) = absurd (omega (arith, long, within))
      by (inr (within, fault)) (inr (also, cause)) = same_fault why because (by_fault why because fault cause)
