-- What is made of a text, from what the steps answer.
use Rattle.std.proofs.Common.{◌≡◌, ℕ, List, Option, Some, sym, ◌∙◌, ap, subst}
use Rattle.std.proofs.lemmas.Option.{same_Some}
use Rattle.std.specs.List.{slice_get}
use Rattle.nd_base.specs.declared.octets.Order.{Order}
use Rattle.nd_types.specs.declared.interface.Interface.{Interface}
use Rattle.nd_types.specs.declared.types.Operation.{Operation}
use Rattle.nd_types.specs.declared.types.Side.{Side}
use Rattle.nd_value.specs.declared.value.Graph.{Graph}
use Rattle.nd_value.specs.Setting.{Setting}
use Rattle.nd_value.specs.Conforms.{Conforms}
use Rattle.nd_value.specs.Fitting.{Fitting, IsFit, setting_beside}
use Rattle.command_encode.specs.Encoded.{IsWritten, IsWritingCause, IsTextCause}
use Rattle.text_grammar.specs.Written.{IsText}
use Rattle.text_grammar.specs.Reads.{ReadsAs}
use Rattle.command_refusals.specs.declared.refusal.Refusal.{Refusal}
use Rattle.command_refusals.specs.declared.refusal.Refusal.TheVariants.{Memory, Absent, FileFailed, BadIdl, NoOperation, ReadFault, BadOctets, BadText, BadValue, TooLong, BadRequest, BadLabel}
use Rattle.command_refusals.specs.declared.refusal.Refusal.TheVariants.{ShortLabel, TooFewEnds, EndFailed}
use Rattle.command_refusals.specs.declared.refusal.Refusal.TheVariants.{BadPdu, NotCompatible, BadScript, LongScript}
use Rattle.dceidl.specs.Input.{IsEncoding, IsEncodingCause, IsMigration}

-- why a text is refused is why it is not encoded
pub text_cause : (w : Setting) (chunk : ℕ) (text : List ℕ) (e : Refusal) → IsTextCause w text e → IsEncodingCause w chunk text e
text_cause w chunk text Memory cause = cause
text_cause w chunk text (Absent file) cause = cause
text_cause w chunk text (FileFailed file) cause = cause
text_cause w chunk text (BadIdl file line column reason) cause = cause
text_cause w chunk text NoOperation cause = cause
text_cause w chunk text ReadFault cause = cause
text_cause w chunk text (BadOctets place why) cause = cause
text_cause w chunk text (BadText line column reason) cause = cause
text_cause w chunk text (BadValue path reason) cause = cause
text_cause w chunk text (TooLong many) cause = absurd cause
text_cause w chunk text (BadRequest fault) cause = cause
text_cause w chunk text (BadLabel fault) cause = cause
text_cause w chunk text ShortLabel cause = cause
text_cause w chunk text (TooFewEnds wanted found) cause = cause
text_cause w chunk text (EndFailed which) cause = cause
text_cause w chunk text (BadPdu spot because) cause = absurd cause
text_cause w chunk text (NotCompatible differing) cause = absurd cause
text_cause w chunk text (BadScript row) cause = absurd cause
text_cause w chunk text LongScript cause = absurd cause

-- ## A fit of an operation's side

-- a fit is of this side of this operation, beside this request or none
pub record IsOfSide (f : Fitting) (i : Interface) (n : ℕ) (s : Side) (q : Option Graph) : Type 0 where
  pub tied : f.interface ≡ i
  pub number : f.op ≡ n
  pub side : f.side ≡ s
  pub beside : f.given ≡ q

module _ (f : Fitting) (i : Interface) (n : ℕ) (s : Side) (q : Option Graph) (of : IsOfSide f i n s q) (o : Operation) (there : slice_get i.operations n ≡ Some o) where
  pub its_operation : slice_get i.operations f.op ≡ Some o
  its_operation = subst (λ k. slice_get i.operations k ≡ Some o) (sym of.number) there

  -- what holds of its own setting holds of the operation's
  pub of_setting : (P : Setting → Type 0) → P (setting_beside i o f.side f.given) → P (setting_beside i o s q)
  of_setting P h = subst (λ r. P (setting_beside i o s r)) of.beside (subst (λ k. P (setting_beside i o k f.given)) of.side h)

  pub fit_conforms : IsFit f → Conforms (setting_beside i o s q) f.graph
  fit_conforms fit =
      let found : slice_get i.operations f.op ≡ Some fit.operation = ap (λ (j : Interface). slice_get j.operations f.op) (sym of.tied) ∙ fit.is_there in
      let same : fit.operation ≡ o = same_Some _ _ (sym found ∙ its_operation) in
      of_setting (λ w. Conforms w f.graph)
      (subst (λ p. Conforms (setting_beside i p f.side f.given) f.graph) same
      (subst (λ (j : Interface). Conforms (setting_beside j fit.operation f.side f.given) f.graph) of.tied fit.conforms))

  pub encoding_is : (order : Order) (chunk : ℕ) (text octets : List ℕ) → ReadsAs (setting_beside i o s q) text f.graph → IsFit f
      → IsWritten (setting_beside i o f.side f.given) order chunk f.graph octets → IsEncoding (setting_beside i o s q) order chunk text octets
  encoding_is order chunk text octets reads fit written = record {
    graph = f.graph;
    reads = reads;
    conforms = fit_conforms fit;
    written = of_setting (λ w. IsWritten w order chunk f.graph octets) written;
  }

  -- octets that are too many are why a text is not encoded
  cause_of : (chunk : ℕ) (text : List ℕ) → ReadsAs (setting_beside i o s q) text f.graph → IsFit f → (e : Refusal) → IsWritingCause (setting_beside i o s q) chunk f.graph e
      → IsEncodingCause (setting_beside i o s q) chunk text e
  cause_of chunk text reads fit (TooLong many) long = record { graph = f.graph; reads = reads; conforms = fit_conforms fit; long = long }
  cause_of chunk text reads fit Memory cause = tt
  cause_of chunk text reads fit (Absent file) cause = absurd cause
  cause_of chunk text reads fit (FileFailed file) cause = absurd cause
  cause_of chunk text reads fit (BadIdl file line column reason) cause = absurd cause
  cause_of chunk text reads fit NoOperation cause = absurd cause
  cause_of chunk text reads fit ReadFault cause = absurd cause
  cause_of chunk text reads fit (BadOctets place why) cause = absurd cause
  cause_of chunk text reads fit (BadText line column reason) cause = absurd cause
  cause_of chunk text reads fit (BadValue path reason) cause = absurd cause
  cause_of chunk text reads fit (BadRequest fault) cause = absurd cause
  cause_of chunk text reads fit (BadLabel fault) cause = absurd cause
  cause_of chunk text reads fit ShortLabel cause = absurd cause
  cause_of chunk text reads fit (TooFewEnds wanted found) cause = absurd cause
  cause_of chunk text reads fit (EndFailed which) cause = absurd cause
  cause_of chunk text reads fit (BadPdu spot because) cause = absurd cause
  cause_of chunk text reads fit (NotCompatible differing) cause = absurd cause
  cause_of chunk text reads fit (BadScript row) cause = absurd cause
  cause_of chunk text reads fit LongScript cause = absurd cause

  pub encoding_cause : (chunk : ℕ) (text : List ℕ) → ReadsAs (setting_beside i o s q) text f.graph → IsFit f → (e : Refusal)
      → IsWritingCause (setting_beside i o f.side f.given) chunk f.graph e → IsEncodingCause (setting_beside i o s q) chunk text e
  encoding_cause chunk text reads fit e cause = cause_of chunk text reads fit e (of_setting (λ w. IsWritingCause w chunk f.graph e) cause)

  pub migration_is : (text made : List ℕ) → ReadsAs (setting_beside i o s q) text f.graph → IsFit f → IsText (setting_beside i o f.side f.given) f.graph made
      → IsMigration (setting_beside i o s q) text made
  migration_is text made reads fit printed = record {
    graph = f.graph;
    reads = reads;
    conforms = fit_conforms fit;
    printed = of_setting (λ w. IsText w f.graph made) printed;
  }
