-- Texts that are fitted, from what the steps answer.
use Rattle.std.proofs.Common.{◌≡◌, ℕ, List, Option, None, Result, Ok, Err, IfOk, IfErr, sym, subst}
use Rattle.nd_types.specs.declared.interface.Interface.{Interface}
use Rattle.nd_types.specs.declared.types.Operation.{Operation}
use Rattle.nd_types.specs.declared.types.Side.{Side}
use Rattle.nd_value.specs.declared.item.Home.{Home}
use Rattle.nd_value.specs.declared.misfit.MisfitReason.{MisfitReason}
use Rattle.nd_value.specs.declared.value.Graph.{Graph}
use Rattle.nd_value.specs.Setting.{Setting}
use Rattle.nd_value.specs.Conforms.{IsFirstMisfit}
use Rattle.nd_value.specs.Fitting.{Fitting, setting_of, setting_beside}
use Rattle.text_grammar.specs.Paths.{IsPath}
use Rattle.text_grammar.specs.declared.fault.TextFault.{TextFault}
use Rattle.text_grammar.specs.declared.fault.TextFault.TheVariants as fault
use Rattle.text_grammar.specs.Reads.{ReadsAs, IsFault}
use Rattle.command_refusals.specs.declared.refusal.Refusal.{Refusal}
use Rattle.command_refusals.specs.declared.refusal.Refusal.TheVariants.{Memory, Absent, FileFailed, BadIdl, NoOperation, ReadFault, BadOctets, BadText, BadValue, TooLong, BadRequest, BadLabel}
use Rattle.command_refusals.specs.declared.refusal.Refusal.TheVariants.{ShortLabel, TooFewEnds, EndFailed}
use Rattle.command_refusals.specs.declared.refusal.Refusal.TheVariants.{BadPdu, NotCompatible, BadScript, LongScript}
use Rattle.command_encode.specs.Encoded.{IsTextCause, IsValueCause, IsMisfitAt}
use Rattle.command_encode.proofs.Beside.{reads_beside, fault_beside, path_beside}
use Rattle.command_encode.proofs.Paths.{misfit_path}

-- ## Refusals

-- a graph that is refused is a text that is refused
module _ (w : Setting) (text : List ℕ) (g : Graph) (reads : ReadsAs w text g) where
  text_cause : (e : Refusal) → IsValueCause w g e → IsTextCause w text e
  text_cause Memory cause = tt
  text_cause (BadValue path reason) misfit = record { graph = g; reads = reads; misfit = misfit }
  text_cause (BadText line column reason) cause = absurd cause
  text_cause (BadOctets place why) cause = absurd cause
  text_cause (Absent file) cause = absurd cause
  text_cause (FileFailed file) cause = absurd cause
  text_cause (BadIdl file line column reason) cause = absurd cause
  text_cause NoOperation cause = absurd cause
  text_cause (TooLong many) cause = absurd cause
  text_cause ReadFault cause = absurd cause
  text_cause (BadRequest fault) cause = absurd cause
  text_cause (BadLabel fault) cause = absurd cause
  text_cause ShortLabel cause = absurd cause
  text_cause (TooFewEnds wanted found) cause = absurd cause
  text_cause (EndFailed which) cause = absurd cause
  text_cause (BadPdu spot because) cause = absurd cause
  text_cause (NotCompatible differing) cause = absurd cause
  text_cause (BadScript row) cause = absurd cause
  text_cause LongScript cause = absurd cause

  pub text_refused : (result : Result Fitting Refusal) → IfErr result (IsValueCause w g) → IfErr result (IsTextCause w text)
  text_refused (Ok f) cause = tt
  text_refused (Err e) cause = text_cause e cause

-- a fit of a graph that a text reads as is read from the text, beside any request
pub read_is : (i : Interface) (o : Operation) (s : Side) (q : Option Graph) (text : List ℕ) (g : Graph) (n : ℕ) → ReadsAs (setting_of i o s) text g → (result : Result Fitting Refusal)
    → IfOk result (λ f. f ≡ record { graph = g; op = n; side = s; interface = i; given = q }) → IfOk result (λ f. ReadsAs (setting_beside i o s q) text f.graph)
read_is i o s q text g n reads (Ok f) fits =
    subst (λ (x : Fitting). ReadsAs (setting_beside i o s q) text x.graph) (sym fits) (reads_beside i o s None q text g reads)
read_is i o s q text g n reads (Err e) fits = tt

-- a text that was not read is refused, beside any request
pub fault_is : (i : Interface) (o : Operation) (s : Side) (q : Option Graph) (text : List ℕ) (e : TextFault) → IsFault (setting_of i o s) text e → IsFault (setting_beside i o s q) text e
fault_is i o s q text fault.Memory h = tt
fault_is i o s q text (fault.At line column why) h = fault_beside i o s None q text line column why h

-- the first misfit is reported at its path
misfit_of : (w : Setting) (g : Graph) (h : Home) (n : ℕ) (reason : MisfitReason) (path : List ℕ)
    → IsFirstMisfit w g (record { home = h; node = n; reason = reason }) → ((p : List ℕ) → IsPath w g h n p → path ≡ p) → IsMisfitAt w g path reason
misfit_of w g h n reason path first only =
    let own = misfit_path w g (record { home = h; node = n; reason = reason }) first in
    record { home = h; node = n; first = first; path_is = subst (IsPath w g h n) (sym (only own.path own.is_path)) own.is_path }

pub misfit_is : (i : Interface) (o : Operation) (s : Side) (q : Option Graph) (g : Graph) (h : Home) (n : ℕ) (reason : MisfitReason) (path : List ℕ)
    → IsFirstMisfit (setting_beside i o s q) g (record { home = h; node = n; reason = reason }) → ((p : List ℕ) → IsPath (setting_of i o s) g h n p → path ≡ p)
    → IsMisfitAt (setting_beside i o s q) g path reason
misfit_is i o s q g h n reason path first only =
    misfit_of (setting_beside i o s q) g h n reason path first (λ p is. only p (path_beside i o s q None g h n p is))
