-- What the commands on values answer, from what their steps answer.
use Rattle.std.proofs.Common.{◌≡◌, ◌∙◌, ℕ, ◌<◌, true, false, Bool, List, length, Some, None, Result, Ok, Err, IfOk, IfErr, refl, sym, ap, subst, inr}
use Rattle.nd_types.specs.declared.interface.Interface.{Interface}
use Rattle.nd_types.specs.declared.types.Operation.{Operation}
use Rattle.nd_types.specs.Roots.{operation_named}
use Rattle.nd_value.specs.Setting.{Setting}
use Rattle.nd_types.specs.declared.types.Side.{Side}
use Rattle.nd_value.specs.Fitting.{setting_of}
use Rattle.dceidl.specs.declared.ready.Ready.{Ready}
use Rattle.ndr_pipe.specs.Ends.{EndSeen, EndsSeen}
use Rattle.dceidl.specs.Asked.{AsksEnds, Seen}
use Rattle.command_line.specs.declared.command.OrderWord.{OrderWord}
use Rattle.command_line.specs.declared.command.Task.{Task}
use Rattle.command_line.specs.Words.{Subject, Values}
use Rattle.dceidl.specs.Causes.{IsMade, IsCause}
use Rattle.text_grammar.specs.declared.TheConstants.{TEXT_LIMIT}
use Rattle.command_encode.specs.Encoded.{IsTextCause}
use Rattle.dceidl.specs.Input.{IsLabelledEncoding, IsEncodingCause, IsMigration, OfText, IsMadeOf, IsTaskCause, IsInputTextCause, IsInputEncodingCause}
use Rattle.command_refusals.specs.declared.refusal.Refusal.{Refusal}
use Rattle.command_refusals.specs.declared.refusal.Refusal.TheVariants.{Memory, Absent, FileFailed, BadIdl, NoOperation, ReadFault, BadOctets, BadText, BadValue, TooLong, BadRequest, BadLabel}
use Rattle.command_refusals.specs.declared.refusal.Refusal.TheVariants.{ShortLabel, TooFewEnds, EndFailed}
use Rattle.command_refusals.specs.declared.refusal.Refusal.TheVariants.{BadPdu, NotCompatible, BadScript, LongScript}
use Rattle.nd_base.specs.Over.{FilesOver, SourceOver}
use Rattle.dceidl.specs.Ready.{IsFound, IsReady, IsReadyCause, IsNotFound}
use Rattle.command_compile.specs.Compiled.{IsCompiled, IsIdlCause}
use Rattle.command_streams.specs.Input.{AreRead}
use Rattle.nd_lemmas.proofs.Lists.{item_at}

-- an interface that files mean, and its operation, are ready
pub found_is : (f : FilesOver) (of : Subject) (i : Interface) → IsCompiled f of.idl of.acf i → (result : Result Ready Refusal)
    → IfOk result (λ r. r.interface ≡ i) → IfOk result (λ r. operation_named i.operations of.op ≡ Some r.number) → IfOk result (λ r. r.side ≡ of.side)
    → IfOk result (λ r. r.number < length r.interface.operations)
    → IfOk result (λ r. (o : Operation) × IsFound f of r.interface r.number o)
found_is f of i compiled (Ok r) same named sided known =
    let (o, there) = item_at r.interface.operations r.number known in (
      o,
      record {
        compiled = subst (IsCompiled f of.idl of.acf) (sym same) compiled;
        named = record { found = ap (λ (j : Interface). operation_named j.operations of.op) same ∙ named; is_there = there };
      },
    )
found_is f of i compiled (Err e) same named sided known = tt

pub not_found : (f : FilesOver) (of : Subject) (i : Interface) → IsCompiled f of.idl of.acf i → (e : Refusal) → IsNotFound i of.op e
    → IsReadyCause f of e
not_found f of i compiled NoOperation cause = (i, compiled, cause)
not_found f of i compiled (TooLong many) cause = absurd cause
not_found f of i compiled Memory cause = absurd cause
not_found f of i compiled (Absent file) cause = absurd cause
not_found f of i compiled (FileFailed file) cause = absurd cause
not_found f of i compiled (BadIdl file line column reason) cause = absurd cause
not_found f of i compiled ReadFault cause = absurd cause
not_found f of i compiled (BadOctets place why) cause = absurd cause
not_found f of i compiled (BadText line column reason) cause = absurd cause
not_found f of i compiled (BadValue path reason) cause = absurd cause
not_found f of i compiled (BadRequest fault) cause = absurd cause
not_found f of i compiled (BadLabel fault) cause = absurd cause
not_found f of i compiled ShortLabel cause = absurd cause
not_found f of i compiled (TooFewEnds wanted found) cause = absurd cause
not_found f of i compiled (EndFailed which) cause = absurd cause
not_found f of i compiled (BadPdu spot because) cause = absurd cause
not_found f of i compiled (NotCompatible differing) cause = absurd cause
not_found f of i compiled (BadScript row) cause = absurd cause
not_found f of i compiled LongScript cause = absurd cause

-- an operation that is not found is the cause
pub find_refused : (f : FilesOver) (of : Subject) (i : Interface) → IsCompiled f of.idl of.acf i → (result : Result Ready Refusal)
    → IfErr result (IsNotFound i of.op) → IfErr result (IsReadyCause f of)
find_refused f of i compiled (Ok r) cause = tt
find_refused f of i compiled (Err e) cause = not_found f of i compiled e cause

-- why the files mean no interface is why they are refused
pub idl_refused : (f : FilesOver) (of : Subject) (e : Refusal) → IsIdlCause f of.idl of.acf e → IsReadyCause f of e
idl_refused f of Memory cause = tt
idl_refused f of (Absent file) cause = cause
idl_refused f of (FileFailed file) cause = cause
idl_refused f of (BadIdl file line column reason) cause = cause
idl_refused f of NoOperation cause = absurd cause
idl_refused f of (TooLong many) cause = absurd cause
idl_refused f of ReadFault cause = absurd cause
idl_refused f of (BadOctets place why) cause = absurd cause
idl_refused f of (BadText line column reason) cause = absurd cause
idl_refused f of (BadValue path reason) cause = absurd cause
idl_refused f of (BadRequest fault) cause = absurd cause
idl_refused f of (BadLabel fault) cause = absurd cause
idl_refused f of ShortLabel cause = absurd cause
idl_refused f of (TooFewEnds wanted found) cause = absurd cause
idl_refused f of (EndFailed which) cause = absurd cause
idl_refused f of (BadPdu spot because) cause = absurd cause
idl_refused f of (NotCompatible differing) cause = absurd cause
idl_refused f of (BadScript row) cause = absurd cause
idl_refused f of LongScript cause = absurd cause

-- ## What is made of the text of the input

module _ (s : SourceOver) (w : Setting) (text : List ℕ) (read : AreRead s TEXT_LIMIT text) where
  text_cause : (e : Refusal) → IsTextCause w text e → IsInputTextCause s w e
  text_cause Memory cause = tt
  text_cause ReadFault cause = absurd cause
  text_cause (Absent file) cause = (text, read, cause)
  text_cause (FileFailed file) cause = (text, read, cause)
  text_cause (BadIdl file line column reason) cause = (text, read, cause)
  text_cause NoOperation cause = (text, read, cause)
  text_cause (BadOctets place why) cause = (text, read, cause)
  text_cause (BadText line column reason) cause = (text, read, cause)
  text_cause (BadValue path reason) cause = (text, read, cause)
  text_cause (TooLong many) cause = (text, read, cause)
  text_cause (BadRequest fault) cause = (text, read, cause)
  text_cause (BadLabel fault) cause = (text, read, cause)
  text_cause ShortLabel cause = (text, read, cause)
  text_cause (TooFewEnds wanted found) cause = (text, read, cause)
  text_cause (EndFailed which) cause = (text, read, cause)
  text_cause (BadPdu spot because) cause = (text, read, cause)
  text_cause (NotCompatible differing) cause = (text, read, cause)
  text_cause (BadScript row) cause = (text, read, cause)
  text_cause LongScript cause = (text, read, cause)

  encoding_cause : (chunk : ℕ) (e : Refusal) → IsEncodingCause w chunk text e → IsInputEncodingCause s w chunk e
  encoding_cause chunk (TooLong many) cause = (text, read, cause)
  encoding_cause chunk Memory cause = tt
  encoding_cause chunk ReadFault cause = absurd cause
  encoding_cause chunk (Absent file) cause = (text, read, cause)
  encoding_cause chunk (FileFailed file) cause = (text, read, cause)
  encoding_cause chunk (BadIdl file line column reason) cause = (text, read, cause)
  encoding_cause chunk NoOperation cause = (text, read, cause)
  encoding_cause chunk (BadOctets place why) cause = (text, read, cause)
  encoding_cause chunk (BadText line column reason) cause = (text, read, cause)
  encoding_cause chunk (BadValue path reason) cause = (text, read, cause)
  encoding_cause chunk (BadRequest fault) cause = (text, read, cause)
  encoding_cause chunk (BadLabel fault) cause = (text, read, cause)
  encoding_cause chunk ShortLabel cause = (text, read, cause)
  encoding_cause chunk (TooFewEnds wanted found) cause = (text, read, cause)
  encoding_cause chunk (EndFailed which) cause = (text, read, cause)
  encoding_cause chunk (BadPdu spot because) cause = (text, read, cause)
  encoding_cause chunk (NotCompatible differing) cause = (text, read, cause)
  encoding_cause chunk (BadScript row) cause = (text, read, cause)
  encoding_cause chunk LongScript cause = (text, read, cause)

  pub text_refused : (result : Result (List ℕ) Refusal) → IfErr result (IsTextCause w text) → IfErr result (IsInputTextCause s w)
  text_refused (Ok made) cause = tt
  text_refused (Err e) cause = text_cause e cause

  pub encoding_refused : (chunk : ℕ) (result : Result (List ℕ) Refusal) → IfErr result (IsEncodingCause w chunk text) → IfErr result (IsInputEncodingCause s w chunk)
  encoding_refused chunk (Ok made) cause = tt
  encoding_refused chunk (Err e) cause = encoding_cause chunk e cause

  pub encoded : (order : OrderWord) (chunk : ℕ) (result : Result (List ℕ) Refusal) → IfOk result (IsLabelledEncoding w order chunk text)
      → IfOk result (λ made. OfText s (λ t. IsLabelledEncoding w order chunk t made))
  encoded order chunk (Ok made) e = (text, read, e)
  encoded order chunk (Err e) h = tt

  pub migrated : (result : Result (List ℕ) Refusal) → IfOk result (IsMigration w text) → IfOk result (λ made. OfText s (λ t. IsMigration w t made))
  migrated (Ok made) m = (text, read, m)
  migrated (Err e) h = tt

-- ends that were not called are left as they are
pub uncalled : (ends : List EndSeen) (t : Bool) → AsksEnds (record { before = ends; now = ends }) t
uncalled ends true = tt
uncalled ends false = refl

-- the task of the code
pub made_by : (s : SourceOver) (e : EndsSeen) (task own : Task) (w : Setting) → task ≡ own → (result : Result (List ℕ) Refusal) → IfOk result (IsMadeOf s e own w)
    → IfOk result (IsMadeOf s e task w)
made_by s e task own w is result h = subst (λ t. IfOk result (IsMadeOf s e t w)) (sym is) h

pub refused_by : (s : SourceOver) (e : EndsSeen) (task own : Task) (w : Setting) → task ≡ own → (result : Result (List ℕ) Refusal) → IfErr result (IsTaskCause s e own w)
    → IfErr result (IsTaskCause s e task w)
refused_by s e task own w is result h = subst (λ t. IfErr result (IsTaskCause s e t w)) (sym is) h

-- ## What a command on values answers

-- what it speaks of is ready, with the side of the code
pub ready_is : (f : FilesOver) (of : Subject) (i : Interface) (n : ℕ) (o : Operation) (side : Side) → IsFound f of i n o → side ≡ of.side → IsReady f of (setting_of i o side)
ready_is f of i n o side found same = record { interface = i; number = n; operation = o; found = found; setting_is = ap (setting_of i o) same }

module _ (x : Seen) (of : Subject) (w : Setting) (task : Task) (ready : IsReady x.files of w) where
  pub values_made : (result : Result (List ℕ) Refusal) → IfOk result (IsMadeOf x.input x.ends task w) → IfOk result (IsMade x (Values task of None))
  values_made (Ok made) is = (w, ready, is)
  values_made (Err e) is = tt

  pub values_refused : (result : Result (List ℕ) Refusal) → IfErr result (IsTaskCause x.input x.ends task w) → IfErr result (IsCause x (Values task of None))
  values_refused (Ok made) cause = tt
  values_refused (Err e) cause = inr (w, ready, cause)
