-- What the steps of `trace` answer, one after the other.
use Rattle.std.proofs.Common.{◌≡◌, ◌∙◌, ℕ, ◌≤◌, Bool, List, Option, Some, None, Result, Ok, Err, IfOk, IfErr, refl, ap, sym, subst, inl, inr}
use Rattle.nd_base.specs.declared.octets.Order.{Order}
use Rattle.nd_base.specs.Over.{FilesOver, IsUntouched, SourceOver}
use Rattle.nd_value.specs.Setting.{Setting}
use Rattle.ndr_pipe.specs.Ends.{AreAsBefore, EndsSeen}
use Rattle.command_decode.specs.Decoded.{AreLines, IsBeside, IsOther, IsStopped, IsTracedWhole}
use Rattle.command_line.specs.declared.command.OrderWord.{OrderWord}
use Rattle.command_line.specs.declared.command.OrderWord.TheVariants.{Fixed, Label}
use Rattle.command_line.specs.declared.command.Reading.TheVariants.{Trace}
use Rattle.command_line.specs.declared.command.Task.TheVariants.{Read}
use Rattle.command_line.specs.Words.{Command, Subject, Values, idl_of, op_of}
use Rattle.command_streams.specs.Input.{HasLabel, IsLabelCause}
use Rattle.command_refusals.specs.Lines.{line_of, status_of}
use Rattle.command_refusals.specs.declared.refusal.Refusal.{Refusal}
use Rattle.command_refusals.specs.declared.refusal.Refusal.TheVariants.{Memory, Absent, FileFailed, BadIdl, NoOperation, ReadFault, BadOctets, BadText, BadValue, TooLong, BadRequest, BadLabel}
use Rattle.command_refusals.specs.declared.refusal.Refusal.TheVariants.{ShortLabel, TooFewEnds, EndFailed}
use Rattle.command_refusals.specs.declared.refusal.Refusal.TheVariants.{BadPdu, NotCompatible, BadScript, LongScript}
use Rattle.command_streams.specs.declared.outcome.Outcome.TheVariants.{Reported}
use Rattle.command_encode.specs.Encoded.{HoldsNoRequest}
use Rattle.command_decode.specs.declared.tracing.Stopped.{Stopped}
use Rattle.dceidl.specs.Causes.{IsCause, IsMade, IsUntold, IsWrittenBeside}
use Rattle.dceidl.specs.Input.{IsAfterLabel, IsMadeOf, IsOpened, IsTaskCause}
use Rattle.dceidl.specs.Ready.{IsAllReady, IsReadyCause, IsUnready}
use Rattle.dceidl.specs.Run.{IsCommandOutcome}
use Rattle.dceidl.specs.Asked.{Seen, seen_over}
use Rattle.dceidl.specs.Tracing.{AreTaskLines, IsAllBeside, IsStoppedCommand, IsStoppedTask}
use Rattle.dceidl.proofs.Labels.{over}

-- ## The octets, after their label

module _ (s rest : SourceOver) (word : OrderWord) (order : Order) (w : Setting) (opened : IsOpened word s rest order) where
  opened_lines : (r : Refusal) (lines : Option (List ℕ)) → IsBeside rest w order r lines → AreTaskLines s word w r lines
  opened_lines r (Some text) h = (rest, order, opened, h)
  opened_lines r None h = h

  pub opened_made : (answer : Result (List ℕ) Stopped) → IfOk answer (IsTracedWhole rest w order)
      → IfOk answer (λ made. (e : EndsSeen) → IsMadeOf s e (Read Trace word) w made)
  opened_made (Ok made) h = λ e. (rest, order, opened, h)
  opened_made (Err r) h = tt

  pub opened_stopped : (answer : Result (List ℕ) Stopped) → IfErr answer (IsStopped rest w order) → IfErr answer (IsStoppedTask s word w)
  opened_stopped (Ok made) h = tt
  opened_stopped (Err r) h = record { cause = λ e kept. inr (rest, order, opened, h.cause); lines = opened_lines r.refusal r.lines h.beside }

-- a label is refused beside no lines
label_other : (s : SourceOver) (r : Refusal) → IsLabelCause s r → IsOther r
label_other s Memory cause = tt
label_other s (Absent file) cause = tt
label_other s (FileFailed file) cause = tt
label_other s (BadIdl file line column reason) cause = tt
label_other s NoOperation cause = tt
label_other s ReadFault cause = tt
label_other s (BadOctets place why) cause = absurd cause
label_other s (BadText line column reason) cause = tt
label_other s (BadValue path reason) cause = tt
label_other s (TooLong many) cause = tt
label_other s (BadRequest fault) cause = tt
label_other s (BadLabel fault) cause = tt
label_other s ShortLabel cause = tt
label_other s (TooFewEnds wanted found) cause = tt
label_other s (EndFailed which) cause = tt
label_other s (BadPdu spot because) cause = tt
label_other s (NotCompatible differing) cause = tt
label_other s (BadScript row) cause = tt
label_other s LongScript cause = tt

pub unlabelled : (s : SourceOver) (w : Setting) (r : Refusal) → IsLabelCause s r → IsStoppedTask s Label w (record { refusal = r; lines = None })
unlabelled s w r cause = record { cause = λ e kept. inl (cause, kept); lines = label_other s r cause }

-- ## A command

untold : (word : OrderWord) (of : Subject) (given : Option (List ℕ)) (r : Refusal) → IsOther r → IsUntold (Values (Read Trace word) of given) r
untold word of given Memory other = tt
untold word of given (Absent file) other = tt
untold word of given (FileFailed file) other = tt
untold word of given (BadIdl file line column reason) other = tt
untold word of given NoOperation other = tt
untold word of given ReadFault other = tt
untold word of given (BadOctets place why) other = other
untold word of given (BadText line column reason) other = tt
untold word of given (BadValue path reason) other = tt
untold word of given (TooLong many) other = tt
untold word of given (BadRequest fault) other = tt
untold word of given (BadLabel fault) other = tt
untold word of given ShortLabel other = tt
untold word of given (TooFewEnds wanted found) other = tt
untold word of given (EndFailed which) other = tt
untold word of given (BadPdu spot because) other = tt
untold word of given (NotCompatible differing) other = tt
untold word of given (BadScript row) other = tt
untold word of given LongScript other = tt

module _ (x : Seen) (word : OrderWord) (of : Subject) (given : Option (List ℕ)) where
  module _ (w : Setting) (ready : IsAllReady x.files of given w) where
    command_lines : (r : Refusal) (lines : Option (List ℕ)) → AreTaskLines x.input word w r lines → IsAllBeside x (Values (Read Trace word) of given) r lines
    command_lines r (Some text) (rest, order, opened, h) = (w, ready, rest, order, opened, h)
    command_lines r None h = untold word of given r h

    pub ready_stopped : AreAsBefore x.ends → (h : Stopped) → IsStoppedTask x.input word w h → IsStoppedCommand x (Values (Read Trace word) of given) h
    ready_stopped kept h t = record { cause = inr (w, ready, t.cause x.ends kept); beside = command_lines h.refusal h.lines t.lines }

  pub ready_made : (w : Setting) → IsAllReady x.files of given w → (made : List ℕ) → IsMadeOf x.input x.ends (Read Trace word) w made
      → IsMade x (Values (Read Trace word) of given) made
  ready_made w ready made m = (w, ready, m)

-- once all is ready
module _ (f : FilesOver) (s : SourceOver) (word : OrderWord) (of : Subject) (given : Option (List ℕ)) (w : Setting) (ready : IsAllReady f of given w) where
  pub prepared_made : (answer : Result (List ℕ) Stopped) → IfOk answer (λ made. (e : EndsSeen) → IsMadeOf s e (Read Trace word) w made)
      → IfOk answer (λ made. (e : EndsSeen) → IsMade (seen_over f s e) (Values (Read Trace word) of given) made)
  prepared_made (Ok made) h = λ e. ready_made (seen_over f s e) word of given w ready made (h e)
  prepared_made (Err r) h = tt

  pub prepared_stopped : (answer : Result (List ℕ) Stopped) → IfErr answer (IsStoppedTask s word w)
      → IfErr answer (λ h. (e : EndsSeen) → AreAsBefore e → IsStoppedCommand (seen_over f s e) (Values (Read Trace word) of given) h)
  prepared_stopped (Ok made) h = tt
  prepared_stopped (Err r) h = λ e kept. ready_stopped (seen_over f s e) word of given w ready kept r h

-- what is not ready is refused beside no lines
ready_other : (f : FilesOver) (of : Subject) (r : Refusal) → IsReadyCause f of r → IsOther r
ready_other f of Memory cause = tt
ready_other f of (Absent file) cause = tt
ready_other f of (FileFailed file) cause = tt
ready_other f of (BadIdl file line column reason) cause = tt
ready_other f of NoOperation cause = tt
ready_other f of ReadFault cause = tt
ready_other f of (BadOctets place why) cause = absurd cause
ready_other f of (BadText line column reason) cause = tt
ready_other f of (BadValue path reason) cause = tt
ready_other f of (TooLong many) cause = tt
ready_other f of (BadRequest fault) cause = tt
ready_other f of (BadLabel fault) cause = tt
ready_other f of ShortLabel cause = tt
ready_other f of (TooFewEnds wanted found) cause = tt
ready_other f of (EndFailed which) cause = tt
ready_other f of (BadPdu spot because) cause = tt
ready_other f of (NotCompatible differing) cause = tt
ready_other f of (BadScript row) cause = tt
ready_other f of LongScript cause = tt

request_other : (f : FilesOver) (name : List ℕ) (w : Setting) (r : Refusal) → HoldsNoRequest f name w r → IsOther r
request_other f name w Memory cause = tt
request_other f name w (Absent file) cause = tt
request_other f name w (FileFailed file) cause = tt
request_other f name w (BadIdl file line column reason) cause = tt
request_other f name w NoOperation cause = tt
request_other f name w ReadFault cause = tt
request_other f name w (BadOctets place why) cause = absurd cause
request_other f name w (BadText line column reason) cause = tt
request_other f name w (BadValue path reason) cause = tt
request_other f name w (TooLong many) cause = tt
request_other f name w (BadRequest fault) cause = tt
request_other f name w (BadLabel fault) cause = tt
request_other f name w ShortLabel cause = tt
request_other f name w (TooFewEnds wanted found) cause = tt
request_other f name w (EndFailed which) cause = tt
request_other f name w (BadPdu spot because) cause = tt
request_other f name w (NotCompatible differing) cause = tt
request_other f name w (BadScript row) cause = tt
request_other f name w LongScript cause = tt

unready_other : (f : FilesOver) (of : Subject) (given : Option (List ℕ)) (r : Refusal) → IsUnready f of given r → IsOther r
unready_other f of None r cause = ready_other f of r cause
unready_other f of (Some name) r (inl cause) = ready_other f of r cause
unready_other f of (Some name) r (inr u) = request_other f name u.own r u.cause

pub unready_stopped : (x : Seen) (word : OrderWord) (of : Subject) (given : Option (List ℕ)) (r : Refusal) → IsUnready x.files of given r → IsUntouched x.input → AreAsBefore x.ends
    → IsStoppedCommand x (Values (Read Trace word) of given) (record { refusal = r; lines = None })
unready_stopped x word of given r cause untouched kept =
    record { cause = inl (cause, untouched, kept); beside = untold word of given r (unready_other x.files of given r cause) }

-- ## The outcome

line_is : (idl op other own line : List ℕ) (r : Refusal) → idl ≡ other → op ≡ own → line ≡ line_of other own r → line ≡ line_of idl op r
line_is idl op other own line r a b l = l ∙ ap (λ z. line_of z own r) (sym a) ∙ ap (λ z. line_of idl z r) (sym b)

module _ (x : Seen) (c : Command) (h : Stopped) (b : IsStoppedCommand x c h) (status : ℕ) (s : status ≡ status_of h.refusal) (idl op line : List ℕ) (a : idl_of c ≡ idl)
    (o : op_of c ≡ op) (l : line ≡ line_of idl op h.refusal) where
  pub reported : (text : List ℕ) → h.lines ≡ Some text → IsCommandOutcome x c (Reported text status line)
  reported text is = inr (record {
    refusal = h.refusal;
    beside = subst (IsAllBeside x c h.refusal) is b.beside;
    status_is = s;
    line_is = line_is (idl_of c) (op_of c) idl op line h.refusal a o l;
  })

-- an answer at one list of ends
pub at_ends : (x : EndsSeen → Seen) (c : Command) (answer : Result (List ℕ) Stopped) → IfOk answer (λ made. (e : EndsSeen) → IsMade (x e) c made) → (e : EndsSeen)
    → IfOk answer (IsMade (x e) c)
at_ends x c (Ok made) h e = h e
at_ends x c (Err r) h e = tt

pub stopped_at : (x : EndsSeen → Seen) (c : Command) (answer : Result (List ℕ) Stopped)
    → IfErr answer (λ h. (e : EndsSeen) → AreAsBefore e → IsStoppedCommand (x e) c h) → (e : EndsSeen) → AreAsBefore e → IfErr answer (IsStoppedCommand (x e) c)
stopped_at x c (Ok made) h e kept = tt
stopped_at x c (Err r) h e kept = h e kept

-- ## A label

module _ (l m n : Option (List ℕ)) (u t : Bool) (f0 f1 f2 : ℕ) (later : f0 ≤ f1) (order : Order) (is : HasLabel (over l m u f0 f1) order) where
  pub after_label : IsAfterLabel (over l n t f0 f2) (over m n t f1 f2) order
  after_label = record { label = is.label; taken = is.taken; is_label = (is.four, is.states); left_now = refl; ended = refl; faults = refl; later = later }
