-- What a comparison comes to that asks for the first place at which versions differ, as the outcome of its command.
use Rattle.std.proofs.Common.{◌≡◌, ◌∙◌, ℕ, true, List, [], Option, Some, None, refl, ap, sym, subst, inl, inr}
use Rattle.std.specs.Prelude.{option_map}
use Rattle.idl_grammar.specs.Files.{Idl}
use Rattle.nd_base.specs.Over.{FilesOver}
use Rattle.command_compile.specs.Compiled.{FileNames}
use Rattle.command_compile.specs.Compat.{IsBeside, IsPlaceWritten}
use Rattle.command_line.specs.Words.{Command, Compat}
use Rattle.command_refusals.specs.Lines.{status_of, line_of}
use Rattle.command_refusals.specs.declared.refusal.CompatFault.TheVariants as fault
use Rattle.command_refusals.specs.declared.refusal.Refusal.{Refusal}
use Rattle.command_refusals.specs.declared.refusal.Refusal.TheVariants.{Memory, Absent, FileFailed, BadIdl, NoOperation, ReadFault, BadOctets, BadText, BadValue, TooLong, BadRequest, BadLabel}
use Rattle.command_refusals.specs.declared.refusal.Refusal.TheVariants.{ShortLabel, TooFewEnds, EndFailed}
use Rattle.command_refusals.specs.declared.refusal.Refusal.TheVariants.{BadPdu, NotCompatible, BadScript, LongScript}
use Rattle.command_streams.specs.declared.outcome.Outcome.{Outcome}
use Rattle.command_streams.specs.declared.outcome.Outcome.TheVariants.{Done, Refused, Reported, Wanting}
use Rattle.dceidl.specs.Causes.{IsUntold}
use Rattle.dceidl.specs.Held.{IsComparedOutcome}
use Rattle.dceidl.specs.Run.{IsCommandOutcome}
use Rattle.dceidl.specs.Asked.{Seen}

-- a place is beside the refusal of an operation alone
pub told_at : (f : FilesOver) (old new : FileNames) (r : Refusal) (text : List ℕ) → IsBeside f old new r (Some text) → (status : ℕ) (line : List ℕ) → status ≡ status_of r
    → line ≡ line_of [] [] r → IsComparedOutcome f old new (Reported text status line)
told_at f old new (NotCompatible (fault.Differs name)) text written status line s l = (name, written, s, l)
told_at f old new (NotCompatible fault.OtherUuid) text written status line s l = absurd written
told_at f old new (NotCompatible (fault.OtherMajor m n)) text written status line s l = absurd written
told_at f old new (NotCompatible (fault.OlderMinor m n)) text written status line s l = absurd written
told_at f old new (NotCompatible (fault.Fewer m n)) text written status line s l = absurd written
told_at f old new Memory text written status line s l = absurd written
told_at f old new (Absent file) text written status line s l = absurd written
told_at f old new (FileFailed file) text written status line s l = absurd written
told_at f old new (BadIdl file row column why) text written status line s l = absurd written
told_at f old new NoOperation text written status line s l = absurd written
told_at f old new (TooLong many) text written status line s l = absurd written
told_at f old new ReadFault text written status line s l = absurd written
told_at f old new (BadOctets place why) text written status line s l = absurd written
told_at f old new (BadText row column why) text written status line s l = absurd written
told_at f old new (BadValue path why) text written status line s l = absurd written
told_at f old new (BadRequest why) text written status line s l = absurd written
told_at f old new (BadLabel why) text written status line s l = absurd written
told_at f old new ShortLabel text written status line s l = absurd written
told_at f old new (TooFewEnds wanted found) text written status line s l = absurd written
told_at f old new (EndFailed which) text written status line s l = absurd written
told_at f old new (BadPdu place why) text written status line s l = absurd written
told_at f old new (BadScript row) text written status line s l = absurd written
told_at f old new LongScript text written status line s l = absurd written

module _ (x : Seen) (old : Idl) (old_acf : Option (List ℕ)) (new : Idl) (new_acf : Option (List ℕ)) where
  abbrev asked : Command
  asked = Compat old old_acf new new_acf true

  untold : (f : FilesOver) (a b : FileNames) (r : Refusal) → IsBeside f a b r None → IsUntold (Compat old old_acf new new_acf true) r
  untold f a b (NotCompatible (fault.Differs name)) beside = beside
  untold f a b (NotCompatible fault.OtherUuid) beside = tt
  untold f a b (NotCompatible (fault.OtherMajor m n)) beside = tt
  untold f a b (NotCompatible (fault.OlderMinor m n)) beside = tt
  untold f a b (NotCompatible (fault.Fewer m n)) beside = tt
  untold f a b Memory beside = tt
  untold f a b (Absent file) beside = tt
  untold f a b (FileFailed file) beside = tt
  untold f a b (BadIdl file line column why) beside = tt
  untold f a b NoOperation beside = tt
  untold f a b (TooLong many) beside = tt
  untold f a b ReadFault beside = tt
  untold f a b (BadOctets place why) beside = tt
  untold f a b (BadText line column why) beside = tt
  untold f a b (BadValue path why) beside = tt
  untold f a b (BadRequest why) beside = tt
  untold f a b (BadLabel why) beside = tt
  untold f a b ShortLabel beside = tt
  untold f a b (TooFewEnds wanted found) beside = tt
  untold f a b (EndFailed which) beside = tt
  untold f a b (BadPdu place why) beside = tt
  untold f a b (BadScript line) beside = tt
  untold f a b LongScript beside = tt

  abbrev first : FileNames
  first = record { idl = old; acf = old_acf }

  abbrev second : FileNames
  second = record { idl = new; acf = new_acf }

  as_outcome : (o : Outcome) → IsComparedOutcome x.files first second o → IsCommandOutcome x (Compat old old_acf new new_acf true) o
  as_outcome (Done made) h = h
  as_outcome (Refused status line) (r, cause, beside, s, l) =
      record { refusal = r; cause = cause; status_is = s; line_is = l; untold = untold x.files first second r beside }
  as_outcome (Reported text status line) (name, written, s, l) =
      inr (record { refusal = NotCompatible (fault.Differs name); beside = (name, refl, written); status_is = s; line_is = l })
  as_outcome Wanting h = h

  pub compared_outcome : (c : Command) (o : Outcome) → c ≡ Compat old old_acf new new_acf true → IsComparedOutcome x.files first second o → IsCommandOutcome x c o
  compared_outcome c o is h = subst (λ k. IsCommandOutcome x k o) (sym is) (as_outcome o h)
