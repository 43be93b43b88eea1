-- All that `run` promises, as one record: a row for each of its clauses.
use Rattle.std.specs.Prelude.{◌≡◌, ◌≢◌, ◌⊎◌, ℕ, false, List, [], ◌∷◌, None, Some, codes}
use Rattle.nd_base.specs.Over.{SinkOver, HasRisen, Got}
use Rattle.command_line.specs.Words.{Command, command}
use Rattle.command_refusals.specs.declared.refusal.Refusal.{Refusal}
use Rattle.command_streams.specs.Delivery.{IsOneOf, IsCompleted}
use Rattle.dceidl.specs.Asked.{Asks, Seen}
use Rattle.dceidl.specs.Causes.{statuses_of}
use Rattle.dceidl.specs.Rows.{IsDone, IsRefused, AreUnknown, tells_refused, ReadsInput, IsDueAndMissing, IsDueAndReported, IsEndReported}
use Rattle.dceidl.specs.Rows.{HasNotFailed, IsSound, CanBeDone, MustBeRefused, Refuses}
use Rattle.dceidl.specs.Run.{HasRun}

-- what `run` promises of a command line
pub record IsRun (line : List (List ℕ)) (x : Seen) (out notes : SinkOver) (status : ℕ) : Type 0 where
  pub whole : HasRun line x out notes status
  pub asked : Asks x (command line)
  pub statuses : (c : Command) → command line ≡ Some c → IsOneOf (statuses_of c) status
  pub words : status ≡ 2 → AreUnknown (command line)
  pub words_exactly : command line ≡ None → IsOneOf (2 ∷ 4 ∷ 5 ∷ []) status
  pub words_line : status ≡ 2 → Got notes (codes "words refused\n")
  pub read : status ≡ 3 → HasRisen x.input.faults × ReadsInput (command line)
  pub write : status ≡ 4 → HasRisen out.faults ⊎ HasRisen notes.faults
  pub absent : status ≡ 7 → HasRisen x.files.absences × IsDueAndMissing (command line) x.files.held notes
  pub file : status ≡ 9 → HasRisen x.files.faults × IsDueAndReported (command line) x.files.held notes
  pub end : status ≡ 8 → IsEndReported x.ends notes
  pub quiet : status ≡ 0 → notes.written_now ≡ notes.written
  pub nothing_given : tells_refused (command line) ≡ false → status ≢ 0 → status ≢ 4 → out.written_now ≡ out.written
  pub unfailed : HasNotFailed x out notes → IsOneOf (0 ∷ 1 ∷ 2 ∷ 5 ∷ 6 ∷ []) status
  pub done : (c : Command) → command line ≡ Some c → status ≡ 0 → IsDone x out notes c
  pub refused : (c : Command) → command line ≡ Some c → status ≢ 0 → status ≢ 4 → status ≢ 5 → IsRefused x out notes c status
  pub complete : (c : Command) → command line ≡ Some c → IsSound x notes → CanBeDone x c → IsCompleted out status
  pub exactly : (c : Command) (r : Refusal) → command line ≡ Some c → IsSound x notes → MustBeRefused x c r → Refuses c notes status r
