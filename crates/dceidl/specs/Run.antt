-- What a run comes to, and how it is written. Nothing here speaks of one command.
use Rattle.std.specs.Prelude.{◌≡◌, ◌⊎◌, ℕ, List, Option, None, Some, codes, ⊤}
use Rattle.nd_base.specs.Over.{SinkOver}
use Rattle.command_streams.specs.Delivery.{IsDelivered}
use Rattle.dceidl.specs.Asked.{Asks, Seen}
use Rattle.dceidl.specs.Causes.{IsMade, IsCause, IsWrittenBeside, IsUntold, IsUnexplained}
use Rattle.command_refusals.specs.Lines.{line_of, status_of}
use Rattle.command_why.specs.Explained.{explained}
use Rattle.command_why.specs.declared.lookup.Explained.TheVariants.{Found, Nearest}
use Rattle.command_line.specs.Words.{Command, command, idl_of, op_of}
use Rattle.command_refusals.specs.declared.refusal.Refusal.{Refusal}
use Rattle.command_streams.specs.declared.outcome.Outcome.{Outcome}
use Rattle.command_streams.specs.declared.outcome.Outcome.TheVariants.{Done, Refused, Reported, Wanting}

-- A command is refused with a line, under a status.
pub record IsRefusal (x : Seen) (c : Command) (status : ℕ) (line : List ℕ) : Type 0 where
  pub refusal : Refusal
  pub cause : IsCause x c refusal
  pub status_is : status ≡ status_of refusal
  pub line_is : line ≡ line_of (idl_of c) (op_of c) refusal
  pub untold : IsUntold c refusal

-- A command is refused with a line, under a status, and a text is written beside the line.
pub record IsReportedBeside (x : Seen) (c : Command) (text : List ℕ) (status : ℕ) (line : List ℕ) : Type 0 where
  pub refusal : Refusal
  pub beside : IsWrittenBeside x c refusal text
  pub status_is : status ≡ status_of refusal
  pub line_is : line ≡ line_of (idl_of c) (op_of c) refusal

-- What a command comes to. Without memory for a line there is a refusal with its cause all the same.
abbrev pub IsCommandOutcome : Seen → Command → Outcome → Type 0
IsCommandOutcome x c (Done made) = IsMade x c made
IsCommandOutcome x c (Refused status line) = IsRefusal x c status line
IsCommandOutcome x c (Reported text status line) =
    (IsUnexplained c text × (status ≡ 2) × (line ≡ codes "words refused\n")) ⊎ IsReportedBeside x c text status line
IsCommandOutcome x c Wanting = (refusal : Refusal) × IsCause x c refusal

-- what words of `why` come to
abbrev pub IsExplanation : List (List ℕ) → Outcome → Type 0
IsExplanation words (Done made) = explained words ≡ Found made
IsExplanation words (Refused status line) = ⊥
IsExplanation words (Reported text status line) = (explained words ≡ Nearest text) × (status ≡ 2) × (line ≡ codes "words refused\n")
IsExplanation words Wanting = ⊤

-- what words come to; None is words that are no command
abbrev pub IsOutcome : Seen → Option Command → Outcome → Type 0
IsOutcome x None outcome = (outcome ≡ Refused 2 (codes "words refused\n")) ⊎ (outcome ≡ Wanting)
IsOutcome x (Some c) outcome = IsCommandOutcome x c outcome

-- the whole of a run: what was asked for, an outcome with its cause, and how it was written
pub record HasRun (words : List (List ℕ)) (x : Seen) (out notes : SinkOver) (status : ℕ) : Type 0 where
  pub asked : Asks x (command words)
  pub outcome : Outcome
  pub caused : IsOutcome x (command words) outcome
  pub delivered : IsDelivered out notes outcome status
