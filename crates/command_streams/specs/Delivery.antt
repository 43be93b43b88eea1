-- How what a run comes to is written.
use Rattle.std.specs.Prelude.{◌≡◌, ◌⊎◌, ℕ, List, [], ◌∷◌, codes}
use Rattle.nd_base.specs.Over.{SinkOver, HasRisen, Got, GotPrefix, IsAsBefore}
use Rattle.command_streams.specs.declared.outcome.Outcome.{Outcome}
use Rattle.command_streams.specs.declared.outcome.Outcome.TheVariants.{Done, Refused, Reported, Wanting}

-- `write fault` was written to notes, or a prefix of it if notes failed too
abbrev pub IsWarned : SinkOver → Type 0
IsWarned notes = Got notes (codes "write fault\n") ⊎ (HasRisen notes.faults × GotPrefix notes (codes "write fault\n"))

-- Out failed, what was made is cut short, and the status is 4.
abbrev pub IsCutShort : SinkOver → SinkOver → List ℕ → ℕ → Type 0
IsCutShort out notes text status = (status ≡ 4) × HasRisen out.faults × GotPrefix out text × IsWarned notes

-- What was made is given whole and the status is 0, or out failed, it is cut short, and the status is 4.
abbrev pub IsGiven : SinkOver → SinkOver → List ℕ → ℕ → Type 0
IsGiven out notes text status = ((status ≡ 0) × Got out text × IsAsBefore notes) ⊎ IsCutShort out notes text status

-- The line is written whole under its status, or notes failed, it is cut short, and the status is 4.
abbrev pub IsReported : SinkOver → List ℕ → ℕ → ℕ → Type 0
IsReported notes line own status =
    ((status ≡ own) × Got notes line)
    ⊎ ((status ≡ 4) × HasRisen notes.faults × GotPrefix notes line)

-- The text is given whole and then the line is reported, or out failed, the text is cut short, and the status is 4.
abbrev pub IsTold : SinkOver → SinkOver → List ℕ → List ℕ → ℕ → ℕ → Type 0
IsTold out notes text line own status = (Got out text × IsReported notes line own status) ⊎ IsCutShort out notes text status

-- How an outcome is written, and the status of the run. Status 4 takes the place of any other.
abbrev pub IsDelivered : SinkOver → SinkOver → Outcome → ℕ → Type 0
IsDelivered out notes (Done text) status = IsGiven out notes text status
IsDelivered out notes (Refused own line) status = IsAsBefore out × IsReported notes line own status
IsDelivered out notes (Reported text own line) status = IsTold out notes text line own status
IsDelivered out notes Wanting status = IsAsBefore out × IsReported notes (codes "want of memory\n") 5 status

-- a status is one of these
abbrev pub IsOneOf : List ℕ → ℕ → Type 0
IsOneOf [] status = ⊥
IsOneOf (s ∷ ss) status = (status ≡ s) ⊎ IsOneOf ss status

-- a command is completed: it is done, or it ran out of memory, or out failed
abbrev pub IsCompleted : SinkOver → ℕ → Type 0
IsCompleted out status = (status ≡ 0) ⊎ ((status ≡ 5) ⊎ ((status ≡ 4) × HasRisen out.faults))
