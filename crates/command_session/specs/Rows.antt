-- What each status of a session says, and which of them comes if nothing fails.
use Rattle.std.specs.Prelude.{◌≡◌, ◌⊎◌, ℕ, ◌<◌, ◌≤◌, List, [], length}
use Rattle.nd_base.specs.Over.{SinkOver, HasRisen, Got, GotPrefix, IsAsBefore}
use Rattle.command_refusals.specs.declared.refusal.Refusal.{Refusal}
use Rattle.command_refusals.specs.declared.refusal.Refusal.TheVariants.{BadScript, LongScript}
use Rattle.command_refusals.specs.Lines.{status_of, line_of}
use Rattle.command_streams.specs.Delivery.{IsWarned}
use Rattle.ctx_session.specs.Script.{Line, AreLines, IsBadLine}
use Rattle.ctx_session.specs.Outcome.{IsUntouched}
use Rattle.command_session.specs.Session.{script_limit, SessionSeen, IsSessionDone, IsSessionRefused}

-- ## What a status says

-- A session was done, out grew by its answers, and notes are as before.
pub record IsAnswered (x : SessionSeen) (out notes : SinkOver) : Type 0 where
  pub made : List ℕ
  pub done : IsSessionDone x made
  pub given : Got out made
  pub quiet : IsAsBefore notes

-- A session was refused: for a cause, under its status and with its line on notes. Out and the stock are as before.
pub record IsRefusedWith (x : SessionSeen) (out notes : SinkOver) (status : ℕ) : Type 0 where
  pub refusal : Refusal
  pub refused : IsSessionRefused x refusal
  pub own_status : status ≡ status_of refusal
  pub line : Got notes (line_of [] [] refusal)
  pub nothing_given : IsAsBefore out

-- A session was done, but out failed: it has a prefix of the answers, and notes say so.
pub record IsCutShort (x : SessionSeen) (out notes : SinkOver) : Type 0 where
  pub made : List ℕ
  pub done : IsSessionDone x made
  pub risen : HasRisen out.faults
  pub given : GotPrefix out made
  pub warned : IsWarned notes

-- A session was refused, but notes failed: they have a prefix of the line. Out and the stock are as before.
pub record IsUnreported (x : SessionSeen) (out notes : SinkOver) : Type 0 where
  pub refusal : Refusal
  pub refused : IsSessionRefused x refusal
  pub risen : HasRisen notes.faults
  pub line : GotPrefix notes (line_of [] [] refusal)
  pub nothing_given : IsAsBefore out

-- ## Where nothing fails

-- no count rose
pub record HasNotFailed (x : SessionSeen) (out notes : SinkOver) : Type 0 where
  pub reads : HasRisen x.input.faults → ⊥
  pub writes : HasRisen out.faults → ⊥
  pub reports : HasRisen notes.faults → ⊥

-- these octets are a script
abbrev pub IsScript : List ℕ → Type 0
IsScript octets = (length octets ≤ script_limit) × ((lines : List Line) × AreLines octets lines)

-- these octets are refused as a script in this way
abbrev pub IsNoScript : List ℕ → Refusal → Type 0
IsNoScript octets LongScript = script_limit < length octets
IsNoScript octets (BadScript line) = (length octets ≤ script_limit) × IsBadLine octets line
IsNoScript octets _ = ⊥

-- a session is refused in this way, or it ran out of memory
abbrev pub Refuses : SinkOver → ℕ → Refusal → Type 0
Refuses notes status refusal = ((status ≡ status_of refusal) × Got notes (line_of [] [] refusal)) ⊎ (status ≡ 5)
