-- What a session comes to, and how it is written.
use Rattle.std.specs.Prelude.{◌≡◌, ◌⊎◌, ℕ, ◌<◌, ◌≤◌, true, List, [], length, codes, ⊤}
use Rattle.std.specs.Io.KnownBytes.{Consumes, IsAtEnd}
use Rattle.nd_base.specs.Over.{SourceOver, SinkOver, HasRisen, IsAsBefore}
use Rattle.command_refusals.specs.declared.refusal.Refusal.{Refusal}
use Rattle.command_refusals.specs.declared.refusal.Refusal.TheVariants.{Memory, ReadFault, BadScript, LongScript}
use Rattle.command_refusals.specs.Lines.{status_of, line_of}
use Rattle.command_streams.specs.Input.{AreRead}
use Rattle.command_streams.specs.Delivery.{IsGiven, IsReported}
use Rattle.ctx_session.specs.declared.answer.Answer.{Answer}
use Rattle.ctx_session.specs.Script.{Line, AreLines, IsBadLine}
use Rattle.ctx_session.specs.Session.{IsSession, answer_lines}
use Rattle.ctx_session.specs.Accounts.{IsAccounted}
use Rattle.ctx_session.specs.Outcome.{StockSeen, IsUntouched}

-- the most octets of a script
abbrev pub script_limit : ℕ
script_limit = 1048576

-- input and stock over a session
pub record SessionSeen : Type 0 where
  pub input : SourceOver
  pub stock : StockSeen

abbrev pub session_over : SourceOver → StockSeen → SessionSeen
session_over s k = record { input = s; stock = k }

-- The input was read to its end and is a script. Its lines were done one after the other with these answers, and then all that was live was ended.
-- Each resource of the stock is accounted for. The text is the answers, a line each.
pub record IsSessionDone (x : SessionSeen) (made : List ℕ) : Type 0 where
  pub script : List ℕ
  pub taken : Consumes x.input.left x.input.left_now script
  pub whole : x.input.ended_now ≡ true
  pub none_left : IsAtEnd x.input.left_now
  pub few : length script ≤ script_limit
  pub lines : List Line
  pub answers : List Answer
  pub are_lines : AreLines script lines
  pub session : IsSession x.stock.fresh x.stock.spent lines answers x.stock.fresh_now x.stock.spent_now
  pub accounted : IsAccounted x.stock.fresh x.stock.spent lines answers x.stock.fresh_now x.stock.spent_now
  pub made_is : made ≡ answer_lines answers

-- The input has more octets than a script may have.
pub record IsLong (s : SourceOver) : Type 0 where
  pub octets : List ℕ
  pub read : AreRead s script_limit octets
  pub many : script_limit < length octets

-- The line of this number, from 1, is the first of the input that is none.
pub record HasBadLine (s : SourceOver) (line : ℕ) : Type 0 where
  pub octets : List ℕ
  pub read : AreRead s script_limit octets
  pub few : length octets ≤ script_limit
  pub bad : IsBadLine octets line

-- why a session is refused; running out of memory needs no cause
abbrev pub IsSessionCause : SourceOver → Refusal → Type 0
IsSessionCause s Memory = ⊤
IsSessionCause s ReadFault = HasRisen s.faults
IsSessionCause s LongScript = IsLong s
IsSessionCause s (BadScript line) = HasBadLine s line
IsSessionCause s _ = ⊥

-- A session was refused for a cause, and the stock is as before.
pub record IsSessionRefused (x : SessionSeen) (refusal : Refusal) : Type 0 where
  pub cause : IsSessionCause x.input refusal
  pub untouched : IsUntouched x.stock

-- How a session ends. It was done, and its answers are given, or out failed; or it was refused, and its line is reported, or notes failed.
abbrev pub HasSession : SessionSeen → SinkOver → SinkOver → ℕ → Type 0
HasSession x out notes status =
    ((made : List ℕ) × IsSessionDone x made × IsGiven out notes made status)
    ⊎ ((refusal : Refusal) × IsSessionRefused x refusal × IsAsBefore out × IsReported notes (line_of [] [] refusal) (status_of refusal) status)

-- ## On the way

-- why a script is not run
abbrev pub IsRunCause : List ℕ → Refusal → Type 0
IsRunCause script Memory = ⊤
IsRunCause script LongScript = script_limit < length script
IsRunCause script (BadScript line) = (length script ≤ script_limit) × IsBadLine script line
IsRunCause script _ = ⊥

-- A script was not run, for a cause, and the stock is as before.
pub record IsNotRun (script : List ℕ) (stock : StockSeen) (refusal : Refusal) : Type 0 where
  pub cause : IsRunCause script refusal
  pub untouched : IsUntouched stock

-- a refusal is reported, or want of memory in its place
abbrev pub IsRefusalDelivered : SinkOver → SinkOver → Refusal → ℕ → Type 0
IsRefusalDelivered out notes refusal status =
    IsAsBefore out × (IsReported notes (line_of [] [] refusal) (status_of refusal) status ⊎ IsReported notes (codes "want of memory\n") 5 status)
