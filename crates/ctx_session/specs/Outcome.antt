-- What a session comes to.
use Rattle.std.specs.Prelude.{◌≡◌, ℕ, ◌<◌, ◌≤◌, List, length, Result, MatchResult}
use Rattle.ctx_store.specs.Resource.{ResourceSeen}
use Rattle.ctx_session.specs.declared.answer.Answer.{Answer}
use Rattle.ctx_session.specs.declared.session.SessionFault.{SessionFault}
use Rattle.ctx_session.specs.declared.session.SessionFault.TheVariants.{TooLong, BadLine, Memory}
use Rattle.ctx_session.specs.Script.{Line, AreLines, IsBadLine}
use Rattle.ctx_session.specs.Session.{IsSession, answer_lines}
use Rattle.ctx_session.specs.declared.stock.StockOf.{StockOf}
use Rattle.ctx_session.specs.Stocked.{fresh_seen, spent_seen}

-- a stock over a call: its fresh resources and its spent ones, before and now
pub record StockSeen : Type 0 where
  pub fresh : List ResourceSeen
  pub spent : List ResourceSeen
  pub fresh_now : List ResourceSeen
  pub spent_now : List ResourceSeen

abbrev pub stock_over : {R : Type 0} → (R → ResourceSeen) → StockOf R → StockOf R → StockSeen
stock_over shows before now = record {
  fresh = fresh_seen shows before;
  spent = spent_seen shows before;
  fresh_now = fresh_seen shows now;
  spent_now = spent_seen shows now;
}

-- nothing was taken from it and nothing added
pub record IsUntouched (stock : StockSeen) : Type 0 where
  pub fresh : stock.fresh_now ≡ stock.fresh
  pub spent : stock.spent_now ≡ stock.spent

-- A script was done, and these are its answers.
pub record IsDone (script : List ℕ) (stock : StockSeen) (written : List ℕ) : Type 0 where
  pub lines : List Line
  pub answers : List Answer
  pub few : length script ≤ 1048576
  pub are_lines : AreLines script lines
  pub session : IsSession stock.fresh stock.spent lines answers stock.fresh_now stock.spent_now
  pub written_is : written ≡ answer_lines answers

-- why a script is not done
abbrev pub IsScriptCause : List ℕ → SessionFault → Type 0
IsScriptCause script TooLong = 1048576 < length script
IsScriptCause script (BadLine line) = (length script ≤ 1048576) × IsBadLine script line
IsScriptCause script Memory = Unit {0}

-- A script was not done, for a cause, and the stock is as before.
pub record IsNotDone (script : List ℕ) (stock : StockSeen) (fault : SessionFault) : Type 0 where
  pub cause : IsScriptCause script fault
  pub untouched : IsUntouched stock

-- what running a script comes to
abbrev pub HasRunScript : List ℕ → StockSeen → Result (List ℕ) SessionFault → Type 0
HasRunScript script stock result = MatchResult result (IsDone script stock) (IsNotDone script stock)
