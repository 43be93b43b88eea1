-- The lines of a script that are left, and those that are done.
use Rattle.std.specs.Prelude.{◌≡◌, ℕ, ◌*◌, ◌≤◌, List, ◌++◌, length}
use Rattle.ctx_session.specs.declared.answer.Answer.{Answer}
use Rattle.ctx_session.specs.Script.{Line, AreLines, opens_in}
use Rattle.ctx_session.specs.Session.{State, DoesLines, answer_lines}

-- Octets are lines, for which there is room in the store and in the output.
pub record AreLeft (octets : List ℕ) (spare room : ℕ) : Type 0 where
  pub lines : List Line
  pub are_lines : AreLines octets lines
  pub opens : opens_in lines ≤ spare
  pub fits : 16 * length lines ≤ room

-- The lines that octets are were done, and their answers were written.
pub record AreDone (octets : List ℕ) (start done : State) (before written : List ℕ) : Type 0 where
  pub lines : List Line
  pub answers : List Answer
  pub are_lines : AreLines octets lines
  pub did : DoesLines start lines answers done
  pub written_is : written ≡ before ++ answer_lines answers
