-- For the code: what a part of a walk does to the whole of it. No definition of the language stands here.
use Rattle.std.specs.Prelude.{◌≡◌, ℕ, ◌≤◌, List, ◌++◌, length, Option, Result, Ok, Err, IfErr}
use Rattle.nd_base.specs.Over.{FilesSeen}
use Rattle.idl_scope.specs.declared.name_fault.NameFault.{NameFault}
use Rattle.idl_names.specs.Causes.{IsAbsent, IsFailed}
use Rattle.idl_names.specs.Walk.{Source, State, Due, Ending, Stopped, Walk, names_of, most_files}

-- The names that were asked for since are those of the sources that were added since, in order.
pub record Asked (before : List (List ℕ)) (sources : List Source) (after : List (List ℕ)) (more : List Source) : Type 0 where
  pub added : List Source
  pub sources_are : more ≡ sources ++ added
  pub asked_are : after ≡ before ++ names_of added

-- what is seen of files, and how far the walk has come
pub record Point : Type 0 where
  pub held : Option (List ℕ → Option (List ℕ))
  pub asked : List (List ℕ)
  pub absences : ℕ
  pub faults : ℕ
  pub state : State

abbrev pub point : FilesSeen → State → Point
point seen state = record { held = seen.held; asked = seen.asked; absences = seen.absences; faults = seen.faults; state = state }

-- At Ok, what ends from the later state with what is left due ends so from the earlier one. At Err the walk ends there.
abbrev pub Leads : {A : Type 0} → Option (List ℕ → Option (List ℕ)) → State → List Due → State → List Due → Result A NameFault → Type 0
Leads held before dues after left (Ok a) = (rest : List Due) (e : Ending) → Walk held after (left ++ rest) e → Walk held before (dues ++ rest) e
Leads held before dues after left (Err f) = (rest : List Due) → Walk held before (dues ++ rest) (Stopped after.sources f)

-- From a point where this was due the walk has come to another where this is left, or ended there.
pub record Went {A : Type 0} (before : Point) (dues : List Due) (after : Point) (left : List Due) (result : Result A NameFault) : Type 0 where
  pub leads : Leads before.held before.state dues after.state left result
  pub same : after.held ≡ before.held
  pub asked : Asked before.asked before.state.sources after.asked after.state.sources
  pub absent : IfErr result (IsAbsent before.absences after.absences)
  pub failed : IfErr result (IsFailed before.faults after.faults)
  pub later : before.faults ≤ after.faults
  pub absences_later : before.absences ≤ after.absences
  pub more : length before.state.sources ≤ length after.state.sources
  pub few : length after.state.sources ≤ most_files
