-- The order of deferral by the rule for full pointers alone, as C706 words it (14.3.12): the referent of a full pointer that
-- stands already does not stand again; the referent of any other pointer is at each pointer to it.
use Rattle.std.specs.Prelude.{◌≡◌, ℕ, List, [], ◌∷◌, ◌++◌, Option, Some, None}
use Rattle.nd_types.specs.declared.types.Class.{Class}
use Rattle.nd_types.specs.declared.types.Class.TheVariants.{Ref, Unique, Full}
use Rattle.nd_value.specs.declared.value.Graph.{Graph}
use Rattle.nd_value.specs.Setting.{Setting, Among}
use Rattle.nd_value.specs.Deferral.{Due, due_root, due_referent, Step, root_stands, referent_stands, stands_already, Pending, due_of, standing_root}
use Rattle.nd_value.specs.Deferral.{standing_cell}

-- the cell that joins those that stand for full pointers
abbrev pub full_one : Class → ℕ → List ℕ
full_one Full c = c ∷ []
full_one _ c = []

-- The steps for what is due, in order, where full pointers' cells stand already: as in `Deferral`, but without its condition that
-- no cell stands twice. So it has steps for graphs too in which pointers of other classes share a cell.
pub data RepeatedDeferral (w : Setting) (g : Graph) : List ℕ → List Due → List Step → Type 0 where
  nothing : {done : List ℕ} → RepeatedDeferral w g done [] []
  root : {done : List ℕ} {i : ℕ} {due : List Due} {steps : List Step}
      → RepeatedDeferral w g done (due_of w.table (standing_root w g i) ++ due) steps
      → RepeatedDeferral w g done (due_root i ∷ due) (root_stands i ∷ steps)
  null : {done : List ℕ} {p : Pending} {due : List Due} {steps : List Step}
      → p.cell ≡ None
      → RepeatedDeferral w g done due steps
      → RepeatedDeferral w g done (due_referent p ∷ due) steps
  met_again : {done : List ℕ} {p : Pending} {due : List Due} {steps : List Step} (c : ℕ)
      → p.cell ≡ Some c
      → p.class ≡ Full
      → Among done c
      → RepeatedDeferral w g done due steps
      → RepeatedDeferral w g done (due_referent p ∷ due) (stands_already p c ∷ steps)
  referent : {done : List ℕ} {p : Pending} {due : List Due} {steps : List Step} (c : ℕ)
      → p.cell ≡ Some c
      → ¬ ((p.class ≡ Full) × Among done c)
      → RepeatedDeferral w g (full_one p.class c ++ done) (due_of w.table (standing_cell g p c) ++ due) steps
      → RepeatedDeferral w g done (due_referent p ∷ due) (referent_stands p c ∷ steps)
