-- Lists that are made of declarators, each with its type.
use Rattle.std.proofs.Common.{◌≡◌, ℕ, ◌≤◌, sym, ap, ◌∙◌, List, [], ◌∷◌, ◌++◌, drop, length, refl, append-nil}
use Rattle.std.proofs.lemmas.List.{drop_all}
use Rattle.nd_types.specs.declared.types.TypeId.{TypeId}
use Rattle.idl_rule_definitions.specs.Nodes.{Declared}
use Rattle.idl_interface.specs.Made.{each_with}

each_none : {X : Type 0} (make : Declared → TypeId → X) (ds : List Declared) → each_with make ds [] ≡ []
each_none make [] = refl
each_none make (d ∷ ds) = refl

-- no type is left
pub each_end : {X : Type 0} (make : Declared → TypeId → X) (ds : List Declared) (ts : List TypeId) (i : ℕ) (done all : List X) → length ts ≤ i → done ++ each_with make ds (drop i ts) ≡ all
    → done ≡ all
each_end make ds ts i done all past before =
    sym (ap (λ l. done ++ l) (ap (each_with make ds) (drop_all i ts past) ∙ each_none make ds) ∙ append-nil done) ∙ before
