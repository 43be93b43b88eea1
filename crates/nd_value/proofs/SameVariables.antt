-- The agreements of parameters are the same in two graphs whose roots give the same numbers.
use Rattle.std.proofs.Common.{◌≡◌, ℕ, ℤ, Bool, List, [], ◌∷◌, ◌++◌, Option, Some, None, refl, ap₂}
use Rattle.nd_types.specs.declared.types.AttrVar.{AttrVar}
use Rattle.nd_types.specs.Roots.{root_index}
use Rattle.nd_value.specs.declared.value.Graph.{Graph}
use Rattle.nd_value.specs.Agreement.{agreement, starred, given_value, variable, root_agreements}
use Rattle.nd_value.specs.Setting.{Setting, root_list, root_at}

module _ (w : Setting) (g g' : Graph) (same : (i : ℕ) (star : Bool) → starred g star (root_at g i) ≡ starred g' star (root_at g' i)) where
  abbrev by_index : Graph → AttrVar → Option ℕ → Option ℤ
  by_index k a o = elim o [ None ↦ given_value w a w.given | Some i ↦ starred k a.star (root_at k i) ]

  index_same : (a : AttrVar) (o : Option ℕ) → by_index g a o ≡ by_index g' a o
  index_same a None = refl
  index_same a (Some i) = same i a.star

  variable_same : (a : AttrVar) → variable w g a ≡ variable w g' a
  variable_same a = index_same a (root_index (root_list w) a.var 0)

  pub agreements_same : (vars : List AttrVar) → root_agreements w g vars ≡ root_agreements w g' vars
  agreements_same [] = refl
  agreements_same (a ∷ rest) = ap₂ (λ u v. agreement a.attr u ++ v) (variable_same a) (agreements_same rest)
