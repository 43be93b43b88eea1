-- The names of roots.
-- `o` is an operation, `r` a root.
use Rattle.std.proofs.Common.{◌≡◌, ℕ, Option, None, Some, codes, refl}
use Rattle.std.specs.List.{slice_get}
use Rattle.nd_types.specs.declared.types.Param.{Param}
use Rattle.nd_types.specs.declared.types.Operation.{Operation}
use Rattle.nd_types.specs.Roots.{Root, named_root, param_name, root_name as name_of}
use Rattle.text_grammar.specs.Written.{root_name, parameter_name}

-- a text's name of a root is the name that the walk over the roots gives
pub names_agree : (o : Operation) (r : Root) → root_name o.params r ≡ (named_root o r).name
names_agree o r = by_place r.param
  where
    by_param : (q : Option Param) → parameter_name q ≡ param_name q
    by_param None = refl
    by_param (Some q) = refl

    by_place : (p : Option ℕ) → elim p [ None ↦ codes "return" | Some i ↦ parameter_name (slice_get o.params i) ] ≡ name_of o p
    by_place None = refl
    by_place (Some i) = by_param (slice_get o.params i)
