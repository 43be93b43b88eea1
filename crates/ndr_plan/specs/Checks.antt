-- The agreements of a side by the numbers of its parameters.
-- `here` and `asked` are the numbers of parameters among the roots of this side and of the request, `i` is a root's number, `a` an attribute.
use Rattle.std.specs.Prelude.{ℕ, ◌+◌, List, [], ◌∷◌, ◌++◌, slice_get, Option, Some, None}
use Rattle.std.specs.List.{flat_map}
use Rattle.nd_types.specs.declared.types.AttrVar.{AttrVar}
use Rattle.nd_types.specs.declared.types.Param.{Param}
use Rattle.nd_types.specs.declared.types.Operation.{Operation}
use Rattle.nd_types.specs.declared.types.Side.{Side}
use Rattle.nd_types.specs.Roots.{NamedRoot}
use Rattle.ndr_code.specs.declared.instr.Instr.{Instr}
use Rattle.ndr_code.specs.declared.instr.Instr.TheVariants as op
use Rattle.ndr_code.specs.Code.{given_check}

-- an attribute of the i-th root, by the number of its variable on this side and in the request
abbrev pub check_found : Side → ℕ → AttrVar → Option ℕ → Option ℕ → List Instr
check_found s i a (Some v) asked = op.Check a.attr i v a.star ∷ []
check_found s i a None asked = given_check s i a asked

abbrev pub check_by : Side → (ℕ → Option ℕ) → (ℕ → Option ℕ) → ℕ → AttrVar → List Instr
check_by s here asked i a = check_found s i a (here a.var) (asked a.var)

-- the attributes of a parameter; the result and what is no parameter have none
abbrev pub vars_in : Option Param → List AttrVar
vars_in (Some p) = p.field.vars
vars_in None = []

abbrev pub vars_at : Operation → Option ℕ → List AttrVar
vars_at o (Some i) = vars_in (slice_get o.params i)
vars_at o None = []

-- the agreements of roots, from the i-th on
abbrev pub checks_by : (ℕ → AttrVar → List Instr) → Operation → ℕ → List NamedRoot → List Instr
checks_by check o i [] = []
checks_by check o i (r ∷ rs) = flat_map (check i) (vars_at o r.param) ++ checks_by check o (i + 1) rs
