-- The line of a root by its number of a parameter.
-- `o` is an operation, `p` a parameter, `i` its index, `r` a root.
use Rattle.std.specs.Prelude.{ℕ, List, [], ◌∷◌, slice_get, Option, Some, None, decimal}
use Rattle.nd_types.specs.declared.types.AttrVar.{AttrVar}
use Rattle.nd_types.specs.declared.types.Param.{Param}
use Rattle.nd_types.specs.declared.types.Operation.{Operation}
use Rattle.nd_types.specs.declared.types.Side.{Side}
use Rattle.nd_types.specs.Fields.{param_fields}
use Rattle.nd_types.specs.Roots.{NamedRoot}
use Rattle.idl_listing.specs.Listing.{line, side_word, attrs_words}

-- the attributes of a parameter; the result and what is no parameter have none
abbrev pub vars_in : Option Param → List AttrVar
vars_in (Some p) = p.field.vars
vars_in None = []

abbrev pub vars_at : Operation → Option ℕ → List AttrVar
vars_at o (Some i) = vars_in (slice_get o.params i)
vars_at o None = []

-- the line of a root, from its name, its type and which parameter it is
abbrev pub named_line : Operation → Side → NamedRoot → List ℕ
named_line o s r = line (side_word s ∷ r.name ∷ decimal r.of ∷ attrs_words (param_fields o) (vars_at o r.param))
