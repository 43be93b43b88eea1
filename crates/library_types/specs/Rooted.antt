-- Roots, in numbers that cross to C.
-- `o` is an operation, `r` a root.
use Rattle.std.specs.Prelude.{ℕ, Bool, true, false, not, Option, Some, None, is_some, slice_get}
use Rattle.nd_types.specs.declared.types.Operation.{Operation}
use Rattle.nd_types.specs.declared.types.Param.{Param}
use Rattle.nd_types.specs.declared.types.Way.{Way}
use Rattle.nd_types.specs.declared.types.Way.TheVariants as way
use Rattle.nd_types.specs.Roots.{NamedRoot}
use Rattle.library_types.specs.declared.roots.RootDescription.{RootDescription}
use Rattle.library_types.specs.Described.{bit}

abbrev pub way_number : Way → ℕ
way_number way.In = 1
way_number way.Out = 2
way_number way.InOut = 3

-- the direction of a parameter, where it is there
abbrev pub way_of_param : Option Param → ℕ
way_of_param (Some p) = way_number p.way
way_of_param None = 0

-- the direction of the parameter that a root is; the result is sent with the response
abbrev pub way_of : Operation → Option ℕ → ℕ
way_of o (Some k) = way_of_param (slice_get o.params k)
way_of o None = 2

abbrev pub root_described : Operation → NamedRoot → RootDescription
root_described o r = record { of = r.of; way = way_of o r.param; is_result = bit (not (is_some r.param)); is_pipe = bit r.is_pipe }
