-- A worked example: an operation with a varying array, void put([in] long f, [in] long n, [in, first_is(f), length_is(n)] long a[8]).
use Rattle.std.specs.Prelude.{ℕ, List, [], ◌∷◌, ◌++◌, Some, None, true, false, codes}
use Rattle.nd_types.specs.declared.types.Attr.TheVariants as attr
use Rattle.nd_types.specs.declared.types.AttrVar.{AttrVar}
use Rattle.nd_types.specs.declared.types.Param.{Param}
use Rattle.nd_types.specs.declared.types.Operation.{Operation}
use Rattle.nd_types.specs.declared.types.TypeDef.TheVariants.{Array}
use Rattle.nd_types.specs.declared.types.Way.TheVariants as way
use Rattle.nd_types.specs.Table.{Table}
use Rattle.nd_types.specs.Kinds.{basic_types}

-- an [in] parameter of this name and type, with these attributes
abbrev pub in_param : List ℕ → ℕ → List AttrVar → Param
in_param name t vars = record { field = record { name = name; of = record { 0 = t }; vars = vars }; way = way.In }

-- first_is with the first parameter, and length_is with the second
abbrev pub put_range : List AttrVar
put_range = record { attr = attr.First; var = 0; star = false } ∷ record { attr = attr.Length; var = 1; star = false } ∷ []

abbrev pub put_params : List Param
put_params = in_param (codes "f") 7 [] ∷ in_param (codes "n") 7 [] ∷ in_param (codes "a") 12 put_range ∷ []

abbrev pub put : Operation
put = record { name = codes "put"; params = put_params; result = None }

-- the primitives, the context handle, and the array
abbrev pub put_types : Table
put_types = basic_types ++ (Array (record { 0 = 7 }) (Some 8) true ∷ [])
