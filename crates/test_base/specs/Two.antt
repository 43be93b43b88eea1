-- The operations of an interface: void put([in] long n, [in] hyper value); void take([in] small which, [in] short more);
use Rattle.std.specs.Prelude.{List, [], ◌∷◌, None, codes}
use Rattle.nd_types.specs.declared.types.Operation.{Operation}
use Rattle.nd_types.specs.Plain.{plain_param}

abbrev pub put : Operation
put = record { name = codes "put"; params = plain_param (codes "n") 7 ∷ plain_param (codes "value") 9 ∷ []; result = None }

abbrev pub take : Operation
take = record { name = codes "take"; params = plain_param (codes "which") 3 ∷ plain_param (codes "more") 5 ∷ []; result = None }

abbrev pub two_operations : List Operation
two_operations = put ∷ take ∷ []
