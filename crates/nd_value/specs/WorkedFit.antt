-- A worked example: an operation of three integers, void add([in] long a, [in] short b, [in] hyper c), with the numbers 1, 2 and 3.
use Rattle.std.specs.Prelude.{pos, List, [], ◌∷◌, None, codes}
use Rattle.nd_types.specs.declared.types.Param.{Param}
use Rattle.nd_types.specs.declared.types.Operation.{Operation}
use Rattle.nd_types.specs.Plain.{plain_param}
use Rattle.nd_value.specs.Tree as tree
use Rattle.nd_value.specs.Tree.{Tree, node, none}

abbrev pub add_params : List Param
add_params = plain_param (codes "a") 7 ∷ plain_param (codes "b") 5 ∷ plain_param (codes "c") 9 ∷ []

abbrev pub add : Operation
add = record { name = codes "add"; params = add_params; result = None }

abbrev pub one_two_three : List Tree
one_two_three = node (tree.Num (pos 1)) none ∷ node (tree.Num (pos 2)) none ∷ node (tree.Num (pos 3)) none ∷ []
