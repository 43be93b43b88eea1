-- What an instruction after the roots of a side tries.
-- `w` is a setting, `g` a graph, `i` the number of the root whose attribute it is, `v` that of the root that is its variable.
use Rattle.std.specs.Prelude.{ℕ, ℤ, Bool, List, [], Option, Some, None}
use Rattle.nd_value.specs.declared.value.Graph.{Graph}
use Rattle.nd_value.specs.Agreement.{agreement, starred}
use Rattle.nd_value.specs.Setting.{Setting, root_at}
use Rattle.nd_grammar.specs.Entry.{Entry}
use Rattle.nd_grammar.specs.Stream.{root_test}
use Rattle.ndr_code.specs.declared.instr.Instr.{Instr}
use Rattle.ndr_code.specs.declared.instr.Instr.TheVariants as op

-- a number of the request, if one is given
abbrev pub given_number : Bool → ℕ → Option Graph → Option ℤ
given_number star v None = None
given_number star v (Some q) = starred q star (root_at q v)

-- the agreement of an attribute of a root with the number that its variable is, in this graph or in the request
abbrev pub tried : Setting → Graph → Instr → List Entry
tried w g (op.Check attr i v star) = root_test g i (root_at g i) (agreement attr (starred g star (root_at g v)))
tried w g (op.Given attr i v star) = root_test g i (root_at g i) (agreement attr (given_number star v w.given))
tried w g _ = []
