-- Graphs whose numbers and tags have at most 20 digits, as those of every graph that conforms have.
use Rattle.std.specs.Prelude.{◌≡◌, ◌^◌, Bool, true, nat_lt, unsigned_abs}
use Rattle.std.specs.List.{list_all}
use Rattle.nd_value.specs.declared.value.Graph.{Graph}
use Rattle.nd_value.specs.Tree as tree
use Rattle.nd_value.specs.Tree.{Label}
use Rattle.nd_value.specs.Setting.{Setting}
use Rattle.nd_value.specs.Conforms.{all_nodes}

abbrev pub is_short : Label → Bool
is_short (tree.Num z) = nat_lt (unsigned_abs z) (10 ^ 20)
is_short (tree.Union z) = nat_lt (unsigned_abs z) (10 ^ 20)
is_short l = true

abbrev pub HasShortNumbers : Setting → Graph → Type 0
HasShortNumbers w g = list_all (λ x. is_short x.typed.label) (all_nodes w g) ≡ true
