-- Agreements: what an attribute states of its subject, and what is found there (C706 4.2.18 to 4.2.20); and the agreements of parameters.
use Rattle.std.specs.Prelude.{ℕ, ◌+◌, zero, suc, ℤ, pos, Bool, true, false, ◌+ℤ◌, ◌-ℤ◌, List, [], ◌∷◌, ◌++◌, length, Option, Some, None}
use Rattle.std.specs.List.{slice_get}
use Rattle.nd_types.specs.declared.types.Attr.{Attr}
use Rattle.nd_types.specs.declared.types.Attr.TheVariants as attr
use Rattle.nd_types.specs.declared.types.AttrVar.{AttrVar}
use Rattle.nd_types.specs.declared.types.Side.TheVariants as side
use Rattle.nd_types.specs.Roots.{roots_of, root_index}
use Rattle.nd_value.specs.declared.value.Graph.{Graph}
use Rattle.nd_value.specs.Tree as tree
use Rattle.nd_value.specs.Tree.{Tree, Trees, node, none, more, count, Label}
use Rattle.nd_value.specs.Setting.{Setting, root_list, root_at, cell_at}

-- ## What is stated, and what is found

-- `a` is an attribute or an attribute with its variable, `v` the value of the variable, `z` a whole number, `i` an index, `t`
-- a tree, `l` a label, `ks` its children.

-- an attribute with the number that it states
pub record Agreement : Type 0 where
  pub attr : Attr
  pub wanted : ℤ

-- the number that a value is, where it is one
abbrev pub number_of : Tree → Option ℤ
number_of (node (tree.Num z) ks) = Some z
number_of _ = None

-- the number of the i-th tree
abbrev pub number_in : Trees → ℕ → Option ℤ
number_in none i = None
number_in (more t ts) zero = number_of t
number_in (more t ts) (suc i) = number_in ts i

-- max_is states the greatest index, so its maximum count is one more
abbrev pub wanted_by : Attr → ℤ → ℤ
wanted_by attr.Max v = v +ℤ pos 1
wanted_by _ v = v

-- the agreement of an attribute, where its variable has a value
abbrev pub agreement : Attr → Option ℤ → List Agreement
agreement a None = []
agreement a (Some v) = record { attr = a; wanted = wanted_by a v } ∷ []

-- the agreements of a member's attributes, the members of its struct being these
abbrev pub member_agreements : Trees → List AttrVar → List Agreement
member_agreements ks [] = []
member_agreements ks (a ∷ rest) = agreement a.attr (number_in ks a.var) ++ member_agreements ks rest

-- how many items an array has, or octets a text with its terminator
abbrev pub actual : Label → Trees → ℕ
actual (tree.Text max octets) ks = length octets + 1
actual _ ks = count ks

-- maximum count, offset and tag of a node; 0 where it has none, since they are asked only where it has one
abbrev pub max_of : Label → ℕ
max_of (tree.Arr max offset) = max
max_of (tree.Text max octets) = max
max_of _ = 0

abbrev pub offset_of : Label → ℕ
offset_of (tree.Arr max offset) = offset
offset_of _ = 0

abbrev pub tag_of : Label → ℤ
tag_of (tree.Union tag) = tag
tag_of _ = pos 0

-- what is found in the subject of an attribute: of last_is the greatest index
abbrev pub found_in : Attr → Tree → ℤ
found_in attr.Size (node l ks) = pos (max_of l)
found_in attr.Max (node l ks) = pos (max_of l)
found_in attr.First (node l ks) = pos (offset_of l)
found_in attr.Length (node l ks) = pos (actual l ks)
found_in attr.Last (node l ks) = pos (offset_of l + actual l ks) -ℤ pos 1
found_in attr.Switch (node l ks) = tag_of l

-- ## The agreements of parameters: the values of the variables that their attributes name

-- `w` is a setting, `g` a graph, `q` the graph of a request, `r` a root, `i` its place among the roots, `j` and `k` are
-- indices of parameters, `a` is an attribute with its variable.

-- the number that a variable is, or with `*` the number in the cell that it names
abbrev pub starred : Graph → Bool → Tree → Option ℤ
starred g true (node (tree.Ptr (Some c)) ks) = number_of (cell_at g c)
starred g true _ = None
starred g false t = number_of t

-- the value of a variable in the request that is given beside the graph, if one is
abbrev pub given_value : Setting → AttrVar → Option Graph → Option ℤ
given_value w a None = None
given_value w a (Some q) =
    elim (root_index (roots_of w.table side.In w.op) a.var 0) [ None ↦ None | Some i ↦ starred q a.star (root_at q i) ]

-- The value of a parameter's variable: of a root of this side in the graph itself, else of an input in the given request. A
-- variable that travels in neither has no value, and fixes nothing.
abbrev pub variable : Setting → Graph → AttrVar → Option ℤ
variable w g a =
    elim (root_index (root_list w) a.var 0) [ None ↦ given_value w a w.given | Some i ↦ starred g a.star (root_at g i) ]

-- the agreements of a parameter's attributes
abbrev pub root_agreements : Setting → Graph → List AttrVar → List Agreement
root_agreements w g [] = []
root_agreements w g (a ∷ rest) = agreement a.attr (variable w g a) ++ root_agreements w g rest
