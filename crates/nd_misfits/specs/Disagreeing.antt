-- How the fourth pass goes over the nodes of a graph: whether the attributes of members and parameters hold (C706 4.2.18 to 4.2.20).
-- `g` is a graph, `t` a type's number, `l` a label, `ks` and `vs` are values, `ags` the agreements of values, `n` is a node's number,
-- `h` a home, `o` an operation, `z` a number.
use Rattle.std.specs.Prelude.{◌≡◌, ℕ, ◌+◌, ◌^◌, ℤ, pos, int_le, Bool, true, if◌then◌else◌, List, [], ◌∷◌, Option, Some, None, Result, Ok, Err}
use Rattle.std.specs.List.{slice_get}
use Rattle.std.specs.Ordering.{int_eq}
use Rattle.nd_types.specs.declared.types.AttrVar.{AttrVar}
use Rattle.nd_types.specs.declared.types.Param.{Param}
use Rattle.nd_types.specs.declared.types.Operation.{Operation}
use Rattle.nd_types.specs.Table.{Table, type_at}
use Rattle.nd_value.specs.declared.value.Graph.{Graph}
use Rattle.nd_value.specs.declared.misfit.MisfitReason.{MisfitReason}
use Rattle.nd_value.specs.declared.misfit.MisfitReason.TheVariants as misfit
use Rattle.nd_value.specs.declared.misfit.NodeMisfit.{NodeMisfit}
use Rattle.nd_value.specs.Tree as tree
use Rattle.nd_value.specs.Tree.{Tree, Trees, Label, node, none, more, trees, node_count}
use Rattle.nd_value.specs.Agreement.{Agreement, number_in, root_agreements}
use Rattle.nd_value.specs.Setting.{Setting, cell_at}
use Rattle.nd_value.specs.Nodes.{child_types, child_agreements, first_agreements, rest_agreements}
use Rattle.nd_value.specs.Conforms.{MisfitAt, or_later, disagreement_of}
use Rattle.nd_value.specs.Passes.{or_next, at_number, at_home}
use Rattle.nd_misfits.specs.HomeList.{HomeTree}

-- what a node's agreements speak of: of a pointer its referent, of a null pointer nothing
abbrev pub subject_of : Graph → Label → Trees → List Tree
subject_of g (tree.Ptr None) ks = []
subject_of g (tree.Ptr (Some c)) ks = cell_at g c ∷ []
subject_of g l ks = node l ks ∷ []

abbrev pub subject_in : Graph → Tree → List Tree
subject_in g (node l ks) = subject_of g l ks

-- a number that is found against the one that is wanted
abbrev pub difference : ℤ → ℤ → Option MisfitReason
difference wanted found = if int_eq wanted found then None else Some (misfit.Disagrees wanted found)

-- the first node among values of these types whose agreements do not all hold, the nodes being numbered from n on
abbrev pub disagreeing_in : Table → Graph → List ℕ → List (List Agreement) → ℕ → Trees → Option NodeMisfit
disagreeing_in table g types ags n none = None
disagreeing_in table g [] ags n (more v vs) = None
disagreeing_in table g (t ∷ types) ags n (more (node l ks) vs) =
    or_next (at_number n (disagreement_of (subject_of g l ks) (first_agreements ags)))
    (or_next (disagreeing_in table g (child_types (type_at table t) l ks) (child_agreements (type_at table t) ks) (n + 1) ks)
    (disagreeing_in table g types (rest_agreements ags) (n + 1 + node_count ks) vs))

-- what a search through values of these types gives: the number after their nodes, where all agreements hold, else the first node
-- at which they do not
abbrev pub Compared : Table → Graph → List ℕ → List (List Agreement) → ℕ → Trees → Result ℕ NodeMisfit → Type 0
Compared table g types ags n vs (Ok m) = (disagreeing_in table g types ags n vs ≡ None) × (m ≡ n + node_count vs)
Compared table g types ags n vs (Err e) = disagreeing_in table g types ags n vs ≡ Some e

-- the attributes of a parameter, where it is there
abbrev pub vars_of : Option Param → List AttrVar
vars_of None = []
vars_of (Some p) = p.field.vars

-- the attributes that govern a home: those of the parameter that it is
abbrev pub home_vars : Operation → Option ℕ → List AttrVar
home_vars o None = []
home_vars o (Some i) = vars_of (slice_get o.params i)

-- the first disagreement of a home's own value
abbrev pub own_disagreement : Setting → Graph → HomeTree → Option MisfitReason
own_disagreement w g h = disagreement_of (subject_in g h.val) (root_agreements w g (home_vars w.op h.param))

-- the first disagreement in a home
abbrev pub disagreeing_home : Setting → Graph → HomeTree → Option MisfitAt
disagreeing_home w g h =
    at_home h.home (disagreeing_in w.table g (h.of ∷ []) (root_agreements w g (home_vars w.op h.param) ∷ []) 0 (more h.val none))

-- the first in some homes
abbrev pub disagreeing_homes : Setting → Graph → List HomeTree → Option MisfitAt
disagreeing_homes w g [] = None
disagreeing_homes w g (h ∷ hs) = or_later (disagreeing_home w g h) (disagreeing_homes w g hs)

-- A number that has one more in 128 bits. So has every value of a type.
abbrev pub is_small : ℤ → Bool
is_small z = int_le z (pos (2 ^ 64))

-- a number is small, where there is one
abbrev pub is_small_or_none : Option ℤ → Bool
is_small_or_none None = true
is_small_or_none (Some z) = is_small z

-- each of these values that is a number is small
abbrev pub AreSmall : List Tree → Type 0
AreSmall vs = (i : ℕ) → is_small_or_none (number_in (trees vs) i) ≡ true
