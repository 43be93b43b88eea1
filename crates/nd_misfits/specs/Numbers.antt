-- The numbers of parameters, which their attributes' variables name.
-- `v` is a variable, `r` a root or a root as a variable, `j` a parameter's place, `a` an attribute with its variable, `w` a setting, `g` a
-- graph, `q` the graph of a request, `t` a value.
use Rattle.std.specs.Prelude.{◌≡◌, ℕ, ℤ, Bool, true, false, ◌&&◌, ◌==◌, List, [], ◌∷◌, ◌++◌, slice_index_or, Option, Some, None}
use Rattle.std.specs.List.{list_all}
use Rattle.nd_types.specs.declared.types.AttrVar.{AttrVar}
use Rattle.nd_types.specs.declared.types.Operation.{Operation}
use Rattle.nd_types.specs.declared.types.Side.TheVariants as side
use Rattle.nd_types.specs.Table.{Table}
use Rattle.nd_types.specs.Roots.{NamedRoot, named_roots}
use Rattle.nd_value.specs.declared.value.Graph.{Graph}
use Rattle.nd_value.specs.Tree.{Tree}
use Rattle.nd_value.specs.Agreement.{Agreement, agreement, starred, variable}
use Rattle.nd_value.specs.Setting.{Setting}
use Rattle.nd_misfits.specs.declared.numbers.ParamNumber.{ParamNumber}
use Rattle.nd_misfits.specs.declared.numbers.RootNumber.{RootNumber}
use Rattle.nd_misfits.specs.HomeList.{HomeTree}
use Rattle.nd_misfits.specs.Disagreeing.{is_small_or_none}

-- a value as a variable: the number that it is, and that of its referent
abbrev pub number_at : Graph → Tree → ParamNumber
number_at g t = record { own = starred g false t; referent = starred g true t }

-- no variable
abbrev pub no_number : ParamNumber
no_number = record { own = None; referent = None }

-- the roots of a graph as variables, in order; one that is not there has no number
abbrev pub numbers_of : Graph → List NamedRoot → List Tree → List RootNumber
numbers_of g [] ts = []
numbers_of g (r ∷ rs) [] = record { param = r.param; number = no_number } ∷ numbers_of g rs []
numbers_of g (r ∷ rs) (t ∷ ts) = record { param = r.param; number = number_at g t } ∷ numbers_of g rs ts

-- a home as a variable
abbrev pub home_number : Graph → HomeTree → RootNumber
home_number g h = record { param = h.param; number = number_at g h.val }

-- the inputs of a request as variables; none where there is no request
abbrev pub given_numbers : Table → Operation → Option Graph → List RootNumber
given_numbers table o None = []
given_numbers table o (Some q) = numbers_of q (named_roots table side.In o) q.roots

-- the parameter that a root is
abbrev pub is_param : Option ℕ → ℕ → Bool
is_param None j = false
is_param (Some k) j = k == j

-- the number of a parameter among roots, or another one where it is none of them
abbrev pub number_among : List RootNumber → ℕ → ParamNumber → ParamNumber
number_among [] j other = other
number_among (r ∷ rs) j other = elim (is_param r.param j) [ true ↦ r.number | false ↦ number_among rs j other ]

-- what is at the place of a parameter once a root's number is put to its place
abbrev pub replaced : RootNumber → ℕ → ParamNumber → ParamNumber
replaced r j other = elim (is_param r.param j) [ true ↦ r.number | false ↦ other ]

-- the value of an attribute's variable: with `*` the number of its referent
abbrev pub value_by : ParamNumber → Bool → Option ℤ
value_by n true = n.referent
value_by n false = n.own

abbrev pub value_in : List ParamNumber → AttrVar → Option ℤ
value_in numbers a = value_by (slice_index_or numbers a.var no_number) a.star

-- the agreements of a parameter's attributes, by these numbers
abbrev pub agreements_by : List ParamNumber → List AttrVar → List Agreement
agreements_by numbers [] = []
agreements_by numbers (a ∷ rest) = agreement a.attr (value_in numbers a) ++ agreements_by numbers rest

-- these are the numbers of the parameters of a side, by their places
abbrev pub AreNumbers : Setting → Graph → List ParamNumber → Type 0
AreNumbers w g numbers = (a : AttrVar) → value_in numbers a ≡ variable w g a

-- a variable's numbers are small
abbrev pub is_small_number : ParamNumber → Bool
is_small_number n = is_small_or_none n.own && is_small_or_none n.referent

abbrev pub are_small_roots : List RootNumber → Bool
are_small_roots ns = list_all (λ n. is_small_number n.number) ns

abbrev pub are_small_numbers : List ParamNumber → Bool
are_small_numbers ns = list_all is_small_number ns
