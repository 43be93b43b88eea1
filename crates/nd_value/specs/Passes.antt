-- What the passes over a graph answer, said as they go over it. In the local pass a node is judged by its type alone: agreements
-- make no misfit of a node by itself.
-- `w` is a setting, `g` a graph, `h` a home, `n` a node's number, `r` a reason or a root, `m` a misfit in a home, `t` a type's
-- number, `l` a label, `ks` are children, `i` is a root's index, `c` a cell's number, `v` a value, `x` a cell.
use Rattle.std.specs.Prelude.{◌≡◌, ℕ, ◌+◌, ◌<◌, ◌≤◌, length, List, [], ◌∷◌, Option, Some, None}
use Rattle.nd_types.specs.Table.{Table, type_at}
use Rattle.nd_types.specs.Roots.{NamedRoot}
use Rattle.nd_value.specs.declared.value.Graph.{Graph}
use Rattle.nd_value.specs.declared.item.Home.{Home}
use Rattle.nd_value.specs.declared.item.Home.TheVariants as home
use Rattle.nd_value.specs.declared.misfit.MisfitReason.{MisfitReason}
use Rattle.nd_value.specs.declared.misfit.MisfitReason.TheVariants as misfit
use Rattle.nd_value.specs.declared.misfit.Misfit.{Misfit}
use Rattle.nd_value.specs.declared.misfit.Misfit.TheVariants as answer
use Rattle.nd_value.specs.declared.misfit.NodeMisfit.{NodeMisfit}
use Rattle.nd_value.specs.Tree.{Tree, Trees, node, none, more, node_count, Referent}
use Rattle.nd_value.specs.Setting.{Setting, cell_home}
use Rattle.nd_value.specs.Nodes.{TypedNode, child_types}
use Rattle.nd_value.specs.Misfit.{misfit_of}
use Rattle.nd_value.specs.Conforms.{Reached, MisfitAt, or_later, IsFirstUnreached}

-- an answer tells what a pass has found, with its place and reason; of running out of memory nothing is said
abbrev pub Tells : Option MisfitAt → Misfit → Type 0
Tells o answer.Memory = Unit {0}
Tells o (answer.At h n r) = o ≡ Some (record { home = h; node = n; reason = r })

-- the same of the third pass: an answer tells the first cell that is not reached
abbrev pub TellsUnreached : Setting → Graph → Misfit → Type 0
TellsUnreached w g answer.Memory = Unit {0}
TellsUnreached w g (answer.At h n r) = (c : ℕ) × IsFirstUnreached w g c × (h ≡ cell_home c) × (n ≡ 0) × (r ≡ misfit.Unreached)

-- every cell is reached
abbrev pub AreReached : Setting → Graph → Type 0
AreReached w g = (c : ℕ) → 0 < c → c ≤ length g.cells → Reached w g c

-- a node of a type that no agreements govern
abbrev pub lone_node : ℕ → ℕ → Tree → TypedNode
lone_node n t (node l ks) = record { node = n; of = t; agreements = []; label = l; kids = ks }

-- the first misfit, if there is one, else the later
abbrev pub or_next : Option NodeMisfit → Option NodeMisfit → Option NodeMisfit
or_next (Some m) later = Some m
or_next None later = later

-- a reason at a node
abbrev pub at_number : ℕ → Option MisfitReason → Option NodeMisfit
at_number n None = None
at_number n (Some r) = Some (record { node = n; reason = r })

-- the first misfit of a node by itself among values of these types, whose nodes are numbered from n on
abbrev pub first_in : Table → Graph → List ℕ → ℕ → Trees → Option NodeMisfit
first_in table g types n none = None
first_in table g [] n (more v vs) = None
first_in table g (t ∷ types) n (more (node l ks) vs) =
    or_next (at_number n (misfit_of table g (lone_node n t (node l ks))))
    (or_next (first_in table g (child_types (type_at table t) l ks) (n + 1) ks) (first_in table g types (n + 1 + node_count ks) vs))

-- a misfit in this home
abbrev pub at_home : Home → Option NodeMisfit → Option MisfitAt
at_home h None = None
at_home h (Some m) = Some (record { home = h; node = m.node; reason = m.reason })

-- the first misfit of one value as a home
abbrev pub first_in_home : Table → Graph → Home → ℕ → Tree → Option MisfitAt
first_in_home table g h t v = at_home h (first_in table g (t ∷ []) 0 (more v none))

-- the first among roots from the i-th on; one that is missing or too many is of the wrong shape
abbrev pub first_in_roots : Table → Graph → ℕ → List NamedRoot → List Tree → Option MisfitAt
first_in_roots table g i [] [] = None
first_in_roots table g i (r ∷ rs) (v ∷ vs) = or_later (first_in_home table g (home.Root i) r.of v) (first_in_roots table g (i + 1) rs vs)
first_in_roots table g i _ _ = Some (record { home = home.Root i; node = 0; reason = misfit.Shape })

-- the first among cells from number c on
abbrev pub first_in_cells : Table → Graph → ℕ → List Referent → Option MisfitAt
first_in_cells table g c [] = None
first_in_cells table g c (x ∷ xs) = or_later (first_in_home table g (cell_home c) x.of x.val) (first_in_cells table g (c + 1) xs)
