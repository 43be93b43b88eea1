-- The graph of the sample, and its summary.
use Rattle.std.specs.Prelude.{ℕ, ◌+◌, ◌*◌, ◌^◌, ◌/◌, ◌%◌, zero, suc, pos, if◌then◌else◌, nat_lt, List, [], ◌∷◌, Option, Some, None, codes, decimal}
use Rattle.nd_base.specs.Text.{joined}
use Rattle.nd_value.specs.declared.value.Graph.{Graph}
use Rattle.nd_value.specs.Tree as tree
use Rattle.nd_value.specs.Tree.{Tree, Referent, node, none, trees}

-- ## The graph

-- `x` is a state, `n` how many nodes there are, `i` the number of a node, from 1, `k` how many are left.

-- the state after a state of the generator
abbrev pub next_state : ℕ → ℕ
next_state x = (x * 69069 + 1) % 2 ^ 32

abbrev pub number_tree : ℕ → Tree
number_tree v = node (tree.Num (pos v)) none

abbrev pub pointer_to : Option ℕ → Tree
pointer_to c = node (tree.Ptr c) none

-- the value of a node, by the state that is drawn for it
abbrev pub value_by : ℕ → ℕ
value_by x = x % 1000

-- the left of a node is the next one, and that of the last is null
abbrev pub left : ℕ → ℕ → Option ℕ
left n i = if nat_lt i n then Some (i + 1) else None

-- the right of a node, by the state that is drawn for it
abbrev pub right : ℕ → ℕ → ℕ
right n x = 1 + x / 65536 % n

-- a node by the two states that are drawn for it
abbrev pub sample_node : ℕ → ℕ → ℕ → ℕ → Referent
sample_node n i x y = record {
  of = 12;
  val = node tree.Rec (trees (number_tree (value_by x) ∷ pointer_to (left n i) ∷ pointer_to (Some (right n y)) ∷ []));
}

-- k nodes from number i on, drawn after a state
abbrev pub sample_nodes : ℕ → ℕ → ℕ → ℕ → List Referent
sample_nodes n i zero x = []
sample_nodes n i (suc k) x =
    sample_node n i (next_state x) (next_state (next_state x)) ∷ sample_nodes n (i + 1) k (next_state (next_state x))

-- the graph of a seed and a count: the root names the first node
abbrev pub sample_graph : ℕ → ℕ → Graph
sample_graph seed n = record { roots = pointer_to (Some 1) ∷ []; cells = sample_nodes n 1 n seed }

-- the sum of the values of k nodes that are drawn after a state
abbrev pub sample_sum : ℕ → ℕ → ℕ
sample_sum zero x = 0
sample_sum (suc k) x = value_by (next_state x) + sample_sum k (next_state (next_state x))

-- ## The summary of the sample of a seed and a count

-- so many nodes, the octets of a pointer and of that many nodes, the sum of their values, and that they are the same
abbrev pub sample_lines : ℕ → ℕ → List ℕ
sample_lines seed n =
    joined (codes "cells " ∷ decimal n ∷ codes "\noctets " ∷ decimal (4 + 12 * n) ∷ codes "\nsum " ∷ decimal (sample_sum n seed)
    ∷ codes "\nsame yes\n" ∷ [])
