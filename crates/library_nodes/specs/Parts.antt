-- The parts of nodes by their numbers.
-- `n` is a node, `ns` are nodes, `s` is the number of a node, `k` how many values.
use Rattle.std.specs.Prelude.{◌≡◌, ◌≤◌, ℕ, zero, suc, ◌+◌, ◌-◌, Bool, false, List, [], ◌∷◌, length, drop, Option, Some, None, nat_lt}
use Rattle.nd_flat.specs.FlatForm.{armed_count}
use Rattle.library_nodes.specs.declared.node.Node.{Node}
use Rattle.library_nodes.specs.declared.node.Node.TheVariants.{Struct, Array, Union, Pipe}

-- how many parts of a node are nodes: members, elements that are no numbers, the value of an arm
abbrev pub part_count : Node → ℕ
part_count (Struct count) = count
part_count (Array max offset e) = e.count - e.numbers
part_count (Union tag armed) = armed_count armed
part_count (Pipe e) = e.count - e.numbers
part_count _ = 0

-- the nodes after so many values, each with all its parts
abbrev pub skip : ℕ → List Node → List Node
skip zero ns = ns
skip (suc k) [] = []
skip (suc k) (n ∷ ns) = skip (k + part_count n) ns

-- This is the number of the node after so many values, the first of which begins with a node.
pub record IsAfter (ns : List Node) (s k : ℕ) (after : ℕ) : Type 0 where
  pub within : after ≤ length ns
  pub skipped : drop after ns ≡ skip k (drop s ns)

-- whether there is a node, and it has a part of that index
abbrev pub has_part : Option Node → ℕ → Bool
has_part None i = false
has_part (Some n) i = nat_lt i (part_count n)
