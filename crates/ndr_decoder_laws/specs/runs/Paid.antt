-- What nodes and cells are paid by: each node but a struct and an array that does not vary takes octets of its own, and each cell four.
-- `n` is how many children a node has.
use Rattle.std.specs.Prelude.{◌≤◌, ℕ, ◌+◌, ◌*◌, zero, suc, List, [], ◌∷◌, length}
use Rattle.std.specs.List.{AllByRecursion}
use Rattle.nd_value.specs.Tree as tree
use Rattle.nd_value.specs.Tree.{Label, Flat}
use Rattle.ndr_decoder_laws.specs.steps.Steps.{State}

-- an array without elements whose maximum count is not 0 varies
abbrev pub array_paid : ℕ → ℕ → ℕ
array_paid (suc max) zero = 1
array_paid max n = 0

-- how many octets a node takes at least
abbrev pub label_paid : Label → ℕ → ℕ
label_paid (tree.Num z) n = 1
label_paid (tree.Arr max offset) n = array_paid max n
label_paid (tree.Text max octets) n = 1
label_paid (tree.Union tag) n = 1
label_paid (tree.Ptr cell) n = 1
label_paid (tree.Context attributes id) n = 1
label_paid _ n = 0

abbrev pub paid : List Flat → ℕ
paid [] = 0
paid (x ∷ xs) = label_paid x.0 x.1 + paid xs

-- a node that was read
abbrev pub IsRead : Label → Type 0
IsRead tree.Unread = ⊥
IsRead _ = Unit {0}

abbrev pub AllRead : List Flat → Type 0
AllRead xs = AllByRecursion (λ (x : Flat). IsRead x.0) xs

-- The octets so far paid for the nodes and cells so far: each cell has four, but for those of the roots.
pub record IsPaid (s : State) : Type 0 where
  pub nodes : paid s.nodes ≤ s.at
  pub read : AllRead s.nodes
  pub cells : 4 * length s.cells ≤ s.at + 4096
