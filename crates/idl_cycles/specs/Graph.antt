-- Graphs of numbers. A node is a number; the graph lists for each the numbers that stand right in it, in order. A number without a list is a node
-- in which nothing stands.
use Rattle.std.specs.Prelude.{ℕ, suc, zero, ◌≡◌, ◌<◌, ◌≤◌, Bool, true, false, ◌==◌, ◌||◌, List, [], ◌∷◌, length, Option, Some, None, slice_index}
use Rattle.std.specs.Prelude.{slice_index_or}
use Rattle.std.specs.List.{list_all, list_any}
use Rattle.idl_cycles.specs.declared.graph.rounds.Rule.{Rule}
use Rattle.idl_cycles.specs.declared.graph.rounds.Rule.TheVariants.{Always, Never, All, Any, Last}

-- what stands right in a node
abbrev pub parts_at : List (List ℕ) → ℕ → List ℕ
parts_at graph node = slice_index_or graph node []

-- ## Properties of what a node is made of

-- whether the last number passes; none does not
abbrev pub last_passes : (ℕ → Bool) → List ℕ → Bool
last_passes test [] = false
last_passes test (p ∷ []) = test p
last_passes test (p ∷ q ∷ more) = last_passes test (q ∷ more)

-- from whether the parts have the property
abbrev pub has_by : Rule → (ℕ → Bool) → List ℕ → Bool
has_by Always test parts = true
has_by Never test parts = false
has_by All test parts = list_all test parts
has_by Any test parts = list_any test parts
has_by Last test parts = last_passes test parts

-- a number without a rule is no node, and never has the property
abbrev pub rule_at : List Rule → ℕ → Rule
rule_at rules node = slice_index_or rules node Never

-- whether a node has the property, as far as that is decided by paths of at most n nodes
abbrev pub has_within : ℕ → List (List ℕ) → List Rule → ℕ → Bool
has_within zero graph rules node = false
has_within (suc n) graph rules node = has_by (rule_at rules node) (has_within n graph rules) (parts_at graph node)

-- ## What contains itself

-- one contains another through at most n steps
abbrev pub contains_within : ℕ → List (List ℕ) → ℕ → ℕ → Bool
contains_within zero graph outer inner = false
contains_within (suc n) graph outer inner = list_any (λ p. p == inner || contains_within n graph p inner) (parts_at graph outer)

-- a path that comes to no node twice has no more steps than there are nodes
abbrev pub contains_itself : List (List ℕ) → ℕ → Bool
contains_itself graph node = contains_within (length graph) graph node node

-- the least key of a node that contains itself, among the nodes below a limit
pub record IsLeastKey (graph : List (List ℕ)) (keys : List ℕ) (limit key : ℕ) : Type 0 where
  -- it is the key of such a node
  pub node : ℕ
  pub below : node < limit
  pub contains : contains_itself graph node ≡ true
  pub is_key : slice_index keys node ≡ key
  pub least : (other : ℕ) → other < limit → contains_itself graph other ≡ true → key ≤ slice_index keys other

abbrev pub IsLeast : List (List ℕ) → List ℕ → ℕ → Option ℕ → Type 0
IsLeast graph keys limit None = (node : ℕ) → node < limit → contains_itself graph node ≡ false
IsLeast graph keys limit (Some key) = IsLeastKey graph keys limit key
