-- What is left of a listing while values are read from it: nodes, numbers and octets.
use Rattle.std.specs.Prelude.{ℕ, List, ◌∷◌}
use Rattle.library_nodes.specs.declared.description.Description.{Description}

pub record Left : Type 0 where
  pub nodes : List Description
  pub numbers : List ℕ
  pub octets : List ℕ

abbrev pub left : List Description → List ℕ → List ℕ → Left
left nodes numbers octets = record { nodes = nodes; numbers = numbers; octets = octets }

-- the same with a node before it
abbrev pub with_node : Description → Left → Left
with_node x l = left (x ∷ l.nodes) l.numbers l.octets
