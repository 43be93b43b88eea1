-- The nodes that a handle holds, and their numbers as octets.
use Rattle.std.specs.Prelude.{ℕ, ◌%◌, Option, Some, None}
use Rattle.library_handles.specs.declared.held.Held.{Held}
use Rattle.library_handles.specs.declared.held.Held.TheVariants as kept
use Rattle.library_nodes.specs.declared.nodes.Nodes.{Nodes}

-- the nodes that a handle holds
abbrev pub nodes_in : Option Held → Option Nodes
nodes_in (Some (kept.Nodes nodes)) = Some nodes
nodes_in _ = None

-- the low octet of a number
abbrev pub low_octet : ℕ → ℕ
low_octet n = n % 256
