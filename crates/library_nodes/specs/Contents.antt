-- What nodes have in the lists of numbers and of octets.
-- `l` is a list of nodes.
use Rattle.std.specs.Prelude.{ℕ, List, Option, Some, None, take, drop}
use Rattle.library_nodes.specs.declared.node.Node.{Node}
use Rattle.library_nodes.specs.declared.node.Node.TheVariants.{Array, Text, Context, Pipe}
use Rattle.library_nodes.specs.declared.nodes.NodeList.{NodeList}

-- the elements of an array or a pipe that are in the list of numbers
abbrev pub numbers_of : NodeList → Option Node → Option (List ℕ)
numbers_of l (Some (Array max offset e)) = Some (take e.numbers (drop e.from l.numbers.items))
numbers_of l (Some (Pipe e)) = Some (take e.numbers (drop e.from l.numbers.items))
numbers_of l _ = None

-- the octets of a string, or of the identifier of a context handle
abbrev pub octets_of : NodeList → Option Node → Option (List ℕ)
octets_of l (Some (Text max from len)) = Some (take len (drop from l.octets))
octets_of l (Some (Context attributes id)) = Some id
octets_of l _ = None
