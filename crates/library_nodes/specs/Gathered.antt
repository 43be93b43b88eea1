-- Where the elements of arrays and pipes are: those that are numbers are among the numbers of a list, and are no nodes.
-- `e` are elements, `n` is a node, `ns` are nodes, `many` is how many numbers the list has.
use Rattle.std.specs.Prelude.{◌≡◌, ◌≤◌, ◌<◌, ℕ, ◌+◌, Bool, true, false, List, [], ◌∷◌, Option, Some, None}
use Rattle.library_nodes.specs.declared.node.Elements.{Elements}
use Rattle.library_nodes.specs.declared.node.Node.{Node}
use Rattle.library_nodes.specs.declared.node.Node.TheVariants.{Number, Array, Pipe}

-- the elements of an array or a pipe
abbrev pub elements_of : Node → Option Elements
elements_of (Array max offset e) = Some e
elements_of (Pipe e) = Some e
elements_of _ = None

abbrev pub is_number : Node → Bool
is_number (Number u) = true
is_number _ = false

abbrev pub begins_with_number : List Node → Bool
begins_with_number [] = false
begins_with_number (n ∷ ns) = is_number n

-- No more are numbers than there are elements. Where fewer are, the others are the nodes after it, and the first of these is no number.
abbrev pub IsGathered : Option Elements → List Node → Type 0
IsGathered None ns = Unit {0}
IsGathered (Some e) ns = (e.numbers ≤ e.count) × (e.numbers < e.count → begins_with_number ns ≡ false)

-- this holds of the elements of each node, with the nodes after it
abbrev pub AreGathered : List Node → Type 0
AreGathered [] = Unit {0}
AreGathered (n ∷ ns) = IsGathered (elements_of n) ns × AreGathered ns

-- those that are numbers are in the list of numbers
abbrev pub IsThere : ℕ → Option Elements → Type 0
IsThere many None = Unit {0}
IsThere many (Some e) = e.from + e.numbers ≤ many

abbrev pub AreThere : ℕ → List Node → Type 0
AreThere many [] = Unit {0}
AreThere many (n ∷ ns) = IsThere many (elements_of n) × AreThere many ns
