-- What is added to a list of nodes.
-- `a` is a list before, `b` after it, `fs` are the nodes of values, `ss` numbers of nodes, `ts` trees, `xs` numbers of elements.
use Rattle.std.specs.Prelude.{◌≡◌, ℕ, ◌+◌, ◌-◌, List, [], ◌∷◌, ◌++◌, length, Option, Some, None, option_map, option_to_list, if◌then◌else◌, nat_lt}
use Rattle.nd_value.specs.Tree.{Tree, Flat, flat, trees}
use Rattle.library_nodes.specs.declared.node.Elements.{Elements}
use Rattle.library_nodes.specs.declared.node.Node.{Node}
use Rattle.library_nodes.specs.declared.node.Node.TheVariants.{Array, Pipe}
use Rattle.library_nodes.specs.declared.nodes.NodeList.{NodeList}
use Rattle.library_nodes.specs.Low.{low_flats}
use Rattle.library_nodes.specs.Said.{flats_said, SaysFirst}
use Rattle.library_nodes.specs.Gathered.{AreGathered, AreThere}
use Rattle.library_nodes.specs.Listed.{ArePaired, AreLaid}

-- Nothing that was there changes.
pub record Grows (a b : NodeList) : Type 0 where
  pub nodes : List Node
  pub numbers : List ℕ
  pub octets : List ℕ
  pub nodes_are : b.nodes.items ≡ a.nodes.items ++ nodes
  pub numbers_are : b.numbers.items ≡ a.numbers.items ++ numbers
  pub octets_are : b.octets ≡ a.octets ++ octets

-- Nodes are added which say these, whatever is added after them.
pub record Adds (fs : List Flat) (a b : NodeList) : Type 0 where
  pub grows : Grows a b
  pub say : (zs os : List ℕ) → flats_said (b.numbers.items ++ zs) (b.octets ++ os) grows.nodes ≡ low_flats fs
  pub gathered : AreGathered grows.nodes
  pub there : AreThere (length b.numbers.items) grows.nodes

-- ## Arrays and pipes that are open

-- elements with one number more, if they are as many
abbrev pub more_numbers : Elements → Option Elements
more_numbers e = if nat_lt e.numbers e.count then Some (record { count = e.count; numbers = e.numbers + 1; from = e.from }) else None

-- an array or a pipe with one number more, if it has as many elements
abbrev pub one_more : Option Node → Option Node
one_more (Some (Array max offset e)) = option_map (λ d. Array max offset d) (more_numbers e)
one_more (Some (Pipe e)) = option_map (λ d. Pipe d) (more_numbers e)
one_more _ = None

-- how many elements of an array or a pipe are left, where all that are listed are numbers
abbrev pub lacking : Option Node → ℕ
lacking (Some (Array max offset e)) = e.count - e.numbers
lacking (Some (Pipe e)) = e.count - e.numbers
lacking _ = 0

-- an array or a pipe with so many numbers more
abbrev pub longer : ℕ → Elements → Elements
longer k e = record { count = e.count; numbers = e.numbers + k; from = e.from }

abbrev pub with_more : ℕ → Option Node → Option Node
with_more k (Some (Array max offset e)) = Some (Array max offset (longer k e))
with_more k (Some (Pipe e)) = Some (Pipe (longer k e))
with_more k o = o

-- its numbers are the last of the list
abbrev pub AreLast : List ℕ → Option Node → Type 0
AreLast xs (Some (Array max offset e)) = e.from + e.numbers ≡ length xs
AreLast xs (Some (Pipe e)) = e.from + e.numbers ≡ length xs
AreLast xs _ = Unit {0}

-- the elements of the last node are all among the numbers, if it has any
abbrev pub EndsWhole : List Node → Type 0
EndsWhole [] = Unit {0}
EndsWhole (n ∷ []) = lacking (Some n) ≡ 0
EndsWhole (n ∷ m ∷ ns) = EndsWhole (m ∷ ns)

-- so it is where none is open
abbrev pub IsSettled : Option Node → List Node → Type 0
IsSettled (Some n) ns = Unit {0}
IsSettled None ns = EndsWhole ns

-- The nodes that are added and the one that is open say these, whatever is added after them.
pub record AddsOpen (fs : List Flat) (a b : NodeList) (open_node : Option Node) : Type 0 where
  pub grows : Grows a b
  pub last : AreLast b.numbers.items open_node
  pub say : (zs os : List ℕ) → flats_said (b.numbers.items ++ zs) (b.octets ++ os) (grows.nodes ++ option_to_list open_node) ≡ low_flats fs
  pub gathered : AreGathered (grows.nodes ++ option_to_list open_node)
  pub there : AreThere (length b.numbers.items) (grows.nodes ++ option_to_list open_node)
  pub settled : IsSettled open_node grows.nodes

-- ## Values

-- the nodes from one on say a value, whatever is added after them
abbrev pub BeginsEver : NodeList → ℕ → Tree → Type 0
BeginsEver b s t = (ns : List Node) (zs os : List ℕ) → SaysFirst (b.numbers.items ++ zs) (b.octets ++ os) (b.nodes.items ++ ns) s t

-- The nodes that are added before one say these values, whatever is added after them.
pub record IsFront (a b : NodeList) (s : ℕ) (ts : List Tree) : Type 0 where
  pub front : List Node
  pub rest : List Node
  pub nodes : b.nodes.items ≡ (a.nodes.items ++ front) ++ rest
  pub place : s ≡ length (a.nodes.items ++ front)
  pub say : (zs os : List ℕ) → flats_said (b.numbers.items ++ zs) (b.octets ++ os) front ≡ low_flats (flat (trees ts))

-- The nodes of values are added, one value after the other, and the numbers of the first of each.
pub record AddsHomes (ts : List Tree) (a : NodeList) (ss : List ℕ) (b : NodeList) (ss' : List ℕ) : Type 0 where
  pub grows : Grows a b
  pub new : List ℕ
  pub starts : ss' ≡ ss ++ new
  pub begin : ArePaired (BeginsEver b) new ts
  pub fronts : AreLaid (IsFront a b) [] new ts
  pub say : (zs os : List ℕ) → flats_said (b.numbers.items ++ zs) (b.octets ++ os) grows.nodes ≡ low_flats (flat (trees ts))
  pub gathered : AreGathered grows.nodes
  pub there : AreThere (length b.numbers.items) grows.nodes
