-- What peeling and searching keep.
use Rattle.std.specs.Prelude.{ℕ, ◌+◌, ◌≡◌, ◌<◌, ◌≤◌, Bool, true, false, not, ◌==◌, nat_lt, if◌then◌else◌, ◌&&◌, ◌||◌, ◌⊎◌, List, [], ◌∷◌, length}
use Rattle.std.specs.Prelude.{Option, Some}
use Rattle.std.specs.Prelude.{None, slice_index, slice_index_or}
use Rattle.std.specs.List.{list_all, list_any}
use Rattle.idl_cycles.specs.Graph.{parts_at, contains_within}

-- ## Peeling

-- whether a node is peeled; so is what is no node
abbrev pub is_peeled_in : List Bool → ℕ → Bool
is_peeled_in peeled node = slice_index_or peeled node true

pub record ArePeeled (graph : List (List ℕ)) (peeled : List Bool) : Type 0 where
  pub count : length peeled ≡ length graph
  -- what is in them is peeled
  pub closed : (node : ℕ) → is_peeled_in peeled node ≡ true → list_all (is_peeled_in peeled) (parts_at graph node) ≡ true
  -- none contains itself
  pub apart : (node n : ℕ) → is_peeled_in peeled node ≡ true → contains_within n graph node node ≡ false

-- ## Searching

-- the node itself, or what it contains through at most n steps
abbrev pub reaches_within : ℕ → List (List ℕ) → ℕ → ℕ → Bool
reaches_within n graph from to = from == to || contains_within n graph from to

-- whether the search of this number came to a node; what is no node counts as such
abbrev pub is_marked : ℕ → List ℕ → ℕ → Bool
is_marked number seen node = slice_index_or seen node number == number

-- how often a number is in a list
abbrev pub times_in : ℕ → List ℕ → ℕ
times_in number [] = 0
times_in number (x ∷ xs) = (if x == number then 1 else 0) + times_in number xs

-- a node is in the queue, at a place from this one on
pub record Waits (queue : List ℕ) (from node : ℕ) : Type 0 where
  pub place : ℕ
  pub behind : from ≤ place
  pub within : place < length queue
  pub there : slice_index queue place ≡ node

-- what becomes of marks and queue when the search of this number comes to nodes in turn
pub record Comes (number : ℕ) (nodes seen queue seen' queue' : List ℕ) : Type 0 where
  pub same : length seen' ≡ length seen
  pub counts : length queue ≡ times_in number seen → length queue' ≡ times_in number seen'
  pub stays : (node : ℕ) → is_marked number seen node ≡ true → is_marked number seen' node ≡ true
  pub grows : length queue ≤ length queue'
  pub before : (place : ℕ) → place < length queue → slice_index queue' place ≡ slice_index queue place
  pub new : (place : ℕ) → length queue ≤ place → place < length queue' → list_any (λ p. p == slice_index queue' place) nodes ≡ true
  pub waits : (node : ℕ) → is_marked number seen' node ≡ true → (is_marked number seen node ≡ true) ⊎ Waits queue' (length queue) node
  pub marks : list_all (is_marked number seen') nodes ≡ true
  pub bound : ((node : ℕ) → slice_index seen node ≤ number) → (node : ℕ) → slice_index seen' node ≤ number

-- no search of this number or a later one was made
pub record IsReady (graph : List (List ℕ)) (number : ℕ) (seen : List ℕ) : Type 0 where
  pub count : length seen ≡ length graph
  pub before : (node : ℕ) → slice_index seen node < number

-- each part of a node is another than the start, and marked
abbrev pub is_done : List (List ℕ) → ℕ → ℕ → List ℕ → ℕ → Bool
is_done graph start number seen node = list_all (λ p. not (p == start) && is_marked number seen p) (parts_at graph node)

-- the search of this number from a start, as it has done with what is in the queue before the head
pub record Searches (graph : List (List ℕ)) (start number head : ℕ) (seen queue : List ℕ) : Type 0 where
  pub same : length seen ≡ length graph
  pub counts : length queue ≡ times_in number seen
  pub ahead : head ≤ length queue
  pub reached : (place : ℕ) → place < length queue → reaches_within place graph start (slice_index queue place) ≡ true
  pub done : (node : ℕ) → is_marked number seen node ≡ true → (is_done graph start number seen node ≡ true) ⊎ Waits queue head node
  pub begun : is_marked number seen start ≡ true
  pub bound : (node : ℕ) → slice_index seen node ≤ number

-- ## Keys

-- whether a key is less than the least so far
abbrev pub is_less_than : ℕ → Option ℕ → Bool
is_less_than key None = true
is_less_than key (Some least) = nat_lt key least
