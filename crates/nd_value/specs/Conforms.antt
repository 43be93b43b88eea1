-- When a graph conforms to a side of an operation, what a partial graph is, and the first place at which a graph does not conform.
use Rattle.std.specs.Prelude.{◌≡◌, ℕ, ◌+◌, ◌<◌, ◌≤◌, ◌^◌, Bool, true, false, not, ◌&&◌, if◌then◌else◌, ◌==◌, nat_lt, List, [], ◌∷◌, ◌++◌, length, map}
use Rattle.std.specs.Prelude.{Option}
use Rattle.std.specs.Prelude.{Some, None}
use Rattle.std.specs.List.{list_all, AllByRecursion, list_any}
use Rattle.std.specs.Ordering.{int_eq}
use Rattle.nd_types.specs.declared.types.Class.TheVariants.{Full}
use Rattle.nd_types.specs.declared.types.Class.{Class}
use Rattle.nd_types.specs.Table.{Table}
use Rattle.nd_types.specs.Roots.{Root}
use Rattle.nd_value.specs.declared.value.Graph.{Graph}
use Rattle.nd_value.specs.declared.item.Home.{Home}
use Rattle.nd_value.specs.declared.item.Home.TheVariants as home
use Rattle.nd_value.specs.declared.misfit.MisfitReason.{MisfitReason}
use Rattle.nd_value.specs.declared.misfit.MisfitReason.TheVariants as misfit
use Rattle.nd_value.specs.declared.misfit.Misfit.{Misfit}
use Rattle.nd_value.specs.declared.misfit.Misfit.TheVariants as answer
use Rattle.nd_value.specs.Tree.{Tree, Referent, node, none, more, node_count, Label}
use Rattle.nd_value.specs.Setting.{Setting, root_list, cell_home, Among, cell_of_number, cell_at}
use Rattle.nd_value.specs.Nodes.{TypedNode, governed_nodes, home_nodes}
use Rattle.nd_value.specs.Deferral.{Pending, home_pointers}
use Rattle.nd_value.specs.Agreement.{root_agreements, Agreement, found_in}
use Rattle.nd_value.specs.Tree as tree
use Rattle.nd_value.specs.Misfit.{misfit_of, is_partial_node, has_machine_values}

-- ## All nodes and all pointers of a graph: the roots first, then the cells, each home depth first

-- `w` is a setting, `g` a graph, `r` a root, `i` its index, `v` its value, `x` a cell or a node, `c` a cell's number, `h` a
-- home.

-- a node with the home that it is in
pub record HomeNode : Type 0 where
  pub home : Home
  pub typed : TypedNode

-- a node of a home
abbrev pub in_home : Home → TypedNode → HomeNode
in_home h x = record { home = h; typed = x }

-- the nodes of the roots from the i-th on, the parameters' own agreements at node 0 of each
abbrev pub root_nodes : Setting → Graph → ℕ → List Root → List Tree → List HomeNode
root_nodes w g i (r ∷ rs) (v ∷ vs) =
    map (in_home (home.Root i)) (governed_nodes w.table r.of (root_agreements w g r.vars) v) ++ root_nodes w g (i + 1) rs vs
root_nodes w g i _ _ = []

-- the nodes of the cells from number c on
abbrev pub cell_nodes : Table → ℕ → List Referent → List HomeNode
cell_nodes table c [] = []
cell_nodes table c (x ∷ xs) = map (in_home (cell_home c)) (home_nodes table x.of x.val) ++ cell_nodes table (c + 1) xs

-- all nodes of a graph, with the homes that they stand in
abbrev pub all_nodes : Setting → Graph → List HomeNode
all_nodes w g = root_nodes w g 0 (root_list w) g.roots ++ cell_nodes w.table 1 g.cells

-- the pointers of the roots from the i-th on
abbrev pub root_pointers : Table → ℕ → List Root → List Tree → List Pending
root_pointers table i (r ∷ rs) (v ∷ vs) = home_pointers table (home.Root i) r.of v ++ root_pointers table (i + 1) rs vs
root_pointers table i _ _ = []

-- the pointers of the cells from number c on
abbrev pub cell_pointers : Table → ℕ → List Referent → List Pending
cell_pointers table c [] = []
cell_pointers table c (x ∷ xs) = home_pointers table (cell_home c) x.of x.val ++ cell_pointers table (c + 1) xs

-- all pointers of a graph, null pointers too
abbrev pub all_pointers : Setting → Graph → List Pending
all_pointers w g = root_pointers w.table 0 (root_list w) g.roots ++ cell_pointers w.table 1 g.cells

-- ## Graphs that conform, and partial graphs

-- `w` is a setting, `g` a graph, `p` and `q` are pointers, `c` and `b` numbers of cells, `x` is a node or a cell, `t` a tree,
-- `l` a label, `a` an agreement.

-- two pointers that name one cell are both full
abbrev pub ShareOnlyIfFull : Pending → Pending → Type 0
ShareOnlyIfFull p q = (c : ℕ) → p.cell ≡ Some c → q.cell ≡ Some c → (p.class ≡ Full) × (q.class ≡ Full)

-- each is related to every later one
abbrev pub AllEarlier : {X : Type 0} → (X → X → Type 0) → List X → Type 0
AllEarlier R [] = Unit {0}
AllEarlier R (x ∷ xs) = AllByRecursion (R x) xs × AllEarlier R xs

-- a cell that a root, or a cell that is reached itself, has a pointer to
pub data Reached (w : Setting) (g : Graph) : ℕ → Type 0 where
  by_root : {c : ℕ} (p : Pending) → Among (root_pointers w.table 0 (root_list w) g.roots) p → p.cell ≡ Some c → Reached w g c
  by_cell : {b c : ℕ} (x : Referent) (p : Pending) → Reached w g b → cell_of_number g b ≡ Some x
      → Among (home_pointers w.table (cell_home b) x.of x.val) p → p.cell ≡ Some c → Reached w g c

-- what a governed node's agreements speak of, by the node's label
abbrev pub subject_by : Graph → TypedNode → Label → List Tree
subject_by g x (tree.Ptr None) = []
subject_by g x (tree.Ptr (Some c)) = cell_at g c ∷ []
subject_by g x l = node l x.kids ∷ []

-- what a governed node's agreements speak of: of a pointer its referent, of a null pointer nothing
abbrev pub subject : Graph → TypedNode → List Tree
subject g x = subject_by g x x.label

-- an agreement holds of its subject, in whole numbers
abbrev pub IsAgreed : Tree → Agreement → Type 0
IsAgreed t a = found_in a.attr t ≡ a.wanted

-- all agreements of a node hold
abbrev pub AgreesAt : Graph → TypedNode → Type 0
AgreesAt g x = AllByRecursion (λ t. AllByRecursion (IsAgreed t) x.agreements) (subject g x)

-- the nodes of each value are numbered in 32 bits
abbrev pub FewNodes : List Tree → Type 0
FewNodes ts = AllByRecursion (λ t. node_count (more t none) < 2 ^ 32) ts

-- the nodes of each home are numbered in 32 bits
abbrev pub HasFewNodes : Graph → Type 0
HasFewNodes g = FewNodes (g.roots ++ map (λ c. c.val) g.cells)

-- The graph conforms to its operation's side.
pub record Conforms (w : Setting) (g : Graph) : Type 0 where
  -- there are as many roots as the side has
  pub all_roots : length g.roots ≡ length (root_list w)
  -- counts, octets and identifiers are values of the program: so they are in every graph of the program
  pub machine_values : list_all (λ x. has_machine_values x.typed.label) (all_nodes w g) ≡ true
  -- no node has a misfit by itself
  pub local : AllByRecursion (λ x. misfit_of w.table g x.typed ≡ None) (all_nodes w g)
  -- a cell is shared by full pointers alone
  pub unshared : AllEarlier ShareOnlyIfFull (all_pointers w g)
  -- every cell is reached
  pub reached : (c : ℕ) → 0 < c → c < length g.cells + 1 → Reached w g c
  -- every agreement of a parameter or a member holds
  pub agreed : AllByRecursion (λ x. AgreesAt g x.typed) (all_nodes w g)
  -- cells, and the nodes of each home, are numbered in 32 bits
  pub few_cells : length g.cells < 2 ^ 32
  pub few_nodes : HasFewNodes g

-- A partial graph: one some of whose values, wherever they stand, may be unread. What octets hold before a faulty place is such
-- a graph.
pub record IsPartial (w : Setting) (g : Graph) : Type 0 where
  -- there are as many roots as the side has
  pub all_roots : length g.roots ≡ length (root_list w)
  -- counts, octets and identifiers are values of the program: so they are in every graph of the program
  pub machine_values : list_all (λ x. has_machine_values x.typed.label) (all_nodes w g) ≡ true
  -- each node is unread, or has the form of its type
  pub local : list_all (λ x. is_partial_node w.table g x.typed) (all_nodes w g) ≡ true
  -- a cell is shared by full pointers alone
  pub unshared : AllEarlier ShareOnlyIfFull (all_pointers w g)

-- ## The first place at which a graph does not conform, and why

-- There are four passes, each over the roots, then the cells, and in each home over its nodes. The first failing place of the first failing pass
-- counts.
-- `w` is a setting, `g` a graph, `x` a node, `p` and `q` are pointers, `c` and `d` numbers of cells, `t` is a subject, `a` an agreement, `m` a
-- misfit at its place, `h` its home, `n` its node, `r` its reason.

-- a place in a graph, a home and a node of it, and the reason for which the graph does not conform there
pub record MisfitAt : Type 0 where
  pub home : Home
  pub node : ℕ
  pub reason : MisfitReason

-- the first misfit, if there is one, else the later
abbrev pub or_later : Option MisfitAt → Option MisfitAt → Option MisfitAt
or_later (Some m) later = Some m
or_later None later = later

-- a reason at the place of a node
abbrev pub at_node : HomeNode → Option MisfitReason → Option MisfitAt
at_node x None = None
at_node x (Some r) = Some (record { home = x.home; node = x.typed.node; reason = r })

-- the first of these nodes for which a test has a reason
abbrev pub first_node : (TypedNode → Option MisfitReason) → List HomeNode → Option MisfitAt
first_node test [] = None
first_node test (x ∷ xs) = or_later (at_node x (test x.typed)) (first_node test xs)

-- another number of roots than the side has: at the first that is missing or too many
abbrev pub root_count : ℕ → ℕ → Option MisfitAt
root_count has due =
    if has == due then None else Some (record { home = home.Root (if nat_lt has due then has else due); node = 0; reason = misfit.Shape })

-- the first pass: a node that has a misfit by itself. A wrong number of roots comes after the roots that are there.
abbrev pub first_local : Setting → Graph → Option MisfitAt
first_local w g =
    or_later (first_node (misfit_of w.table g) (root_nodes w g 0 (root_list w) g.roots))
    (or_later (root_count (length g.roots) (length (root_list w))) (first_node (misfit_of w.table g) (cell_nodes w.table 1 g.cells)))

-- the class of full pointers
abbrev pub is_full : Class → Bool
is_full Full = true
is_full _ = false

-- two pointers name one cell
abbrev pub same_cell : Option ℕ → Option ℕ → Bool
same_cell (Some c) (Some d) = c == d
same_cell _ _ = false

-- two pointers name one cell and are not both full
abbrev pub clashes : Pending → Pending → Bool
clashes p q = same_cell p.cell q.cell && not (is_full p.class && is_full q.class)

-- the second pass: the first pointer that clashes with an earlier one
abbrev pub first_shared : List Pending → List Pending → Option MisfitAt
first_shared earlier [] = None
first_shared earlier (p ∷ ps) =
    if list_any (clashes p) earlier then Some (record { home = p.home; node = p.node; reason = misfit.Shared }) else first_shared (p ∷ earlier) ps

-- the third pass: the first cell that is not reached
pub record IsFirstUnreached (w : Setting) (g : Graph) (c : ℕ) : Type 0 where
  pub is_cell : (0 < c) × (c ≤ length g.cells)
  pub unreached : ¬ Reached w g c
  pub earlier : (d : ℕ) → 0 < d → d < c → Reached w g d

-- the first agreement that does not hold of a subject
abbrev pub disagreement : Tree → List Agreement → Option MisfitReason
disagreement t [] = None
disagreement t (a ∷ rest) =
    if int_eq a.wanted (found_in a.attr t) then disagreement t rest else Some (misfit.Disagrees a.wanted (found_in a.attr t))

-- the same of the subject, where there is one
abbrev pub disagreement_of : List Tree → List Agreement → Option MisfitReason
disagreement_of [] agreements = None
disagreement_of (t ∷ ts) agreements = disagreement t agreements

-- the fourth pass: the first node whose agreements do not all hold, and the first of these
abbrev pub first_disagreeing : Setting → Graph → Option MisfitAt
first_disagreeing w g = first_node (λ x. disagreement_of (subject g x) x.agreements) (all_nodes w g)

-- the first place of the first failing pass
pub data IsFirstMisfit (w : Setting) (g : Graph) : MisfitAt → Type 0 where
  is_local : (m : MisfitAt) → first_local w g ≡ Some m → IsFirstMisfit w g m
  is_shared : (m : MisfitAt) → first_local w g ≡ None → first_shared [] (all_pointers w g) ≡ Some m → IsFirstMisfit w g m
  is_unreached : (c : ℕ) → first_local w g ≡ None → first_shared [] (all_pointers w g) ≡ None → IsFirstUnreached w g c
      → IsFirstMisfit w g (record { home = cell_home c; node = 0; reason = misfit.Unreached })
  is_disagreeing : (m : MisfitAt) → first_local w g ≡ None → first_shared [] (all_pointers w g) ≡ None
      → ((c : ℕ) → 0 < c → c ≤ length g.cells → Reached w g c) → first_disagreeing w g ≡ Some m → IsFirstMisfit w g m

-- what is answered of a graph is its first misfit; of running out of memory nothing is said
abbrev pub IsMisfit : Setting → Graph → Misfit → Type 0
IsMisfit w g answer.Memory = Unit {0}
IsMisfit w g (answer.At h n r) = IsFirstMisfit w g (record { home = h; node = n; reason = r })

-- a place is answered only of a graph that does not conform: with the other clauses, `fit` is Ok exactly where the graph conforms,
-- except when out of memory
abbrev pub IsOfNoFit : Setting → Graph → Misfit → Type 0
IsOfNoFit w g answer.Memory = Unit {0}
IsOfNoFit w g (answer.At h n r) = ¬ Conforms w g
