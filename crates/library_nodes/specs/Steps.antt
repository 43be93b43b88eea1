-- What a call that reads values takes from a listing.
-- `table` are the types of an interface, `l` is what was left, `m` what is left, `ts` are types that are due, `us` those of values, `s` is what a
-- node says, `r` what a call answers.
use Rattle.std.specs.Prelude.{◌≡◌, ◌≤◌, ℕ, suc, List, [], ◌∷◌, ◌++◌, length, map, Option, Result, MatchResult, Bool, ⊤}
use Rattle.nd_types.specs.Table.{Table}
use Rattle.nd_value.specs.declared.value.Val.{Val}
use Rattle.nd_value.specs.Seen.{tree_of}
use Rattle.nd_value.specs.Tree as tree
use Rattle.nd_value.specs.Tree.{Label, Tree, Trees, Referent, flat, more, none, node, trees}
use Rattle.library_nodes.specs.declared.description.Description.{Description}
use Rattle.library_nodes.specs.declared.stop.Stop.{Stop}
use Rattle.library_nodes.specs.declared.stop.Stop.TheVariants.{Memory, At}
use Rattle.library_nodes.specs.Left.{Left}
use Rattle.library_nodes.specs.Listings.{Saying, Outcome, Wrong, after, goes_on, said_from, said, meant}

-- nodes come to this where a call stopped; running out of memory needs no cause
abbrev pub IsStop : Stop → Outcome → Type 0
IsStop Memory o = ⊤
IsStop (At left) o = o ≡ Wrong left

-- ## Values of types that are due

-- Values of these types were read, whatever types are due after them.
pub record Comes (table : Table) (us : List ℕ) (l : Left) (vs : Trees) (m : Left) : Type 0 where
  pub goes : (ts : List ℕ) → said table (us ++ ts) l ≡ after (flat vs) (said table ts m)
  pub less : length m.nodes ≤ length l.nodes

-- no values of these types were read
abbrev pub Stops : Table → List ℕ → Left → Stop → Type 0
Stops table us l e = (ts : List ℕ) → IsStop e (said table (us ++ ts) l)

abbrev pub IsValue : Table → ℕ → Left → Left → Result Val Stop → Type 0
IsValue table t l m r = MatchResult r (λ v. Comes table (t ∷ []) l (more (tree_of v) none) m) (Stops table (t ∷ []) l)

-- as many values were read as there are types
pub record AreOf (table : Table) (us : List ℕ) (l : Left) (vs : List Tree) (m : Left) : Type 0 where
  pub come : Comes table us l (trees vs) m
  pub count : length vs ≡ length us

abbrev pub AreValues : Table → List ℕ → Left → Left → Result (List Tree) Stop → Type 0
AreValues table us l m r = MatchResult r (λ vs. AreOf table us l vs m) (Stops table us l)

-- cells of these types were read
pub record AreCellsOf (table : Table) (us : List ℕ) (l : Left) (cs : List Referent) (m : Left) : Type 0 where
  pub come : Comes table us l (trees (map (λ c. c.val) cs)) m
  pub types : map (λ c. c.of) cs ≡ us

abbrev pub AreCells : Table → List ℕ → Left → Left → Result (List Referent) Stop → Type 0
AreCells table us l m r = MatchResult r (λ cs. AreCellsOf table us l cs m) (Stops table us l)

-- ## A node that was taken

-- what comes of a node that says this, if these types are due after it
abbrev pub going : Table → Option Saying → List Description → List ℕ → Outcome
going table s xs ts = goes_on (suc (length xs)) s (λ y. said_from table (y.parts ++ ts) xs y.numbers y.octets)

-- The node and what was read after it are a value.
pub record Builds (table : Table) (s : Option Saying) (l : Left) (v : Tree) (m : Left) : Type 0 where
  pub goes : (ts : List ℕ) → going table s l.nodes ts ≡ after (flat (more v none)) (said table ts m)
  pub less : length m.nodes ≤ length l.nodes

-- they are none
abbrev pub Halts : Table → Option Saying → Left → Stop → Type 0
Halts table s l e = (ts : List ℕ) → IsStop e (going table s l.nodes ts)

abbrev pub IsBuilt : Table → Option Saying → Left → Left → Result Val Stop → Type 0
IsBuilt table s l m r = MatchResult r (λ v. Builds table s l (tree_of v) m) (Halts table s l)

-- the same of the parts of a node of a label
abbrev pub AreBuilt : Table → Option Saying → Label → Left → Left → Result (List Tree) Stop → Type 0
AreBuilt table s label l m r = MatchResult r (λ vs. Builds table s l (node label (trees vs)) m) (Halts table s l)

-- numbers of 64 bits as values
abbrev pub number_trees : Bool → List ℕ → List Tree
number_trees wide us = map (λ u. node (tree.Num (meant wide u)) none) us
