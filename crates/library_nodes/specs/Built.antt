-- The graph that a listing says, and why none is built of it.
-- `w` is a setting, `l` a listing, `g` a graph.
use Rattle.std.specs.Prelude.{◌≡◌, ℕ, ◌-◌, Bool, true, ◌||◌, nat_lt, List, ◌++◌, length, map, Result, MatchResult, ⊤}
use Rattle.nd_types.specs.Table.{Table}
use Rattle.nd_types.specs.Roots.{named_roots}
use Rattle.nd_value.specs.declared.value.Graph.{Graph}
use Rattle.nd_value.specs.Setting.{Setting}
use Rattle.nd_value.specs.Tree.{flat, trees}
use Rattle.command_refusals.specs.declared.refusal.Refusal.{Refusal}
use Rattle.command_refusals.specs.declared.refusal.Refusal.TheVariants.{Memory, BadValue}
use Rattle.command_encode.specs.Encoded.{IsValueCause}
use Rattle.library_nodes.specs.declared.TheConstants.{LISTING_LIMIT}
use Rattle.library_nodes.specs.declared.fault.BuildFault.{BuildFault}
use Rattle.library_nodes.specs.declared.fault.BuildFault.TheVariants.{TooMany, WrongNode, Refused}
use Rattle.library_nodes.specs.declared.listing.Listing.{Listing}
use Rattle.library_nodes.specs.declared.stop.Stop.{Stop}
use Rattle.library_nodes.specs.Left.{Left, left}
use Rattle.library_nodes.specs.Listings.{Said, Wrong, said}
use Rattle.library_nodes.specs.Steps.{IsStop}

-- all of a listing
abbrev pub whole : Listing → Left
whole l = left l.nodes.now l.numbers.now l.octets.now

-- a listing has more nodes, numbers or cells than are read
abbrev pub has_too_many : Listing → Bool
has_too_many l =
    nat_lt LISTING_LIMIT (length l.nodes.now) || nat_lt LISTING_LIMIT (length l.numbers.now) || nat_lt LISTING_LIMIT (length l.cells.now)

-- the types of the roots of a side
abbrev pub root_types : Setting → List ℕ
root_types w = map (λ r. r.of) (named_roots w.table w.side w.op)

-- The nodes say the roots and then the cells, each number as its type has it; the cells are of the types that are given.
pub record IsSaid (table : Table) (roots : List ℕ) (l : Listing) (g : Graph) : Type 0 where
  pub nodes : said table (roots ++ l.cells.now) (whole l) ≡ Said (flat (trees (g.roots ++ map (λ c. c.val) g.cells)))
  pub root_count : length g.roots ≡ length roots
  pub cell_types : map (λ c. c.of) g.cells ≡ l.cells.now

-- a listing says a graph of a side of an operation
abbrev pub Says : Setting → Listing → Graph → Type 0
Says w l g = IsSaid w.table (root_types w) l g

-- what reading a listing comes to
abbrev pub IsRead : Setting → Listing → Result Graph Stop → Type 0
IsRead w l r = MatchResult r (Says w l) (λ e. IsStop e (said w.table (root_types w ++ l.cells.now) (whole l)))

-- This is the number of the first node that is wrong. It is how many nodes there are, where they end too early or numbers or octets are left.
pub record IsWrong (w : Setting) (l : Listing) (node : ℕ) : Type 0 where
  pub rest : ℕ
  pub wrong : said w.table (root_types w ++ l.cells.now) (whole l) ≡ Wrong rest
  pub place : node ≡ length l.nodes.now - rest

-- A listing says a graph that is refused.
pub record IsSaidBadly (w : Setting) (l : Listing) (e : Refusal) : Type 0 where
  pub graph : Graph
  pub says : Says w l graph
  pub cause : IsValueCause w graph e

-- why no values are built of a listing; running out of memory needs no cause
abbrev pub IsBuildCause : Setting → Listing → BuildFault → Type 0
IsBuildCause w l TooMany = has_too_many l ≡ true
IsBuildCause w l (WrongNode node) = IsWrong w l node
IsBuildCause w l (Refused Memory) = ⊤
IsBuildCause w l (Refused e) = IsSaidBadly w l e
