-- How the second and the third pass go over the pointers of a graph.
-- `t` is a type's number, `l` a label, `ks` and `vs` are values, `h` a home, `n` a node's number or how a cell is named, `k` a class,
-- `c` a cell's number, `p` a pointer.
use Rattle.std.specs.Prelude.{◌≡◌, ℕ, ◌+◌, ◌<◌, ◌^◌, Bool, true, false, not, ◌&&◌, List, [], ◌∷◌, ◌++◌, Option, Some, None, Result, Ok, Err, set}
use Rattle.std.specs.Prelude.{flat_map}
use Rattle.std.specs.List.{slice_get, AllByRecursion}
use Rattle.nd_base.specs.declared.octets.Memory.{Memory}
use Rattle.nd_types.specs.declared.types.TypeDef.{TypeDef}
use Rattle.nd_types.specs.declared.types.TypeDef.TheVariants as def
use Rattle.nd_types.specs.declared.types.Class.{Class}
use Rattle.nd_types.specs.declared.types.Class.TheVariants.{Full}
use Rattle.nd_types.specs.Table.{Table, type_at, fits_octets}
use Rattle.nd_value.specs.declared.item.Home.{Home}
use Rattle.nd_value.specs.declared.misfit.MisfitReason.TheVariants as misfit
use Rattle.nd_misfits.specs.declared.pointers.CellPointer.{CellPointer}
use Rattle.nd_misfits.specs.declared.shared.Naming.{Naming}
use Rattle.nd_misfits.specs.declared.shared.Naming.TheVariants.{NotYet, ByFull, ByOther}
use Rattle.nd_value.specs.Tree as tree
use Rattle.nd_value.specs.Tree.{Tree, Trees, Label, node, none, more, node_count}
use Rattle.nd_misfits.specs.HomeList.{HomeTree}
use Rattle.nd_value.specs.Nodes.{child_types}
use Rattle.nd_value.specs.Misfit.{has_shape, has_range, has_arm}
use Rattle.nd_value.specs.Conforms.{MisfitAt, is_full}

-- Each node of values of these types has the form of its type, holds a number that octets of its type can hold, and selects an arm.
abbrev pub are_formed : Table → List ℕ → Trees → Bool
are_formed table types none = true
are_formed table [] (more v vs) = false
are_formed table (t ∷ types) (more (node l ks) vs) =
    let d = type_at table t in
    has_shape d l ks && (has_range fits_octets table d l && (has_arm d l && (are_formed table (child_types d l ks) ks && are_formed table types vs)))

-- the cell that a pointer of a class names; a null pointer names none
abbrev pub named_by : Option ℕ → Class → Home → ℕ → List CellPointer
named_by None k h n = []
named_by (Some c) k h n = record { home = h; node = n; class = k; cell = record { 0 = c } } ∷ []

-- the cell that a node names: a pointer that is not null names one
abbrev pub named_here : Label → Option TypeDef → Home → ℕ → List CellPointer
named_here (tree.Ptr c) (Some (def.Pointer class to)) h n = named_by c class h n
named_here _ _ h n = []

-- the pointers that name cells among values of these types, whose nodes are numbered from n on
abbrev pub pointers_in : Table → Home → List ℕ → ℕ → Trees → List CellPointer
pointers_in table h types n none = []
pointers_in table h [] n (more v vs) = []
pointers_in table h (t ∷ types) n (more (node l ks) vs) =
    named_here l (type_at table t) h n
    ++ (pointers_in table h (child_types (type_at table t) l ks) (n + 1) ks ++ pointers_in table h types (n + 1 + node_count ks) vs)

-- What a search for pointers through values of these types gives: their pointers after those that were found before, and the
-- number after their nodes. If memory runs out nothing is said.
abbrev pub Collects : Table → Home → List ℕ → ℕ → Trees → List CellPointer → List CellPointer → Result ℕ Memory → Type 0
Collects table h types n vs before after (Ok m) = (after ≡ before ++ pointers_in table h types n vs) × (m ≡ n + node_count vs)
Collects table h types n vs before after (Err e) = Unit {0}

-- the pointers that name cells of one value as a home
abbrev pub pointers_of_home : Table → Home → ℕ → Tree → List CellPointer
pointers_of_home table h t v = pointers_in table h (t ∷ []) 0 (more v none)

-- the same of a home with its type and its value
abbrev pub pointers_at : Table → HomeTree → List CellPointer
pointers_at table h = pointers_of_home table h.home h.of h.val

-- the same of some homes
abbrev pub pointers_of_homes : Table → List HomeTree → List CellPointer
pointers_of_homes table hs = flat_map (λ h. pointers_at table h) hs

-- a pointer names a cell that is there, where the numbers from 1 to below a limit are those of cells
abbrev pub NamesBelow : ℕ → CellPointer → Type 0
NamesBelow limit p = (0 < p.cell.0) × (p.cell.0 < limit)

-- a home that a pass can go over: what the first pass says of one in which it has found no misfit
pub record IsWalkable (table : Table) (limit : ℕ) (h : HomeTree) : Type 0 where
  -- its nodes are numbered in 32 bits
  pub few : node_count (more h.val none) < 2 ^ 32
  -- each node has the form of its type
  pub formed : are_formed table (h.of ∷ []) (more h.val none) ≡ true
  -- its pointers name cells that are there
  pub named : AllByRecursion (NamesBelow limit) (pointers_of_home table h.home h.of h.val)

-- how a cell is named once a pointer of a class names it
abbrev pub naming_by : Class → Naming
naming_by Full = ByFull
naming_by _ = ByOther

-- a pointer of a class may not name a cell that is named so already
abbrev pub is_clash : Naming → Class → Bool
is_clash NotYet k = false
is_clash ByFull k = not (is_full k)
is_clash ByOther k = true

-- how a cell is named, by its number
abbrev pub naming_or : Option Naming → Naming
naming_or None = NotYet
naming_or (Some n) = n

abbrev pub naming_of : List Naming → ℕ → Naming
naming_of names c = naming_or (slice_get names c)

-- the first of these pointers that clashes with an earlier one, where cells are named so already
abbrev pub first_clash : List Naming → List CellPointer → Option MisfitAt
first_clash names [] = None
first_clash names (p ∷ ps) =
    elim (is_clash (naming_of names p.cell.0) p.class) [
      | true ↦ Some (record { home = p.home; node = p.node; reason = misfit.Shared })
      | false ↦ first_clash (set names p.cell.0 (naming_by p.class)) ps
    ]
