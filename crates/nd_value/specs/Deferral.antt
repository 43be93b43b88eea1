-- In which order the referents of a graph stand in a stream (C706 14.3.12: deferral of referents). C706 has a referent stand
-- after the outermost array, struct or union that its pointer is embedded in, and a shared one stand once. The order is this
-- project's choice: left to right and depth first, a referent followed at once by its own; and a referent that full pointers
-- share is at the first of its pointers in this order.
-- `w` is a setting, `g` a graph, `h` a home, `n` a node's number, `p` a pointer, `c` a cell's number, `i` the index of a root,
-- `t` a type's number, `x` a node or a value that stands, `v` a value, `d` a cell that stands, or a cell and its type.
use Rattle.std.specs.Prelude.{◌≡◌, ◌⊎◌, ℕ, ◌+◌, suc, zero, Bool, true, false, List, [], ◌∷◌, ◌++◌, Option, Some, None, map, flat_map}
use Rattle.std.specs.List.{slice_get}
use Rattle.nd_types.specs.declared.types.TypeDef.{TypeDef}
use Rattle.nd_types.specs.declared.types.Class.{Class}
use Rattle.nd_types.specs.declared.types.Class.TheVariants.{Ref, Unique, Full}
use Rattle.nd_types.specs.declared.types.TypeDef.TheVariants as def
use Rattle.nd_types.specs.Table.{Table, type_at}
use Rattle.nd_types.specs.Roots.{Root}
use Rattle.nd_value.specs.declared.value.Graph.{Graph}
use Rattle.nd_value.specs.declared.item.Home.{Home}
use Rattle.nd_value.specs.declared.item.Home.TheVariants as home
use Rattle.nd_value.specs.Tree as tree
use Rattle.nd_value.specs.Tree.{Tree, Trees, node, none, more, Label, is_pointer, cell_in}
use Rattle.nd_value.specs.Agreement.{Agreement}
use Rattle.nd_value.specs.Nodes.{TypedNode, home_nodes}
use Rattle.nd_value.specs.Setting.{Setting, root_list, root_at, cell_at, cell_home}

-- A pointer whose referent is deferred: where it stands, its class, the type of its referent, the cell that it names
-- (none: it is null), and the agreements of its member.
pub record Pending : Type 0 where
  pub home : Home
  pub node : ℕ
  pub class : Class
  pub to : ℕ
  pub cell : Option ℕ
  pub agreements : List Agreement

-- a node as a pointer, where its type is one and its label too
abbrev pub pointer_by : Option TypeDef → Bool → Option ℕ → Home → ℕ → List Agreement → List Pending
pointer_by (Some (def.Pointer class to)) true c h n agreements =
    record { home = h; node = n; class = class; to = to.0; cell = c; agreements = agreements } ∷ []
pointer_by _ _ c h n agreements = []

-- the pointer that a node is
abbrev pub pointer : Table → Home → TypedNode → List Pending
pointer table h x = pointer_by (type_at table x.of) (is_pointer x.label) (cell_in x.label) h x.node x.agreements

-- the pointers of a home, as they stand
abbrev pub home_pointers : Table → Home → ℕ → Tree → List Pending
home_pointers table h t v = flat_map (pointer table h) (home_nodes table t v)

-- what is due: a root, or the referent of a pointer
pub data Due : Type 0 where
  due_root : (i : ℕ) → Due
  due_referent : (p : Pending) → Due

-- a step: a root stands now, a referent stands now, or it stands already
pub data Step : Type 0 where
  root_stands : (i : ℕ) → Step
  referent_stands : (p : Pending) (c : ℕ) → Step
  stands_already : (p : Pending) (c : ℕ) → Step

-- A top-level reference pointer has no representation: its referent is in its place. Its cell and the referent's type;
-- of a null one, which no graph that conforms has, a cell that is none.
abbrev pub direct : Option TypeDef → Tree → Option (ℕ × ℕ)
direct (Some (def.Pointer Ref to)) (node (tree.Ptr (Some c)) ks) = Some (c, to.0)
direct (Some (def.Pointer Ref to)) (node (tree.Ptr None) ks) = Some (0, to.0)
direct _ v = None

-- a value that stands as a whole: its home, its type and its tree
pub record Standing : Type 0 where
  pub home : Home
  pub of : ℕ
  pub val : Tree

-- a root's own value, or the referent of a top-level reference pointer
abbrev pub standing_by : Graph → ℕ → ℕ → Tree → Option (ℕ × ℕ) → Standing
standing_by g i t v (Some d) = record { home = cell_home d.0; of = d.1; val = cell_at g d.0 }
standing_by g i t v None = record { home = home.Root i; of = t; val = v }

-- the type of a root
abbrev pub root_type : Option Root → ℕ
root_type (Some r) = r.of
root_type None = 0

-- what stands for the i-th root: of a reference pointer its referent
abbrev pub standing_root : Setting → Graph → ℕ → Standing
standing_root w g i =
    let t = root_type (slice_get (root_list w) i) in
    standing_by g i t (root_at g i) (direct (type_at w.table t) (root_at g i))

-- what a value that stands makes due: the referents of its pointers, in their order
abbrev pub due_of : Table → Standing → List Due
due_of table x = map due_referent (home_pointers table x.home x.of x.val)

-- the referent of a pointer
abbrev pub standing_cell : Graph → Pending → ℕ → Standing
standing_cell g p c = record { home = cell_home c; of = p.to; val = cell_at g c }

-- the cells that stand already, each with the class of the pointer for which it was placed
abbrev pub Placed_cells : Type 0
Placed_cells = List (Class × ℕ)

-- the cell is among those that stand
abbrev pub IsPlaced : Placed_cells → ℕ → Type 0
IsPlaced [] c = ⊥
IsPlaced (d ∷ ds) c = (c ≡ d.1) ⊎ IsPlaced ds c

-- the cell is among those that stand, placed for a full pointer
abbrev pub IsPlacedFull : Placed_cells → ℕ → Type 0
IsPlacedFull [] c = ⊥
IsPlacedFull (d ∷ ds) c = ((d.0 ≡ Full) × (c ≡ d.1)) ⊎ IsPlacedFull ds c

-- a top-level reference pointer's cell
abbrev pub root_cell : Home → Placed_cells
root_cell (home.Root i) = []
root_cell (home.Cell c) = (Ref, c.0) ∷ []

-- none of the first is among the second
abbrev pub AreFree : Placed_cells → Placed_cells → Type 0
AreFree [] done = Unit {0}
AreFree (d ∷ ds) done = ¬ IsPlaced done d.1 × AreFree ds done

-- The steps for what is due, in order, where some cells stand already. A value that stands makes the referents of its pointers
-- due at once, before whatever waited: so referents stand left to right and depth first, each followed by its own. The referent
-- of a full pointer is at the first of its pointers in this order, whichever stands first in place; at the later ones nothing
-- stands again. (Both are this project's choice.) No cell stands twice: a cell that stands is met again by full pointers alone,
-- which is so in every graph whose cells are shared by full pointers alone.
pub data Deferral (w : Setting) (g : Graph) : Placed_cells → List Due → List Step → Type 0 where
  none_due : {done : Placed_cells} → Deferral w g done [] []
  at_root : {done : Placed_cells} {i : ℕ} {due : List Due} {steps : List Step}
      → AreFree (root_cell (standing_root w g i).home) done
      → Deferral w g (root_cell (standing_root w g i).home ++ done) (due_of w.table (standing_root w g i) ++ due) steps
      → Deferral w g done (due_root i ∷ due) (root_stands i ∷ steps)
  at_null : {done : Placed_cells} {p : Pending} {due : List Due} {steps : List Step}
      → p.cell ≡ None
      → Deferral w g done due steps
      → Deferral w g done (due_referent p ∷ due) steps
  at_standing : {done : Placed_cells} {p : Pending} {due : List Due} {steps : List Step} (c : ℕ)
      → p.cell ≡ Some c
      → p.class ≡ Full
      → IsPlacedFull done c
      → Deferral w g done due steps
      → Deferral w g done (due_referent p ∷ due) (stands_already p c ∷ steps)
  at_referent : {done : Placed_cells} {p : Pending} {due : List Due} {steps : List Step} (c : ℕ)
      → p.cell ≡ Some c
      → ¬ IsPlaced done c
      → Deferral w g ((p.class, c) ∷ done) (due_of w.table (standing_cell g p c) ++ due) steps
      → Deferral w g done (due_referent p ∷ due) (referent_stands p c ∷ steps)

-- how many roots stand before the first pipe: pipes come last
abbrev pub before_pipes : List Root → ℕ
before_pipes [] = 0
before_pipes (r ∷ rs) = elim r.is_pipe [ true ↦ 0 | false ↦ suc (before_pipes rs) ]

-- n roots, from the i-th on
abbrev pub due_roots : ℕ → ℕ → List Due
due_roots i zero = []
due_roots i (suc n) = due_root i ∷ due_roots (suc i) n
