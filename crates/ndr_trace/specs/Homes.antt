-- What a walk over homes comes to.
-- `k` are the octets with the partial graph in which they are refused, `u` what the walk is given, `h` is a home, `t` a type's number, `p` a pointer,
-- `ps` are pointers, `s` is a step of deferral, `names` are the cells that are named after those of a home, `done` the cells that stand.
use Rattle.std.specs.Prelude.{◌≡◌, ℕ, true, List, [], ◌∷◌, ◌++◌, flat_map, map, reverse, Option, Some, None}
use Rattle.std.specs.List.{AllByRecursion, list_all, slice_get}
use Rattle.nd_types.specs.declared.types.Class.TheVariants.{Ref}
use Rattle.nd_types.specs.declared.types.TypeDef.{TypeDef}
use Rattle.nd_types.specs.declared.types.TypeDef.TheVariants as def
use Rattle.nd_types.specs.declared.types.TypeId.{TypeId}
use Rattle.nd_types.specs.Layout.{hoists}
use Rattle.nd_types.specs.Roots.{Root}
use Rattle.nd_types.specs.declared.walk.RootDef.{RootDef}
use Rattle.nd_value.specs.Conforms.{IsPartial, all_pointers}
use Rattle.nd_value.specs.declared.item.Home.{Home}
use Rattle.nd_value.specs.declared.item.Home.TheVariants as home
use Rattle.nd_value.specs.Deferral.{Deferral, Due, Pending as Pointer, Placed_cells, Standing, Step, due_referent, home_pointers, referent_stands}
use Rattle.nd_value.specs.Deferral.{root_stands, standing_cell, standing_root, stands_already}
use Rattle.nd_value.specs.Misfit.{is_partial_node}
use Rattle.nd_value.specs.Nodes.{home_nodes}
use Rattle.nd_value.specs.Setting.{Among, Setting, root_list}
use Rattle.nd_value.specs.Tree.{more, none}
use Rattle.nd_value.specs.declared.value.Graph.{Graph}
use Rattle.nd_grammar.specs.Entry.{Entry, hoisted_max, whole_value}
use Rattle.nd_grammar.specs.LegalSide.{IsLegalSide}
use Rattle.nd_grammar.specs.Stream.{step_entries}
use Rattle.text_grammar.specs.Paths.{home_name, home_types, home_value}
use Rattle.ndr_explain.specs.Cursors.{name_text}
use Rattle.ndr_explain.specs.declared.names.HomeName.{HomeName}
use Rattle.ndr_trace_value.specs.Untested.{untested}
use Rattle.ndr_trace_value.specs.declared.cells.Cells.{Cells}
use Rattle.ndr_trace_value.specs.declared.cells.Pending.{Pending}
use Rattle.ndr_trace_value.specs.declared.nodes.Walker.{Walker}
use Rattle.ndr_trace_value.specs.Naming.{IsNaming, Stand, names_in, names_of, only_spot, pending_in, pending_of}
use Rattle.ndr_trace_value.specs.Tracing.{IsTracing, Known}

-- ## A home

-- A home of the graph with this name, whose value is of this type.
pub record HasHome (k : Known) (h : Home) (name : HomeName) (t : ℕ) : Type 0 where
  pub legal : IsLegalSide k.setting
  pub name_is : name_text name ≡ home_name k.setting h
  pub types : home_types k.setting k.graph h ≡ t ∷ []
  pub partial : list_all (is_partial_node k.setting.table k.graph) (home_nodes k.setting.table t (home_value k.graph h)) ≡ true

-- the entries of its value, agreements apart
abbrev pub home_due : Known → Home → ℕ → List Entry
home_due k h t = untested (whole_value k.setting.table h t (home_value k.graph h))

-- the maximum count of its value
abbrev pub home_max : Known → Home → ℕ
home_max k h = hoisted_max 0 (more (home_value k.graph h) none)

-- the maximum count in front of a home's value, 0 where none is there
abbrev pub IsFront : Known → Home → ℕ → ℕ → Type 0
IsFront k h t max = hoists k.setting.table t ≡ true → max ≡ home_max k h

-- Those entries were passed: the cells that they name were named, and their pointers are pending, the first of them as the last.
pub record HasPassed (k : Known) (before after : Cells) (due : List Entry) (names : Placed_cells) : Type 0 where
  pub naming : IsNaming k after names
  pub pending : after.pending.items ≡ before.pending.items ++ reverse (pending_in k due)
  pub stands : after.stands ≡ before.stands

-- ## Referents

-- the pointers whose cells are to be come to
abbrev pub pending_all : Known → List Pointer → List Pending
pending_all k ps = flat_map (λ p. pending_of k p.home p.node p.class p.to p.cell) ps

abbrev pub names_all : List Pointer → Placed_cells
names_all ps = flat_map (λ p. names_of p.class p.cell) ps

abbrev pub standing_names : Setting → Standing → Placed_cells
standing_names w x = names_all (home_pointers w.table x.home x.of x.val)

-- the cell that a top-level reference pointer names
abbrev pub direct_names : Home → Placed_cells
direct_names (home.Root i) = []
direct_names (home.Cell c) = (Ref, c.0) ∷ []

-- the cells that a step of deferral names
abbrev pub step_names : Setting → Graph → Step → Placed_cells
step_names w g (root_stands i) = direct_names (standing_root w g i).home ++ standing_names w (standing_root w g i)
step_names w g (referent_stands p c) = standing_names w (standing_cell g p c)
step_names w g (stands_already p c) = []

-- The entries of these steps of deferral are due, and the cells that they name, where those cells stand; then others.
pub record IsDeferring (k : Known) (u : Walker) (done : Placed_cells) (due : List Due) (steps : List Step) (rest : List Entry) (names : Placed_cells)
    : Type 0 where
  pub deferral : Deferral k.setting k.graph done due steps
  pub tracing : IsTracing k u.progress (untested (flat_map (step_entries k.setting k.graph) steps) ++ rest)
  pub naming : IsNaming k u.cells (flat_map (step_names k.setting k.graph) steps ++ names)
  pub stand : Stand u.cells.stands.items done

-- The same where the referents of pointers are due that are pending, and then those.
pub record IsAwaiting (k : Known) (u : Walker) (due : List Due) (rest : List Entry) (names : Placed_cells) : Type 0 where
  pub done : Placed_cells
  pub pointers : List Pointer
  pub all_among : AllByRecursion (Among (all_pointers k.setting k.graph)) pointers
  pub pending : reverse u.cells.pending.items ≡ pending_all k pointers
  pub steps : List Step
  pub deferring : IsDeferring k u done (map due_referent pointers ++ due) steps rest names

-- The referent of a pointer is due, that is taken from those that are pending, and then those.
pub record IsNext (k : Known) (u : Walker) (next : Pending) (due : List Due) (rest : List Entry) (names : Placed_cells) : Type 0 where
  pub done : Placed_cells
  pub pointer : Pointer
  pub among : Among (all_pointers k.setting k.graph) pointer
  pub cell : pointer.cell ≡ Some next.cell.0
  pub to : pointer.to ≡ next.to.0
  pub from : next.from ≡ only_spot k pointer.class pointer.home pointer.node
  pub pointers : List Pointer
  pub all_among : AllByRecursion (Among (all_pointers k.setting k.graph)) pointers
  pub pending : reverse u.cells.pending.items ≡ pending_all k pointers
  pub steps : List Step
  pub deferring : IsDeferring k u done (due_referent pointer ∷ (map due_referent pointers ++ due)) steps rest names

-- ## Roots

-- octets of a side of a legal interface
pub record IsPart (k : Known) : Type 0 where
  pub legal : IsLegalSide k.setting
  pub partial : IsPartial k.setting k.graph

-- a root of the side
pub record IsRoot (k : Known) (at : ℕ) (root : RootDef) : Type 0 where
  pub its : Root
  pub there : slice_get (root_list k.setting) at ≡ Some its
  pub of : its.of ≡ root.of.0
  pub pipe : its.is_pipe ≡ root.pipe
  pub name : root.name.now ≡ home_name k.setting (home.Root at)

-- the type of the referent of a reference pointer
abbrev pub direct_of : Option TypeDef → Option TypeId
direct_of (Some (def.Pointer Ref to)) = Some to
direct_of _ = None
