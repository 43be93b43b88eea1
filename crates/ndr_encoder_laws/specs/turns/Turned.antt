-- The homes of a graph in the order of the stream, by what a plan's code says of their nodes: what a search for them follows.
-- `code` is a plan's code, `g` a graph, `v` a value, `i` a root's index, `c` a cell's number, `a` the address of a run, `stands` are the cells that
-- have their turn, `due` is what is pending, the next first, `ts` are the turns from there on, `ns` the cells that are named.
use Rattle.std.specs.Prelude.{◌≡◌, ℕ, ◌-◌, ◌^◌, List, [], ◌∷◌, ◌++◌, map, Some}
use Rattle.nd_value.specs.declared.value.Graph.{Graph}
use Rattle.nd_value.specs.declared.item.Home.{Home}
use Rattle.nd_value.specs.declared.item.Home.TheVariants as home
use Rattle.nd_value.specs.Setting.{Among, root_at, cell_at, cell_home}
use Rattle.nd_value.specs.Tree as tree
use Rattle.nd_value.specs.Tree.{Tree, Trees, node, none, more, flat}
use Rattle.ndr_code.specs.declared.instr.Instr.{Instr}
use Rattle.ndr_encoder_laws.specs.pieces.Pieces.{pieces_names}
use Rattle.ndr_encoder_laws.specs.written.Run.{run}

-- how many steps a run may take
abbrev pub STEPS : ℕ
STEPS = 2 ^ 64 - 1

-- what is pending: a root by its run, the referent of a root that is a reference pointer, the referent of another pointer
pub data Item : Type 0 where
  root_due : (i a : ℕ) → Item
  direct_due : (i a : ℕ) → Item
  cell_due : (c a : ℕ) → Item

-- what the pointers of a value name that is written by a run: their cells, each with the address of its run
abbrev pub names_of : List Instr → ℕ → Tree → List (ℕ × ℕ)
names_of code a v = pieces_names (run code 0 1 STEPS a [] (flat (more v none)))

abbrev pub cells_due : List (ℕ × ℕ) → List Item
cells_due names = map (λ n. cell_due n.0 n.1) names

abbrev pub cells_of : List (ℕ × ℕ) → List ℕ
cells_of names = map (λ n. n.0) names

-- A root, or a referent that has no turn yet, has its turn once it is the first that is pending: then what its pointers name is pending before the
-- others.
pub data Turned (code : List Instr) (g : Graph) : List ℕ → List Item → List (Home × ℕ) → List ℕ → Type 0 where
  none_left : {stands : List ℕ} → Turned code g stands [] [] []
  root_turn : {stands ns : List ℕ} {due : List Item} {ts : List (Home × ℕ)} (i a : ℕ)
      → Turned code g stands (cells_due (names_of code a (root_at g i)) ++ due) ts ns
      → Turned code g stands (root_due i a ∷ due) ((home.Root i, a) ∷ ts) (cells_of (names_of code a (root_at g i)) ++ ns)
  direct_turn : {stands ns : List ℕ} {due : List Item} {ts : List (Home × ℕ)} {ks : Trees} (i a c : ℕ)
      → root_at g i ≡ node (tree.Ptr (Some c)) ks
      → ¬ Among stands c
      → Turned code g (c ∷ stands) (cells_due (names_of code a (cell_at g c)) ++ due) ts ns
      → Turned code g stands (direct_due i a ∷ due) ((cell_home c, a) ∷ ts) (c ∷ (cells_of (names_of code a (cell_at g c)) ++ ns))
  cell_turn : {stands ns : List ℕ} {due : List Item} {ts : List (Home × ℕ)} (c a : ℕ)
      → ¬ Among stands c
      → Turned code g (c ∷ stands) (cells_due (names_of code a (cell_at g c)) ++ due) ts ns
      → Turned code g stands (cell_due c a ∷ due) ((cell_home c, a) ∷ ts) (cells_of (names_of code a (cell_at g c)) ++ ns)
  cell_stands : {stands ns : List ℕ} {due : List Item} {ts : List (Home × ℕ)} (c a : ℕ)
      → Among stands c
      → Turned code g stands due ts ns
      → Turned code g stands (cell_due c a ∷ due) ts ns
