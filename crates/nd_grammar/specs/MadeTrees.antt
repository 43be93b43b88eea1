-- Trees whose nodes have the form of their types, as far as a node says it by itself: what the reader makes.
use Rattle.std.specs.Prelude.{◌≡◌, ◌⊎◌, ℕ, Bool, true, List, [], ◌∷◌, Option}
use Rattle.nd_types.specs.declared.types.TypeDef.{TypeDef}
use Rattle.nd_types.specs.Table.{Table, type_at, fits_octets}
use Rattle.nd_value.specs.Tree as tree
use Rattle.nd_value.specs.Tree.{Tree, Trees, node, none, more, Label}
use Rattle.nd_value.specs.Nodes.{child_types}
use Rattle.nd_value.specs.Misfit.{has_shape, has_range, is_no_null_ref, has_counts, has_machine_values}

-- what a node says by itself is of the program; that a pointer's cell is one of few is said of the graph
abbrev pub has_own_values : Label → Bool
has_own_values (tree.Ptr c) = true
has_own_values l = has_machine_values l

-- a node has the form of its type, its pointer's cell aside
pub record FitsAlone (table : Table) (d : Option TypeDef) (l : Label) (ks : Trees) : Type 0 where
  pub shape : has_shape d l ks ≡ true
  pub range : has_range fits_octets table d l ≡ true
  pub no_null : is_no_null_ref d l ≡ true
  pub counts : has_counts d l ks ≡ true
  pub machine : has_own_values l ≡ true

abbrev pub MadeNode : Table → Option TypeDef → Label → Trees → Type 0
MadeNode table d l ks = (l ≡ tree.Unread) ⊎ FitsAlone table d l ks

-- trees of these types, as many as they are, each node unread or of the form of its type
abbrev pub MadeTrees : Table → List ℕ → Trees → Type 0
MadeTrees table [] none = Unit {0}
MadeTrees table (t ∷ types) (more (node l ks) ts) =
    MadeNode table (type_at table t) l ks × MadeTrees table (child_types (type_at table t) l ks) ks × MadeTrees table types ts
MadeTrees table _ _ = ⊥

abbrev pub MadeTree : Table → Option TypeDef → Tree → Type 0
MadeTree table d (node l ks) = MadeNode table d l ks × MadeTrees table (child_types d l ks) ks
