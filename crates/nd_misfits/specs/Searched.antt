-- What a search for the first misfit of a node by itself gives.
-- `g` is a graph, `d` a type, `l` a label, `ks` are children, `n` is a node's number, `vs` are values.
use Rattle.std.specs.Prelude.{◌≡◌, ℕ, ◌+◌, Bool, true, ◌&&◌, List, Option, Some, None, Result, Ok, Err, map}
use Rattle.nd_types.specs.declared.types.TypeDef.{TypeDef}
use Rattle.nd_types.specs.Table.{Table}
use Rattle.nd_value.specs.declared.value.Graph.{Graph}
use Rattle.nd_value.specs.declared.misfit.MisfitReason.{MisfitReason}
use Rattle.nd_value.specs.declared.misfit.NodeMisfit.{NodeMisfit}
use Rattle.nd_value.specs.Tree.{Tree, Trees, node, none, more, trees, node_count, Label, Referent}
use Rattle.nd_value.specs.Misfit.{misfit_by, has_machine_values}
use Rattle.nd_value.specs.Passes.{first_in}

-- why a value cannot be a node of a type, or none
abbrev pub misfit_in : Table → Graph → Option TypeDef → Tree → Option MisfitReason
misfit_in table g d (node l ks) = misfit_by table g d l ks

-- what a value says except its children
abbrev pub label_in : Tree → Label
label_in (node l ks) = l

-- the children of a value
abbrev pub kids_in : Tree → Trees
kids_in (node l ks) = ks

-- counts, octets and identifiers of all nodes are values of the program
abbrev pub have_machine_values : Trees → Bool
have_machine_values none = true
have_machine_values (more (node l ks) ts) = has_machine_values l && (have_machine_values ks && have_machine_values ts)

-- the same of a graph
pub record HasMachineValues (g : Graph) : Type 0 where
  pub roots : have_machine_values (trees g.roots) ≡ true
  pub cells : have_machine_values (trees (map (λ (x : Referent). x.val) g.cells)) ≡ true

-- What a search through values of these types gives: the number after their nodes, where none has a misfit by itself, else the
-- first that has one. All that it has seen are values of the program.
abbrev pub Searched : Table → Graph → List ℕ → ℕ → Trees → Result ℕ NodeMisfit → Type 0
Searched table g types n vs (Ok m) = (first_in table g types n vs ≡ None) × (m ≡ n + node_count vs) × (have_machine_values vs ≡ true)
Searched table g types n vs (Err e) = first_in table g types n vs ≡ Some e
