-- Pipes of which each element has the form of its type.
-- `t` is a pipe's type, `v` its value.
use Rattle.std.specs.Prelude.{◌≡◌, ℕ, replicate, Some}
use Rattle.nd_types.specs.declared.types.TypeId.{TypeId}
use Rattle.nd_types.specs.declared.types.TypeDef.TheVariants as def
use Rattle.nd_types.specs.Table.{Table, type_at}
use Rattle.nd_value.specs.Tree as tree
use Rattle.nd_value.specs.Tree.{Tree, Trees, node, count}
use Rattle.ndr_encoder_laws.specs.written.Shaped.{Shaped}

pub record IsShapedPipe (table : Table) (t : ℕ) (v : Tree) : Type 0 where
  pub elem : TypeId
  pub type_is : type_at table t ≡ Some (def.Pipe elem)
  pub kids : Trees
  pub value_is : v ≡ node tree.Pipe kids
  pub shaped : Shaped 32 table (replicate (count kids) elem.0) kids
