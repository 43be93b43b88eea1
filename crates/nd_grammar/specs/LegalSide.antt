-- The sides of the operations of a legal interface.
use Rattle.std.specs.Prelude.{List}
use Rattle.nd_types.specs.declared.types.Operation.{Operation}
use Rattle.nd_types.specs.Legal.{IsLegal}
use Rattle.nd_value.specs.Setting.{Setting, Among}

-- a side of an operation of a legal interface
pub record IsLegalSide (w : Setting) : Type 0 where
  pub operations : List Operation
  pub legal : IsLegal w.table operations
  pub operation : Among operations w.op
