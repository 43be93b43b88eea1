-- What a plan of an interface is.
use Rattle.std.specs.Prelude.{◌≡◌, ℕ, List}
use Rattle.nd_types.specs.declared.interface.Interface.{Interface}
use Rattle.ndr_code.specs.declared.instr.Instr.{Instr}
use Rattle.ndr_code.specs.declared.lists.PlanLine.{PlanLine}
use Rattle.ndr_code.specs.declared.lists.EnumList.{EnumList}
use Rattle.ndr_code.specs.Code.{code_of, entries_of, values_of, sides_of}

-- The instructions, the lines of the sides, the enumerated types, and where the lines of each side begin, are those of the interface.
pub record IsPlanOf (code : List Instr) (entries : List PlanLine) (values : List EnumList) (sides : List ℕ) (interface : Interface) : Type 0 where
  pub code_is : code ≡ code_of interface.types interface.operations
  pub entries_are : entries ≡ entries_of interface.types interface.operations
  pub values_are : values ≡ values_of interface.types
  pub sides_are : sides ≡ sides_of interface.types interface.operations
