-- What an interface says.
use Rattle.std.specs.Prelude.{ℕ, List, Option}
use Rattle.nd_types.specs.declared.types.Operation.{Operation}
use Rattle.nd_types.specs.Table.{Table}
use Rattle.nd_types.specs.declared.interface.Interface.{Interface}

-- An interface: what a file declares and its header says.
pub record Meant : Type 0 where
  pub name : List ℕ
  -- the number whose most significant octet is written first
  pub uuid : Option ℕ
  pub major : ℕ
  pub minor : ℕ
  pub types : Table
  pub operations : List Operation

-- what an interface of the program says
abbrev pub meant_by : Interface → Meant
meant_by i = record { name = i.name; uuid = i.uuid; major = i.major; minor = i.minor; types = i.types; operations = i.operations }
