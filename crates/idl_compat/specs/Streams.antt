-- That the streams of an old interface are streams of a new one.
-- `m` is a list of pairs of types, `n` the number of an operation, `o` the old and `q` the new operation, `g` a graph.
use Rattle.std.specs.Prelude.{◌≡◌, ◌↔◌, ℕ, List, Some, ⊤}
use Rattle.std.specs.List.{slice_get}
use Rattle.nd_base.specs.declared.octets.Order.{Order}
use Rattle.nd_types.specs.declared.interface.Interface.{Interface}
use Rattle.nd_types.specs.declared.types.Operation.{Operation}
use Rattle.nd_types.specs.declared.types.Side.{Side}
use Rattle.nd_value.specs.declared.value.Graph.{Graph}
use Rattle.nd_value.specs.Setting.{Setting}
use Rattle.nd_value.specs.Fitting.{setting_of}
use Rattle.nd_value.specs.Conforms.{Conforms}
use Rattle.nd_grammar.specs.Stream.{Represents}
use Rattle.idl_compat.specs.declared.pairs.TypePair.{TypePair}
use Rattle.idl_compat.specs.declared.compared.Compared.{Compared}
use Rattle.idl_compat.specs.declared.compared.Compared.TheVariants as compared
use Rattle.idl_compat.specs.Carry.{carry}

-- octets represent a graph that conforms
pub record IsStreamOf (w : Setting) (order : Order) (octets : List ℕ) (g : Graph) : Type 0 where
  pub represents : Represents w order octets g
  pub conforms : Conforms w g

-- of each old operation: exactly the octets of a graph are those of the carried graph under the new one
abbrev pub CarriesStreams : Interface → Interface → Compared → Type 0
CarriesStreams old new (compared.Yes m) =
    (n : ℕ) (o : Operation) → slice_get old.operations n ≡ Some o → (q : Operation) → slice_get new.operations n ≡ Some q
    → (s : Side) (order : Order) (octets : List ℕ) (g : Graph)
    → (IsStreamOf (setting_of old o s) order octets g → IsStreamOf (setting_of new q s) order octets (carry m g))
    × (IsStreamOf (setting_of new q s) order octets (carry m g) → IsStreamOf (setting_of old o s) order octets g)
CarriesStreams old new _ = ⊤
