-- When a newer version of an interface is compatible with an older one.
use Rattle.std.specs.Prelude.{List}
use Rattle.nd_types.specs.declared.interface.Interface.{Interface}
use Rattle.idl_compat.specs.declared.pairs.TypePair.{TypePair}
use Rattle.idl_compat.specs.declared.compared.Compared.TheVariants.{Yes}
use Rattle.idl_compat.specs.Comparison.{IsCompared}

-- the newer one has all operations of the older, by some pairs of their types
abbrev pub AreCompatible : Interface → Interface → Type 0
AreCompatible older newer = (m : List TypePair) × IsCompared older newer (Yes m)
