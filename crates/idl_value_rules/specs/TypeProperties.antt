-- For the code: what is kept of hoisting, nesting and pipes.
use Rattle.std.specs.Prelude.{◌≡◌, ℕ, suc, ◌<◌, false, List, slice_index_or}
use Rattle.idl_declared_types.specs.declared.kinds.Kind.{Kind}
use Rattle.idl_value_rules.specs.declared.in_place.Properties.{Properties}
use Rattle.idl_rule_definitions.specs.Scene.{Scene, nests, hoists}
use Rattle.idl_rule_definitions.specs.TypeRules.{is_barred_in_pipes}
use Rattle.nd_types.specs.declared.TheConstants.{NESTING_LIMIT}
use Rattle.idl_declared_types.specs.Kinds.{type_at}

-- these are the properties of all types, and of `void` after them
pub record AreProperties (s : Scene) (ks : List Kind) (count : ℕ) (p : Properties) : Type 0 where
  pub hoists : (node : ℕ) → node < suc count → slice_index_or p.hoists.items node false ≡ hoists s (type_at ks node)
  pub nests : (node : ℕ) → node < suc count → slice_index_or p.nests.items node false ≡ nests NESTING_LIMIT s (type_at ks node)
  pub barred : (node : ℕ) → node < suc count → slice_index_or p.barred.items node false ≡ is_barred_in_pipes s (type_at ks node)
