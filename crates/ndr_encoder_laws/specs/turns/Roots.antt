-- The roots of a side that are no pipes, as a search for turns begins with them.
-- `w` is a setting, `x` a value as a whole.
use Rattle.std.specs.Prelude.{ℕ, suc, zero, List, [], ◌∷◌, Option, Some, map}
use Rattle.std.specs.List.{slice_get}
use Rattle.nd_types.specs.declared.types.Class.TheVariants.{Ref}
use Rattle.nd_types.specs.declared.types.TypeDef.{TypeDef}
use Rattle.nd_types.specs.declared.types.TypeDef.TheVariants as def
use Rattle.nd_types.specs.Table.{Table, type_at}
use Rattle.nd_value.specs.declared.item.Home.{Home}
use Rattle.nd_value.specs.Deferral.{Standing, root_type}
use Rattle.nd_value.specs.Setting.{Setting, root_list}
use Rattle.ndr_code.specs.Code.{whole_at}
use Rattle.ndr_encoder_laws.specs.turns.Turned.{Item, root_due, direct_due}

-- a root of a type: of a reference pointer its referent is in its place
abbrev pub root_item : Table → ℕ → ℕ → Option TypeDef → Item
root_item table i t (Some (def.Pointer Ref to)) = direct_due i (whole_at table to.0)
root_item table i t _ = root_due i (whole_at table t)

-- n roots, from the i-th on
abbrev pub root_items : Setting → ℕ → ℕ → List Item
root_items w i zero = []
root_items w i (suc n) =
    root_item w.table i (root_type (slice_get (root_list w) i)) (type_at w.table (root_type (slice_get (root_list w) i))) ∷ root_items w (suc i) n

-- the homes of values, each with the address of the whole run of its type
abbrev pub home_turns : Table → List Standing → List (Home × ℕ)
home_turns table xs = map (λ x. (x.home, whole_at table x.of)) xs
