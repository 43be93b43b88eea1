-- What a log of items is seen as.
-- `g` is a log, `x` an item.
use Rattle.std.specs.Prelude.{ℕ, Bool, true, false, List, [], ◌∷◌, ◌++◌, Option, Some, None, refl}
use Rattle.std.specs.Coded.{Coded, code_by, coded×, coded_list, coded_bool}
use Rattle.std.specs.declared.vec.Vec.{Vec}
use Rattle.std.specs.declared.alloc.Global.{Global}
use Rattle.nd_value.specs.declared.item.Item.{Item}
use Rattle.nd_value.specs.declared.item.ItemKind.{ItemKind}
use Rattle.nd_value.specs.declared.item.ItemKind.TheVariants as kind
use Rattle.nd_value.specs.contracts.item.Item as item

-- whether it keeps items, and those that it keeps
pub record Logged : Type 0 where
  pub keeps : Bool
  pub items : List Item

abbrev pub logged_code : Coded Logged
logged_code =
    code_by (Bool × List Item) (coded× coded_bool (coded_list item.the_row.coded)) (λ g. (g.keeps, g.items))
    (λ p. record { keeps = p.0; items = p.1 }) (λ _. refl)

-- a log that keeps nothing is empty
abbrev pub log_seen : Option (Vec Item Global) → Logged
log_seen None = record { keeps = false; items = [] }
log_seen (Some v) = record { keeps = true; items = v.items }

-- the log after one item more
abbrev pub noted_by : Bool → Item → List Item → Logged
noted_by true x xs = record { keeps = true; items = xs ++ x ∷ [] }
noted_by false x xs = record { keeps = false; items = xs }

abbrev pub noted : Item → Logged → Logged
noted x g = noted_by g.keeps x g.items

-- how many steps an item counts as: a gap as none
abbrev pub ticks_of : ItemKind → ℕ
ticks_of kind.Gap = 0
ticks_of _ = 1
