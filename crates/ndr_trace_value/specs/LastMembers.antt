-- The value whose maximum count is in front of a home's value: the home's value itself, or the last member of a struct, and so on down.
-- `t` is a type's number, `p` the path of a value of the type, `go` goes on with a type and a path, `n` is how deep types may nest.
use Rattle.std.specs.Prelude.{ℕ, suc, zero, List, [], ◌∷◌, Option, Some, None}
use Rattle.nd_types.specs.declared.types.AttrVar.{AttrVar}
use Rattle.nd_types.specs.declared.types.Field.{Field}
use Rattle.nd_types.specs.declared.types.TypeDef.{TypeDef}
use Rattle.nd_types.specs.declared.types.TypeDef.TheVariants as def
use Rattle.nd_types.specs.declared.TheConstants.{NESTING_LIMIT}
use Rattle.nd_types.specs.Table.{Table, type_at}
use Rattle.nd_value.specs.declared.item.ItemKind.{ItemKind}
use Rattle.nd_value.specs.declared.item.ItemKind.TheVariants as item
use Rattle.text_grammar.specs.Paths.{member_path}
use Rattle.ndr_explain.specs.declared.levels.Level.{Level}
use Rattle.ndr_explain.specs.declared.levels.Level.TheVariants as level
use Rattle.ndr_explain.specs.Cursors.{Place, level_place}
use Rattle.ndr_trace_value.specs.Attributes.{first_of}
use Rattle.ndr_trace_value.specs.Places.{member_variable, place_variable}
use Rattle.ndr_trace_value.specs.Traces.{numbered_path}

-- the last of members
abbrev pub last_field : List Field → Option Field
last_field [] = None
last_field (f ∷ []) = Some f
last_field (f ∷ g ∷ fs) = last_field (g ∷ fs)

-- the last member of a struct; other types have none
abbrev pub last_member : Option TypeDef → Option Field
last_member (Some (def.Struct members)) = last_field members
last_member _ = None

-- on to a member, if there is one
abbrev pub onward : (ℕ → List ℕ → List ℕ) → List ℕ → Option Field → List ℕ
onward go p None = p
onward go p (Some f) = go f.of.0 (member_path p f.name)

-- the path of the last member, of its last member and so on, of a value of a type that nests at most n deep
abbrev pub last_within : ℕ → Table → ℕ → List ℕ → List ℕ
last_within zero table t p = p
last_within (suc n) table t p = onward (last_within n table) p (last_member (type_at table t))

-- The same of any value. As `hoists` it is right where `nests NESTING_LIMIT` holds.
unfoldable pub last_path : Table → ℕ → List ℕ → List ℕ
last_path table t p = last_within NESTING_LIMIT table t p

-- The path of the value that has the count or tag which an item is, from that of the item, and the types of the home's value: a maximum count is in
-- front of the home's value, all else is at the value itself.
abbrev pub counted_path : Table → ItemKind → List ℕ → List ℕ → List ℕ
counted_path table item.Max (t ∷ types) p = last_path table t p
counted_path table _ types p = p

-- the type of a value that has no name of its own
abbrev pub whole_types : Level → List ℕ
whole_types (level.Whole of) = of.0 ∷ []
whole_types _ = []

-- ## The variable of its attribute

-- the members of a type that is a struct
abbrev pub struct_of : Option TypeDef → Option (List Field)
struct_of (Some (def.Struct members)) = Some members
struct_of _ = None

-- the variable of the last member's attribute on its maximum count; if it has none, on to its own last member
abbrev pub stated_by : (ℕ → List ℕ → List ℕ) → List ℕ → List Field → Field → Option AttrVar → List ℕ
stated_by go p members f (Some by) = numbered_path p members by.var
stated_by go p members f None = go f.of.0 (member_path p f.name)

abbrev pub stated_by_last : (ℕ → List ℕ → List ℕ) → List ℕ → List Field → Option Field → List ℕ
stated_by_last go p members None = []
stated_by_last go p members (Some f) = stated_by go p members f (first_of item.Max f.vars)

abbrev pub stated_in : (ℕ → List ℕ → List ℕ) → List ℕ → Option (List Field) → List ℕ
stated_in go p None = []
stated_in go p (Some members) = stated_by_last go p members (last_field members)

-- the path of this variable, of a value of a type that nests at most n deep; nothing where there is none
abbrev pub variable_within : ℕ → Table → ℕ → List ℕ → List ℕ
variable_within zero table t p = []
variable_within (suc n) table t p = stated_in (variable_within n table) p (struct_of (type_at table t))

-- The same of any value, right as `last_path` is.
unfoldable pub last_variable : Table → ℕ → List ℕ → List ℕ
last_variable table t p = variable_within NESTING_LIMIT table t p

-- the same of a home's value, if there is one
abbrev pub front_variable : Table → List ℕ → List ℕ → List ℕ
front_variable table [] p = []
front_variable table (t ∷ types) p = last_variable table t p

-- The path of the variable that states the count or tag which an item is, from the item's kind, the types of the home's value, the item's path, and
-- which member of a struct its node is: a maximum count is in front of the home's value, and is that of a struct's last member; all else is of the
-- node itself. Nothing if that is no member, or the member has no attribute for it.
abbrev pub counted_variable : Table → ItemKind → List ℕ → List ℕ → Place → List ℕ
counted_variable table item.Max types p x = front_variable table types p
counted_variable table k types p x = member_variable k p x

-- The same of the node at which a level is: p is the node's path, q that of the node around it.
abbrev pub level_variable : Table → ItemKind → Level → List ℕ → List ℕ → List ℕ
level_variable table item.Max L p q = front_variable table (whole_types L) p
level_variable table k L p q = place_variable k q (level_place L)
