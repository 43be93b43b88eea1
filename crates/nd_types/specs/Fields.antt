-- The members of structs and the parameters of operations with their attributes.
-- `f` is a field, `p` a field where it stands or a parameter, `v` an attribute with its variable, `d` a type, `o` an
-- operation.
use Rattle.std.specs.Prelude.{ℕ, Bool, true, false, not, ◌==◌, ◌&&◌, ◌||◌, nat_lt, List, [], ◌∷◌, Option, Some, None, map, slice_get}
use Rattle.std.specs.List.{list_all, list_any, enumerate_from}
use Rattle.nd_types.specs.declared.types.TypeDef.{TypeDef}
use Rattle.nd_types.specs.declared.types.TypeDef.TheVariants.{Struct}
use Rattle.nd_types.specs.declared.types.Field.{Field}
use Rattle.nd_types.specs.declared.types.Attr.{Attr}
use Rattle.nd_types.specs.declared.types.Attr.TheVariants.{Size, Max, First, Length, Last, Switch}
use Rattle.nd_types.specs.declared.types.AttrVar.{AttrVar}
use Rattle.nd_types.specs.declared.types.Operation.{Operation}
use Rattle.nd_types.specs.Table.{Table, type_at}
use Rattle.nd_types.specs.Kinds.{pointee, referent_type}

-- a field where it stands: in which list, at which index, and whether the list is that of an operation's parameters
pub record FieldAt : Type 0 where
  pub siblings : List Field
  pub index : ℕ
  pub is_param : Bool
  pub field : Field

-- the fields of a list
abbrev pub fields_at : Bool → List Field → List FieldAt
fields_at is_param fields = map (λ e. record { siblings = fields; index = e.0; is_param = is_param; field = e.1 }) (enumerate_from 0 fields)

-- the members of a struct; other types have none
abbrev pub members_of : TypeDef → List Field
members_of (Struct members) = members
members_of _ = []

-- the fields of an operation's parameters
abbrev pub param_fields : Operation → List Field
param_fields o = map (λ p. p.field) o.params

-- each member of a struct and each parameter passes the test
abbrev pub all_fields : (FieldAt → Bool) → Table → List Operation → Bool
all_fields test types operations =
    list_all (λ d. list_all test (fields_at false (members_of d))) types
    && list_all (λ o. list_all test (fields_at true (param_fields o))) operations

-- the place of an attribute in the order of checks
abbrev pub attr_rank : Attr → ℕ
attr_rank Size = 0
attr_rank Max = 1
attr_rank First = 2
attr_rank Length = 3
attr_rank Last = 4
attr_rank Switch = 5

-- each attribute comes before the next in the order of checks
abbrev pub are_ordered : List AttrVar → Bool
are_ordered [] = true
are_ordered (a ∷ []) = true
are_ordered (a ∷ b ∷ more) = nat_lt (attr_rank a.attr) (attr_rank b.attr) && are_ordered (b ∷ more)

-- whether a field has this attribute
abbrev pub has_attr : Attr → Field → Bool
has_attr attr f = list_any (λ v. attr_rank v.attr == attr_rank attr) f.vars

-- size_is or max_is
abbrev pub has_size : Field → Bool
has_size f = has_attr Size f || has_attr Max f

-- first_is, length_is or last_is
abbrev pub has_range_attr : Field → Bool
has_range_attr f = has_attr First f || (has_attr Length f || has_attr Last f)

-- the type that a field's attributes speak of: its own, or the pointee's where it is a pointer
abbrev pub subject_type : Table → Field → Option TypeDef
subject_type table f = type_at table (pointee table f.of.0)

-- the type of a variable: with a star the pointee of a parameter that is a reference pointer
abbrev variable_by : Table → Bool → Bool → Option Field → Option TypeDef
variable_by table is_param false (Some f) = type_at table f.of.0
variable_by table true true (Some f) = referent_type table f.of.0
variable_by table _ _ _ = None

-- the type of the variable of a field's attribute
abbrev pub variable_type : Table → FieldAt → AttrVar → Option TypeDef
variable_type table p v = variable_by table p.is_param v.star (slice_get p.siblings v.var)

-- each variable of the attributes at which the first test passes has a type at which the second does
abbrev pub all_variables : (Attr → Bool) → (Option TypeDef → Bool) → Table → FieldAt → Bool
all_variables is_meant test table p = list_all (λ v. not (is_meant v.attr) || test (variable_type table p v)) p.field.vars
