-- The rules of `string` and of the attributes that state counts and tags by variables (C706, sections 4.2.11 and 4.2.17 to 4.2.19).
use Rattle.std.specs.Prelude.{ℕ, ◌+◌, Bool, true, false, not, ◌&&◌, ◌||◌, ◌==◌, List, [], ◌∷◌, ◌++◌, Option, Some, None, codes}
use Rattle.std.specs.List.{list_any}
use Rattle.std.specs.Str.{bytes_eq}
use Rattle.nd_types.specs.declared.types.Primitive.TheVariants as primitive
use Rattle.nd_types.specs.Kinds.{is_integer_prim, is_switch_prim}
use Rattle.idl_grammar.specs.declared.attributes.PointerClass.TheVariants as class
use Rattle.idl_grammar.specs.declared.attributes.Variable.{Variable}
use Rattle.idl_grammar.specs.Tree.{Attribute}
use Rattle.idl_rule_definitions.specs.Attributes.{has, has_one_of, sizes, lengths, string_word, switch_is_word, variable_said}
use Rattle.idl_rule_definitions.specs.Nodes.{Position, InTypedef, InMember, InParameter, Declared}
use Rattle.idl_rule_definitions.specs.DeclarationRules.{is_parameter}
use Rattle.idl_rule_definitions.specs.Types.{IdlType, Basic, Enum, Array, Text, Pointer, type_of, is_text, is_pointer, is_conformant_array}
use Rattle.idl_rule_definitions.specs.Types.{is_conformant_text}
use Rattle.idl_rule_definitions.specs.Scene.{Scene, Use, is_nonencapsulated, chain, below}

-- ## Variables

-- a member or parameter of a list, and its number there
pub record Listed : Type 0 where
  pub index : ℕ
  pub it : Declared

-- the member or parameter of a name, from this number on
abbrev pub listed_from : ℕ → List Declared → List ℕ → Option Listed
listed_from index [] name = None
listed_from index (d ∷ ds) name =
    elim (bytes_eq name d.declarator.name.octets) [ true ↦ Some (record { index = index; it = d }) | false ↦ listed_from (index + 1) ds name ]

-- the member of the same struct or the parameter of the same operation that an attribute names
abbrev pub variable_of : Use → Variable → Option Listed
variable_of u v = listed_from 0 u.list v.name.octets

-- a type that a variable may have: with `*` it is after a parameter that is a reference pointer
abbrev pub passes : (IdlType → Bool) → Bool → Bool → IdlType → Bool
passes test is_param false t = test t
passes test true true (Pointer (Some class.Reference) to) = test to
passes test _ _ _ = false

abbrev pub passes_listed : Scene → Use → (IdlType → Bool) → Bool → Option Listed → Bool
passes_listed s u test star None = true
passes_listed s u test star (Some d) = passes test (is_parameter d.it.construct.position) star (type_of s.known u.names d.it)

-- where its list has the variable, it is of such a type
abbrev pub is_right_variable : Scene → Use → (IdlType → Bool) → Variable → Bool
is_right_variable s u test v = passes_listed s u test v.star (variable_of u v)

-- the variable of an attribute, where its word is one of these
abbrev pub variable_if : List (List ℕ) → Option (List ℕ × Variable) → List Variable
variable_if words None = []
variable_if words (Some e) = elim (list_any (bytes_eq e.0) words) [ true ↦ e.1 ∷ [] | false ↦ [] ]

-- the variables of the attributes of these words
abbrev pub variables : List (List ℕ) → List Attribute → List Variable
variables words [] = []
variables words (a ∷ more) = variable_if words (variable_said a.kind) ++ variables words more

-- small, short, long and hyper, signed or unsigned
abbrev pub is_integer : IdlType → Bool
is_integer (Basic p) = is_integer_prim p
is_integer _ = false

-- an integer, char, boolean or enumerated type
abbrev pub may_be_switched : IdlType → Bool
may_be_switched (Basic p) = is_switch_prim p
may_be_switched (Enum place) = true
may_be_switched _ = false

-- Rule 21: a switch type is an integer, char, boolean or enumerated type.

abbrev pub may_not_be_switched : IdlType → Bool
may_not_be_switched t = not (may_be_switched t)

-- Rule 24: a non-encapsulated union is used only by a member or parameter that has switch_is, as its type or as the pointee of its outermost pointer.

abbrev pub below_pointer : IdlType → List IdlType
below_pointer (Pointer class to) = below to
below_pointer t = below t

abbrev pub is_switched_place : Position → Bool → Bool
is_switched_place InTypedef has_switch_is = true
is_switched_place InMember has_switch_is = has_switch_is
is_switched_place InParameter has_switch_is = has_switch_is
is_switched_place _ has_switch_is = false

-- the types in which no such union may stand; a typedef only names what a member or parameter may be
abbrev pub without_union : Use → List IdlType
without_union u =
    elim (is_switched_place u.construct.position (has switch_is_word u.construct.attributes)) [ true ↦ below_pointer u.type | false ↦ chain u.type ]

abbrev pub holds_nonencapsulated_union : Scene → Use → Bool
holds_nonencapsulated_union s u = list_any (is_nonencapsulated s) (without_union u)

-- Rule 25: switch_is stands only on such a member or parameter, and its variable, where its list of members or parameters has it, is, without `*`, of
-- an integer, char, boolean or enumerated type, or, with `*`, a parameter that is a reference pointer to one of these.

abbrev pub is_switched : Scene → IdlType → Bool
is_switched s (Pointer class to) = is_nonencapsulated s to
is_switched s t = is_nonencapsulated s t

abbrev pub has_wrong_switch : Scene → Use → Bool
has_wrong_switch s u =
    has switch_is_word u.construct.attributes
    && (not (is_switched s u.type)
    || list_any (λ v. not (is_right_variable s u may_be_switched v)) (variables (switch_is_word ∷ []) u.construct.attributes))

-- Rule 33: `string` stands only on an array of char or byte or a pointer to one of these, without length_is, first_is, last_is or any_length. On what
-- is a text already, or a pointer to a conformant text, it changes nothing.

abbrev pub is_octet : IdlType → Bool
is_octet (Basic primitive.Char) = true
is_octet (Basic primitive.Byte) = true
is_octet _ = false

abbrev pub may_be_text : IdlType → Bool
may_be_text (Text t count) = true
may_be_text (Array t count varying) = is_octet t
may_be_text (Pointer class to) = is_octet to || is_conformant_text to
may_be_text _ = false

abbrev pub is_wrong_text : Use → Bool
is_wrong_text u = has string_word u.construct.attributes && (not (may_be_text u.declared_as) || has_one_of lengths u.construct.attributes)

-- Rule 34: size_is, max_is and any_size stand only on a conformant array or a pointer that is no context handle, and no two of them on one; a member
-- or parameter whose own type is a conformant array that is no text has one.

abbrev pub has_two_sizes : List Attribute → Bool
has_two_sizes attributes =
    (has (codes "size_is") attributes && has (codes "max_is") attributes)
    || (has (codes "any_size") attributes && (has (codes "size_is") attributes || has (codes "max_is") attributes))

abbrev pub may_be_sized : IdlType → Bool
may_be_sized t = is_pointer t || is_conformant_array t || is_conformant_text t

abbrev pub is_listed : Position → Bool
is_listed InMember = true
is_listed InParameter = true
is_listed _ = false

abbrev pub is_wrongly_sized : Use → Bool
is_wrongly_sized u =
    elim (has_one_of sizes u.construct.attributes) [
      | true ↦ not (may_be_sized u.declared_as) || has_two_sizes u.construct.attributes
      | false ↦ is_listed u.construct.position && is_conformant_array u.type
    ]

-- Rule 35: length_is, first_is, last_is and any_length stand only on an array that is no text, or on a pointer with size_is, max_is or any_size that
-- does not point to a text; length_is and last_is not both, and any_length without the three others.

abbrev pub has_two_lengths : List Attribute → Bool
has_two_lengths attributes =
    (has (codes "length_is") attributes && has (codes "last_is") attributes)
    || (has (codes "any_length") attributes
    && (has (codes "first_is") attributes || (has (codes "length_is") attributes || has (codes "last_is") attributes)))

abbrev pub may_vary : Bool → IdlType → Bool
may_vary is_sized (Array t count varying) = true
may_vary is_sized (Pointer class to) = is_sized && not (is_text to)
may_vary is_sized t = false

abbrev pub is_wrongly_varying : Use → Bool
is_wrongly_varying u =
    has_one_of lengths u.construct.attributes
    && (not (may_vary (has_one_of sizes u.construct.attributes) u.type) || has_two_lengths u.construct.attributes)

-- Rule 36: an attribute's variable is a member of the same struct or a parameter of the same operation, and not itself.

abbrev pub is_other : ℕ → Option Listed → Bool
is_other index None = false
is_other index (Some d) = not (d.index == index)

abbrev pub has_no_variable : Use → Bool
has_no_variable u = list_any (λ v. not (is_other u.index (variable_of u v))) (variables (switch_is_word ∷ sizes ++ lengths) u.construct.attributes)

-- Rule 37: the variable of size_is, max_is, first_is, length_is and last_is is, without `*`, an integer, or, with `*`, a parameter that is a
-- reference pointer to an integer.

abbrev pub has_wrong_variable : Scene → Use → Bool
has_wrong_variable s u = list_any (λ v. not (is_right_variable s u is_integer v)) (variables (sizes ++ lengths) u.construct.attributes)
