-- The rules of declarations: of attributes in lists, of declarations, parameters and unions as they are written, of values and counts.
use Rattle.std.specs.Prelude.{ℕ, ◌-◌, ℤ, pos, Bool, true, false, not, ◌&&◌, ◌||◌, ◌==◌, nat_lt, List, [], ◌∷◌, ◌++◌, length, map, take, drop, Option}
use Rattle.std.specs.Prelude.{Some, None, is_none, codes, int_le}
use Rattle.std.specs.List.{list_any, flat_map}
use Rattle.std.specs.Ordering.{int_eq}
use Rattle.nd_types.specs.declared.TheConstants.{ENUMERATOR_LIMIT, TYPE_LIMIT, OPERATION_LIMIT, PARAM_LIMIT, MEMBER_LIMIT}
use Rattle.nd_types.specs.declared.types.Primitive.TheVariants as primitive
use Rattle.nd_types.specs.Table.{in_range}
use Rattle.nd_types.specs.Kinds.{basic_types}
use Rattle.idl_lexer.specs.Pieces.{number_of as number_of_token}
use Rattle.idl_grammar.specs.declared.words.Spelling.{Spelling}
use Rattle.idl_grammar.specs.declared.types.SimpleType.{SimpleType}
use Rattle.idl_grammar.specs.Tree.{AttributeKind, Attribute, TypeSpec, Expr, Bound, Declarator, Init}
use Rattle.idl_grammar.specs.Tree as tree
use Rattle.idl_scope.specs.Known.{Known}
use Rattle.idl_rule_definitions.specs.Attributes.{word_of, is_word, has, has_one_of, is_class, classes, sizes, lengths, in_word, out_word}
use Rattle.idl_rule_definitions.specs.Attributes.{string_word}
use Rattle.idl_rule_definitions.specs.Nodes.{Construct, Position, InHeader, InTypedef, InTaggedType, InMember, InParameter, InArm, InCasedArm}
use Rattle.idl_rule_definitions.specs.Nodes.{InOperation, value_in, number_of, ArmLabel, Declared, Node, LabelNode, DeclaratorNode, OperationNode}
use Rattle.idl_rule_definitions.specs.Scene.{tag_written, Scene, enumerators_of}
use Rattle.idl_rule_definitions.specs.Types.{IdlType, Basic, Enum, is_void, is_handle, simple_type}
use Rattle.idl_rule_definitions.specs.Numbering.{own_types}

-- ## The rules of attributes, as they stand in lists (C706, sections 4.2.4, 4.2.9 and 4.2.12 to 4.2.14)

-- Rule 1: an attribute stands only in its place.

-- the words of the attributes that may stand in a place
abbrev pub words_in : Position → List (List ℕ)
words_in InHeader = codes "uuid" ∷ codes "version" ∷ codes "endpoint" ∷ codes "local" ∷ codes "pointer_default" ∷ []
words_in InTypedef = codes "string" ∷ codes "context_handle" ∷ codes "switch_type" ∷ codes "any_length" ∷ classes
words_in InTaggedType = codes "switch_type" ∷ []
words_in InMember = codes "string" ∷ codes "switch_is" ∷ classes ++ sizes ++ lengths
words_in InParameter = codes "in" ∷ codes "out" ∷ codes "context_handle" ∷ codes "string" ∷ codes "switch_is" ∷ classes ++ sizes ++ lengths
words_in InArm = codes "string" ∷ classes
words_in InCasedArm = codes "case" ∷ codes "default" ∷ codes "string" ∷ classes
words_in InOperation = codes "idempotent" ∷ codes "broadcast" ∷ codes "maybe" ∷ []

abbrev pub is_out_of_place : Position → Attribute → Bool
is_out_of_place position a = not (list_any (λ word. is_word word a) (words_in position))

-- Rule 2: no attribute word stands twice in one list.

-- the word of an attribute stands already before it
abbrev pub is_repeated : List Attribute → Attribute → Bool
is_repeated before a = has (word_of a.kind) before

-- Rule 3: the header of the main file has uuid or local.

abbrev pub lacks_uuid_and_local : Construct → Bool
lacks_uuid_and_local c = c.file == 0 && not (has (codes "uuid") c.attributes) && not (has (codes "local") c.attributes)

-- Rule 4: the numbers of a version are at most 65,535.

abbrev pub is_past_65535 : Option ℕ → Bool
is_past_65535 None = true
is_past_65535 (Some n) = nat_lt 65535 n

abbrev pub is_large_minor : Option Spelling → Bool
is_large_minor None = false
is_large_minor (Some s) = is_past_65535 (number_of_token s.octets)

abbrev pub is_large_version_in : AttributeKind → Bool
is_large_version_in (tree.Version major minor) = is_past_65535 (number_of_token major.octets) || is_large_minor minor
is_large_version_in _ = false

abbrev pub is_large_version : Attribute → Bool
is_large_version a = is_large_version_in a.kind

-- Rule 26: at most one class is in a list (the rest is in `TypeRules`).

-- a class after another
abbrev pub is_second_class : List Attribute → Attribute → Bool
is_second_class before a = is_class a && has_one_of classes before

-- ## The rules of declarations, parameters and unions as they are written (C706, sections 4.2.5 to 4.2.14)

-- Rule 5: a declaration that ends after its type has a struct, union or enum with its body.

abbrev pub has_no_body : TypeSpec → Bool
has_no_body (tree.Simple s) = true
has_no_body (tree.Name n) = true
has_no_body (tree.Tag at kind tag) = true
has_no_body _ = false

-- Rule 23: a non-encapsulated union has switch_type where its body stands, and each of its arms has case or default, not both.

abbrev pub lacks_switch_type : Construct → TypeSpec → Bool
lacks_switch_type c (tree.NonEncapsulatedUnion at tag arms) = is_none (tag_written c (tree.NonEncapsulatedUnion at tag arms))
lacks_switch_type c _ = false

abbrev same : Bool → Bool → Bool
same true b = b
same false b = not b

abbrev pub is_cased : Position → Bool
is_cased InCasedArm = true
is_cased _ = false

-- an arm with both or with neither
abbrev pub is_wrongly_cased : Construct → Bool
is_wrongly_cased c = is_cased c.position && same (has (codes "case") c.attributes) (has (codes "default") c.attributes)

-- Rules 26 and 33, of empty arms: they have neither a class nor `string`.

abbrev pub has_class : Construct → Bool
has_class c = has_one_of classes c.attributes

abbrev pub has_string : Construct → Bool
has_string c = has string_word c.attributes

-- Rule 30: every parameter has in or out.

abbrev pub is_parameter : Position → Bool
is_parameter InParameter = true
is_parameter _ = false

abbrev pub lacks_direction : Construct → Bool
lacks_direction c = is_parameter c.position && not (has in_word c.attributes) && not (has out_word c.attributes)

-- ## The rules of values: of constants, enumerators, bounds and labels (C706, sections 4.2.7 to 4.2.11)

abbrev pub is_between : ℤ → ℤ → ℤ → Bool
is_between least greatest z = int_le least z && int_le z greatest

-- Rule 13: the values of enumerators are 0 to 32,767.

abbrev pub is_small : Option ℤ → Bool
is_small None = true
is_small (Some z) = is_between (pos 0) (pos ENUMERATOR_LIMIT) z

-- an enumerator's name stands for another value
abbrev pub is_large_enumerator : Known → Spelling → Bool
is_large_enumerator known name = not (is_small (number_of known name.octets))

-- Rule 15: a lower bound is 0.

abbrev pub has_lower_bound : Known → Option Bound → Bool
has_lower_bound known (Some (tree.From e)) = not (int_eq (value_in known e) (pos 0))
has_lower_bound known (Some (tree.Between e f)) = not (int_eq (value_in known e) (pos 0))
has_lower_bound known _ = false

abbrev pub has_lower_bounds : Known → Declared → Bool
has_lower_bounds known d = list_any (has_lower_bound known) d.declarator.dimensions

-- Rule 22: labels are in the switch type's range, or one of its enumerators' values, and distinct, and default is at most once.

abbrev pub same_value : Option ℤ → Option ℤ → Bool
same_value None None = true
same_value (Some a) (Some b) = int_eq a b
same_value _ _ = false

abbrev pub label_value : Known → ArmLabel → Option ℤ
label_value known l = elim l.value [ None ↦ None | Some e ↦ Some (value_in known e) ]

-- a label stands already before this one
abbrev pub is_repeated_label : Known → List ArmLabel → ArmLabel → Bool
is_repeated_label known before l = list_any (λ m. same_value (label_value known m) (label_value known l)) before

abbrev pub is_value_of : Scene → Option IdlType → ℤ → Bool
is_value_of s (Some (Basic p)) z = in_range p z
is_value_of s (Some (Enum place)) z = list_any (λ e. same_value (number_of s.known e.name.octets) (Some z)) (enumerators_of s place)
is_value_of s _ z = true

abbrev pub is_label_of : Scene → Option IdlType → Option ℤ → Bool
is_label_of s tag None = true
is_label_of s tag (Some z) = is_value_of s tag z

-- a label that is no value of the tag's type, or that stands already
abbrev pub is_bad_label : Scene → Option IdlType → List ArmLabel → ArmLabel → Bool
is_bad_label s tag before l = not (is_label_of s tag (label_value s.known l)) || is_repeated_label s.known before l

-- Rule 38: a constant's value is in its type's range; a string has type `char *`, and NULL has `void *`.

abbrev pub is_char : IdlType → Bool
is_char (Basic primitive.Char) = true
is_char _ = false

abbrev pub holds : IdlType → ℤ → Bool
holds (Basic p) z = in_range p z
holds t z = false

abbrev pub is_right_constant : Known → IdlType → Bool → Init → Bool
is_right_constant known t star (tree.Text text) = star && is_char t
is_right_constant known t star (tree.Null at) = star && is_void t
is_right_constant known t star (tree.Value e) = not star && holds t (value_in known e)

abbrev pub is_wrong_constant : Known → SimpleType → Bool → Init → Bool
is_wrong_constant known type star value = not (is_right_constant known (simple_type type) star value)

-- Rule 6, of constants: `void` is only the type of NULL.

abbrev pub is_null : Init → Bool
is_null (tree.Null at) = true
is_null _ = false

abbrev pub is_void_constant : SimpleType → Init → Bool
is_void_constant type value = is_void (simple_type type) && not (is_null value)

-- Rule 7, of constants: none is of type `handle_t`.

abbrev pub is_handle_constant : SimpleType → Bool
is_handle_constant type = is_handle (simple_type type)

-- ## Rule 39: how many types, operations, parameters, members and arms there are

-- There are at most 4,096 types, 1,024 operations, 256 parameters of an operation, and 67,108,864 members of structs and arms of unions in all.
-- Each label of a union counts as an arm. The first that is one too many breaks the rule, and nothing after it does.

-- the first of a list past a limit, if there is one
abbrev pub first_past : {A : Type 0} → ℕ → List A → List A
first_past limit xs = take 1 (drop limit xs)

-- the construct at which the first type past the limit gets its number
abbrev pub types_too_many : Scene → List Construct
types_too_many s = first_past (TYPE_LIMIT - length basic_types) (map (λ n. n.construct) (own_types s))

abbrev pub operation_in : Node → List Construct
operation_in (OperationNode c name parameters result) = c ∷ []
operation_in _ = []

abbrev pub operations_too_many : Scene → List Construct
operations_too_many s = first_past OPERATION_LIMIT (flat_map (λ n. operation_in n.node) s.nodes)

abbrev pub parameters_in : Node → List Construct
parameters_in (OperationNode c name parameters result) = map (λ p. p.construct) parameters
parameters_in _ = []

abbrev pub parameters_too_many : Scene → List Construct
parameters_too_many s = flat_map (λ n. first_past PARAM_LIMIT (parameters_in n.node)) s.nodes

abbrev pub member_of : Position → Construct → List Construct
member_of InMember c = c ∷ []
member_of _ c = []

abbrev pub part_in : Node → List Construct
part_in (DeclaratorNode list index d) = member_of d.construct.position d.construct
part_in (LabelNode c body before label) = c ∷ []
part_in _ = []

abbrev pub parts_too_many : Scene → List Construct
parts_too_many s = first_past MEMBER_LIMIT (flat_map (λ n. part_in n.node) s.nodes)

abbrev pub too_many : Scene → List Construct
too_many s = types_too_many s ++ operations_too_many s ++ parameters_too_many s ++ parts_too_many s
