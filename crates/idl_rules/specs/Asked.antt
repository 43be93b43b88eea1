-- For the code: what the rules ask of a declarator where it stands, over the numbers of its types.
use Rattle.std.specs.Prelude.{◌≡◌, ◌+◌, Bool, nat_lt, not, ◌&&◌, List, [], ◌∷◌, ◌++◌, length, Vec}
use Rattle.std.specs.List.{flat_map}
use Rattle.idl_rules.specs.declared.asked.Asked.{Asked}
use Rattle.idl_declared_types.specs.declared.kinds.Kind.{Kind}
use Rattle.idl_declared_types.specs.Kinds.{type_at}
use Rattle.idl_constructs.specs.SeenNodes.{seen_construct, seen_node}
use Rattle.idl_declared_types.specs.SeenTypes.{IsTypedUse}
use Rattle.idl_rule_definitions.specs.Nodes.{Construct}
use Rattle.idl_rule_definitions.specs.Types.{IdlType, is_void, is_handle, is_pipe, is_context, Names}
use Rattle.idl_rule_definitions.specs.Scene.{Scene, Scoped, Body, Use}
use Rattle.idl_rule_definitions.specs.Rules.{Breach, broken_in, breaches_at}
use Rattle.idl_rule_definitions.specs.DeclarationRules.{lacks_switch_type, is_wrongly_cased, has_class, has_string, lacks_direction, has_lower_bounds}
use Rattle.idl_rule_definitions.specs.TypeRules.{holds_void, holds_handle, holds_pipe, is_no_context_handle, holds_context_handle, in_tag}
use Rattle.idl_rule_definitions.specs.TypeRules.{is_deep_body, holds_deep_array, is_wrong_result, has_wrong_counts, has_wrong_dimensions}
use Rattle.idl_rule_definitions.specs.TypeRules.{has_wrong_elements, hoists_before_last, is_hoisting_arm, holds_wrong_pipe, has_class_without_pointer}
use Rattle.idl_rule_definitions.specs.TypeRules.{holds_pointer_without_class, holds_pointer_to_reference, is_nullable_out, is_wrong_out}
use Rattle.idl_rule_definitions.specs.VariableRules.{may_not_be_switched, holds_nonencapsulated_union, has_wrong_switch, is_wrong_text}
use Rattle.idl_rule_definitions.specs.VariableRules.{is_wrongly_sized, is_wrongly_varying, has_no_variable, has_wrong_variable}
use Rattle.idl_grammar.specs.Seen.{seen_type}
use Rattle.idl_constructs.specs.declared.nodes.Declared as declared
use Rattle.idl_constructs.specs.declared.nodes.Node as program_node
use Rattle.idl_constructs.specs.declared.nodes.Node.TheVariants as node
use Rattle.idl_rule_definitions.specs.OthersOf.{others_of}
use Rattle.idl_rule_definitions.specs.declared.rule.TheConstants as Rule

-- ## Declarators

-- others stand after it in its list
abbrev pub is_followed : Use → Bool
is_followed u = nat_lt (u.index + 1) (length u.list)

-- a declarator in the program's terms; what is not said there is that of another
abbrev pub asked_use : List Kind → Asked → Use → Use
asked_use ks a u = record u { construct = seen_construct a.construct; declared_as = type_at ks a.typed.declared_as; type = type_at ks a.typed.of }

-- what is said of a declarator in the program's terms
pub record IsAsked (s : Scene) (ks : List Kind) (u : Use) (a : Asked) : Type 0 where
  pub construct : seen_construct a.construct ≡ u.construct
  pub typed : IsTypedUse s ks u a.typed
  pub followed : a.followed ≡ is_followed u
  pub lower_bounds : a.lower_bounds ≡ has_lower_bounds s.known u.it
  pub no_variable : a.no_variable ≡ has_no_variable u

-- ## The breaches of a declarator, topic by topic, after others

abbrev pub with_types : Scene → Use → List Breach → List Breach
with_types s u before =
    before
    ++ broken_in u.construct Rule.VOID (holds_void u)
    ++ broken_in u.construct Rule.HANDLE (holds_handle u)
    ++ broken_in u.construct Rule.PIPES (holds_pipe u)
    ++ broken_in u.construct Rule.CONTEXT_HANDLE (is_no_context_handle u)
    ++ broken_in u.construct Rule.CONTEXT_HANDLES (holds_context_handle u)
    ++ broken_in u.construct Rule.NESTING (holds_deep_array s u)

abbrev pub with_arrays : Scene → Use → List Breach → List Breach
with_arrays s u before =
    before
    ++ broken_in u.construct Rule.ELEMENTS (has_wrong_counts u)
    ++ broken_in u.construct Rule.LOWER_BOUNDS (has_lower_bounds s.known u.it)
    ++ broken_in u.construct Rule.SEVERAL_DIMENSIONS (has_wrong_dimensions u)
    ++ broken_in u.construct Rule.ELEMENTS_OF_ARRAYS (has_wrong_elements s u)
    ++ broken_in u.construct Rule.MEMBERS_THAT_HOIST (hoists_before_last s u)
    ++ broken_in u.construct Rule.ARMS_THAT_HOIST (is_hoisting_arm s u)
    ++ broken_in u.construct Rule.ELEMENTS_OF_PIPES (holds_wrong_pipe s u)

abbrev pub with_unions : Scene → Use → List Breach → List Breach
with_unions s u before =
    before
    ++ broken_in u.construct Rule.CASES (is_wrongly_cased u.construct)
    ++ broken_in u.construct Rule.USES_OF_UNIONS (holds_nonencapsulated_union s u)
    ++ broken_in u.construct Rule.SWITCH_IS (has_wrong_switch s u)

abbrev pub with_pointers : Scene → Use → List Breach → List Breach
with_pointers s u before =
    before
    ++ broken_in u.construct Rule.CLASSES_ON_POINTERS (has_class_without_pointer u)
    ++ broken_in u.construct Rule.CLASS_OF_EACH_POINTER (holds_pointer_without_class u)
    ++ broken_in u.construct Rule.NO_POINTER_TO_REFERENCE (holds_pointer_to_reference u)
    ++ broken_in u.construct Rule.OUT_POINTERS (is_nullable_out u)
    ++ broken_in u.construct Rule.DIRECTIONS (lacks_direction u.construct)
    ++ broken_in u.construct Rule.OUT_PARAMETERS (is_wrong_out u)
    ++ broken_in u.construct Rule.RESULTS (is_wrong_result u)

abbrev pub with_variables : Scene → Use → List Breach → List Breach
with_variables s u before =
    before
    ++ broken_in u.construct Rule.TEXTS (is_wrong_text u)
    ++ broken_in u.construct Rule.SIZES (is_wrongly_sized u)
    ++ broken_in u.construct Rule.LENGTHS (is_wrongly_varying u)
    ++ broken_in u.construct Rule.VARIABLES (has_no_variable u)
    ++ broken_in u.construct Rule.INTEGER_VARIABLES (has_wrong_variable s u)

-- those of a body but for rule 11
abbrev pub body_breaches : Scene → Body → List Breach
body_breaches s b =
    broken_in b.construct Rule.NESTING (is_deep_body s b)
    ++ broken_in b.construct Rule.CASES (lacks_switch_type b.construct b.body)

-- those of a type that is to tell the arms of a union apart
abbrev pub switch_breaches : Construct → IdlType → List Breach
switch_breaches c t =
    broken_in c Rule.VOID (in_tag is_void t)
    ++ broken_in c Rule.HANDLE (in_tag is_handle t)
    ++ broken_in c Rule.PIPES (in_tag is_pipe t)
    ++ broken_in c Rule.CONTEXT_HANDLES (in_tag is_context t)
    ++ broken_in c Rule.SWITCH_TYPES (may_not_be_switched t)

abbrev pub empty_arm_breaches : Construct → List Breach
empty_arm_breaches c =
    broken_in c Rule.CASES (is_wrongly_cased c)
    ++ broken_in c Rule.CLASSES_ON_POINTERS (has_class c)
    ++ broken_in c Rule.TEXTS (has_string c)

-- those of the nodes for which one of the program stands
abbrev pub program_breaches : {A : Type 0} → Scene → Names → List (Vec declared.Declared A) → program_node.Node → List Breach
program_breaches s names lists (node.Body c body) =
    body_breaches s (record { construct = seen_construct c; names = names; body = seen_type body.now })
program_breaches s names lists n = others_of s names (seen_node lists n)
