-- Which rules of the language are broken, and where; and which of these is reported.
use Rattle.std.specs.Prelude.{◌≡◌, ℕ, ◌+◌, Bool, true, false, ◌&&◌, ◌||◌, ◌==◌, nat_lt, List, [], ◌∷◌, ◌++◌, map, Option, Some, None}
use Rattle.std.specs.List.{flat_map, list_any}
use Rattle.nd_base.specs.declared.octets.Place.{Place}
use Rattle.idl_scope.specs.Known.{Ended}
use Rattle.idl_rule_definitions.specs.declared.rule.TheConstants as Rule
use Rattle.idl_rule_definitions.specs.Nodes.{World, Construct, place_in, Node, HeaderNode, AttributeNode, SwitchNode, TagNode, BodyNode}
use Rattle.idl_rule_definitions.specs.Nodes.{EnumeratorNode, LabelNode, EmptyArmNode, DeclaratorNode, ConstantNode, TypeNode, OperationNode}
use Rattle.idl_rule_definitions.specs.Types.{Names, switch_type, is_void, is_handle, is_pipe, is_context}
use Rattle.idl_rule_definitions.specs.Scene.{Scene, scene_of, Body, Use, use_of, tag_type, same_place}
use Rattle.idl_rule_definitions.specs.DeclarationRules.{is_out_of_place, is_repeated, lacks_uuid_and_local, is_large_version, is_second_class}
use Rattle.idl_rule_definitions.specs.DeclarationRules.{has_no_body, lacks_switch_type, is_wrongly_cased, has_class, has_string, lacks_direction}
use Rattle.idl_rule_definitions.specs.DeclarationRules.{is_large_enumerator, has_lower_bounds, is_bad_label, is_wrong_constant, is_void_constant}
use Rattle.idl_rule_definitions.specs.DeclarationRules.{is_handle_constant, too_many}
use Rattle.idl_rule_definitions.specs.TypeRules.{holds_void, holds_handle, holds_pipe, is_no_context_handle, holds_context_handle, in_tag}
use Rattle.idl_rule_definitions.specs.TypeRules.{contains_itself, is_deep_body, holds_deep_array, is_wrong_result, has_wrong_counts}
use Rattle.idl_rule_definitions.specs.TypeRules.{has_wrong_dimensions, has_wrong_elements, hoists_before_last, is_hoisting_arm, holds_wrong_pipe}
use Rattle.idl_rule_definitions.specs.TypeRules.{has_class_without_pointer, holds_pointer_without_class, holds_pointer_to_reference, is_nullable_out}
use Rattle.idl_rule_definitions.specs.TypeRules.{is_wrong_out}
use Rattle.idl_rule_definitions.specs.VariableRules.{may_not_be_switched, holds_nonencapsulated_union, has_wrong_switch, is_wrong_text}
use Rattle.idl_rule_definitions.specs.VariableRules.{is_wrongly_sized, is_wrongly_varying, has_no_variable, has_wrong_variable}

-- ## Which rules are broken, and where

-- Each kind of node has the rules that speak of it; a rule is reported at the octet where the attribute, the attribute list or the label
-- begins that breaks it, and else where the innermost declaration, member, parameter, arm or enumerator begins in which it is broken.

-- a rule, and a place at which it is broken
pub record Breach : Type 0 where
  pub rule : ℕ
  pub place : Place

abbrev pub breach : ℕ → Place → Breach
breach rule place = record { rule = rule; place = place }

-- a rule that is broken at an octet of a construct's file, if the test says so
abbrev pub broken_at : Construct → ℕ → ℕ → Bool → List Breach
broken_at c rule at true = breach rule (place_in c at) ∷ []
broken_at c rule at false = []

-- the same where the construct begins
abbrev pub broken_in : Construct → ℕ → Bool → List Breach
broken_in c rule broken = broken_at c rule c.at broken

abbrev pub breaches_of_use : Scene → Use → List Breach
breaches_of_use s u =
    broken_in u.construct Rule.VOID (holds_void u)
    ++ broken_in u.construct Rule.HANDLE (holds_handle u)
    ++ broken_in u.construct Rule.PIPES (holds_pipe u)
    ++ broken_in u.construct Rule.CONTEXT_HANDLE (is_no_context_handle u)
    ++ broken_in u.construct Rule.CONTEXT_HANDLES (holds_context_handle u)
    ++ broken_in u.construct Rule.NESTING (holds_deep_array s u)
    ++ broken_in u.construct Rule.ELEMENTS (has_wrong_counts u)
    ++ broken_in u.construct Rule.LOWER_BOUNDS (has_lower_bounds s.known u.it)
    ++ broken_in u.construct Rule.SEVERAL_DIMENSIONS (has_wrong_dimensions u)
    ++ broken_in u.construct Rule.ELEMENTS_OF_ARRAYS (has_wrong_elements s u)
    ++ broken_in u.construct Rule.MEMBERS_THAT_HOIST (hoists_before_last s u)
    ++ broken_in u.construct Rule.ARMS_THAT_HOIST (is_hoisting_arm s u)
    ++ broken_in u.construct Rule.ELEMENTS_OF_PIPES (holds_wrong_pipe s u)
    ++ broken_in u.construct Rule.CASES (is_wrongly_cased u.construct)
    ++ broken_in u.construct Rule.USES_OF_UNIONS (holds_nonencapsulated_union s u)
    ++ broken_in u.construct Rule.SWITCH_IS (has_wrong_switch s u)
    ++ broken_in u.construct Rule.CLASSES_ON_POINTERS (has_class_without_pointer u)
    ++ broken_in u.construct Rule.CLASS_OF_EACH_POINTER (holds_pointer_without_class u)
    ++ broken_in u.construct Rule.NO_POINTER_TO_REFERENCE (holds_pointer_to_reference u)
    ++ broken_in u.construct Rule.OUT_POINTERS (is_nullable_out u)
    ++ broken_in u.construct Rule.DIRECTIONS (lacks_direction u.construct)
    ++ broken_in u.construct Rule.OUT_PARAMETERS (is_wrong_out u)
    ++ broken_in u.construct Rule.RESULTS (is_wrong_result u)
    ++ broken_in u.construct Rule.TEXTS (is_wrong_text u)
    ++ broken_in u.construct Rule.SIZES (is_wrongly_sized u)
    ++ broken_in u.construct Rule.LENGTHS (is_wrongly_varying u)
    ++ broken_in u.construct Rule.VARIABLES (has_no_variable u)
    ++ broken_in u.construct Rule.INTEGER_VARIABLES (has_wrong_variable s u)

abbrev pub breaches_of_body : Scene → Body → List Breach
breaches_of_body s b =
    broken_in b.construct Rule.NO_TYPE_IN_ITSELF (contains_itself s b)
    ++ broken_in b.construct Rule.NESTING (is_deep_body s b)
    ++ broken_in b.construct Rule.CASES (lacks_switch_type b.construct b.body)

-- the rules that a node breaks
abbrev pub breaches_at : Scene → Names → Node → List Breach
breaches_at s names (HeaderNode c at) = broken_at c Rule.UUID_OR_LOCAL at (lacks_uuid_and_local c)
breaches_at s names (AttributeNode c before a) =
    broken_at c Rule.ATTRIBUTES_IN_PLACE a.at (is_out_of_place c.position a)
    ++ broken_at c Rule.NO_WORD_TWICE a.at (is_repeated before a)
    ++ broken_at c Rule.VERSION_NUMBERS a.at (is_large_version a)
    ++ broken_in c Rule.CLASSES_ON_POINTERS (is_second_class before a)
breaches_at s names (SwitchNode c type) =
    broken_in c Rule.VOID (in_tag is_void (switch_type names type))
    ++ broken_in c Rule.HANDLE (in_tag is_handle (switch_type names type))
    ++ broken_in c Rule.PIPES (in_tag is_pipe (switch_type names type))
    ++ broken_in c Rule.CONTEXT_HANDLES (in_tag is_context (switch_type names type))
    ++ broken_in c Rule.SWITCH_TYPES (may_not_be_switched (switch_type names type))
breaches_at s names (TagNode c kind tag) = []
breaches_at s names (BodyNode c body) = breaches_of_body s (record { construct = c; names = names; body = body })
breaches_at s names (EnumeratorNode c name) = broken_at c Rule.ENUMERATORS name.at (is_large_enumerator s.known name)
breaches_at s names (LabelNode c body before label) = broken_at c Rule.LABELS label.at (is_bad_label s (tag_type c names body) before label)
breaches_at s names (EmptyArmNode c) =
    broken_in c Rule.CASES (is_wrongly_cased c)
    ++ broken_in c Rule.CLASSES_ON_POINTERS (has_class c)
    ++ broken_in c Rule.TEXTS (has_string c)
breaches_at s names (DeclaratorNode list index d) = breaches_of_use s (use_of s.known names list index d)
breaches_at s names (ConstantNode c type star value) =
    broken_in c Rule.VOID (is_void_constant type value)
    ++ broken_in c Rule.HANDLE (is_handle_constant type)
    ++ broken_in c Rule.CONSTANTS (is_wrong_constant s.known type star value)
breaches_at s names (TypeNode c type) = broken_in c Rule.BODY (has_no_body type)
breaches_at s names (OperationNode c name parameters result) = []

-- all rules that are broken in a scene, each where it is
abbrev pub breaches_in : Scene → List Breach
breaches_in s = flat_map (λ n. breaches_at s n.names n.node) s.nodes ++ map (λ c. breach Rule.COUNTS (place_in c c.at)) (too_many s)

unfoldable pub breaches : World → List Breach
breaches w = breaches_in (scene_of w)

-- ## The rule that is reported: the least broken one, at its first place

-- Places go by the files in the order in which their resolving ended, then by octets.

-- how many files ended before this one
abbrev pub rank_in : List Ended → ℕ → ℕ
rank_in [] file = 0
rank_in (f ∷ fs) file = elim (f.file == file) [ true ↦ 0 | false ↦ rank_in fs file + 1 ]

abbrev pub rank : World → ℕ → ℕ
rank w file = rank_in w.files file

abbrev pub place_before : World → Place → Place → Bool
place_before w p q = nat_lt (rank w p.file) (rank w q.file) || rank w p.file == rank w q.file && nat_lt p.at q.at

-- a lesser rule, or the same at an earlier place
abbrev pub comes_before : World → Breach → Breach → Bool
comes_before w a b = nat_lt a.rule b.rule || a.rule == b.rule && place_before w a.place b.place

-- ### The first one

abbrev pub earlier : World → Breach → Option Breach → Breach
earlier w a None = a
earlier w a (Some b) = elim (comes_before w b a) [ true ↦ b | false ↦ a ]

-- the first of a list
abbrev pub first_of : World → List Breach → Option Breach
first_of w [] = None
first_of w (b ∷ bs) = Some (earlier w b (first_of w bs))

-- The rule that is reported, and where; none where no rule is broken.
abbrev pub first_broken : World → Option Breach
first_broken w = first_of w (breaches w)

-- ### What that means

abbrev pub same_breach : Breach → Breach → Bool
same_breach a b = a.rule == b.rule && same_place a.place b.place

-- one is in a list, and none in it comes before it
pub record IsFirstOf (w : World) (bs : List Breach) (b : Breach) : Type 0 where
  pub broken : list_any (same_breach b) bs ≡ true
  pub first : list_any (λ a. comes_before w a b) bs ≡ false

-- the first of a list, or none of an empty one
abbrev pub IsLeast : World → List Breach → Option Breach → Type 0
IsLeast w bs None = bs ≡ []
IsLeast w bs (Some b) = IsFirstOf w bs b

-- The rule is broken there, and no lesser rule is broken anywhere, nor this one at an earlier place.
abbrev pub IsFirstBroken : World → Breach → Type 0
IsFirstBroken w b = IsFirstOf w (breaches w) b

-- No rule is broken.
abbrev pub KeepsRules : World → Type 0
KeepsRules w = breaches w ≡ []
