-- A declarator breaks no rule: each test fails.
use Rattle.std.proofs.Common.{◌≡◌, ℕ, Bool, true, false, List, [], ◌∷◌, ◌++◌, refl}
use Rattle.idl_rule_definitions.specs.Nodes.{Construct}
use Rattle.idl_rule_definitions.specs.Rules.{broken_in, breaches_of_use}
use Rattle.idl_rule_definitions.specs.Scene.{Scene, Use}
use Rattle.idl_rule_definitions.specs.Kept.{KeepsUse}
use Rattle.idl_rule_definitions.specs.DeclarationRules.{is_wrongly_cased, lacks_direction, has_lower_bounds}
use Rattle.idl_rule_definitions.specs.TypeRules.{holds_void, holds_handle, holds_pipe, is_no_context_handle, holds_context_handle, holds_deep_array, is_wrong_result, has_wrong_counts}
use Rattle.idl_rule_definitions.specs.TypeRules.{has_wrong_dimensions, has_wrong_elements, hoists_before_last, is_hoisting_arm, holds_wrong_pipe, has_class_without_pointer}
use Rattle.idl_rule_definitions.specs.TypeRules.{holds_pointer_without_class, holds_pointer_to_reference, is_nullable_out, is_wrong_out}
use Rattle.idl_rule_definitions.specs.VariableRules.{holds_nonencapsulated_union, has_wrong_switch, is_wrong_text, is_wrongly_sized, is_wrongly_varying, has_no_variable, has_wrong_variable}
use Rattle.idl_rule_definitions.specs.declared.rule.TheConstants as Rule

-- two lists that are nothing together
pub neither : {X : Type 0} (xs ys : List X) → xs ++ ys ≡ [] → (xs ≡ []) × (ys ≡ [])
neither [] ys h = (refl, h)
neither (x ∷ xs) ys h = absurd (let e : x ∷ (xs ++ ys) ≡ [] = h in cc)

pub fails : (c : Construct) (rule : ℕ) (b : Bool) → broken_in c rule b ≡ [] → b ≡ false
fails c rule false h = refl
fails c rule true h = absurd (cc)

pub keeps_use : (s : Scene) (u : Use) → breaches_of_use s u ≡ [] → KeepsUse s u
keeps_use s u h_27 =
    let p_27 =
    neither (broken_in u.construct Rule.VOID (holds_void u) ++ broken_in u.construct Rule.HANDLE (holds_handle u) ++ broken_in u.construct Rule.PIPES (holds_pipe u)
    ++ broken_in u.construct Rule.CONTEXT_HANDLE (is_no_context_handle u) ++ broken_in u.construct Rule.CONTEXT_HANDLES (holds_context_handle u)
    ++ broken_in u.construct Rule.NESTING (holds_deep_array s u) ++ broken_in u.construct Rule.ELEMENTS (has_wrong_counts u)
    ++ broken_in u.construct Rule.LOWER_BOUNDS (has_lower_bounds s.known u.it) ++ broken_in u.construct Rule.SEVERAL_DIMENSIONS (has_wrong_dimensions u)
    ++ broken_in u.construct Rule.ELEMENTS_OF_ARRAYS (has_wrong_elements s u) ++ broken_in u.construct Rule.MEMBERS_THAT_HOIST (hoists_before_last s u)
    ++ broken_in u.construct Rule.ARMS_THAT_HOIST (is_hoisting_arm s u) ++ broken_in u.construct Rule.ELEMENTS_OF_PIPES (holds_wrong_pipe s u)
    ++ broken_in u.construct Rule.CASES (is_wrongly_cased u.construct) ++ broken_in u.construct Rule.USES_OF_UNIONS (holds_nonencapsulated_union s u)
    ++ broken_in u.construct Rule.SWITCH_IS (has_wrong_switch s u) ++ broken_in u.construct Rule.CLASSES_ON_POINTERS (has_class_without_pointer u)
    ++ broken_in u.construct Rule.CLASS_OF_EACH_POINTER (holds_pointer_without_class u) ++ broken_in u.construct Rule.NO_POINTER_TO_REFERENCE (holds_pointer_to_reference u)
    ++ broken_in u.construct Rule.OUT_POINTERS (is_nullable_out u) ++ broken_in u.construct Rule.DIRECTIONS (lacks_direction u.construct)
    ++ broken_in u.construct Rule.OUT_PARAMETERS (is_wrong_out u) ++ broken_in u.construct Rule.RESULTS (is_wrong_result u) ++ broken_in u.construct Rule.TEXTS (is_wrong_text u)
    ++ broken_in u.construct Rule.SIZES (is_wrongly_sized u) ++ broken_in u.construct Rule.LENGTHS (is_wrongly_varying u) ++ broken_in u.construct Rule.VARIABLES (has_no_variable u))
    (broken_in u.construct Rule.INTEGER_VARIABLES (has_wrong_variable s u)) h_27 in
    let h_26 = p_27.0 in
    let p_26 =
    neither (broken_in u.construct Rule.VOID (holds_void u) ++ broken_in u.construct Rule.HANDLE (holds_handle u) ++ broken_in u.construct Rule.PIPES (holds_pipe u)
    ++ broken_in u.construct Rule.CONTEXT_HANDLE (is_no_context_handle u) ++ broken_in u.construct Rule.CONTEXT_HANDLES (holds_context_handle u)
    ++ broken_in u.construct Rule.NESTING (holds_deep_array s u) ++ broken_in u.construct Rule.ELEMENTS (has_wrong_counts u)
    ++ broken_in u.construct Rule.LOWER_BOUNDS (has_lower_bounds s.known u.it) ++ broken_in u.construct Rule.SEVERAL_DIMENSIONS (has_wrong_dimensions u)
    ++ broken_in u.construct Rule.ELEMENTS_OF_ARRAYS (has_wrong_elements s u) ++ broken_in u.construct Rule.MEMBERS_THAT_HOIST (hoists_before_last s u)
    ++ broken_in u.construct Rule.ARMS_THAT_HOIST (is_hoisting_arm s u) ++ broken_in u.construct Rule.ELEMENTS_OF_PIPES (holds_wrong_pipe s u)
    ++ broken_in u.construct Rule.CASES (is_wrongly_cased u.construct) ++ broken_in u.construct Rule.USES_OF_UNIONS (holds_nonencapsulated_union s u)
    ++ broken_in u.construct Rule.SWITCH_IS (has_wrong_switch s u) ++ broken_in u.construct Rule.CLASSES_ON_POINTERS (has_class_without_pointer u)
    ++ broken_in u.construct Rule.CLASS_OF_EACH_POINTER (holds_pointer_without_class u) ++ broken_in u.construct Rule.NO_POINTER_TO_REFERENCE (holds_pointer_to_reference u)
    ++ broken_in u.construct Rule.OUT_POINTERS (is_nullable_out u) ++ broken_in u.construct Rule.DIRECTIONS (lacks_direction u.construct)
    ++ broken_in u.construct Rule.OUT_PARAMETERS (is_wrong_out u) ++ broken_in u.construct Rule.RESULTS (is_wrong_result u) ++ broken_in u.construct Rule.TEXTS (is_wrong_text u)
    ++ broken_in u.construct Rule.SIZES (is_wrongly_sized u) ++ broken_in u.construct Rule.LENGTHS (is_wrongly_varying u)) (broken_in u.construct Rule.VARIABLES (has_no_variable u)) h_26 in
    let h_25 = p_26.0 in
    let p_25 =
    neither (broken_in u.construct Rule.VOID (holds_void u) ++ broken_in u.construct Rule.HANDLE (holds_handle u) ++ broken_in u.construct Rule.PIPES (holds_pipe u)
    ++ broken_in u.construct Rule.CONTEXT_HANDLE (is_no_context_handle u) ++ broken_in u.construct Rule.CONTEXT_HANDLES (holds_context_handle u)
    ++ broken_in u.construct Rule.NESTING (holds_deep_array s u) ++ broken_in u.construct Rule.ELEMENTS (has_wrong_counts u)
    ++ broken_in u.construct Rule.LOWER_BOUNDS (has_lower_bounds s.known u.it) ++ broken_in u.construct Rule.SEVERAL_DIMENSIONS (has_wrong_dimensions u)
    ++ broken_in u.construct Rule.ELEMENTS_OF_ARRAYS (has_wrong_elements s u) ++ broken_in u.construct Rule.MEMBERS_THAT_HOIST (hoists_before_last s u)
    ++ broken_in u.construct Rule.ARMS_THAT_HOIST (is_hoisting_arm s u) ++ broken_in u.construct Rule.ELEMENTS_OF_PIPES (holds_wrong_pipe s u)
    ++ broken_in u.construct Rule.CASES (is_wrongly_cased u.construct) ++ broken_in u.construct Rule.USES_OF_UNIONS (holds_nonencapsulated_union s u)
    ++ broken_in u.construct Rule.SWITCH_IS (has_wrong_switch s u) ++ broken_in u.construct Rule.CLASSES_ON_POINTERS (has_class_without_pointer u)
    ++ broken_in u.construct Rule.CLASS_OF_EACH_POINTER (holds_pointer_without_class u) ++ broken_in u.construct Rule.NO_POINTER_TO_REFERENCE (holds_pointer_to_reference u)
    ++ broken_in u.construct Rule.OUT_POINTERS (is_nullable_out u) ++ broken_in u.construct Rule.DIRECTIONS (lacks_direction u.construct)
    ++ broken_in u.construct Rule.OUT_PARAMETERS (is_wrong_out u) ++ broken_in u.construct Rule.RESULTS (is_wrong_result u) ++ broken_in u.construct Rule.TEXTS (is_wrong_text u)
    ++ broken_in u.construct Rule.SIZES (is_wrongly_sized u)) (broken_in u.construct Rule.LENGTHS (is_wrongly_varying u)) h_25 in
    let h_24 = p_25.0 in
    let p_24 =
    neither (broken_in u.construct Rule.VOID (holds_void u) ++ broken_in u.construct Rule.HANDLE (holds_handle u) ++ broken_in u.construct Rule.PIPES (holds_pipe u)
    ++ broken_in u.construct Rule.CONTEXT_HANDLE (is_no_context_handle u) ++ broken_in u.construct Rule.CONTEXT_HANDLES (holds_context_handle u)
    ++ broken_in u.construct Rule.NESTING (holds_deep_array s u) ++ broken_in u.construct Rule.ELEMENTS (has_wrong_counts u)
    ++ broken_in u.construct Rule.LOWER_BOUNDS (has_lower_bounds s.known u.it) ++ broken_in u.construct Rule.SEVERAL_DIMENSIONS (has_wrong_dimensions u)
    ++ broken_in u.construct Rule.ELEMENTS_OF_ARRAYS (has_wrong_elements s u) ++ broken_in u.construct Rule.MEMBERS_THAT_HOIST (hoists_before_last s u)
    ++ broken_in u.construct Rule.ARMS_THAT_HOIST (is_hoisting_arm s u) ++ broken_in u.construct Rule.ELEMENTS_OF_PIPES (holds_wrong_pipe s u)
    ++ broken_in u.construct Rule.CASES (is_wrongly_cased u.construct) ++ broken_in u.construct Rule.USES_OF_UNIONS (holds_nonencapsulated_union s u)
    ++ broken_in u.construct Rule.SWITCH_IS (has_wrong_switch s u) ++ broken_in u.construct Rule.CLASSES_ON_POINTERS (has_class_without_pointer u)
    ++ broken_in u.construct Rule.CLASS_OF_EACH_POINTER (holds_pointer_without_class u) ++ broken_in u.construct Rule.NO_POINTER_TO_REFERENCE (holds_pointer_to_reference u)
    ++ broken_in u.construct Rule.OUT_POINTERS (is_nullable_out u) ++ broken_in u.construct Rule.DIRECTIONS (lacks_direction u.construct)
    ++ broken_in u.construct Rule.OUT_PARAMETERS (is_wrong_out u) ++ broken_in u.construct Rule.RESULTS (is_wrong_result u) ++ broken_in u.construct Rule.TEXTS (is_wrong_text u))
    (broken_in u.construct Rule.SIZES (is_wrongly_sized u)) h_24 in
    let h_23 = p_24.0 in
    let p_23 =
    neither (broken_in u.construct Rule.VOID (holds_void u) ++ broken_in u.construct Rule.HANDLE (holds_handle u) ++ broken_in u.construct Rule.PIPES (holds_pipe u)
    ++ broken_in u.construct Rule.CONTEXT_HANDLE (is_no_context_handle u) ++ broken_in u.construct Rule.CONTEXT_HANDLES (holds_context_handle u)
    ++ broken_in u.construct Rule.NESTING (holds_deep_array s u) ++ broken_in u.construct Rule.ELEMENTS (has_wrong_counts u)
    ++ broken_in u.construct Rule.LOWER_BOUNDS (has_lower_bounds s.known u.it) ++ broken_in u.construct Rule.SEVERAL_DIMENSIONS (has_wrong_dimensions u)
    ++ broken_in u.construct Rule.ELEMENTS_OF_ARRAYS (has_wrong_elements s u) ++ broken_in u.construct Rule.MEMBERS_THAT_HOIST (hoists_before_last s u)
    ++ broken_in u.construct Rule.ARMS_THAT_HOIST (is_hoisting_arm s u) ++ broken_in u.construct Rule.ELEMENTS_OF_PIPES (holds_wrong_pipe s u)
    ++ broken_in u.construct Rule.CASES (is_wrongly_cased u.construct) ++ broken_in u.construct Rule.USES_OF_UNIONS (holds_nonencapsulated_union s u)
    ++ broken_in u.construct Rule.SWITCH_IS (has_wrong_switch s u) ++ broken_in u.construct Rule.CLASSES_ON_POINTERS (has_class_without_pointer u)
    ++ broken_in u.construct Rule.CLASS_OF_EACH_POINTER (holds_pointer_without_class u) ++ broken_in u.construct Rule.NO_POINTER_TO_REFERENCE (holds_pointer_to_reference u)
    ++ broken_in u.construct Rule.OUT_POINTERS (is_nullable_out u) ++ broken_in u.construct Rule.DIRECTIONS (lacks_direction u.construct)
    ++ broken_in u.construct Rule.OUT_PARAMETERS (is_wrong_out u) ++ broken_in u.construct Rule.RESULTS (is_wrong_result u)) (broken_in u.construct Rule.TEXTS (is_wrong_text u)) h_23 in
    let h_22 = p_23.0 in
    let p_22 =
    neither (broken_in u.construct Rule.VOID (holds_void u) ++ broken_in u.construct Rule.HANDLE (holds_handle u) ++ broken_in u.construct Rule.PIPES (holds_pipe u)
    ++ broken_in u.construct Rule.CONTEXT_HANDLE (is_no_context_handle u) ++ broken_in u.construct Rule.CONTEXT_HANDLES (holds_context_handle u)
    ++ broken_in u.construct Rule.NESTING (holds_deep_array s u) ++ broken_in u.construct Rule.ELEMENTS (has_wrong_counts u)
    ++ broken_in u.construct Rule.LOWER_BOUNDS (has_lower_bounds s.known u.it) ++ broken_in u.construct Rule.SEVERAL_DIMENSIONS (has_wrong_dimensions u)
    ++ broken_in u.construct Rule.ELEMENTS_OF_ARRAYS (has_wrong_elements s u) ++ broken_in u.construct Rule.MEMBERS_THAT_HOIST (hoists_before_last s u)
    ++ broken_in u.construct Rule.ARMS_THAT_HOIST (is_hoisting_arm s u) ++ broken_in u.construct Rule.ELEMENTS_OF_PIPES (holds_wrong_pipe s u)
    ++ broken_in u.construct Rule.CASES (is_wrongly_cased u.construct) ++ broken_in u.construct Rule.USES_OF_UNIONS (holds_nonencapsulated_union s u)
    ++ broken_in u.construct Rule.SWITCH_IS (has_wrong_switch s u) ++ broken_in u.construct Rule.CLASSES_ON_POINTERS (has_class_without_pointer u)
    ++ broken_in u.construct Rule.CLASS_OF_EACH_POINTER (holds_pointer_without_class u) ++ broken_in u.construct Rule.NO_POINTER_TO_REFERENCE (holds_pointer_to_reference u)
    ++ broken_in u.construct Rule.OUT_POINTERS (is_nullable_out u) ++ broken_in u.construct Rule.DIRECTIONS (lacks_direction u.construct)
    ++ broken_in u.construct Rule.OUT_PARAMETERS (is_wrong_out u)) (broken_in u.construct Rule.RESULTS (is_wrong_result u)) h_22 in
    let h_21 = p_22.0 in
    let p_21 =
    neither (broken_in u.construct Rule.VOID (holds_void u) ++ broken_in u.construct Rule.HANDLE (holds_handle u) ++ broken_in u.construct Rule.PIPES (holds_pipe u)
    ++ broken_in u.construct Rule.CONTEXT_HANDLE (is_no_context_handle u) ++ broken_in u.construct Rule.CONTEXT_HANDLES (holds_context_handle u)
    ++ broken_in u.construct Rule.NESTING (holds_deep_array s u) ++ broken_in u.construct Rule.ELEMENTS (has_wrong_counts u)
    ++ broken_in u.construct Rule.LOWER_BOUNDS (has_lower_bounds s.known u.it) ++ broken_in u.construct Rule.SEVERAL_DIMENSIONS (has_wrong_dimensions u)
    ++ broken_in u.construct Rule.ELEMENTS_OF_ARRAYS (has_wrong_elements s u) ++ broken_in u.construct Rule.MEMBERS_THAT_HOIST (hoists_before_last s u)
    ++ broken_in u.construct Rule.ARMS_THAT_HOIST (is_hoisting_arm s u) ++ broken_in u.construct Rule.ELEMENTS_OF_PIPES (holds_wrong_pipe s u)
    ++ broken_in u.construct Rule.CASES (is_wrongly_cased u.construct) ++ broken_in u.construct Rule.USES_OF_UNIONS (holds_nonencapsulated_union s u)
    ++ broken_in u.construct Rule.SWITCH_IS (has_wrong_switch s u) ++ broken_in u.construct Rule.CLASSES_ON_POINTERS (has_class_without_pointer u)
    ++ broken_in u.construct Rule.CLASS_OF_EACH_POINTER (holds_pointer_without_class u) ++ broken_in u.construct Rule.NO_POINTER_TO_REFERENCE (holds_pointer_to_reference u)
    ++ broken_in u.construct Rule.OUT_POINTERS (is_nullable_out u) ++ broken_in u.construct Rule.DIRECTIONS (lacks_direction u.construct))
    (broken_in u.construct Rule.OUT_PARAMETERS (is_wrong_out u)) h_21 in
    let h_20 = p_21.0 in
    let p_20 =
    neither (broken_in u.construct Rule.VOID (holds_void u) ++ broken_in u.construct Rule.HANDLE (holds_handle u) ++ broken_in u.construct Rule.PIPES (holds_pipe u)
    ++ broken_in u.construct Rule.CONTEXT_HANDLE (is_no_context_handle u) ++ broken_in u.construct Rule.CONTEXT_HANDLES (holds_context_handle u)
    ++ broken_in u.construct Rule.NESTING (holds_deep_array s u) ++ broken_in u.construct Rule.ELEMENTS (has_wrong_counts u)
    ++ broken_in u.construct Rule.LOWER_BOUNDS (has_lower_bounds s.known u.it) ++ broken_in u.construct Rule.SEVERAL_DIMENSIONS (has_wrong_dimensions u)
    ++ broken_in u.construct Rule.ELEMENTS_OF_ARRAYS (has_wrong_elements s u) ++ broken_in u.construct Rule.MEMBERS_THAT_HOIST (hoists_before_last s u)
    ++ broken_in u.construct Rule.ARMS_THAT_HOIST (is_hoisting_arm s u) ++ broken_in u.construct Rule.ELEMENTS_OF_PIPES (holds_wrong_pipe s u)
    ++ broken_in u.construct Rule.CASES (is_wrongly_cased u.construct) ++ broken_in u.construct Rule.USES_OF_UNIONS (holds_nonencapsulated_union s u)
    ++ broken_in u.construct Rule.SWITCH_IS (has_wrong_switch s u) ++ broken_in u.construct Rule.CLASSES_ON_POINTERS (has_class_without_pointer u)
    ++ broken_in u.construct Rule.CLASS_OF_EACH_POINTER (holds_pointer_without_class u) ++ broken_in u.construct Rule.NO_POINTER_TO_REFERENCE (holds_pointer_to_reference u)
    ++ broken_in u.construct Rule.OUT_POINTERS (is_nullable_out u)) (broken_in u.construct Rule.DIRECTIONS (lacks_direction u.construct)) h_20 in
    let h_19 = p_20.0 in
    let p_19 =
    neither (broken_in u.construct Rule.VOID (holds_void u) ++ broken_in u.construct Rule.HANDLE (holds_handle u) ++ broken_in u.construct Rule.PIPES (holds_pipe u)
    ++ broken_in u.construct Rule.CONTEXT_HANDLE (is_no_context_handle u) ++ broken_in u.construct Rule.CONTEXT_HANDLES (holds_context_handle u)
    ++ broken_in u.construct Rule.NESTING (holds_deep_array s u) ++ broken_in u.construct Rule.ELEMENTS (has_wrong_counts u)
    ++ broken_in u.construct Rule.LOWER_BOUNDS (has_lower_bounds s.known u.it) ++ broken_in u.construct Rule.SEVERAL_DIMENSIONS (has_wrong_dimensions u)
    ++ broken_in u.construct Rule.ELEMENTS_OF_ARRAYS (has_wrong_elements s u) ++ broken_in u.construct Rule.MEMBERS_THAT_HOIST (hoists_before_last s u)
    ++ broken_in u.construct Rule.ARMS_THAT_HOIST (is_hoisting_arm s u) ++ broken_in u.construct Rule.ELEMENTS_OF_PIPES (holds_wrong_pipe s u)
    ++ broken_in u.construct Rule.CASES (is_wrongly_cased u.construct) ++ broken_in u.construct Rule.USES_OF_UNIONS (holds_nonencapsulated_union s u)
    ++ broken_in u.construct Rule.SWITCH_IS (has_wrong_switch s u) ++ broken_in u.construct Rule.CLASSES_ON_POINTERS (has_class_without_pointer u)
    ++ broken_in u.construct Rule.CLASS_OF_EACH_POINTER (holds_pointer_without_class u) ++ broken_in u.construct Rule.NO_POINTER_TO_REFERENCE (holds_pointer_to_reference u))
    (broken_in u.construct Rule.OUT_POINTERS (is_nullable_out u)) h_19 in
    let h_18 = p_19.0 in
    let p_18 =
    neither (broken_in u.construct Rule.VOID (holds_void u) ++ broken_in u.construct Rule.HANDLE (holds_handle u) ++ broken_in u.construct Rule.PIPES (holds_pipe u)
    ++ broken_in u.construct Rule.CONTEXT_HANDLE (is_no_context_handle u) ++ broken_in u.construct Rule.CONTEXT_HANDLES (holds_context_handle u)
    ++ broken_in u.construct Rule.NESTING (holds_deep_array s u) ++ broken_in u.construct Rule.ELEMENTS (has_wrong_counts u)
    ++ broken_in u.construct Rule.LOWER_BOUNDS (has_lower_bounds s.known u.it) ++ broken_in u.construct Rule.SEVERAL_DIMENSIONS (has_wrong_dimensions u)
    ++ broken_in u.construct Rule.ELEMENTS_OF_ARRAYS (has_wrong_elements s u) ++ broken_in u.construct Rule.MEMBERS_THAT_HOIST (hoists_before_last s u)
    ++ broken_in u.construct Rule.ARMS_THAT_HOIST (is_hoisting_arm s u) ++ broken_in u.construct Rule.ELEMENTS_OF_PIPES (holds_wrong_pipe s u)
    ++ broken_in u.construct Rule.CASES (is_wrongly_cased u.construct) ++ broken_in u.construct Rule.USES_OF_UNIONS (holds_nonencapsulated_union s u)
    ++ broken_in u.construct Rule.SWITCH_IS (has_wrong_switch s u) ++ broken_in u.construct Rule.CLASSES_ON_POINTERS (has_class_without_pointer u)
    ++ broken_in u.construct Rule.CLASS_OF_EACH_POINTER (holds_pointer_without_class u)) (broken_in u.construct Rule.NO_POINTER_TO_REFERENCE (holds_pointer_to_reference u)) h_18 in
    let h_17 = p_18.0 in
    let p_17 =
    neither (broken_in u.construct Rule.VOID (holds_void u) ++ broken_in u.construct Rule.HANDLE (holds_handle u) ++ broken_in u.construct Rule.PIPES (holds_pipe u)
    ++ broken_in u.construct Rule.CONTEXT_HANDLE (is_no_context_handle u) ++ broken_in u.construct Rule.CONTEXT_HANDLES (holds_context_handle u)
    ++ broken_in u.construct Rule.NESTING (holds_deep_array s u) ++ broken_in u.construct Rule.ELEMENTS (has_wrong_counts u)
    ++ broken_in u.construct Rule.LOWER_BOUNDS (has_lower_bounds s.known u.it) ++ broken_in u.construct Rule.SEVERAL_DIMENSIONS (has_wrong_dimensions u)
    ++ broken_in u.construct Rule.ELEMENTS_OF_ARRAYS (has_wrong_elements s u) ++ broken_in u.construct Rule.MEMBERS_THAT_HOIST (hoists_before_last s u)
    ++ broken_in u.construct Rule.ARMS_THAT_HOIST (is_hoisting_arm s u) ++ broken_in u.construct Rule.ELEMENTS_OF_PIPES (holds_wrong_pipe s u)
    ++ broken_in u.construct Rule.CASES (is_wrongly_cased u.construct) ++ broken_in u.construct Rule.USES_OF_UNIONS (holds_nonencapsulated_union s u)
    ++ broken_in u.construct Rule.SWITCH_IS (has_wrong_switch s u) ++ broken_in u.construct Rule.CLASSES_ON_POINTERS (has_class_without_pointer u))
    (broken_in u.construct Rule.CLASS_OF_EACH_POINTER (holds_pointer_without_class u)) h_17 in
    let h_16 = p_17.0 in
    let p_16 =
    neither (broken_in u.construct Rule.VOID (holds_void u) ++ broken_in u.construct Rule.HANDLE (holds_handle u) ++ broken_in u.construct Rule.PIPES (holds_pipe u)
    ++ broken_in u.construct Rule.CONTEXT_HANDLE (is_no_context_handle u) ++ broken_in u.construct Rule.CONTEXT_HANDLES (holds_context_handle u)
    ++ broken_in u.construct Rule.NESTING (holds_deep_array s u) ++ broken_in u.construct Rule.ELEMENTS (has_wrong_counts u)
    ++ broken_in u.construct Rule.LOWER_BOUNDS (has_lower_bounds s.known u.it) ++ broken_in u.construct Rule.SEVERAL_DIMENSIONS (has_wrong_dimensions u)
    ++ broken_in u.construct Rule.ELEMENTS_OF_ARRAYS (has_wrong_elements s u) ++ broken_in u.construct Rule.MEMBERS_THAT_HOIST (hoists_before_last s u)
    ++ broken_in u.construct Rule.ARMS_THAT_HOIST (is_hoisting_arm s u) ++ broken_in u.construct Rule.ELEMENTS_OF_PIPES (holds_wrong_pipe s u)
    ++ broken_in u.construct Rule.CASES (is_wrongly_cased u.construct) ++ broken_in u.construct Rule.USES_OF_UNIONS (holds_nonencapsulated_union s u)
    ++ broken_in u.construct Rule.SWITCH_IS (has_wrong_switch s u)) (broken_in u.construct Rule.CLASSES_ON_POINTERS (has_class_without_pointer u)) h_16 in
    let h_15 = p_16.0 in
    let p_15 =
    neither (broken_in u.construct Rule.VOID (holds_void u) ++ broken_in u.construct Rule.HANDLE (holds_handle u) ++ broken_in u.construct Rule.PIPES (holds_pipe u)
    ++ broken_in u.construct Rule.CONTEXT_HANDLE (is_no_context_handle u) ++ broken_in u.construct Rule.CONTEXT_HANDLES (holds_context_handle u)
    ++ broken_in u.construct Rule.NESTING (holds_deep_array s u) ++ broken_in u.construct Rule.ELEMENTS (has_wrong_counts u)
    ++ broken_in u.construct Rule.LOWER_BOUNDS (has_lower_bounds s.known u.it) ++ broken_in u.construct Rule.SEVERAL_DIMENSIONS (has_wrong_dimensions u)
    ++ broken_in u.construct Rule.ELEMENTS_OF_ARRAYS (has_wrong_elements s u) ++ broken_in u.construct Rule.MEMBERS_THAT_HOIST (hoists_before_last s u)
    ++ broken_in u.construct Rule.ARMS_THAT_HOIST (is_hoisting_arm s u) ++ broken_in u.construct Rule.ELEMENTS_OF_PIPES (holds_wrong_pipe s u)
    ++ broken_in u.construct Rule.CASES (is_wrongly_cased u.construct) ++ broken_in u.construct Rule.USES_OF_UNIONS (holds_nonencapsulated_union s u))
    (broken_in u.construct Rule.SWITCH_IS (has_wrong_switch s u)) h_15 in
    let h_14 = p_15.0 in
    let p_14 =
    neither (broken_in u.construct Rule.VOID (holds_void u) ++ broken_in u.construct Rule.HANDLE (holds_handle u) ++ broken_in u.construct Rule.PIPES (holds_pipe u)
    ++ broken_in u.construct Rule.CONTEXT_HANDLE (is_no_context_handle u) ++ broken_in u.construct Rule.CONTEXT_HANDLES (holds_context_handle u)
    ++ broken_in u.construct Rule.NESTING (holds_deep_array s u) ++ broken_in u.construct Rule.ELEMENTS (has_wrong_counts u)
    ++ broken_in u.construct Rule.LOWER_BOUNDS (has_lower_bounds s.known u.it) ++ broken_in u.construct Rule.SEVERAL_DIMENSIONS (has_wrong_dimensions u)
    ++ broken_in u.construct Rule.ELEMENTS_OF_ARRAYS (has_wrong_elements s u) ++ broken_in u.construct Rule.MEMBERS_THAT_HOIST (hoists_before_last s u)
    ++ broken_in u.construct Rule.ARMS_THAT_HOIST (is_hoisting_arm s u) ++ broken_in u.construct Rule.ELEMENTS_OF_PIPES (holds_wrong_pipe s u)
    ++ broken_in u.construct Rule.CASES (is_wrongly_cased u.construct)) (broken_in u.construct Rule.USES_OF_UNIONS (holds_nonencapsulated_union s u)) h_14 in
    let h_13 = p_14.0 in
    let p_13 =
    neither (broken_in u.construct Rule.VOID (holds_void u) ++ broken_in u.construct Rule.HANDLE (holds_handle u) ++ broken_in u.construct Rule.PIPES (holds_pipe u)
    ++ broken_in u.construct Rule.CONTEXT_HANDLE (is_no_context_handle u) ++ broken_in u.construct Rule.CONTEXT_HANDLES (holds_context_handle u)
    ++ broken_in u.construct Rule.NESTING (holds_deep_array s u) ++ broken_in u.construct Rule.ELEMENTS (has_wrong_counts u)
    ++ broken_in u.construct Rule.LOWER_BOUNDS (has_lower_bounds s.known u.it) ++ broken_in u.construct Rule.SEVERAL_DIMENSIONS (has_wrong_dimensions u)
    ++ broken_in u.construct Rule.ELEMENTS_OF_ARRAYS (has_wrong_elements s u) ++ broken_in u.construct Rule.MEMBERS_THAT_HOIST (hoists_before_last s u)
    ++ broken_in u.construct Rule.ARMS_THAT_HOIST (is_hoisting_arm s u) ++ broken_in u.construct Rule.ELEMENTS_OF_PIPES (holds_wrong_pipe s u))
    (broken_in u.construct Rule.CASES (is_wrongly_cased u.construct)) h_13 in
    let h_12 = p_13.0 in
    let p_12 =
    neither (broken_in u.construct Rule.VOID (holds_void u) ++ broken_in u.construct Rule.HANDLE (holds_handle u) ++ broken_in u.construct Rule.PIPES (holds_pipe u)
    ++ broken_in u.construct Rule.CONTEXT_HANDLE (is_no_context_handle u) ++ broken_in u.construct Rule.CONTEXT_HANDLES (holds_context_handle u)
    ++ broken_in u.construct Rule.NESTING (holds_deep_array s u) ++ broken_in u.construct Rule.ELEMENTS (has_wrong_counts u)
    ++ broken_in u.construct Rule.LOWER_BOUNDS (has_lower_bounds s.known u.it) ++ broken_in u.construct Rule.SEVERAL_DIMENSIONS (has_wrong_dimensions u)
    ++ broken_in u.construct Rule.ELEMENTS_OF_ARRAYS (has_wrong_elements s u) ++ broken_in u.construct Rule.MEMBERS_THAT_HOIST (hoists_before_last s u)
    ++ broken_in u.construct Rule.ARMS_THAT_HOIST (is_hoisting_arm s u)) (broken_in u.construct Rule.ELEMENTS_OF_PIPES (holds_wrong_pipe s u)) h_12 in
    let h_11 = p_12.0 in
    let p_11 =
    neither (broken_in u.construct Rule.VOID (holds_void u) ++ broken_in u.construct Rule.HANDLE (holds_handle u) ++ broken_in u.construct Rule.PIPES (holds_pipe u)
    ++ broken_in u.construct Rule.CONTEXT_HANDLE (is_no_context_handle u) ++ broken_in u.construct Rule.CONTEXT_HANDLES (holds_context_handle u)
    ++ broken_in u.construct Rule.NESTING (holds_deep_array s u) ++ broken_in u.construct Rule.ELEMENTS (has_wrong_counts u)
    ++ broken_in u.construct Rule.LOWER_BOUNDS (has_lower_bounds s.known u.it) ++ broken_in u.construct Rule.SEVERAL_DIMENSIONS (has_wrong_dimensions u)
    ++ broken_in u.construct Rule.ELEMENTS_OF_ARRAYS (has_wrong_elements s u) ++ broken_in u.construct Rule.MEMBERS_THAT_HOIST (hoists_before_last s u))
    (broken_in u.construct Rule.ARMS_THAT_HOIST (is_hoisting_arm s u)) h_11 in
    let h_10 = p_11.0 in
    let p_10 =
    neither (broken_in u.construct Rule.VOID (holds_void u) ++ broken_in u.construct Rule.HANDLE (holds_handle u) ++ broken_in u.construct Rule.PIPES (holds_pipe u)
    ++ broken_in u.construct Rule.CONTEXT_HANDLE (is_no_context_handle u) ++ broken_in u.construct Rule.CONTEXT_HANDLES (holds_context_handle u)
    ++ broken_in u.construct Rule.NESTING (holds_deep_array s u) ++ broken_in u.construct Rule.ELEMENTS (has_wrong_counts u)
    ++ broken_in u.construct Rule.LOWER_BOUNDS (has_lower_bounds s.known u.it) ++ broken_in u.construct Rule.SEVERAL_DIMENSIONS (has_wrong_dimensions u)
    ++ broken_in u.construct Rule.ELEMENTS_OF_ARRAYS (has_wrong_elements s u)) (broken_in u.construct Rule.MEMBERS_THAT_HOIST (hoists_before_last s u)) h_10 in
    let h_9 = p_10.0 in
    let p_9 =
    neither (broken_in u.construct Rule.VOID (holds_void u) ++ broken_in u.construct Rule.HANDLE (holds_handle u) ++ broken_in u.construct Rule.PIPES (holds_pipe u)
    ++ broken_in u.construct Rule.CONTEXT_HANDLE (is_no_context_handle u) ++ broken_in u.construct Rule.CONTEXT_HANDLES (holds_context_handle u)
    ++ broken_in u.construct Rule.NESTING (holds_deep_array s u) ++ broken_in u.construct Rule.ELEMENTS (has_wrong_counts u)
    ++ broken_in u.construct Rule.LOWER_BOUNDS (has_lower_bounds s.known u.it) ++ broken_in u.construct Rule.SEVERAL_DIMENSIONS (has_wrong_dimensions u))
    (broken_in u.construct Rule.ELEMENTS_OF_ARRAYS (has_wrong_elements s u)) h_9 in
    let h_8 = p_9.0 in
    let p_8 =
    neither (broken_in u.construct Rule.VOID (holds_void u) ++ broken_in u.construct Rule.HANDLE (holds_handle u) ++ broken_in u.construct Rule.PIPES (holds_pipe u)
    ++ broken_in u.construct Rule.CONTEXT_HANDLE (is_no_context_handle u) ++ broken_in u.construct Rule.CONTEXT_HANDLES (holds_context_handle u)
    ++ broken_in u.construct Rule.NESTING (holds_deep_array s u) ++ broken_in u.construct Rule.ELEMENTS (has_wrong_counts u)
    ++ broken_in u.construct Rule.LOWER_BOUNDS (has_lower_bounds s.known u.it)) (broken_in u.construct Rule.SEVERAL_DIMENSIONS (has_wrong_dimensions u)) h_8 in
    let h_7 = p_8.0 in
    let p_7 =
    neither (broken_in u.construct Rule.VOID (holds_void u) ++ broken_in u.construct Rule.HANDLE (holds_handle u) ++ broken_in u.construct Rule.PIPES (holds_pipe u)
    ++ broken_in u.construct Rule.CONTEXT_HANDLE (is_no_context_handle u) ++ broken_in u.construct Rule.CONTEXT_HANDLES (holds_context_handle u)
    ++ broken_in u.construct Rule.NESTING (holds_deep_array s u) ++ broken_in u.construct Rule.ELEMENTS (has_wrong_counts u))
    (broken_in u.construct Rule.LOWER_BOUNDS (has_lower_bounds s.known u.it)) h_7 in
    let h_6 = p_7.0 in
    let p_6 =
    neither (broken_in u.construct Rule.VOID (holds_void u) ++ broken_in u.construct Rule.HANDLE (holds_handle u) ++ broken_in u.construct Rule.PIPES (holds_pipe u)
    ++ broken_in u.construct Rule.CONTEXT_HANDLE (is_no_context_handle u) ++ broken_in u.construct Rule.CONTEXT_HANDLES (holds_context_handle u)
    ++ broken_in u.construct Rule.NESTING (holds_deep_array s u)) (broken_in u.construct Rule.ELEMENTS (has_wrong_counts u)) h_6 in
    let h_5 = p_6.0 in
    let p_5 =
    neither (broken_in u.construct Rule.VOID (holds_void u) ++ broken_in u.construct Rule.HANDLE (holds_handle u) ++ broken_in u.construct Rule.PIPES (holds_pipe u)
    ++ broken_in u.construct Rule.CONTEXT_HANDLE (is_no_context_handle u) ++ broken_in u.construct Rule.CONTEXT_HANDLES (holds_context_handle u))
    (broken_in u.construct Rule.NESTING (holds_deep_array s u)) h_5 in
    let h_4 = p_5.0 in
    let p_4 =
    neither (broken_in u.construct Rule.VOID (holds_void u) ++ broken_in u.construct Rule.HANDLE (holds_handle u) ++ broken_in u.construct Rule.PIPES (holds_pipe u)
    ++ broken_in u.construct Rule.CONTEXT_HANDLE (is_no_context_handle u)) (broken_in u.construct Rule.CONTEXT_HANDLES (holds_context_handle u)) h_4 in
    let h_3 = p_4.0 in
    let p_3 =
    neither (broken_in u.construct Rule.VOID (holds_void u) ++ broken_in u.construct Rule.HANDLE (holds_handle u) ++ broken_in u.construct Rule.PIPES (holds_pipe u))
    (broken_in u.construct Rule.CONTEXT_HANDLE (is_no_context_handle u)) h_3 in
    let h_2 = p_3.0 in
    let p_2 = neither (broken_in u.construct Rule.VOID (holds_void u) ++ broken_in u.construct Rule.HANDLE (holds_handle u)) (broken_in u.construct Rule.PIPES (holds_pipe u)) h_2 in
    let h_1 = p_2.0 in
    let p_1 = neither (broken_in u.construct Rule.VOID (holds_void u)) (broken_in u.construct Rule.HANDLE (holds_handle u)) h_1 in
    let h_0 = p_1.0 in
    record {
      no_void = fails u.construct 6 (holds_void u) (h_0);
      no_handle = fails u.construct 7 (holds_handle u) (p_1.1);
      no_pipe = fails u.construct 8 (holds_pipe u) (p_2.1);
      context_handles = fails u.construct 9 (is_no_context_handle u) (p_3.1);
      no_context_handle = fails u.construct 10 (holds_context_handle u) (p_4.1);
      shallow = fails u.construct 12 (holds_deep_array s u) (p_5.1);
      counts = fails u.construct 14 (has_wrong_counts u) (p_6.1);
      no_lower_bounds = fails u.construct 15 (has_lower_bounds s.known u.it) (p_7.1);
      dimensions = fails u.construct 16 (has_wrong_dimensions u) (p_8.1);
      elements = fails u.construct 17 (has_wrong_elements s u) (p_9.1);
      last_hoists = fails u.construct 18 (hoists_before_last s u) (p_10.1);
      no_hoisting_arm = fails u.construct 19 (is_hoisting_arm s u) (p_11.1);
      pipes = fails u.construct 20 (holds_wrong_pipe s u) (p_12.1);
      cased = fails u.construct 23 (is_wrongly_cased u.construct) (p_13.1);
      no_union = fails u.construct 24 (holds_nonencapsulated_union s u) (p_14.1);
      switches = fails u.construct 25 (has_wrong_switch s u) (p_15.1);
      class_on_pointer = fails u.construct 26 (has_class_without_pointer u) (p_16.1);
      classes = fails u.construct 27 (holds_pointer_without_class u) (p_17.1);
      referents = fails u.construct 28 (holds_pointer_to_reference u) (p_18.1);
      out_pointers = fails u.construct 29 (is_nullable_out u) (p_19.1);
      directions = fails u.construct 30 (lacks_direction u.construct) (p_20.1);
      out_types = fails u.construct 31 (is_wrong_out u) (p_21.1);
      results = fails u.construct 32 (is_wrong_result u) (p_22.1);
      texts = fails u.construct 33 (is_wrong_text u) (p_23.1);
      sizes = fails u.construct 34 (is_wrongly_sized u) (p_24.1);
      varying = fails u.construct 35 (is_wrongly_varying u) (p_25.1);
      variables = fails u.construct 36 (has_no_variable u) (p_26.1);
      variable_types = fails u.construct 37 (has_wrong_variable s u) (p_27.1);
    }
