-- What holds where no rule is broken.
use Rattle.std.specs.Prelude.{◌≡◌, false}
use Rattle.idl_rule_definitions.specs.Scene.{Scene, Use}
use Rattle.idl_rule_definitions.specs.DeclarationRules.{is_wrongly_cased, lacks_direction, has_lower_bounds}
use Rattle.idl_rule_definitions.specs.TypeRules.{holds_void, holds_handle, holds_pipe, is_no_context_handle, holds_context_handle, holds_deep_array}
use Rattle.idl_rule_definitions.specs.TypeRules.{is_wrong_result, has_wrong_counts, has_wrong_dimensions, has_wrong_elements, hoists_before_last}
use Rattle.idl_rule_definitions.specs.TypeRules.{is_hoisting_arm, holds_wrong_pipe, has_class_without_pointer, holds_pointer_without_class}
use Rattle.idl_rule_definitions.specs.TypeRules.{holds_pointer_to_reference, is_nullable_out, is_wrong_out}
use Rattle.idl_rule_definitions.specs.VariableRules.{holds_nonencapsulated_union, has_wrong_switch, is_wrong_text, is_wrongly_sized}
use Rattle.idl_rule_definitions.specs.VariableRules.{is_wrongly_varying, has_no_variable, has_wrong_variable}

-- a declarator that breaks no rule
pub record KeepsUse (s : Scene) (u : Use) : Type 0 where
  pub no_void : holds_void u ≡ false
  pub no_handle : holds_handle u ≡ false
  pub no_pipe : holds_pipe u ≡ false
  pub context_handles : is_no_context_handle u ≡ false
  pub no_context_handle : holds_context_handle u ≡ false
  pub shallow : holds_deep_array s u ≡ false
  pub counts : has_wrong_counts u ≡ false
  pub no_lower_bounds : has_lower_bounds s.known u.it ≡ false
  pub dimensions : has_wrong_dimensions u ≡ false
  pub elements : has_wrong_elements s u ≡ false
  pub last_hoists : hoists_before_last s u ≡ false
  pub no_hoisting_arm : is_hoisting_arm s u ≡ false
  pub pipes : holds_wrong_pipe s u ≡ false
  pub cased : is_wrongly_cased u.construct ≡ false
  pub no_union : holds_nonencapsulated_union s u ≡ false
  pub switches : has_wrong_switch s u ≡ false
  pub class_on_pointer : has_class_without_pointer u ≡ false
  pub classes : holds_pointer_without_class u ≡ false
  pub referents : holds_pointer_to_reference u ≡ false
  pub out_pointers : is_nullable_out u ≡ false
  pub directions : lacks_direction u.construct ≡ false
  pub out_types : is_wrong_out u ≡ false
  pub results : is_wrong_result u ≡ false
  pub texts : is_wrong_text u ≡ false
  pub sizes : is_wrongly_sized u ≡ false
  pub varying : is_wrongly_varying u ≡ false
  pub variables : has_no_variable u ≡ false
  pub variable_types : has_wrong_variable s u ≡ false
