use Rattle.std.proofs.Common.{◌&&◌}
use Rattle.idl_rule_definitions.specs.Types.{is_void, is_handle, is_pipe, is_context}
use Rattle.idl_rule_definitions.specs.Scene.{is_nonencapsulated}
use Rattle.idl_rule_definitions.specs.TypeRules.{has_wrong_element, is_wrong_pipe, is_made_of_elements, is_too_deep, has_no_class, refers_to_reference}
use Rattle.idl_value_rules.proofs.MarkSums.{holds}
use Rattle.idl_value_rules.proofs.marks.mark_of.Goals as goal

pub returns : goal.returns
returns c s t own counted under = record {
  holds_void = holds is_void t _ _ own.void under.holds_void;
  holds_handle = holds is_handle t _ _ own.handle under.holds_handle;
  holds_pipe = holds is_pipe t _ _ own.pipe under.holds_pipe;
  holds_context = holds is_context t _ _ own.context under.holds_context;
  holds_classless = holds has_no_class t _ _ own.classless under.holds_classless;
  holds_reference_behind = holds refers_to_reference t _ _ own.reference_behind under.holds_reference_behind;
  holds_wrong_count = counted.holds_wrong;
  holds_many_not_fixed = counted.holds_many_not_fixed;
  holds_nonencapsulated = holds (is_nonencapsulated s) t _ _ own.nonencapsulated under.holds_nonencapsulated;
  holds_wrong_element = holds (has_wrong_element s) t _ _ own.wrong_element under.holds_wrong_element;
  holds_wrong_pipe = holds (is_wrong_pipe s) t _ _ own.wrong_pipe under.holds_wrong_pipe;
  holds_deep_array = holds (λ u. is_made_of_elements u && is_too_deep s u) t _ _ own.deep_array under.holds_deep_array;
  many_dimensions = counted.many;
  nonencapsulated = own.nonencapsulated;
  hoists = own.hoists;
  too_deep = own.too_deep;
}
