-- What makes the fields and operations of an interface legal: the facts of `IsLegal` on them.
use Rattle.std.specs.Prelude.{◌≡◌, ◌≤◌, true, not, ◌&&◌, ◌||◌, nat_le, List, length, sum_by}
use Rattle.std.specs.List.{list_all}
use Rattle.nd_types.specs.declared.types.Attr.TheVariants.{Size, Max, Length, Last, Switch}
use Rattle.nd_types.specs.declared.types.Operation.{Operation}
use Rattle.nd_types.specs.declared.TheConstants.{OPERATION_LIMIT, PARAM_LIMIT, MEMBER_LIMIT}
use Rattle.nd_types.specs.Table.{Table, type_at}
use Rattle.nd_types.specs.Kinds.{is_integer, is_switch_type, is_pointer, is_reference, is_varying_array, is_conformant_array}
use Rattle.nd_types.specs.Kinds.{is_conformant_text}
use Rattle.nd_types.specs.Fields.{all_fields, are_ordered, has_attr, has_size, has_range_attr, subject_type, all_variables}
use Rattle.nd_types.specs.Legal.{implies, all_params, is_handle, is_in_table, result_passes, has_other_variables, is_switch_attr, is_switched, is_in}
use Rattle.nd_types.specs.Legal.{is_out_only, is_out_type, is_result_type, part_count}

-- Each field says what the field of its name says in `IsLegal`.
pub record HasLegalFields (types : Table) (operations : List Operation) : Type 0 where
  pub params_known : all_params (λ p. is_handle p || is_in_table types p.field.of.0) operations ≡ true
  pub results_known : list_all (λ o. result_passes (is_in_table types) o.result) operations ≡ true
  pub ordered : all_fields (λ p. are_ordered p.field.vars) types operations ≡ true
  pub variables : all_fields has_other_variables types operations ≡ true
  pub sized : all_fields
      (λ p. implies (has_size p.field)
      (is_conformant_array (subject_type types p.field) || is_conformant_text (subject_type types p.field))) types operations ≡ true
  pub one_size : all_fields (λ p. not (has_attr Size p.field && has_attr Max p.field)) types operations ≡ true
  pub varying : all_fields (λ p. implies (has_range_attr p.field) (is_varying_array (subject_type types p.field))) types operations ≡ true
  pub one_length : all_fields (λ p. not (has_attr Length p.field && has_attr Last p.field)) types operations ≡ true
  pub count_variables : all_fields (all_variables (λ a. not (is_switch_attr a)) is_integer types) types operations ≡ true
  pub switched : all_fields (λ p. implies (is_switched types p.field.of.0) (has_attr Switch p.field)) types operations ≡ true
  pub switches : all_fields (λ p. implies (has_attr Switch p.field) (is_switched types p.field.of.0)) types operations ≡ true
  pub switch_variables : all_fields (all_variables is_switch_attr is_switch_type types) types operations ≡ true
  pub handles : all_params (λ p. implies (is_handle p) (is_in p.way)) operations ≡ true
  pub out_pointers : all_params
      (λ p. implies (is_out_only p.way && is_pointer (type_at types p.field.of.0)) (is_reference (type_at types p.field.of.0))) operations ≡ true
  pub out_types : all_params (λ p. is_in p.way || is_out_type (type_at types p.field.of.0)) operations ≡ true
  pub results : list_all (λ o. result_passes (λ t. is_result_type (type_at types t)) o.result) operations ≡ true
  pub few_operations : length operations ≤ OPERATION_LIMIT
  pub few_params : list_all (λ o. nat_le (length o.params) PARAM_LIMIT) operations ≡ true
  pub few_parts : sum_by part_count types ≤ MEMBER_LIMIT
