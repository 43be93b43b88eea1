-- All facts of fields and operations.
use Rattle.std.proofs.Common.{◌≡◌, not, ◌||◌, ◌&&◌, []}
use Rattle.nd_types.specs.declared.types.Attr.TheVariants as attr
use Rattle.nd_types.specs.Table.{type_at}
use Rattle.nd_types.specs.Kinds as kinds
use Rattle.nd_types.specs.Fields.{are_ordered, has_attr, has_size, has_range_attr, subject_type, all_variables}
use Rattle.nd_types.specs.Legal as legal
use Rattle.nd_types.specs.Legal.{implies, is_in_table, result_passes, has_other_variables, is_switch_attr, is_in, is_out_only}
use Rattle.idl_rule_definitions.specs.Nodes.{World}
use Rattle.idl_rule_definitions.specs.Scene.{scene_of}
use Rattle.idl_rule_definitions.specs.Rules.{breaches, breaches_in}
use Rattle.idl_rule_definitions.specs.Meaning.{types_of, operations_of}
use Rattle.idl_legal_laws.specs.LegalFields.{HasLegalFields}
use Rattle.idl_legal_laws.proofs.fields.Fields.{every_field, every_param, all_operations}
use Rattle.idl_legal_laws.proofs.fields.Counts.{ordered_fact, sized_fact, one_size_fact, varying_fact, one_length_fact}
use Rattle.idl_legal_laws.proofs.fields.Variables.{variables_fact, count_variables_fact, switched_fact, switches_fact, switch_variables_fact}
use Rattle.idl_legal_laws.proofs.fields.Parameters.{params_known_fact, handles_fact, out_pointers_fact, out_types_fact, results_fact, results_known_fact}
use Rattle.idl_legal_laws.proofs.fields.Limits.{few_operations, few_params, few_parts}

in_scene : (w : World) → breaches w ≡ [] → breaches_in (scene_of w) ≡ []
unfolding breaches
in_scene w h = h

pub legal_fields : (w : World) → breaches w ≡ [] → HasLegalFields (types_of (scene_of w)) (operations_of (scene_of w))
legal_fields w h =
    let s = scene_of w in
    let types = types_of s in
    let b = in_scene w h in
    record {
      params_known = every_param w h (λ p. legal.is_handle p || is_in_table types p.field.of.0) (params_known_fact s b);
      results_known = all_operations w h (λ o. result_passes (is_in_table types) o.result) (results_known_fact s);
      ordered = every_field w h (λ p. are_ordered p.field.vars) (ordered_fact s);
      variables = every_field w h has_other_variables (variables_fact s);
      sized =
          every_field w h (λ p. implies (has_size p.field) (kinds.is_conformant_array (subject_type types p.field) || kinds.is_conformant_text (subject_type types p.field)))
          (sized_fact s b);
      one_size = every_field w h (λ p. not (has_attr attr.Size p.field && has_attr attr.Max p.field)) (one_size_fact s);
      varying = every_field w h (λ p. implies (has_range_attr p.field) (kinds.is_varying_array (subject_type types p.field))) (varying_fact s b);
      one_length = every_field w h (λ p. not (has_attr attr.Length p.field && has_attr attr.Last p.field)) (one_length_fact s);
      count_variables = every_field w h (all_variables (λ a. not (is_switch_attr a)) kinds.is_integer types) (count_variables_fact s b);
      switched = every_field w h (λ p. implies (legal.is_switched types p.field.of.0) (has_attr attr.Switch p.field)) (switched_fact s b);
      switches = every_field w h (λ p. implies (has_attr attr.Switch p.field) (legal.is_switched types p.field.of.0)) (switches_fact s b);
      switch_variables = every_field w h (all_variables is_switch_attr kinds.is_switch_type types) (switch_variables_fact s b);
      handles = every_param w h (λ p. implies (legal.is_handle p) (is_in p.way)) (handles_fact s b);
      out_pointers =
          every_param w h (λ p. implies (is_out_only p.way && kinds.is_pointer (type_at types p.field.of.0)) (kinds.is_reference (type_at types p.field.of.0)))
          (out_pointers_fact s b);
      out_types = every_param w h (λ p. is_in p.way || legal.is_out_type (type_at types p.field.of.0)) (out_types_fact s b);
      results = all_operations w h (λ o. result_passes (λ t. legal.is_result_type (type_at types t)) o.result) (results_fact s);
      few_operations = few_operations s b;
      few_params = few_params s b;
      few_parts = few_parts w b;
    }
