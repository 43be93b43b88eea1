-- What is reported of the small texts of the windows language.
use Rattle.std.proofs.Common.{◌≡◌, refl}
use Rattle.std.specs.Prelude.{map}
use Rattle.idl_grammar.specs.declared.language.Language.TheVariants.{Windows}
use Rattle.idl_grammar.specs.Text.{words, symbol_of_word, symbol_of}
use Rattle.idl_grammar.specs.Expressions.{names, binary_operators, unary_operators, binary_of, unary_of, symbol_level, is_unary, is_operator, many_operators}
use Rattle.idl_grammar.specs.ReadExpressions.{is_operand, operand_of, outer_read}
use Rattle.idl_grammar.specs.Reading.{simple_firsts, width_read, unsigned_read, integer_read, simple_read, switch_type_read, pointer_class_read, variable_word_read, variable_name_read, uuid_read}
use Rattle.idl_grammar.specs.Reading.{version_numbers_read, version_read, endpoint_read, pointer_default_read, variable_read, switch_attribute_read, case_attribute_read, bracket_attribute_read}
use Rattle.idl_grammar.specs.Reading.{attribute_kind_read, attribute_read, attributes_read, maybe_attributes_read, upper_read, range_read, bound_read, dimension_read, declarator_read}
use Rattle.idl_grammar.specs.Reading.{declarators_read, enumerator_read, enumerators_read, label_read, labels_read, discriminant_read, maybe_name_read, union_switch_read, type_firsts, member_firsts}
use Rattle.idl_grammar.specs.Reading.{arm_firsts, member_read, members_read, struct_body_read, arm_field_read, arm_read, case_read, cases_read, cases_body_read, arms_read, arms_body_read, struct_read}
use Rattle.idl_grammar.specs.Reading.{union_body_read, union_read, enum_read, parameter_read, more_parameters_read, void_parameters_read, parameters_read, init_read, typedef_read, const_read}
use Rattle.idl_grammar.specs.Reading.{signature_read, declared_read, export_read, import_read, export_firsts, imports_read, exports_read, file_read}
use Rattle.idl_grammar.specs.Answers.{is_banned, file_answer}
use Rattle.idl_rule_definitions.specs.Nodes.{nodes}
use Rattle.idl_rule_definitions.specs.Scene.{hoists, scene_of}
use Rattle.idl_rule_definitions.specs.Rules.{breaches}
use Rattle.idl_rule_definitions.specs.TypeRules.{contains, is_too_deep, is_barred_in_pipes}
use Rattle.idl_rule_definitions.specs.Numbering.{needed_types, own_types}
use Rattle.idl_rule_definitions.specs.Texts.{told_in}
use Rattle.example_idl.specs.SmallTexts.{windows_texts_that_break, windows_texts_that_keep}

-- each breaks its rule, at its octet
pub windows_broken : map (λ e. told_in Windows e.text) windows_texts_that_break ≡ map (λ e. e.told) windows_texts_that_break
unfolding words symbol_of_word symbol_of
    names binary_operators unary_operators binary_of unary_of symbol_level is_unary is_operator many_operators is_operand operand_of outer_read simple_firsts width_read
    unsigned_read integer_read simple_read switch_type_read pointer_class_read variable_word_read variable_name_read uuid_read version_numbers_read version_read endpoint_read pointer_default_read
    variable_read switch_attribute_read case_attribute_read bracket_attribute_read attribute_kind_read attribute_read attributes_read maybe_attributes_read upper_read range_read bound_read
    dimension_read declarator_read declarators_read enumerator_read enumerators_read label_read labels_read discriminant_read maybe_name_read union_switch_read type_firsts member_firsts arm_firsts
    member_read members_read struct_body_read arm_field_read arm_read case_read cases_read cases_body_read arms_read arms_body_read struct_read union_body_read union_read enum_read parameter_read
    more_parameters_read void_parameters_read parameters_read init_read typedef_read const_read signature_read declared_read export_read import_read export_firsts imports_read exports_read file_read
    is_banned file_answer hoists contains is_too_deep is_barred_in_pipes needed_types own_types nodes scene_of breaches
windows_broken = refl

-- each keeps all rules
pub windows_kept : map (λ e. told_in Windows e.text) windows_texts_that_keep ≡ map (λ e. e.told) windows_texts_that_keep
unfolding words symbol_of_word symbol_of
    names binary_operators unary_operators binary_of unary_of symbol_level is_unary is_operator many_operators is_operand operand_of outer_read simple_firsts width_read
    unsigned_read integer_read simple_read switch_type_read pointer_class_read variable_word_read variable_name_read uuid_read version_numbers_read version_read endpoint_read pointer_default_read
    variable_read switch_attribute_read case_attribute_read bracket_attribute_read attribute_kind_read attribute_read attributes_read maybe_attributes_read upper_read range_read bound_read
    dimension_read declarator_read declarators_read enumerator_read enumerators_read label_read labels_read discriminant_read maybe_name_read union_switch_read type_firsts member_firsts arm_firsts
    member_read members_read struct_body_read arm_field_read arm_read case_read cases_read cases_body_read arms_read arms_body_read struct_read union_body_read union_read enum_read parameter_read
    more_parameters_read void_parameters_read parameters_read init_read typedef_read const_read signature_read declared_read export_read import_read export_firsts imports_read exports_read file_read
    is_banned file_answer hoists contains is_too_deep is_barred_in_pipes needed_types own_types nodes scene_of breaches
windows_kept = refl
