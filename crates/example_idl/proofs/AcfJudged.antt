-- What is reported of attribute configuration files.
use Rattle.std.proofs.Common.{◌≡◌, refl}
use Rattle.std.specs.Prelude.{map, [], ◌∷◌, Some}
use Rattle.idl_grammar.specs.Text.{words, symbol_of_word, symbol_of}
use Rattle.idl_grammar.specs.Expressions.{names, binary_operators, unary_operators, binary_of, unary_of, symbol_level, is_unary, is_operator, many_operators}
use Rattle.idl_grammar.specs.ReadExpressions.{is_operand, operand_of, outer_read}
use Rattle.idl_grammar.specs.Reading.{simple_firsts, width_read, unsigned_read, integer_read, simple_read, switch_type_read, pointer_class_read, variable_word_read, variable_name_read, uuid_read}
use Rattle.idl_grammar.specs.Reading.{version_numbers_read, version_read, endpoint_read, pointer_default_read, variable_read, switch_attribute_read, case_attribute_read, bracket_attribute_read}
use Rattle.idl_grammar.specs.Reading.{attribute_kind_read, attribute_read, attributes_read, maybe_attributes_read, upper_read, range_read, bound_read, dimension_read, declarator_read}
use Rattle.idl_grammar.specs.Reading.{declarators_read, enumerator_read, enumerators_read, label_read, labels_read, discriminant_read, maybe_name_read, union_switch_read, type_firsts, member_firsts}
use Rattle.idl_grammar.specs.Reading.{arm_firsts, member_read, members_read, struct_body_read, arm_field_read, arm_read, case_read, cases_read, cases_body_read, arms_read, arms_body_read, struct_read}
use Rattle.idl_grammar.specs.Reading.{union_body_read, union_read, enum_read, parameter_read, more_parameters_read, void_parameters_read, parameters_read, init_read, typedef_read, const_read}
use Rattle.idl_grammar.specs.Reading.{signature_read, declared_read, export_read, import_read, export_firsts, imports_read, exports_read, file_read}
use Rattle.idl_grammar.specs.Answers.{is_banned, file_answer}
use Rattle.idl_rule_definitions.specs.Nodes.{nodes}
use Rattle.idl_rule_definitions.specs.Scene.{hoists, scene_of}
use Rattle.idl_rule_definitions.specs.Rules.{breaches}
use Rattle.idl_rule_definitions.specs.TypeRules.{contains, is_too_deep, is_barred_in_pipes}
use Rattle.idl_rule_definitions.specs.Numbering.{needed_types, own_types}
use Rattle.acf_reader.specs.Symbols as acf_symbols
use Rattle.acf_reader.specs.Reading as acf_reading
use Rattle.acf_reader.specs.Answers as acf_answers
use Rattle.idl_rule_definitions.specs.Texts.{no_rule, rule_at}
use Rattle.idl_check.specs.AcfRules.{acf_breaches}
use Rattle.example_idl.specs.AcfTexts.{told_with, acf_rule_at, told_of_directory, directory_acf, other_acf, small_idl, broken_idl, acf_names, acf_places}

pub directory_judged : told_of_directory directory_acf ≡ no_rule
unfolding words symbol_of_word symbol_of
    names binary_operators unary_operators binary_of unary_of symbol_level is_unary is_operator many_operators is_operand operand_of outer_read simple_firsts width_read
    unsigned_read integer_read simple_read switch_type_read pointer_class_read variable_word_read variable_name_read uuid_read version_numbers_read version_read endpoint_read pointer_default_read
    variable_read switch_attribute_read case_attribute_read bracket_attribute_read attribute_kind_read attribute_read attributes_read maybe_attributes_read upper_read range_read bound_read
    dimension_read declarator_read declarators_read enumerator_read enumerators_read label_read labels_read discriminant_read maybe_name_read union_switch_read type_firsts member_firsts arm_firsts
    member_read members_read struct_body_read arm_field_read arm_read case_read cases_read cases_body_read arms_read arms_body_read struct_read union_body_read union_read enum_read parameter_read
    more_parameters_read void_parameters_read parameters_read init_read typedef_read const_read signature_read declared_read export_read import_read export_firsts imports_read exports_read file_read
    is_banned file_answer hoists contains is_too_deep is_barred_in_pipes needed_types own_types nodes scene_of breaches acf_symbols.names acf_symbols.words acf_symbols.symbol_of
    acf_reading.handle_type_read acf_reading.variable_read acf_reading.implicit_handle_read acf_reading.attribute_kind_read acf_reading.attribute_read acf_reading.attributes_read
    acf_reading.maybe_attributes_read acf_reading.parameter_read acf_reading.parameters_read acf_reading.signature_read acf_reading.types_read acf_reading.include_read acf_reading.operation_read
    acf_reading.element_read acf_reading.element_firsts acf_reading.body_read acf_reading.acf_read acf_answers.acf_answer acf_breaches
directory_judged = refl

pub other_judged : told_of_directory other_acf ≡ acf_rule_at 0
unfolding words symbol_of_word symbol_of
    names binary_operators unary_operators binary_of unary_of symbol_level is_unary is_operator many_operators is_operand operand_of outer_read simple_firsts width_read
    unsigned_read integer_read simple_read switch_type_read pointer_class_read variable_word_read variable_name_read uuid_read version_numbers_read version_read endpoint_read pointer_default_read
    variable_read switch_attribute_read case_attribute_read bracket_attribute_read attribute_kind_read attribute_read attributes_read maybe_attributes_read upper_read range_read bound_read
    dimension_read declarator_read declarators_read enumerator_read enumerators_read label_read labels_read discriminant_read maybe_name_read union_switch_read type_firsts member_firsts arm_firsts
    member_read members_read struct_body_read arm_field_read arm_read case_read cases_read cases_body_read arms_read arms_body_read struct_read union_body_read union_read enum_read parameter_read
    more_parameters_read void_parameters_read parameters_read init_read typedef_read const_read signature_read declared_read export_read import_read export_firsts imports_read exports_read file_read
    is_banned file_answer hoists contains is_too_deep is_barred_in_pipes needed_types own_types nodes scene_of breaches acf_symbols.names acf_symbols.words acf_symbols.symbol_of
    acf_reading.handle_type_read acf_reading.variable_read acf_reading.implicit_handle_read acf_reading.attribute_kind_read acf_reading.attribute_read acf_reading.attributes_read
    acf_reading.maybe_attributes_read acf_reading.parameter_read acf_reading.parameters_read acf_reading.signature_read acf_reading.types_read acf_reading.include_read acf_reading.operation_read
    acf_reading.element_read acf_reading.element_firsts acf_reading.body_read acf_reading.acf_read acf_answers.acf_answer acf_breaches
other_judged = refl

pub names_judged : map (λ e. told_with small_idl e.text) acf_names ≡ map (λ e. e.told) acf_names
unfolding words symbol_of_word symbol_of
    names binary_operators unary_operators binary_of unary_of symbol_level is_unary is_operator many_operators is_operand operand_of outer_read simple_firsts width_read
    unsigned_read integer_read simple_read switch_type_read pointer_class_read variable_word_read variable_name_read uuid_read version_numbers_read version_read endpoint_read pointer_default_read
    variable_read switch_attribute_read case_attribute_read bracket_attribute_read attribute_kind_read attribute_read attributes_read maybe_attributes_read upper_read range_read bound_read
    dimension_read declarator_read declarators_read enumerator_read enumerators_read label_read labels_read discriminant_read maybe_name_read union_switch_read type_firsts member_firsts arm_firsts
    member_read members_read struct_body_read arm_field_read arm_read case_read cases_read cases_body_read arms_read arms_body_read struct_read union_body_read union_read enum_read parameter_read
    more_parameters_read void_parameters_read parameters_read init_read typedef_read const_read signature_read declared_read export_read import_read export_firsts imports_read exports_read file_read
    is_banned file_answer hoists contains is_too_deep is_barred_in_pipes needed_types own_types nodes scene_of breaches acf_symbols.names acf_symbols.words acf_symbols.symbol_of
    acf_reading.handle_type_read acf_reading.variable_read acf_reading.implicit_handle_read acf_reading.attribute_kind_read acf_reading.attribute_read acf_reading.attributes_read
    acf_reading.maybe_attributes_read acf_reading.parameter_read acf_reading.parameters_read acf_reading.signature_read acf_reading.types_read acf_reading.include_read acf_reading.operation_read
    acf_reading.element_read acf_reading.element_firsts acf_reading.body_read acf_reading.acf_read acf_answers.acf_answer acf_breaches
names_judged = refl

pub places_judged : map (λ e. told_with small_idl e.text) acf_places ≡ map (λ e. e.told) acf_places
unfolding words symbol_of_word symbol_of
    names binary_operators unary_operators binary_of unary_of symbol_level is_unary is_operator many_operators is_operand operand_of outer_read simple_firsts width_read
    unsigned_read integer_read simple_read switch_type_read pointer_class_read variable_word_read variable_name_read uuid_read version_numbers_read version_read endpoint_read pointer_default_read
    variable_read switch_attribute_read case_attribute_read bracket_attribute_read attribute_kind_read attribute_read attributes_read maybe_attributes_read upper_read range_read bound_read
    dimension_read declarator_read declarators_read enumerator_read enumerators_read label_read labels_read discriminant_read maybe_name_read union_switch_read type_firsts member_firsts arm_firsts
    member_read members_read struct_body_read arm_field_read arm_read case_read cases_read cases_body_read arms_read arms_body_read struct_read union_body_read union_read enum_read parameter_read
    more_parameters_read void_parameters_read parameters_read init_read typedef_read const_read signature_read declared_read export_read import_read export_firsts imports_read exports_read file_read
    is_banned file_answer hoists contains is_too_deep is_barred_in_pipes needed_types own_types nodes scene_of breaches acf_symbols.names acf_symbols.words acf_symbols.symbol_of
    acf_reading.handle_type_read acf_reading.variable_read acf_reading.implicit_handle_read acf_reading.attribute_kind_read acf_reading.attribute_read acf_reading.attributes_read
    acf_reading.maybe_attributes_read acf_reading.parameter_read acf_reading.parameters_read acf_reading.signature_read acf_reading.types_read acf_reading.include_read acf_reading.operation_read
    acf_reading.element_read acf_reading.element_firsts acf_reading.body_read acf_reading.acf_read acf_answers.acf_answer acf_breaches
places_judged = refl

pub lesser_judged : told_with broken_idl other_acf ≡ rule_at 30 29
unfolding words symbol_of_word symbol_of
    names binary_operators unary_operators binary_of unary_of symbol_level is_unary is_operator many_operators is_operand operand_of outer_read simple_firsts width_read
    unsigned_read integer_read simple_read switch_type_read pointer_class_read variable_word_read variable_name_read uuid_read version_numbers_read version_read endpoint_read pointer_default_read
    variable_read switch_attribute_read case_attribute_read bracket_attribute_read attribute_kind_read attribute_read attributes_read maybe_attributes_read upper_read range_read bound_read
    dimension_read declarator_read declarators_read enumerator_read enumerators_read label_read labels_read discriminant_read maybe_name_read union_switch_read type_firsts member_firsts arm_firsts
    member_read members_read struct_body_read arm_field_read arm_read case_read cases_read cases_body_read arms_read arms_body_read struct_read union_body_read union_read enum_read parameter_read
    more_parameters_read void_parameters_read parameters_read init_read typedef_read const_read signature_read declared_read export_read import_read export_firsts imports_read exports_read file_read
    is_banned file_answer hoists contains is_too_deep is_barred_in_pipes needed_types own_types nodes scene_of breaches acf_symbols.names acf_symbols.words acf_symbols.symbol_of
    acf_reading.handle_type_read acf_reading.variable_read acf_reading.implicit_handle_read acf_reading.attribute_kind_read acf_reading.attribute_read acf_reading.attributes_read
    acf_reading.maybe_attributes_read acf_reading.parameter_read acf_reading.parameters_read acf_reading.signature_read acf_reading.types_read acf_reading.include_read acf_reading.operation_read
    acf_reading.element_read acf_reading.element_firsts acf_reading.body_read acf_reading.acf_read acf_answers.acf_answer acf_breaches
lesser_judged = refl
