-- The worked listings.
use Rattle.std.proofs.Common.{◌≡◌, refl}
use Rattle.std.specs.Prelude.{[], ◌∷◌}
use Rattle.idl_grammar.specs.Text.{words, symbol_of_word, symbol_of}
use Rattle.idl_grammar.specs.Expressions.{names, binary_operators, unary_operators, symbol_level, is_unary, many_operators}
use Rattle.idl_grammar.specs.ReadExpressions.{is_operand, operand_of, outer_read}
use Rattle.idl_grammar.specs.Reading.{simple_firsts, width_read, unsigned_read, integer_read, simple_read, switch_type_read, pointer_class_read, variable_word_read, variable_name_read, uuid_read}
use Rattle.idl_grammar.specs.Reading.{version_numbers_read, version_read, pointer_default_read, variable_read, switch_attribute_read, case_attribute_read, bracket_attribute_read, attribute_kind_read}
use Rattle.idl_grammar.specs.Reading.{attribute_read, attributes_read, maybe_attributes_read, range_read, bound_read, dimension_read, declarator_read, declarators_read, enumerator_read}
use Rattle.idl_grammar.specs.Reading.{enumerators_read, label_read, labels_read, discriminant_read, maybe_name_read, union_switch_read, type_firsts, member_firsts, arm_firsts, member_read}
use Rattle.idl_grammar.specs.Reading.{members_read, struct_body_read, arm_field_read, arm_read, case_read, cases_read, cases_body_read, arms_read, arms_body_read, struct_read, union_body_read}
use Rattle.idl_grammar.specs.Reading.{union_read, enum_read, parameter_read, more_parameters_read, void_parameters_read, parameters_read, init_read, typedef_read, const_read, signature_read}
use Rattle.idl_grammar.specs.Reading.{declared_read, export_read, import_read, export_firsts, imports_read, exports_read, file_read}
use Rattle.idl_grammar.specs.Answers.{file_answer}
use Rattle.idl_rule_definitions.specs.Nodes.{nodes}
use Rattle.idl_rule_definitions.specs.Scene.{scene_of}
use Rattle.idl_rule_definitions.specs.Numbering.{needed_types, own_types}
use Rattle.idl_rule_definitions.specs.Meaning.{meaning}
use Rattle.idl_listing.specs.Listing.{listing}
use Rattle.example_idl.specs.Listings.{listing_of, listing_beside, sum_file, sum_listing, base_file, directory_file, directory_listing, forms_file, forms_listing}
use Rattle.nd_types.specs.Layout as layout
use Rattle.nd_types.specs.Roots.{roots_of}
use Rattle.std.specs.Fmt.{digits}

-- each text is cut, read, given its meaning and listed
pub worked :
    (listing_of sum_file ≡ sum_listing ∷ [])
    × (listing_beside base_file directory_file ≡ directory_listing ∷ [])
    × (listing_of forms_file ≡ forms_listing ∷ [])
unfolding words symbol_of_word symbol_of
    names binary_operators unary_operators symbol_level is_unary many_operators is_operand operand_of outer_read simple_firsts width_read unsigned_read integer_read simple_read
    switch_type_read pointer_class_read variable_word_read variable_name_read uuid_read version_numbers_read version_read pointer_default_read variable_read switch_attribute_read case_attribute_read
    bracket_attribute_read attribute_kind_read attribute_read attributes_read maybe_attributes_read range_read bound_read dimension_read declarator_read declarators_read enumerator_read
    enumerators_read label_read labels_read discriminant_read maybe_name_read union_switch_read type_firsts member_firsts arm_firsts member_read members_read struct_body_read arm_field_read arm_read
    case_read cases_read cases_body_read arms_read arms_body_read struct_read union_body_read union_read enum_read parameter_read more_parameters_read void_parameters_read parameters_read init_read
    typedef_read const_read signature_read declared_read export_read import_read export_firsts imports_read exports_read file_read file_answer needed_types own_types nodes scene_of meaning listing
    layout.align_of layout.hoists roots_of digits
worked = (refl, refl, refl)
