-- The interfaces that two texts mean are legal.
use Rattle.std.proofs.Common.{◌≡◌, ℕ, List, Option, Some, None, refl, subst, arith}
use Rattle.std.specs.Prelude.{Result, Ok, Err, All}
use Rattle.idl_grammar.specs.ReadPhrases.{Fault}
use Rattle.nd_types.specs.Legal.{IsLegal}
use Rattle.idl_grammar.specs.Tree.{Tree}
use Rattle.idl_rule_definitions.specs.Rules.{Breach, first_broken, breaches}
use Rattle.idl_rule_definitions.specs.Alone.{alone}
use Rattle.idl_rule_definitions.specs.Texts.{cut, told_of_tree, no_rule}
use Rattle.example_idl.specs.Interfaces.{meant_of_tree}
use Rattle.example_idl.proofs.Judged.{sum_means, directory_means}
use Rattle.idl_grammar.specs.declared.language.Language.TheVariants.{C706}
use Rattle.idl_grammar.specs.Text.{lexemes, words, symbol_of_word, symbol_of}
use Rattle.idl_grammar.specs.Expressions.{names, binary_operators, unary_operators, binary_of, unary_of, symbol_level, is_unary, is_operator, many_operators}
use Rattle.idl_grammar.specs.ReadExpressions.{is_operand, operand_of, outer_read}
use Rattle.idl_grammar.specs.Reading.{simple_firsts, width_read, unsigned_read, integer_read, simple_read, switch_type_read, pointer_class_read, variable_word_read, variable_name_read, uuid_read}
use Rattle.idl_grammar.specs.Reading.{version_numbers_read, version_read, endpoint_read, pointer_default_read, variable_read, switch_attribute_read, case_attribute_read, bracket_attribute_read}
use Rattle.idl_grammar.specs.Reading.{attribute_kind_read, attribute_read, attributes_read, maybe_attributes_read, upper_read, range_read, bound_read, dimension_read, declarator_read}
use Rattle.idl_grammar.specs.Reading.{declarators_read, enumerator_read, enumerators_read, label_read, labels_read, discriminant_read, maybe_name_read, union_switch_read, type_firsts, member_firsts}
use Rattle.idl_grammar.specs.Reading.{arm_firsts, member_read, members_read, struct_body_read, arm_field_read, arm_read, case_read, cases_read, cases_body_read, arms_read, arms_body_read, struct_read}
use Rattle.idl_grammar.specs.Reading.{union_body_read, union_read, enum_read, parameter_read, more_parameters_read, void_parameters_read, parameters_read, init_read, typedef_read, const_read}
use Rattle.idl_grammar.specs.Reading.{signature_read, declared_read, export_read, import_read, export_firsts, imports_read, exports_read, file_read}
use Rattle.idl_grammar.specs.Answers.{is_banned, file_answer}
use Rattle.idl_rule_definitions.specs.Nodes.{nodes}
use Rattle.idl_rule_definitions.specs.Scene.{hoists, scene_of}
use Rattle.idl_rule_definitions.specs.TypeRules.{contains, is_too_deep, is_barred_in_pipes}
use Rattle.idl_rule_definitions.specs.Numbering.{needed_types, own_types}
use Rattle.idl_rule_definitions.specs.Texts.{told_of}
use Rattle.example_idl.specs.Interfaces.{meant_of, sum_text, sum_meant, directory_text, directory_meant}
use Rattle.idl_legal_laws.proofs.legal.Meanings.{AllLegal, IsLegalMeant, of_meaning}

of_tree : AllLegal → (r : Result Tree Fault) → told_of_tree r ≡ no_rule → All IsLegalMeant (meant_of_tree r)
of_tree legal (Ok t) h = of_meaning legal (alone t) (same (first_broken (alone t)) None h)
  where
    same : (a b : Option Breach) → Some a ≡ Some b → a ≡ b
    same a b e = cc
of_tree legal (Err f) h = absurd (let e : None ≡ no_rule = h in cc)

of_text : AllLegal → (text : List ℕ) → told_of text ≡ no_rule → All IsLegalMeant (meant_of text)
of_text legal text h = of_tree legal (file_answer 64 129 (lexemes C706 (cut text))) h

-- ## Two texts

sum_told : told_of sum_text ≡ no_rule
unfolding words symbol_of_word symbol_of
    names binary_operators unary_operators binary_of unary_of symbol_level is_unary is_operator many_operators is_operand operand_of outer_read simple_firsts width_read
    unsigned_read integer_read simple_read switch_type_read pointer_class_read variable_word_read variable_name_read uuid_read version_numbers_read version_read endpoint_read pointer_default_read
    variable_read switch_attribute_read case_attribute_read bracket_attribute_read attribute_kind_read attribute_read attributes_read maybe_attributes_read upper_read range_read bound_read
    dimension_read declarator_read declarators_read enumerator_read enumerators_read label_read labels_read discriminant_read maybe_name_read union_switch_read type_firsts member_firsts arm_firsts
    member_read members_read struct_body_read arm_field_read arm_read case_read cases_read cases_body_read arms_read arms_body_read struct_read union_body_read union_read enum_read parameter_read
    more_parameters_read void_parameters_read parameters_read init_read typedef_read const_read signature_read declared_read export_read import_read export_firsts imports_read exports_read file_read
    is_banned file_answer hoists contains is_too_deep is_barred_in_pipes needed_types own_types nodes scene_of breaches
sum_told = refl

directory_told : told_of directory_text ≡ no_rule
unfolding words symbol_of_word symbol_of
    names binary_operators unary_operators binary_of unary_of symbol_level is_unary is_operator many_operators is_operand operand_of outer_read simple_firsts width_read
    unsigned_read integer_read simple_read switch_type_read pointer_class_read variable_word_read variable_name_read uuid_read version_numbers_read version_read endpoint_read pointer_default_read
    variable_read switch_attribute_read case_attribute_read bracket_attribute_read attribute_kind_read attribute_read attributes_read maybe_attributes_read upper_read range_read bound_read
    dimension_read declarator_read declarators_read enumerator_read enumerators_read label_read labels_read discriminant_read maybe_name_read union_switch_read type_firsts member_firsts arm_firsts
    member_read members_read struct_body_read arm_field_read arm_read case_read cases_read cases_body_read arms_read arms_body_read struct_read union_body_read union_read enum_read parameter_read
    more_parameters_read void_parameters_read parameters_read init_read typedef_read const_read signature_read declared_read export_read import_read export_firsts imports_read exports_read file_read
    is_banned file_answer hoists contains is_too_deep is_barred_in_pipes needed_types own_types nodes scene_of breaches
directory_told = refl

pub sum_is_legal : AllLegal → IsLegal sum_meant.types sum_meant.operations
sum_is_legal legal = let all = subst (All IsLegalMeant) sum_means (of_text legal sum_text sum_told) in all 0 sum_meant (omega (arith)) (record { part_names = refl; operation_names = refl })

pub directory_is_legal : AllLegal → IsLegal directory_meant.types directory_meant.operations
directory_is_legal legal = let all =
    subst (All IsLegalMeant) directory_means (of_text legal directory_text directory_told) in all 0 directory_meant (omega (arith)) (record { part_names = refl; operation_names = refl })
