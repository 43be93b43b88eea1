-- What is answered on the examples.
use Rattle.std.proofs.Common.{◌≡◌, refl, subst, arith, Result, Ok, Err}
use Rattle.idl_lexer.specs.Verdict.{Lexed}
use Rattle.idl_grammar.specs.declared.language.Language.{Language}
use Rattle.idl_grammar.specs.declared.language.Language.TheVariants.{C706, Windows}
use Rattle.idl_grammar.specs.Text.{Depth, Ban, lexemes, words, symbol_of_word, symbol_of}
use Rattle.idl_grammar.specs.ReadPhrases.{Fault, Syntax, Passes}
use Rattle.idl_grammar.specs.Expressions.{names, binary_operators, unary_operators, binary_of, unary_of, symbol_level, is_unary, is_operator, many_operators}
use Rattle.idl_grammar.specs.ReadExpressions.{is_operand, operand_of, outer_read}
use Rattle.idl_grammar.specs.Reading.{simple_firsts, width_read, unsigned_read, integer_read, simple_read, switch_type_read, pointer_class_read, variable_word_read, variable_name_read, uuid_read}
use Rattle.idl_grammar.specs.Reading.{version_numbers_read, version_read, endpoint_read, pointer_default_read, variable_read, switch_attribute_read, case_attribute_read, bracket_attribute_read}
use Rattle.idl_grammar.specs.Reading.{attribute_kind_read, attribute_read, attributes_read, maybe_attributes_read, upper_read, range_read, bound_read, dimension_read, declarator_read}
use Rattle.idl_grammar.specs.Reading.{declarators_read, enumerator_read, enumerators_read, label_read, labels_read, discriminant_read, maybe_name_read, union_switch_read, type_firsts, member_firsts}
use Rattle.idl_grammar.specs.Reading.{arm_firsts, member_read, members_read, struct_body_read, arm_field_read, arm_read, case_read, cases_read, cases_body_read, arms_read, arms_body_read, struct_read}
use Rattle.idl_grammar.specs.Reading.{union_body_read, union_read, enum_read, parameter_read, more_parameters_read, void_parameters_read, parameters_read, init_read, typedef_read, const_read}
use Rattle.idl_grammar.specs.Reading.{signature_read, declared_read, export_read, import_read, export_firsts, imports_read, exports_read, file_read}
use Rattle.idl_grammar.specs.Tree.{Tree}
use Rattle.idl_grammar.specs.Grammar.{file}
use Rattle.idl_grammar.specs.Answers.{is_banned, Answers, file_answer}
use Rattle.idl_grammar.proofs.FileLaws.{file_answered}
use Rattle.idl_grammar.proofs.RealTokens.{lexemes_real}
use Rattle.idl_grammar.specs.Examples.{small_file, small_tree, unended, banned_attribute, banned_word, attribute_name, deep, free_counts, free_tree}

-- the tree of the small file
pub small_answer : file_answer 64 129 (lexemes C706 small_file) ≡ Ok small_tree
unfolding words symbol_of_word symbol_of
    names binary_operators unary_operators binary_of unary_of symbol_level is_unary is_operator many_operators is_operand operand_of outer_read simple_firsts width_read
    unsigned_read integer_read simple_read switch_type_read pointer_class_read variable_word_read variable_name_read uuid_read version_numbers_read version_read endpoint_read pointer_default_read
    variable_read switch_attribute_read case_attribute_read bracket_attribute_read attribute_kind_read attribute_read attributes_read maybe_attributes_read upper_read range_read bound_read
    dimension_read declarator_read declarators_read enumerator_read enumerators_read label_read labels_read discriminant_read maybe_name_read union_switch_read type_firsts member_firsts arm_firsts
    member_read members_read struct_body_read arm_field_read arm_read case_read cases_read cases_body_read arms_read arms_body_read struct_read union_body_read union_read enum_read parameter_read
    more_parameters_read void_parameters_read parameters_read init_read typedef_read const_read signature_read declared_read export_read import_read export_firsts imports_read exports_read file_read
    is_banned file_answer
small_answer = refl

-- the bracket stands where the semicolon is wanting
pub unended_answer : file_answer 64 129 (lexemes C706 unended) ≡ Err (Syntax 11)
unfolding words symbol_of_word symbol_of
    names binary_operators unary_operators binary_of unary_of symbol_level is_unary is_operator many_operators is_operand operand_of outer_read simple_firsts width_read
    unsigned_read integer_read simple_read switch_type_read pointer_class_read variable_word_read variable_name_read uuid_read version_numbers_read version_read endpoint_read pointer_default_read
    variable_read switch_attribute_read case_attribute_read bracket_attribute_read attribute_kind_read attribute_read attributes_read maybe_attributes_read upper_read range_read bound_read
    dimension_read declarator_read declarators_read enumerator_read enumerators_read label_read labels_read discriminant_read maybe_name_read union_switch_read type_firsts member_firsts arm_firsts
    member_read members_read struct_body_read arm_field_read arm_read case_read cases_read cases_body_read arms_read arms_body_read struct_read union_body_read union_read enum_read parameter_read
    more_parameters_read void_parameters_read parameters_read init_read typedef_read const_read signature_read declared_read export_read import_read export_firsts imports_read exports_read file_read
    is_banned file_answer
unended_answer = refl

-- the word is named, not a fault of syntax
pub banned_attribute_answer : file_answer 64 129 (lexemes C706 banned_attribute) ≡ Err (Passes Ban 1)
unfolding words symbol_of_word symbol_of
    names binary_operators unary_operators binary_of unary_of symbol_level is_unary is_operator many_operators is_operand operand_of outer_read simple_firsts width_read
    unsigned_read integer_read simple_read switch_type_read pointer_class_read variable_word_read variable_name_read uuid_read version_numbers_read version_read endpoint_read pointer_default_read
    variable_read switch_attribute_read case_attribute_read bracket_attribute_read attribute_kind_read attribute_read attributes_read maybe_attributes_read upper_read range_read bound_read
    dimension_read declarator_read declarators_read enumerator_read enumerators_read label_read labels_read discriminant_read maybe_name_read union_switch_read type_firsts member_firsts arm_firsts
    member_read members_read struct_body_read arm_field_read arm_read case_read cases_read cases_body_read arms_read arms_body_read struct_read union_body_read union_read enum_read parameter_read
    more_parameters_read void_parameters_read parameters_read init_read typedef_read const_read signature_read declared_read export_read import_read export_firsts imports_read exports_read file_read
    is_banned file_answer
banned_attribute_answer = refl

-- the same of a word that is banned anywhere
pub banned_word_answer : file_answer 64 129 (lexemes C706 banned_word) ≡ Err (Passes Ban 6)
unfolding words symbol_of_word symbol_of
    names binary_operators unary_operators binary_of unary_of symbol_level is_unary is_operator many_operators is_operand operand_of outer_read simple_firsts width_read
    unsigned_read integer_read simple_read switch_type_read pointer_class_read variable_word_read variable_name_read uuid_read version_numbers_read version_read endpoint_read pointer_default_read
    variable_read switch_attribute_read case_attribute_read bracket_attribute_read attribute_kind_read attribute_read attributes_read maybe_attributes_read upper_read range_read bound_read
    dimension_read declarator_read declarators_read enumerator_read enumerators_read label_read labels_read discriminant_read maybe_name_read union_switch_read type_firsts member_firsts arm_firsts
    member_read members_read struct_body_read arm_field_read arm_read case_read cases_read cases_body_read arms_read arms_body_read struct_read union_body_read union_read enum_read parameter_read
    more_parameters_read void_parameters_read parameters_read init_read typedef_read const_read signature_read declared_read export_read import_read export_firsts imports_read exports_read file_read
    is_banned file_answer
banned_word_answer = refl

-- the word is no name inside the attribute's brackets
pub attribute_name_answer : file_answer 64 129 (lexemes C706 attribute_name) ≡ Err (Syntax 12)
unfolding words symbol_of_word symbol_of
    names binary_operators unary_operators binary_of unary_of symbol_level is_unary is_operator many_operators is_operand operand_of outer_read simple_firsts width_read
    unsigned_read integer_read simple_read switch_type_read pointer_class_read variable_word_read variable_name_read uuid_read version_numbers_read version_read endpoint_read pointer_default_read
    variable_read switch_attribute_read case_attribute_read bracket_attribute_read attribute_kind_read attribute_read attributes_read maybe_attributes_read upper_read range_read bound_read
    dimension_read declarator_read declarators_read enumerator_read enumerators_read label_read labels_read discriminant_read maybe_name_read union_switch_read type_firsts member_firsts arm_firsts
    member_read members_read struct_body_read arm_field_read arm_read case_read cases_read cases_body_read arms_read arms_body_read struct_read union_body_read union_read enum_read parameter_read
    more_parameters_read void_parameters_read parameters_read init_read typedef_read const_read signature_read declared_read export_read import_read export_firsts imports_read exports_read file_read
    is_banned file_answer
attribute_name_answer = refl

-- 63 round brackets may open inside the interface's own; the next one is one too many
pub deep_answer : file_answer 64 129 (lexemes C706 deep) ≡ Err (Passes Depth 73)
unfolding words symbol_of_word symbol_of
    names binary_operators unary_operators binary_of unary_of symbol_level is_unary is_operator many_operators is_operand operand_of outer_read simple_firsts width_read
    unsigned_read integer_read simple_read switch_type_read pointer_class_read variable_word_read variable_name_read uuid_read version_numbers_read version_read endpoint_read pointer_default_read
    variable_read switch_attribute_read case_attribute_read bracket_attribute_read attribute_kind_read attribute_read attributes_read maybe_attributes_read upper_read range_read bound_read
    dimension_read declarator_read declarators_read enumerator_read enumerators_read label_read labels_read discriminant_read maybe_name_read union_switch_read type_firsts member_firsts arm_firsts
    member_read members_read struct_body_read arm_field_read arm_read case_read cases_read cases_body_read arms_read arms_body_read struct_read union_body_read union_read enum_read parameter_read
    more_parameters_read void_parameters_read parameters_read init_read typedef_read const_read signature_read declared_read export_read import_read export_firsts imports_read exports_read file_read
    is_banned file_answer
deep_answer = refl

-- the two words begin attributes in the windows language, and are names outside attribute brackets
pub free_answer : file_answer 64 129 (lexemes Windows free_counts) ≡ Ok free_tree
unfolding words symbol_of_word symbol_of
    names binary_operators unary_operators binary_of unary_of symbol_level is_unary is_operator many_operators is_operand operand_of outer_read simple_firsts width_read
    unsigned_read integer_read simple_read switch_type_read pointer_class_read variable_word_read variable_name_read uuid_read version_numbers_read version_read endpoint_read pointer_default_read
    variable_read switch_attribute_read case_attribute_read bracket_attribute_read attribute_kind_read attribute_read attributes_read maybe_attributes_read upper_read range_read bound_read
    dimension_read declarator_read declarators_read enumerator_read enumerators_read label_read labels_read discriminant_read maybe_name_read union_switch_read type_firsts member_firsts arm_firsts
    member_read members_read struct_body_read arm_field_read arm_read case_read cases_read cases_body_read arms_read arms_body_read struct_read union_body_read union_read enum_read parameter_read
    more_parameters_read void_parameters_read parameters_read init_read typedef_read const_read signature_read declared_read export_read import_read export_firsts imports_read exports_read file_read
    is_banned file_answer
free_answer = refl

-- in C706 the first of them is a name where an attribute begins
pub free_name_answer : file_answer 64 129 (lexemes C706 free_counts) ≡ Err (Syntax 8)
unfolding words symbol_of_word symbol_of
    names binary_operators unary_operators binary_of unary_of symbol_level is_unary is_operator many_operators is_operand operand_of outer_read simple_firsts width_read
    unsigned_read integer_read simple_read switch_type_read pointer_class_read variable_word_read variable_name_read uuid_read version_numbers_read version_read endpoint_read pointer_default_read
    variable_read switch_attribute_read case_attribute_read bracket_attribute_read attribute_kind_read attribute_read attributes_read maybe_attributes_read upper_read range_read bound_read
    dimension_read declarator_read declarators_read enumerator_read enumerators_read label_read labels_read discriminant_read maybe_name_read union_switch_read type_firsts member_firsts arm_firsts
    member_read members_read struct_body_read arm_field_read arm_read case_read cases_read cases_body_read arms_read arms_body_read struct_read union_body_read union_read enum_read parameter_read
    more_parameters_read void_parameters_read parameters_read init_read typedef_read const_read signature_read declared_read export_read import_read export_firsts imports_read exports_read file_read
    is_banned file_answer
free_name_answer = refl

-- an answer that was computed is right
answers_so : (language : Language) (lexed : Lexed) (v : Result Tree Fault) → file_answer 64 129 (lexemes language lexed) ≡ v → Answers file (lexemes language lexed) v
answers_so language lexed v e =
    subst (λ (w : Result Tree Fault). Answers file (lexemes language lexed) w) e
    (file_answered 64 129 (omega arith) (omega arith) (lexemes language lexed) (lexemes_real language lexed))

pub small_answers : Answers file (lexemes C706 small_file) (Ok small_tree)
small_answers = answers_so C706 small_file (Ok small_tree) small_answer

pub unended_answers : Answers file (lexemes C706 unended) (Err (Syntax 11))
unended_answers = answers_so C706 unended (Err (Syntax 11)) unended_answer

pub banned_attribute_answers : Answers file (lexemes C706 banned_attribute) (Err (Passes Ban 1))
banned_attribute_answers = answers_so C706 banned_attribute (Err (Passes Ban 1)) banned_attribute_answer

pub banned_word_answers : Answers file (lexemes C706 banned_word) (Err (Passes Ban 6))
banned_word_answers = answers_so C706 banned_word (Err (Passes Ban 6)) banned_word_answer

pub attribute_name_answers : Answers file (lexemes C706 attribute_name) (Err (Syntax 12))
attribute_name_answers = answers_so C706 attribute_name (Err (Syntax 12)) attribute_name_answer

pub deep_answers : Answers file (lexemes C706 deep) (Err (Passes Depth 73))
deep_answers = answers_so C706 deep (Err (Passes Depth 73)) deep_answer

pub free_answers : Answers file (lexemes Windows free_counts) (Ok free_tree)
free_answers = answers_so Windows free_counts (Ok free_tree) free_answer

pub free_name_answers : Answers file (lexemes C706 free_counts) (Err (Syntax 8))
free_name_answers = answers_so C706 free_counts (Err (Syntax 8)) free_name_answer
