-- Texts and what is answered on their tokens, computed.
use Rattle.std.proofs.Common.{◌≡◌, refl, subst, Result, Ok, Err}
use Rattle.idl_grammar.specs.Text.{Ban}
use Rattle.idl_grammar.specs.ReadPhrases.{Fault, Syntax, Passes}
use Rattle.idl_lexer.specs.Verdict.{Lexed}
use Rattle.idl_grammar.specs.Answers.{is_banned}
use Rattle.acf_reader.specs.Symbols.{names, words, symbol_of, lexemes}
use Rattle.acf_reader.specs.Grammar.{Acf}
use Rattle.acf_reader.specs.Reading.{handle_type_read, variable_read, implicit_handle_read, attribute_kind_read, attribute_read, attributes_read, maybe_attributes_read, parameter_read}
use Rattle.acf_reader.specs.Reading.{parameters_read, signature_read, types_read, include_read, operation_read, element_read, element_firsts, body_read, acf_read}
use Rattle.acf_reader.specs.Answers.{IsAnswer, acf_answer}
use Rattle.acf_reader.specs.Examples.{small_file, small_tree, unended, include_behind_attributes, attribute_name, banned_attribute, banned_word}
use Rattle.acf_reader.proofs.AcfLaws.{acf_answered, lexemes_real}

-- an answer that was computed is right
answers_so : (lexed : Lexed) (v : Result Acf Fault) → acf_answer (lexemes lexed) ≡ v → IsAnswer (lexemes lexed) v
answers_so lexed v e = subst (λ (w : Result Acf Fault). IsAnswer (lexemes lexed) w) e (acf_answered (lexemes lexed) (lexemes_real lexed))

small_file_answer : acf_answer (lexemes small_file) ≡ Ok small_tree
unfolding words symbol_of names handle_type_read variable_read implicit_handle_read attribute_kind_read attribute_read attributes_read maybe_attributes_read parameter_read parameters_read
    signature_read types_read include_read operation_read element_read element_firsts body_read acf_read is_banned acf_answer
small_file_answer = refl

pub small_file_answers : IsAnswer (lexemes small_file) (Ok small_tree)
small_file_answers = answers_so small_file (Ok small_tree) small_file_answer

unended_answer : acf_answer (lexemes unended) ≡ Err (Syntax 3)
unfolding words symbol_of names handle_type_read variable_read implicit_handle_read attribute_kind_read attribute_read attributes_read maybe_attributes_read parameter_read parameters_read
    signature_read types_read include_read operation_read element_read element_firsts body_read acf_read is_banned acf_answer
unended_answer = refl

pub unended_answers : IsAnswer (lexemes unended) (Err (Syntax 3))
unended_answers = answers_so unended (Err (Syntax 3)) unended_answer

include_behind_attributes_answer : acf_answer (lexemes include_behind_attributes) ≡ Err (Syntax 7)
unfolding words symbol_of names handle_type_read variable_read implicit_handle_read attribute_kind_read attribute_read attributes_read maybe_attributes_read parameter_read parameters_read
    signature_read types_read include_read operation_read element_read element_firsts body_read acf_read is_banned acf_answer
include_behind_attributes_answer = refl

pub include_behind_attributes_answers : IsAnswer (lexemes include_behind_attributes) (Err (Syntax 7))
include_behind_attributes_answers = answers_so include_behind_attributes (Err (Syntax 7)) include_behind_attributes_answer

attribute_name_answer : acf_answer (lexemes attribute_name) ≡ Err (Syntax 4)
unfolding words symbol_of names handle_type_read variable_read implicit_handle_read attribute_kind_read attribute_read attributes_read maybe_attributes_read parameter_read parameters_read
    signature_read types_read include_read operation_read element_read element_firsts body_read acf_read is_banned acf_answer
attribute_name_answer = refl

pub attribute_name_answers : IsAnswer (lexemes attribute_name) (Err (Syntax 4))
attribute_name_answers = answers_so attribute_name (Err (Syntax 4)) attribute_name_answer

banned_attribute_answer : acf_answer (lexemes banned_attribute) ≡ Err (Passes Ban 1)
unfolding words symbol_of names handle_type_read variable_read implicit_handle_read attribute_kind_read attribute_read attributes_read maybe_attributes_read parameter_read parameters_read
    signature_read types_read include_read operation_read element_read element_firsts body_read acf_read is_banned acf_answer
banned_attribute_answer = refl

pub banned_attribute_answers : IsAnswer (lexemes banned_attribute) (Err (Passes Ban 1))
banned_attribute_answers = answers_so banned_attribute (Err (Passes Ban 1)) banned_attribute_answer

banned_word_answer : acf_answer (lexemes banned_word) ≡ Err (Passes Ban 4)
unfolding words symbol_of names handle_type_read variable_read implicit_handle_read attribute_kind_read attribute_read attributes_read maybe_attributes_read parameter_read parameters_read
    signature_read types_read include_read operation_read element_read element_firsts body_read acf_read is_banned acf_answer
banned_word_answer = refl

pub banned_word_answers : IsAnswer (lexemes banned_word) (Err (Passes Ban 4))
banned_word_answers = answers_so banned_word (Err (Passes Ban 4)) banned_word_answer
