use Rattle.idl_grammar.proofs.FileExamples as laws
use Rattle.idl_grammar.proofs.laws.refused_texts_are_refused.Goals as goal

pub returns : goal.returns
returns c = record {
  unended = laws.unended_answers;
  banned_attribute = laws.banned_attribute_answers;
  banned_word = laws.banned_word_answers;
  attribute_name = laws.attribute_name_answers;
  deep = laws.deep_answers;
}
