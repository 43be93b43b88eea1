use Rattle.acf_reader.proofs.AcfExamples as laws
use Rattle.acf_reader.proofs.laws.refused_texts_are_refused.Goals as goal

pub returns : goal.returns
returns c = record {
  unended = laws.unended_answers;
  include_behind_attributes = laws.include_behind_attributes_answers;
  attribute_name = laws.attribute_name_answers;
  banned_attribute = laws.banned_attribute_answers;
  banned_word = laws.banned_word_answers;
}
