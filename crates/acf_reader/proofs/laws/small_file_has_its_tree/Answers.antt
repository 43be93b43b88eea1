use Rattle.acf_reader.proofs.AcfExamples as laws
use Rattle.acf_reader.proofs.laws.small_file_has_its_tree.Goals as goal

pub returns : goal.returns
returns c = laws.small_file_answers
