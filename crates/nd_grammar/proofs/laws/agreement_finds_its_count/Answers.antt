use Rattle.nd_value.proofs.NodeFacts.{sound_partial}
use Rattle.nd_grammar.proofs.agreements.TestedAt as laws
use Rattle.nd_grammar.proofs.laws.agreement_finds_its_count.Goals as goal

pub returns : goal.returns
returns c w side g p ms a earlier here later e r attribute wanted found k =
    laws.test_finds w side g (sound_partial w g p) ms a earlier here later e r attribute wanted found k
