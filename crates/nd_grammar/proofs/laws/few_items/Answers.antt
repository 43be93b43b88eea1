use Rattle.nd_grammar.proofs.FewItemsLaw as laws
use Rattle.nd_grammar.proofs.laws.few_items.Goals as goal

pub returns : goal.returns
returns c = laws.few_items
