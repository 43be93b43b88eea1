use Rattle.nd_value.proofs.NodeFacts.{sound_partial}
use Rattle.nd_grammar.proofs.NamedOrder as laws
use Rattle.nd_grammar.proofs.laws.named_in_stream_order.Goals as goal

pub returns : goal.returns
returns c w side g p ms a n = laws.named_in_order w side g (sound_partial w g p) ms a n
