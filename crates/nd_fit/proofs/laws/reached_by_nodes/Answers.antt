use Rattle.nd_fit.proofs.Reaching as laws
use Rattle.nd_fit.proofs.laws.reached_by_nodes.Goals as goal

pub returns : goal.returns
returns c = record {
  reach = λ w g rs cs c r. laws.to_reach w g rs cs r;
  reached = λ w g rs cs c r. laws.to_reached w g rs cs r;
  all = laws.all_reached;
  first = laws.first_unreached;
}
