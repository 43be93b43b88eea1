use Rattle.ndr_decoder_laws.proofs.stream.Parameters as law
use Rattle.ndr_decoder_laws.proofs.laws.stream.parameters_are_tried.Goals as goal

pub returns : goal.returns
returns c = record {
  number = λ w side order fetched noted direct b s before n pipes ag seen kp v star. law.variable_is w side order fetched noted direct b s before n pipes ag seen kp v star;
  holds = λ w side order fetched noted direct b s before n pipes ag seen kp i ws agree. law.root_passes w side order fetched noted direct b s before n pipes ag seen kp i ws agree;
  disagrees = λ w side order fetched noted direct b s before n pipes ag seen kp i a k is why e. law.root_stops w side order fetched noted direct b s before n pipes ag seen kp i a k is why e;
}
