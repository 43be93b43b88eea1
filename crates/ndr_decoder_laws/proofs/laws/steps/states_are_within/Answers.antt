use Rattle.ndr_decoder_laws.proofs.steps.Bounds.{address_within, inner_there, few_frames}
use Rattle.ndr_decoder_laws.proofs.laws.steps.states_are_within.Goals as goal

pub returns : goal.returns
returns c = record { address = address_within; inner = inner_there; frames = few_frames }
