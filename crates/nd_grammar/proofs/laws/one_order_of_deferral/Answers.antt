use Rattle.nd_value.proofs.DeferralBridge.{deferral_is, deferral_not_repeated, repeated}
use Rattle.nd_value.proofs.DeferralLaws.{one_order}
use Rattle.nd_value.proofs.NodeFacts.{sound_conforming, sound_partial}
use Rattle.nd_grammar.proofs.laws.one_order_of_deferral.Goals as goal

pub returns : goal.returns
returns c = record {
  exists = λ w g s. deferral_is w g (sound_conforming w g s);
  exists_in_part = λ w g s. deferral_is w g (sound_partial w g s);
  alone = λ w g us vs a b. one_order w g a b;
  repeated = λ w g steps a. repeated w g a;
  not_repeated = λ w g s steps r. deferral_not_repeated w g (sound_conforming w g s) steps r;
  not_repeated_in_part = λ w g s steps r. deferral_not_repeated w g (sound_partial w g s) steps r;
}
