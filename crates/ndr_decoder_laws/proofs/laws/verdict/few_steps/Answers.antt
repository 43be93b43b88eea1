use Rattle.ndr_decoder_laws.proofs.verdict.Counted.{few_counted, is_counted}
use Rattle.ndr_decoder_laws.proofs.laws.verdict.few_steps.Goals as goal

pub returns : goal.returns
returns c = record {
  few = λ w order octets earlier r. few_counted w order octets earlier r;
  counted = λ w order octets earlier t r h. is_counted w order octets earlier t r h;
}
