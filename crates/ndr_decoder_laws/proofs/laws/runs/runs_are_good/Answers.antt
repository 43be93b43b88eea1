use Rattle.ndr_decoder_laws.proofs.runs.GoodRuns.{along}
use Rattle.ndr_decoder_laws.proofs.runs.Joining.{joined, over_octets}
use Rattle.ndr_decoder_laws.proofs.runs.PaidSteps.{paid_along, paid_whole}
use Rattle.ndr_decoder_laws.proofs.laws.runs.runs_are_good.Goals as goal

pub returns : goal.returns
returns c = record {
  good = λ values order code table h own limit direct target planned before earlier s0 g0 fetched noted s r. along values order code table h own limit direct target planned before earlier s0 g0 r;
  octets = λ values order code h s0 fetched noted s r. over_octets values order code h s0 r;
  paid = λ values order code h s0 first fetched noted s r. paid_along values order code h s0 first r;
  paid_whole = λ values order code h s0 first fetched noted s r i os has s1 e. paid_whole values order code h s0 first fetched noted s r i os has s1 e;
  joined = λ values order code h s0 s1 s fetched more noted items r q. joined values order code h s0 s1 fetched noted r q;
}
