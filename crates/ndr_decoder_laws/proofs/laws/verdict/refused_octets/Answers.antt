use Rattle.ndr_decoder_laws.proofs.verdict.Refused.{refused_numbered, stays_refused, no_graph}
use Rattle.ndr_decoder_laws.proofs.laws.verdict.refused_octets.Goals as goal

pub returns : goal.returns
returns c = record {
  there = λ w side order octets all place why e needed. refused_numbered w side order octets all place why e needed;
  stay = λ w side order octets all place why e more may. stays_refused w side order octets all place why e more may;
  exclude = λ w side order octets all place why e more may part rest f g k r. no_graph w side order octets all place why e more may part rest f g k r;
}
