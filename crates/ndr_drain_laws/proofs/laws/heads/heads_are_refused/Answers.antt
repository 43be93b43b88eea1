use Rattle.ndr_drain_laws.proofs.heads.HeadReads as law
use Rattle.ndr_drain_laws.proofs.laws.heads.heads_are_refused.Goals as goal

pub returns : goal.returns
returns c = record {
  refused = λ w side order octets all place why stop. law.bad_head w side order octets all place why stop;
  passed = λ w side order octets all earlier later e. law.through_head w side order octets all earlier later e;
}
