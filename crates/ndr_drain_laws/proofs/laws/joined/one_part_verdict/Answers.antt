use Rattle.nd_grammar.proofs.OneRefusal.{one_bad}
use Rattle.ndr_drain_laws.proofs.joined.PartVerdicts.{head_excludes, one_bad_part, part_excludes}
use Rattle.ndr_drain_laws.proofs.laws.joined.one_part_verdict.Goals as goal

pub returns-clause-head : goal.returns-clause-head
returns-clause-head c w side order head rest g it place why bad = head_excludes w side order head rest g it place why bad

pub returns-clause-one_refused_head : goal.returns-clause-one_refused_head
returns-clause-one_refused_head c w side order octets place other why reason a b = one_bad w side order octets place other why reason a.bad b.bad

pub returns-clause-chunk : goal.returns-clause-chunk
returns-clause-chunk c w side order s low p rest it place why bad = part_excludes w side order s low p rest it place why bad

pub returns-clause-one_refused_chunk : goal.returns-clause-one_refused_chunk
returns-clause-one_refused_chunk c w side order s low octets place other why reason a b = one_bad_part w side order s low octets place other why reason a b
