use Rattle.ndr_drain_laws.proofs.heads.HeadReads.{head_is}
use Rattle.ndr_drain_laws.proofs.laws.heads.heads_are_read.Goals as goal

pub returns : goal.returns
returns c w side order octets all not_stopped to_end = head_is w side order octets all not_stopped to_end (c.canonical_graph.ensures w side order octets all)
