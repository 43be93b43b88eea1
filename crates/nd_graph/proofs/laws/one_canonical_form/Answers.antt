use Rattle.nd_graph.proofs.CanonicalForms.{canonical_alone, canonical_exists}
use Rattle.nd_graph.proofs.laws.one_canonical_form.Goals as goal

pub returns-clause-exists : goal.returns-clause-exists
returns-clause-exists c w side g k = canonical_exists w g k side

pub returns-clause-alone : goal.returns-clause-alone
returns-clause-alone c w side g h k conforms o u = canonical_alone w g conforms side h k o u
