use Rattle.std.proofs.Common.{sym, subst}
use Rattle.nd_value.specs.Fitting.{IsFit}
use Rattle.test_graph.proofs.builder.finished.Goals as goal

pub finish-requires-clause-fits : goal.finish-requires-clause-fits
finish-requires-clause-fits c = subst IsFit (sym c.requires.alike) c.flat-flat.ensures.conforms
