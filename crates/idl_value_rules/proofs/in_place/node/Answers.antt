use Rattle.std.proofs.Common.{refl, sym, arith}
use Rattle.idl_declared_types.proofs.Held.{same_past}
use Rattle.idl_value_rules.proofs.in_place.node.Goals as goal

pub returns-else-number-count-clause-same : goal.returns-else-number-count-clause-same
returns-else-number-count-clause-same c ks size = same_past ks c.args.count c.args.number size (omega arith)
