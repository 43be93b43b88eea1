use Rattle.rpc_side.specs.Kept.{nothing_kept}
use Rattle.rpc_side.proofs.Within.{agree, others}
use Rattle.rpc_side.proofs.laws.each_call_by_itself.Goals as goal

pub returns-clause-ended : goal.returns-clause-ended
returns-clause-ended c id peer limits pdus n = (agree id peer limits pdus nothing_kept n).reports

pub returns-clause-open : goal.returns-clause-open
returns-clause-open c id peer limits pdus n = (agree id peer limits pdus nothing_kept n).kept

pub returns-clause-others : goal.returns-clause-others
returns-clause-others c peer limits pdus = others peer limits pdus nothing_kept
