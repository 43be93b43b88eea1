use Rattle.std.proofs.Common.{arith}
use Rattle.rpc_side.specs.Kept.{nothing_kept}
use Rattle.rpc_side.proofs.Bounds.{bounds}
use Rattle.rpc_side.proofs.laws.kept_within_limits.Goals as goal

pub returns : goal.returns
returns c peer limits pdus = bounds peer limits pdus nothing_kept (record { calls = omega arith; octets = omega arith })
