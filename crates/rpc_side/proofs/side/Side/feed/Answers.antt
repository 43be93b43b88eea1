use Rattle.std.proofs.Common.{sym}
use Rattle.rpc_side.proofs.Streaming.{fed_ok}
use Rattle.rpc_side.proofs.side.Side.feed.Goals as goal

pub returns-in-Waiting-clause-fed : goal.returns-in-Waiting-clause-fed
returns-in-Waiting-clause-fed c =
    fed_ok c.args.piece.now c.take.new.self c.args.self.now c.take.result (sym c.in-Waiting.ensures) c.take.ensures.taken
