use Rattle.std.proofs.Common.{length}
use Rattle.ctx_store.specs.Seen.{store_seen}
use Rattle.ctx_session.specs.Session.{IsReady}
use Rattle.ctx_session.specs.Stocked.{state_of, spent_room}
use Rattle.ctx_session.proofs.UnderWay.{AreEnding}
use Rattle.ctx_session.proofs.session.end_all.Given as goal

abbrev pub invariant-loop-client : goal.invariant-loop-client
invariant-loop-client g l =
    AreEnding (state_of g.R.Resource.shows l.initial.store l.initial.stock) (state_of g.R.Resource.shows l.store l.stock)
    × IsReady (state_of g.R.Resource.shows l.store l.stock) (spent_room l.stock)

abbrev pub decreases-loop-client : goal.decreases-loop-client
decreases-loop-client g l = length (store_seen g.R.Resource.shows l.store)
