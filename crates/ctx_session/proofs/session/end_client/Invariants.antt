use Rattle.std.proofs.Common.{◌+◌, ◌≤◌, length}
use Rattle.ctx_store.specs.Seen.{store_seen, store_spare}
use Rattle.ctx_session.specs.Session.{IsReady}
use Rattle.ctx_session.specs.Stocked.{state_of, spent_room}
use Rattle.ctx_session.proofs.UnderWay.{IsEnding}
use Rattle.ctx_session.proofs.session.end_client.Given as goal

abbrev pub invariant-loop-resource : goal.invariant-loop-resource
invariant-loop-resource g l =
    IsEnding l.client (state_of g.R.Resource.shows l.initial.store l.initial.stock) (state_of g.R.Resource.shows l.store l.stock) l.count
    × IsReady (state_of g.R.Resource.shows l.store l.stock) (spent_room l.stock)
    × (l.count + length (store_seen g.R.Resource.shows l.store) ≤ 4096)
    × (store_spare l.initial.store ≤ store_spare l.store)

abbrev pub decreases-loop-resource : goal.decreases-loop-resource
decreases-loop-resource g l = length (store_seen g.R.Resource.shows l.store)
