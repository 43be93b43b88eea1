use Rattle.std.proofs.Common.{arith}
use Rattle.ctx_store.specs.Seen.{store_seen}
use Rattle.ctx_session.specs.Stocked.{fresh_seen, spent_seen, spent_room, state_of}
use Rattle.ctx_session.proofs.Steps.{left_ready}
use Rattle.ctx_session.proofs.UnderWay.{ending_next, ending_done, fewer}
use Rattle.ctx_session.proofs.session.end_client.Goals as goal

pub returns-in_default-clause-does : goal.returns-in_default-clause-does
returns-in_default-clause-does g c =
    ending_done c.args.client (state_of g.R.Resource.shows c.args.store.now c.args.stock.now) (store_seen g.R.Resource.shows c.loop-resource.store) (fresh_seen g.R.Resource.shows
    c.loop-resource.stock) (spent_seen g.R.Resource.shows c.loop-resource.stock)
    c.loop-resource.count c.loop-resource.invariant.0 (store_seen g.R.Resource.shows c.run_down.new.self) c.in_default.ensures.does.place c.in_default.ensures.does.same

pub loop-resource-preserved : goal.loop-resource-preserved
loop-resource-preserved g c =
    let d = c.in-Some.ensures.does in
    let few = c.loop-resource.invariant.2 in
    let less = fewer (store_seen g.R.Resource.shows c.loop-resource.store) (store_seen g.R.Resource.shows c.run_down.new.self) c.args.client _ _ d in
    let spare = c.loop-resource.invariant.3 in
    let more = c.run_down.ensures.spare in (
      ending_next c.args.client (state_of g.R.Resource.shows c.args.store.now c.args.stock.now) (store_seen g.R.Resource.shows c.loop-resource.store) (fresh_seen g.R.Resource.shows
          c.loop-resource.stock) (spent_seen g.R.Resource.shows c.loop-resource.stock)
          c.loop-resource.count c.loop-resource.invariant.0 (store_seen g.R.Resource.shows c.run_down.new.self) (fresh_seen g.R.Resource.shows c.spend.new.self) (spent_seen g.R.Resource.shows
          c.spend.new.self) _ _ d c.spend.ensures.fresh c.spend.ensures.spent,
      left_ready (store_seen g.R.Resource.shows c.loop-resource.store) (fresh_seen g.R.Resource.shows c.loop-resource.stock) (spent_seen g.R.Resource.shows c.loop-resource.stock) (store_seen
          g.R.Resource.shows c.run_down.new.self) (fresh_seen g.R.Resource.shows c.spend.new.self) (spent_seen g.R.Resource.shows c.spend.new.self)
          (spent_room c.loop-resource.stock) (spent_room c.spend.new.self) d.at _ _ c.loop-resource.invariant.1 d.leaves c.spend.ensures.fresh c.run_down.ensures.live c.spend.ensures.room,
      omega (arith, few, less),
      omega (arith, spare, more),
    )
