use Rattle.std.proofs.Common.{sym}
use Rattle.ctx_store.specs.Seen.{store_seen}
use Rattle.ctx_session.specs.Stocked.{state_of}
use Rattle.ctx_session.proofs.UnderWay.{fewer_live, none_first, all_next, all_done}
use Rattle.ctx_session.proofs.session.end_all.Goals as goal

pub returns-in_default-clause-does : goal.returns-in_default-clause-does
returns-in_default-clause-does g c =
    all_done (state_of g.R.Resource.shows c.args.store.now c.args.stock.now) (state_of g.R.Resource.shows c.loop-client.store c.loop-client.stock) c.loop-client.invariant.0 (sym
    c.in_default.ensures)

pub returns-in_default-clause-none_live : goal.returns-in_default-clause-none_live
returns-in_default-clause-none_live g c = none_first (store_seen g.R.Resource.shows c.loop-client.store) (sym c.in_default.ensures)

pub loop-client-smaller : goal.loop-client-smaller
loop-client-smaller g c =
    fewer_live c.in-Some.client c.end_client.result (state_of g.R.Resource.shows c.loop-client.store c.loop-client.stock) (state_of g.R.Resource.shows c.end_client.new.store c.end_client.new.stock)
    c.end_client.ensures.does (sym c.in-Some.ensures)

pub loop-client-preserved : goal.loop-client-preserved
loop-client-preserved g c = (
  all_next (state_of g.R.Resource.shows c.args.store.now c.args.stock.now) (state_of g.R.Resource.shows c.loop-client.store c.loop-client.stock) (state_of g.R.Resource.shows
      c.end_client.new.store c.end_client.new.stock)
      c.in-Some.client c.end_client.result c.loop-client.invariant.0 (sym c.in-Some.ensures) c.end_client.ensures.does,
  c.end_client.ensures.ready,
)
