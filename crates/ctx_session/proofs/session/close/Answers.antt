use Rattle.ctx_store.specs.Seen.{store_seen}
use Rattle.ctx_session.specs.Stocked.{fresh_seen, spent_seen, spent_room}
use Rattle.ctx_session.proofs.Steps.{closed_line, failed_line, unknown_close_line}
use Rattle.ctx_session.proofs.session.close.Goals as goal

pub returns-then-failed-clause-does : goal.returns-then-failed-clause-does
returns-then-failed-clause-does g c =
    failed_line (store_seen g.R.Resource.shows c.args.store.now) (fresh_seen g.R.Resource.shows c.args.stock.now) (spent_seen g.R.Resource.shows c.args.stock.now) (store_seen
    g.R.Resource.shows c.close.new.self) (fresh_seen g.R.Resource.shows c.spend.new.self) (spent_seen g.R.Resource.shows c.spend.new.self)
    c.args.id _ _ c.in-Ok.ensures.does c.spend.ensures.fresh c.spend.ensures.spent c.if-failed.true

pub returns-else-failed-clause-does : goal.returns-else-failed-clause-does
returns-else-failed-clause-does g c =
    closed_line (store_seen g.R.Resource.shows c.args.store.now) (fresh_seen g.R.Resource.shows c.args.stock.now) (spent_seen g.R.Resource.shows c.args.stock.now) (store_seen
    g.R.Resource.shows c.close.new.self) (fresh_seen g.R.Resource.shows c.spend.new.self) (spent_seen g.R.Resource.shows c.spend.new.self)
    c.args.id _ _ c.in-Ok.ensures.does c.spend.ensures.fresh c.spend.ensures.spent c.if-failed.false

pub returns-in-Err-clause-does : goal.returns-in-Err-clause-does
returns-in-Err-clause-does g c =
    unknown_close_line (store_seen g.R.Resource.shows c.args.store.now) (store_seen g.R.Resource.shows c.close.new.self) (fresh_seen g.R.Resource.shows c.args.stock.now) (spent_seen
    g.R.Resource.shows c.args.stock.now) c.args.id c.in-Err.ensures.does
