use Rattle.std.proofs.Common.{◌∙◌, sym, subst, List, ℕ, arith}
use Rattle.ctx_store.specs.Seen.{store_seen}
use Rattle.ctx_session.specs.Outcome.{IsDone, StockSeen}
use Rattle.ctx_session.specs.Stocked.{fresh_seen, spent_seen, state_of}
use Rattle.ctx_session.proofs.UnderWay.{whole}
use Rattle.ctx_session.proofs.session.run_script.Goals as goal

pub returns : goal.returns
returns g c =
    let stock : StockSeen = record {
      fresh = fresh_seen g.R.Resource.shows c.args.stock.now;
      spent = spent_seen g.R.Resource.shows c.args.stock.now;
      fresh_now = fresh_seen
          g.R.Resource.shows c.end_all.new.stock;
      spent_now = spent_seen g.R.Resource.shows c.end_all.new.stock;
    } in
    let P : List ℕ → Type 0 = λ o. IsDone c.args.script.now stock o in
    subst P (sym c.adopt.ensures)
    (whole c.args.script.now c.in-Ok-with_capacity.out.items c.do_lines.new.out.items (store_seen g.R.Resource.shows c.reserve.new.self) (fresh_seen g.R.Resource.shows c.room.new.self)
    (spent_seen g.R.Resource.shows c.room.new.self)
    (fresh_seen g.R.Resource.shows c.args.stock.now) (spent_seen g.R.Resource.shows c.args.stock.now) (state_of g.R.Resource.shows c.do_lines.new.store c.do_lines.new.stock)
    (store_seen g.R.Resource.shows c.end_all.new.store) (fresh_seen g.R.Resource.shows c.end_all.new.stock) (spent_seen g.R.Resource.shows c.end_all.new.stock) c.do_lines.ensures.does
    c.end_all.ensures.does
    (c.reserve.ensures.same ∙ c.new-store.ensures) c.room.ensures.fresh c.room.ensures.spent c.end_all.ensures.none_live c.in-Ok-with_capacity.ensures.items (omega arith))
