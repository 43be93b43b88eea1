use Rattle.std.proofs.Common.{◌≡◌, ◌∙◌, sym, Some, None, ◌++◌, [], ◌∷◌}
use Rattle.ctx_store.specs.Seen.{store_seen}
use Rattle.ctx_store.specs.Calls.{open_fault}
use Rattle.ctx_session.specs.Stocked.{fresh_seen, spent_seen, spent_room}
use Rattle.ctx_session.specs.Session.{none_fresh}
use Rattle.ctx_session.proofs.Steps.{no_items, refused_line, opened_line, not_refused, no_fault}
use Rattle.ctx_session.proofs.session.open_next.Goals as goal

pub returns-then-is_used_up-clause-does : goal.returns-then-is_used_up-clause-does
returns-then-is_used_up-clause-does g c = none_fresh (no_items (fresh_seen g.R.Resource.shows c.args.stock.now) c.if-is_used_up.ensures)

pub returns-in-Some-clause-does : goal.returns-in-Some-clause-does
returns-in-Some-clause-does g c =
    refused_line (store_seen g.R.Resource.shows c.args.store.now) (fresh_seen g.R.Resource.shows c.args.stock.now) (spent_seen g.R.Resource.shows c.args.stock.now) c.args.client c.args.id
    c.in-Some.fault
    c.if-is_used_up.ensures (sym c.fault_of.ensures ∙ c.in-Some.is)

pub returns-clause-does : goal.returns-clause-does
returns-clause-does g c =
    let free = sym c.fault_of.ensures ∙ c.in_default.is in
    opened_line (store_seen g.R.Resource.shows c.args.store.now) (fresh_seen g.R.Resource.shows c.args.stock.now) (spent_seen g.R.Resource.shows c.args.stock.now) (store_seen
    g.R.Resource.shows c.open.new.self) (fresh_seen g.R.Resource.shows c.take.new.self) (spent_seen g.R.Resource.shows c.take.new.self)
    c.args.client c.args.id (g.R.Resource.shows c.in-Some-take.resource) c.in-Some-take.ensures.taken c.in-Some-take.ensures.spent
    (not_refused (store_seen g.R.Resource.shows c.open.new.self ≡ store_seen g.R.Resource.shows c.args.store.now ++ record {
      id = c.args.id;
      client = c.args.client;
      resource =
          g.R.Resource.shows c.in-Some-take.resource;
    } ∷ [])
    (open_fault (store_seen g.R.Resource.shows c.args.store.now) c.args.id ≡ None) (λ e. open_fault (store_seen g.R.Resource.shows c.args.store.now) c.args.id ≡ Some e.0) c.open.result
    c.open.ensures.fault c.open.ensures.opened
    (λ e f. no_fault (store_seen g.R.Resource.shows c.args.store.now) c.args.id e.0 free f)) free
