use Rattle.ctx_session.proofs.Steps.{all_fresh_shown}
use Rattle.ctx_session.proofs.stock.StockOf.push.Goals as goal

pub returns-in-Ok-clause-kept : goal.returns-in-Ok-clause-kept
returns-in-Ok-clause-kept g c = λ a.
    all_fresh_shown g.R.Resource.shows c.args.self.now.fresh.items c.push_back.new.self.items c.args.resource c.in-Ok.ensures.items a c.requires
