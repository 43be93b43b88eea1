use Rattle.std.proofs.Common.{subst}
use Rattle.ctx_store.specs.Seen.{store_seen}
use Rattle.ctx_store.specs.Calls.{UseFailed}
use Rattle.ctx_store.specs.declared.store.UseFault.{UseFault}
use Rattle.ctx_session.specs.Session.{applied, failed_use}
use Rattle.ctx_session.proofs.Steps.{applied_many, failed_many, unknown_use_line}
use Rattle.ctx_session.proofs.session.use_live.Goals as goal

pub returns-in-Ok-clause-does : goal.returns-in-Ok-clause-does
returns-in-Ok-clause-does g c = λ fresh spent. applied c.in-Ok.ensures.does

pub returns-in-Ok-clause-many : goal.returns-in-Ok-clause-many
returns-in-Ok-clause-many g c = applied_many (store_seen g.R.Resource.shows c.args.store.now) (store_seen g.R.Resource.shows c.apply.new.self) c.args.id c.args.text.now c.in-Ok.ensures.does

pub returns-in-Err-Unknown-clause-does : goal.returns-in-Err-Unknown-clause-does
returns-in-Err-Unknown-clause-does g c = λ fresh spent.
    let P : UseFault → Type 0 = λ f. UseFailed (store_seen g.R.Resource.shows c.args.store.now) (store_seen g.R.Resource.shows c.apply.new.self) c.args.id f in
    unknown_use_line (store_seen g.R.Resource.shows c.args.store.now) (store_seen g.R.Resource.shows c.apply.new.self) fresh spent c.args.id (subst P c.in-Err-Unknown.field-0-is
    c.in-Err-Unknown.ensures.does) c.args.text.now

pub returns-in-Err-Failed-clause-does : goal.returns-in-Err-Failed-clause-does
returns-in-Err-Failed-clause-does g c = λ fresh spent.
    let P : UseFault → Type 0 = λ f. UseFailed (store_seen g.R.Resource.shows c.args.store.now) (store_seen g.R.Resource.shows c.apply.new.self) c.args.id f in
    failed_use (subst P c.in-Err-Failed.field-0-is c.in-Err-Failed.ensures.does)
