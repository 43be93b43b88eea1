use Rattle.ctx_session.proofs.Accounts.{accounted}
use Rattle.ctx_session.proofs.laws.each_resource_is_accounted_for.Goals as goal

pub returns : goal.returns
returns c fresh spent lines answers fresh_now spent_now = accounted fresh spent lines answers fresh_now spent_now
