use Rattle.ctx_session.proofs.Distinct.{after_open, after_call, after_leaving}
use Rattle.ctx_session.proofs.store_laws.identifiers_stay_distinct.Goals as goal

pub returns-clause-opened : goal.returns-clause-opened
returns-clause-opened c live id client r = after_open live id client r

pub returns-clause-called : goal.returns-clause-called
returns-clause-called c live now at was is = after_call live now at was is

pub returns-clause-left : goal.returns-clause-left
returns-clause-left c live now at spent failed = after_leaving live now at spent failed
