use Rattle.ctx_store.specs.InMemory.{mem_resource_seen}
use Rattle.ctx_session.specs.Session.{AreFresh}
use Rattle.ctx_session.specs.Stocked.{fresh_seen}
use Rattle.test_dceidl.proofs.session_runs.run_session.Given as goal

abbrev pub invariant-loop-at : goal.invariant-loop-at
invariant-loop-at l = AreFresh (fresh_seen mem_resource_seen l.stock)
