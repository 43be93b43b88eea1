use Rattle.ctx_store.specs.Live.{AreLive}
use Rattle.ctx_store.specs.Seen.{store_seen}
use Rattle.bench_store.specs.Counter.{counter_seen}
use Rattle.bench_store.proofs.measure.use_many.Given as goal

abbrev pub invariant-loop-at : goal.invariant-loop-at
invariant-loop-at l = AreLive (store_seen counter_seen l.store)
