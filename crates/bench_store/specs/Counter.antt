-- What is seen of a counter: its lines, which it does not show, and whether it was ended.
use Rattle.std.specs.Prelude.{false}
use Rattle.ctx_store.specs.Resource.{ResourceSeen}
use Rattle.bench_store.specs.declared.counter.Counter.{Counter}

abbrev pub counter_seen : Counter → ResourceSeen
counter_seen r = record { lines = r.applied; is_shown = false; ended = r.ended; faults = 0 }
