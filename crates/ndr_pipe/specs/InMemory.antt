-- What an end in memory has and shows.
use Rattle.std.specs.Prelude.{Bool, true}
use Rattle.nd_base.specs.declared.memory.MemSink.{MemSink}
use Rattle.nd_base.specs.InMemory.{written_octets, sink_faults}
use Rattle.ndr_pipe.specs.declared.mem_end.MemEnd.{MemEnd}
use Rattle.ndr_pipe.specs.Ends.{EndSeen}

-- where it keeps its octets
abbrev pub end_sink : MemEnd → MemSink
end_sink e = e.sink

-- whether it is finished
abbrev pub is_finished : MemEnd → Bool
is_finished e = e.finished

-- what is seen of it: it shows all
abbrev pub mem_end_seen : MemEnd → EndSeen
mem_end_seen e = record { taken = written_octets e.sink; is_shown = true; finished = e.finished; faults = sink_faults e.sink }
