-- What a resource in memory has and shows.
use Rattle.std.specs.Prelude.{ℕ, ◌+◌, ◌<◌, Bool, List, length, true, nat_lt, ◌||◌}
use Rattle.nd_base.specs.declared.memory.MemSink.{MemSink}
use Rattle.nd_base.specs.InMemory.{sink_calls, sink_faults}
use Rattle.nd_base.specs.Calls.{fails_next}
use Rattle.ctx_store.specs.declared.mem_resource.MemResource.{MemResource}
use Rattle.ctx_store.specs.Resource.{ResourceSeen}

-- what counts its calls, and its faults
abbrev pub call_counter : MemResource → MemSink
call_counter r = r.calls

-- the lines applied, each with a line feed
abbrev pub applied_lines : MemResource → List ℕ
applied_lines r = r.lines.items

-- the most octets of lines that it holds
abbrev pub line_room : MemResource → ℕ
line_room r = r.room

abbrev pub was_ended : MemResource → Bool
was_ended r = r.ended

-- whether a line is a failure: the call is to fail, or the room does not hold it
abbrev pub apply_fails : MemResource → List ℕ → Bool
apply_fails r line = fails_next (sink_calls r.calls) || nat_lt r.room (length r.lines.items + (length line + 1))

-- what is seen of it: it shows all
abbrev pub mem_resource_seen : MemResource → ResourceSeen
mem_resource_seen r = record { lines = r.lines.items; is_shown = true; ended = r.ended; faults = sink_faults r.calls }
