-- What the entries of a store show.
use Rattle.std.specs.Prelude.{ℕ, ◌-◌, min, List, map, vec_len, vec_capacity}
use Rattle.ctx_store.specs.declared.store.StoreOf.{StoreOf}
use Rattle.ctx_store.specs.declared.store.Entry.{Entry}
use Rattle.ctx_store.specs.Resource.{ResourceSeen}
use Rattle.ctx_store.specs.Live.{Live}

-- an entry, by what a resource shows
abbrev pub live_of : {R : Type 0} → (R → ResourceSeen) → Entry R → Live
live_of shows e = record { id = e.id; client = e.client; resource = shows e.resource }

-- the entries of a store
abbrev pub store_seen : {R : Type 0} → (R → ResourceSeen) → StoreOf R → List Live
store_seen shows store = map (live_of shows) store.entries.items

-- how many resources can be opened with no memory
abbrev pub store_spare : {R : Type 0} → StoreOf R → ℕ
store_spare store = min store.handles.spare (vec_capacity store.entries - vec_len store.entries)
