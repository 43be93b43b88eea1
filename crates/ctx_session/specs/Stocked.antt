-- What a stock and a store show.
use Rattle.std.specs.Prelude.{ℕ, ◌-◌, List, map, vec_len, vec_capacity}
use Rattle.ctx_session.specs.declared.stock.StockOf.{StockOf}
use Rattle.ctx_session.specs.Session.{State}
use Rattle.ctx_store.specs.declared.store.StoreOf.{StoreOf}
use Rattle.ctx_store.specs.Resource.{ResourceSeen}
use Rattle.ctx_store.specs.Seen.{store_seen}

-- the fresh resources, given what one shows
abbrev pub fresh_seen : {R : Type 0} → (R → ResourceSeen) → StockOf R → List ResourceSeen
fresh_seen shows stock = map shows stock.fresh.items

-- the spent ones
abbrev pub spent_seen : {R : Type 0} → (R → ResourceSeen) → StockOf R → List ResourceSeen
spent_seen shows stock = map shows stock.spent.items

-- how many more the spent ones have room for
abbrev pub spent_room : {R : Type 0} → StockOf R → ℕ
spent_room stock = vec_capacity stock.spent - vec_len stock.spent

-- where a session is
abbrev pub state_of : {R : Type 0} → (R → ResourceSeen) → StoreOf R → StockOf R → State
state_of shows store stock = record { live = store_seen shows store; fresh = fresh_seen shows stock; spent = spent_seen shows stock }
