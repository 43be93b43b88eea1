-- A store: what is live, in the order of opening.
use Rattle.std.specs.Prelude.{◌≡◌, ℕ, suc, Bool, false, ◌==◌, List, [], ◌∷◌, map, Option, Some, None, option_map, position}
use Rattle.std.specs.List.{AllByRecursion}
use Rattle.std.specs.Str.{bytes_eq}
use Rattle.ctx_store.specs.Resource.{ResourceSeen}

-- a live resource: its identifier, sixteen octets; its client; what is seen of it
pub record Live : Type 0 where
  pub id : List ℕ
  pub client : ℕ
  pub resource : ResourceSeen

-- none was ended
abbrev pub AreLive : List Live → Type 0
AreLive entries = AllByRecursion (λ e. e.resource.ended ≡ false) entries

-- their identifiers
abbrev pub ids_of : List Live → List (List ℕ)
ids_of entries = map (λ e. e.id) entries

-- the place of an identifier, and none if it is not live
abbrev pub place_of : List Live → List ℕ → Option ℕ
place_of entries id = position (bytes_eq id) (ids_of entries)

-- the place of a client's first live resource, and none if it has none
abbrev pub first_of : List Live → ℕ → Option ℕ
first_of entries client = position (λ e. e.client == client) entries

-- no identifier is there twice
abbrev pub AreDistinct : List Live → Type 0
AreDistinct [] = Unit {0}
AreDistinct (e ∷ es) = (place_of es e.id ≡ None) × AreDistinct es
