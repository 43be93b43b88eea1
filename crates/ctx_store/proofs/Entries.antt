-- One entry of a store is called, or leaves.
use Rattle.std.proofs.Common.{◌≡◌, ◌∙◌, ap, sym, refl, subst, ℕ, zero, suc, ◌<◌, ◌≤◌, Bool, true, false, true≢false}
use Rattle.std.proofs.Common.{List, [], ◌∷◌, length, map, eqb, Option, Some, None, option_map, position, slice_set, slice_index_or, get_or, if◌then◌else◌, is_some, nat_le, remove, arith}
use Rattle.std.specs.List.{slice_get}
use Rattle.std.specs.Str.{bytes_eq}
use Rattle.std.proofs.lemmas.List.{map-set, length-map}
use Rattle.std.proofs.lemmas.Option.{slice_get-map, slice_get-get_or}
use Rattle.std.proofs.lemmas.Grind.{common_steps}
use Rattle.uuid.specs.Parts.{is_nil_bytes}
use Rattle.ctx_store.specs.declared.store.Entry.{Entry}
use Rattle.ctx_store.specs.declared.store.OpenFault.{OpenFault}
use Rattle.ctx_store.specs.declared.store.OpenFault.TheVariants.{NullId, Twice, Full}
use Rattle.ctx_store.specs.Resource.{ResourceSeen, with_line, HasFailed, HasEndedSo}
use Rattle.ctx_store.specs.Live.{Live, AreLive, ids_of, place_of, first_of}
use Rattle.ctx_store.specs.Calls.{Changes, Applies, Fails, Leaves, Closes, RunsDown, IsUnknown, HasNone, open_fault}
use Rattle.ctx_store.specs.Seen.{live_of}
use Rattle.ctx_store.proofs.Tables.{position_shown}

-- one of three, the first whose test passes
abbrev one_of : {F : Type 0} → Bool → Bool → Bool → F → F → F → Option F
one_of a b c x y z = if a then Some x else if b then Some y else if c then Some z else None

second : {F : Type 0} (a b c : Bool) (x y z : F) → a ≡ false → b ≡ true → one_of a b c x y z ≡ Some y
second false true c x y z p q = refl
second false false c x y z p q = absurd (true≢false (sym q))
second true b c x y z p q = absurd (true≢false p)

third : {F : Type 0} (a b c : Bool) (x y z : F) → a ≡ false → b ≡ false → c ≡ true → one_of a b c x y z ≡ Some z
third false false true x y z p q r = refl
third false false false x y z p q r = absurd (true≢false (sym r))
third false true c x y z p q r = absurd (true≢false q)
third true b c x y z p q r = absurd (true≢false p)

no_one : {F : Type 0} (a b c : Bool) (x y z : F) → a ≡ false → b ≡ false → c ≡ false → one_of a b c x y z ≡ None
no_one false false false x y z p q r = refl
no_one false false true x y z p q r = absurd (true≢false r)
no_one false true c x y z p q r = absurd (true≢false q)
no_one true b c x y z p q r = absurd (true≢false p)

-- whether a store is full
pub is_full : {X Y : Type 0} (f : X → Y) (xs : List X) (n : ℕ) → n ≡ length xs → 4096 ≤ n → nat_le 4096 (length (map f xs)) ≡ true
is_full f xs n e h = let l : 4096 ≤ length (map f xs) = omega (arith, length-map xs f) in grind (arith, common_steps)

pub is_not_full : {X Y : Type 0} (f : X → Y) (xs : List X) (n : ℕ) → n ≡ length xs → n < 4096 → nat_le 4096 (length (map f xs)) ≡ false
is_not_full f xs n e h = let l : length (map f xs) < 4096 = omega (arith, length-map xs f) in grind (arith, common_steps)

pub fault_twice : (es : List Live) (id : List ℕ) → is_nil_bytes id ≡ false → is_some (place_of es id) ≡ true → open_fault es id ≡ Some Twice
fault_twice es id n p = second (is_nil_bytes id) (is_some (place_of es id)) (nat_le 4096 (length es)) NullId Twice Full n p

pub fault_full : (es : List Live) (id : List ℕ) → is_nil_bytes id ≡ false → is_some (place_of es id) ≡ false → nat_le 4096 (length es) ≡ true
    → open_fault es id ≡ Some Full
fault_full es id n p f = third (is_nil_bytes id) (is_some (place_of es id)) (nat_le 4096 (length es)) NullId Twice Full n p f

pub fault_none : (es : List Live) (id : List ℕ) → is_nil_bytes id ≡ false → is_some (place_of es id) ≡ false → nat_le 4096 (length es) ≡ false
    → open_fault es id ≡ None
fault_none es id n p f = no_one (is_nil_bytes id) (is_some (place_of es id)) (nat_le 4096 (length es)) NullId Twice Full n p f

-- an identifier under which something can be opened is not live
pub absent : (es : List Live) (id : List ℕ) → open_fault es id ≡ None → place_of es id ≡ None
absent es id h = by (is_nil_bytes id) (place_of es id) (nat_le 4096 (length es)) h
  where
    by : (a : Bool) (p : Option ℕ) (c : Bool) → one_of a (is_some p) c NullId Twice Full ≡ None → p ≡ None
    by true p c e = cc
    by false (Some at) c e = cc
    by false None c e = refl

module _ {R : Type 0} (shows : R → ResourceSeen) where
  -- the identifiers of what is shown
  ids_shown : (items : List (Entry R)) → ids_of (map (live_of shows) items) ≡ map (λ e. e.id) items
  ids_shown [] = refl
  ids_shown (e ∷ items) = ap (λ l. e.id ∷ l) (ids_shown items)

  -- the place of an identifier in the table is its place among what is live
  pub place_shown : (items : List (Entry R)) (ids : List (List ℕ)) (id : List ℕ) → ids ≡ map (λ e. e.id) items
      → position (bytes_eq id) ids ≡ place_of (map (live_of shows) items) id
  place_shown items ids id aligned = ap (position (bytes_eq id)) (aligned ∙ sym (ids_shown items))

  -- the place of a client
  pub first_shown : (items : List (Entry R)) (client : ℕ) (r : Option ℕ) → r ≡ position (λ e. eqb e.client client) items
      → r ≡ first_of (map (live_of shows) items) client
  first_shown items client r h = h ∙ position_shown (λ e. eqb e.client client) (live_of shows) items

  -- an entry was not ended
  pub live_at : (items : List (Entry R)) (at : ℕ) (e : Entry R) → at < length items → e ≡ slice_index_or items at e → AreLive (map (live_of shows) items)
      → (shows e.resource).ended ≡ false
  live_at [] at e h i l = absurd (omega (arith, h))
  live_at (x ∷ items) zero e h i l = ap (λ y. (shows y.resource).ended) i ∙ l.0
  live_at (x ∷ items) (suc at) e h i l = live_at items at e (omega (arith, h)) i l.1

  -- what is live after one entry changed
  pub live_set : (items : List (Entry R)) (at : ℕ) (is : Entry R) → AreLive (map (live_of shows) items) → (shows is.resource).ended ≡ false
      → AreLive (map (live_of shows) (slice_set items at is))
  live_set [] at is l h = l
  live_set (x ∷ items) zero is l h = (h, l.1)
  live_set (x ∷ items) (suc at) is l h = (l.0, live_set items at is l.1 h)

  -- a changed entry keeps the identifiers
  pub ids_set : (items : List (Entry R)) (at : ℕ) (was is : Entry R) → was ≡ slice_index_or items at was → is.id ≡ was.id
      → map (λ e. e.id) (slice_set items at is) ≡ map (λ e. e.id) items
  ids_set [] at was is i h = refl
  ids_set (x ∷ items) zero was is i h = ap (λ n. n ∷ map (λ e. e.id) items) (h ∙ ap (λ e. e.id) i)
  ids_set (x ∷ items) (suc at) was is i h = ap (λ l. x.id ∷ l) (ids_set items at was is i h)

  -- what stands at a place
  pub seen_at : (items : List (Entry R)) (at : ℕ) (e : Entry R) → at < length items → e ≡ slice_index_or items at e
      → slice_get (map (live_of shows) items) at ≡ Some (live_of shows e)
  seen_at items at e h i =
      slice_get-map (live_of shows) items at ∙ ap (option_map (live_of shows)) (slice_get-get_or items at e h) ∙ ap (λ x. Some (live_of shows x)) (sym i)

  -- one entry has another resource
  changed : (items : List (Entry R)) (at : ℕ) (was is : Entry R) (r : ResourceSeen) → at < length items → was ≡ slice_index_or items at was
      → is.id ≡ was.id → is.client ≡ was.client → shows is.resource ≡ r
      → Changes (map (live_of shows) items) (map (live_of shows) (slice_set items at is)) at (shows was.resource) r
  changed items at was is r h i id client res = record {
    entry = live_of shows was;
    there = seen_at items at was h i;
    was_is = refl;
    now_is = map-set (live_of shows) items at is ∙ ap (slice_set (map (live_of shows) items) at) same;
  }
    where
      same : live_of shows is ≡ record (live_of shows was) { resource = r }
      same = ap (λ (i : List ℕ). record { id = i; client = is.client; resource = shows is.resource }) id
          ∙ ap (λ (c : ℕ). record { id = was.id; client = c; resource = shows is.resource }) client
          ∙ ap (λ (s : ResourceSeen). record { id = was.id; client = was.client; resource = s }) res

  pub applied : (items : List (Entry R)) (at : ℕ) (was is : Entry R) (id line : List ℕ) → at < length items → was ≡ slice_index_or items at was
      → is.id ≡ was.id → is.client ≡ was.client → shows is.resource ≡ with_line line (shows was.resource)
      → place_of (map (live_of shows) items) id ≡ Some at
      → Applies (map (live_of shows) items) (map (live_of shows) (slice_set items at is)) id line
  applied items at was is id line h i same_id client res place = record {
    at = at;
    place = place;
    was = shows was.resource;
    changes = changed items at was is (with_line line (shows was.resource)) h i same_id client res;
  }

  pub failed : (items : List (Entry R)) (at : ℕ) (was is : Entry R) (id : List ℕ) → at < length items → was ≡ slice_index_or items at was
      → is.id ≡ was.id → is.client ≡ was.client → HasFailed (shows was.resource) (shows is.resource) (shows was.resource).ended
      → place_of (map (live_of shows) items) id ≡ Some at
      → Fails (map (live_of shows) items) (map (live_of shows) (slice_set items at is)) id
  failed items at was is id h i same_id client res place = record {
    at = at;
    place = place;
    was = shows was.resource;
    is = shows is.resource;
    failed = res;
    changes = changed items at was is (shows is.resource) h i same_id client refl;
  }

  -- what an entry that was taken out leaves
  pub closed : (items now : List (Entry R)) (at : ℕ) (e : Entry R) (id : List ℕ) (spent : R) (failed : Bool)
      → place_of (map (live_of shows) items) id ≡ Some at → slice_get (map (live_of shows) items) at ≡ Some (live_of shows e)
      → map (live_of shows) now ≡ remove (map (live_of shows) items) at → HasEndedSo (shows e.resource) (shows spent) failed
      → Closes (map (live_of shows) items) (map (live_of shows) now) id (shows spent) failed
  closed items now at e id spent failed place there left ended = record {
    at = at;
    place = place;
    leaves = record { entry = live_of shows e; there = there; now_is = left; ended = ended };
  }

  pub run : (items now : List (Entry R)) (at client : ℕ) (e : Entry R) (spent : R) (failed : Bool)
      → first_of (map (live_of shows) items) client ≡ Some at → slice_get (map (live_of shows) items) at ≡ Some (live_of shows e)
      → map (live_of shows) now ≡ remove (map (live_of shows) items) at → HasEndedSo (shows e.resource) (shows spent) failed
      → RunsDown (map (live_of shows) items) (map (live_of shows) now) client (shows spent) failed
  run items now at client e spent failed place there left ended = record {
    at = at;
    place = place;
    leaves = record { entry = live_of shows e; there = there; now_is = left; ended = ended };
  }
