-- One end of a list is called.
use Rattle.std.proofs.Common.{◌≡◌, ◌<◌, ◌∙◌, ap, sym, subst, ℕ, List, Some, option_map, Result, Ok, Err, map, length, slice_set, slice_index_or, get_or, [], ◌∷◌, zero, suc, arith}
use Rattle.std.specs.List.{slice_get}
use Rattle.std.proofs.lemmas.List.{map-set, length-map}
use Rattle.std.proofs.lemmas.Option.{slice_get-map, slice_get-get_or, slice_get_within, get_or_from_slice_get}
use Rattle.ndr_pipe.specs.Ends.{EndSeen, with_octets, ended, HasTaken, HasFlushed, HasFinished, TakesAt, FlushesAt, FinishesAt, IsOpenAt, change_at}

-- what stands at a place of a list that another list shows
pub seen_there : {X : Type 0} (f : X → EndSeen) (items : List X) (before : List EndSeen) (at : ℕ) (was : X) → map f items ≡ before → at < length items
    → was ≡ slice_index_or items at was → slice_get before at ≡ Some (f was)
seen_there f items before at was m h e =
    ap (λ l. slice_get l at) (sym m) ∙ slice_get-map f items at ∙ ap (option_map f) (slice_get-get_or items at was h) ∙ ap (λ x. Some (f x)) (sym e)

-- one end changed is the list with its new value in its place
pub changed : (ends : List EndSeen) (at : ℕ) (f : EndSeen → EndSeen) (e : EndSeen) → slice_get ends at ≡ Some e → slice_set ends at (f e) ≡ change_at at f ends
changed ends at f e h = go ends at e (slice_get_within ends at e h) (get_or_from_slice_get ends at e e h)
  where
    go : (ends : List EndSeen) (at : ℕ) (e : EndSeen) → at < length ends → get_or ends at e ≡ e → slice_set ends at (f e) ≡ change_at at f ends
    go [] at e h g = absurd (omega (arith, h))
    go (x ∷ xs) zero e h g = ap (λ y. f y ∷ xs) (sym g)
    go (x ∷ xs) (suc at) e h g = ap (λ l. x ∷ l) (go xs at e (omega (arith, h)) g)

-- a list with one of its own values in its place is as before
put_back : (ends : List EndSeen) (at : ℕ) (e : EndSeen) → slice_get ends at ≡ Some e → slice_set ends at e ≡ ends
put_back ends at e h = go ends at e (slice_get_within ends at e h) (get_or_from_slice_get ends at e e h)
  where
    go : (ends : List EndSeen) (at : ℕ) (e : EndSeen) → at < length ends → get_or ends at e ≡ e → slice_set ends at e ≡ ends
    go [] at e h g = absurd (omega (arith, h))
    go (x ∷ xs) zero e h g = ap (λ y. y ∷ xs) (sym g)
    go (x ∷ xs) (suc at) e h g = ap (λ l. x ∷ l) (go xs at e (omega (arith, h)) g)

pub takes_at : {X E : Type 0} (f : X → EndSeen) (items : List X) (before : List EndSeen) (at : ℕ) (was is : X) (line : List ℕ) (r : Result Unit E)
    → map f items ≡ before → at < length items → was ≡ slice_index_or items at was
    → HasTaken (f was) (f is) line r → TakesAt before (map f (slice_set items at is)) at line r
takes_at f items before at was is line (Ok u) m h e t =
    map-set f items at is ∙ ap (λ l. slice_set l at (f is)) m ∙ ap (slice_set before at) t
    ∙ changed before at (with_octets line) (f was) (seen_there f items before at was m h e)
takes_at f items before at was is line (Err u) m h e t = record {
  was = f was;
  is = f is;
  there = seen_there f items before at was m h e;
  failed = t;
  set = map-set f items at is ∙ ap (λ l. slice_set l at (f is)) m;
}

pub flushes_at : {X E : Type 0} (f : X → EndSeen) (items : List X) (before : List EndSeen) (at : ℕ) (was is : X) (r : Result Unit E)
    → map f items ≡ before → at < length items → was ≡ slice_index_or items at was
    → HasFlushed (f was) (f is) r → FlushesAt before (map f (slice_set items at is)) at r
flushes_at f items before at was is (Ok u) m h e t =
    map-set f items at is ∙ ap (λ l. slice_set l at (f is)) m ∙ ap (slice_set before at) t
    ∙ put_back before at (f was) (seen_there f items before at was m h e)
flushes_at f items before at was is (Err u) m h e t = record {
  was = f was;
  is = f is;
  there = seen_there f items before at was m h e;
  failed = t;
  set = map-set f items at is ∙ ap (λ l. slice_set l at (f is)) m;
}

pub finishes_at : {X E : Type 0} (f : X → EndSeen) (items : List X) (before : List EndSeen) (at : ℕ) (was is : X) (r : Result Unit E)
    → map f items ≡ before → at < length items → was ≡ slice_index_or items at was
    → HasFinished (f was) (f is) r → FinishesAt before (map f (slice_set items at is)) at r
finishes_at f items before at was is (Ok u) m h e t =
    map-set f items at is ∙ ap (λ l. slice_set l at (f is)) m ∙ ap (slice_set before at) t
    ∙ changed before at ended (f was) (seen_there f items before at was m h e)
finishes_at f items before at was is (Err u) m h e t = record {
  was = f was;
  is = f is;
  there = seen_there f items before at was m h e;
  failed = t;
  set = map-set f items at is ∙ ap (λ l. slice_set l at (f is)) m;
}

-- a place at which an end is open is a place of the list
pub open_within : {X : Type 0} (f : X → EndSeen) (items : List X) (before : List EndSeen) (at : ℕ) → map f items ≡ before → IsOpenAt before at → at < length items
open_within f items before at m (e, there, o) =
    let n : length before ≡ length items = ap length (sym m) ∙ length-map items f in
    let P : ℕ → Type 0 = λ n. at < n in subst P n (slice_get_within before at e there)
