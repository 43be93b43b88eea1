-- What is kept of cells, by their numbers.
use Rattle.std.proofs.Common.{◌≡◌, ◌≤◌, ◌<◌, ℕ, ◌+◌, ◌-◌, ◌^◌, zero, suc, List, [], ◌∷◌, ◌++◌, length, map, Option, Some, None, refl, ap, ap₂, sym, ◌∙◌, subst, arith}
use Rattle.std.proofs.lemmas.List.{append-nil, length-append, length-map}
use Rattle.std.proofs.lemmas.Option.{same_Some}
use Rattle.std.specs.Prelude.{slice_get, slice_set, option_map}
use Rattle.std.specs.List.{AllByRecursion}
use Rattle.ndr_decoder_laws.specs.declared.kept.Kept.{Kept}
use Rattle.ndr_decoder_laws.specs.stream.Between.{CellKept, kept_at, or_none}
use Rattle.ndr_decoder_stream.specs.declared.cells.CellEntry.{CellEntry}
use Rattle.ndr_decoder_stream.specs.declared.cells.CellEntry.TheVariants as entry
use Rattle.ndr_decoder_stream.specs.declared.cells.Lists.{Lists}
use Rattle.ndr_decoder_stream.specs.Entries.{HasGrown, HasMore, IsListed, IsPut, IsSound, counts_kept, entry_seen, read_count, said_at}
use Rattle.nd_lemmas.proofs.Lists.{get_in_front as got_in}

-- room for one cell more changes nothing
pub none_pushed : (l : Lists) (es : List CellEntry) (i : ℕ) → said_at l (es ++ entry.Unread ∷ []) i ≡ said_at l es i
none_pushed l [] zero = refl
none_pushed l [] (suc i) = refl
none_pushed l (e ∷ es) zero = refl
none_pushed l (e ∷ es) (suc i) = none_pushed l es i

pub within_more : (l : Lists) (es : List CellEntry) (e : CellEntry) → AllByRecursion (IsListed l) es → IsListed l e → AllByRecursion (IsListed l) (es ++ e ∷ [])
within_more l [] e a p = (p, tt)
within_more l (f ∷ es) e a p = (a.0, within_more l es e a.1 p)

-- ## An entry that is put at a place

last_is : (l : Lists) (es : List CellEntry) (e : CellEntry) → said_at l (es ++ e ∷ []) (length es) ≡ entry_seen l e
last_is l [] e = refl
last_is l (f ∷ es) e = last_is l es e

not_last : (l : Lists) (es : List CellEntry) (e : CellEntry) (i : ℕ) → (i ≡ length es → ⊥) → said_at l (es ++ e ∷ []) i ≡ said_at l es i
not_last l [] e zero n = absurd (n refl)
not_last l [] e (suc i) n = refl
not_last l (f ∷ es) e zero n = refl
not_last l (f ∷ es) e (suc i) n = not_last l es e i (λ q. n (ap suc q))

-- after all others
pub put_last : (es es' : List CellEntry) (at : ℕ) (e : CellEntry) → at ≡ length es → es' ≡ es ++ e ∷ [] → IsPut at e es es'
put_last es es' at e is new =
    subst (λ (us : List CellEntry). IsPut at e es us) (sym new)
    (subst (λ (i : ℕ). IsPut i e es (es ++ e ∷ [])) (sym is) (record { is = λ l. last_is l es e; others = λ l i n. not_last l es e i n }))

set_here : (xs : List (Option Kept)) (i : ℕ) (k : Option Kept) → i < length xs → or_none (slice_get (slice_set xs i k) i) ≡ k
set_here [] i k l = absurd (omega (arith, l))
set_here (x ∷ xs) zero k l = refl
set_here (x ∷ xs) (suc i) k l = set_here xs i k (omega (arith, l))

set_there : (xs : List (Option Kept)) (i j : ℕ) (k : Option Kept) → (j ≡ i → ⊥) → or_none (slice_get (slice_set xs i k) j) ≡ or_none (slice_get xs j)
set_there [] i j k n = refl
set_there (x ∷ xs) zero zero k n = absurd (n refl)
set_there (x ∷ xs) zero (suc j) k n = refl
set_there (x ∷ xs) (suc i) zero k n = refl
set_there (x ∷ xs) (suc i) (suc j) k n = set_there xs i j k (λ e. n (ap suc e))

map_set : (l : Lists) (es : List CellEntry) (i : ℕ) (e : CellEntry) → map (entry_seen l) (slice_set es i e) ≡ slice_set (map (entry_seen l) es) i (entry_seen l e)
map_set l [] i e = refl
map_set l (f ∷ es) zero e = refl
map_set l (f ∷ es) (suc i) e = ap (λ us. entry_seen l f ∷ us) (map_set l es i e)

-- in the place of the one that was there
pub put_set : (es es' new : List CellEntry) (at : ℕ) (e : CellEntry) → at < length es' → ((l : Lists) (i : ℕ) → said_at l es' i ≡ said_at l es i) → new ≡ slice_set es' at e → IsPut at e es new
put_set es es' new at e w same is = subst (λ (us : List CellEntry). IsPut at e es us) (sym is) (record {
  is = λ l. let n : length (map (entry_seen l) es') ≡ length es' = length-map es' (entry_seen l) in
      ap (λ us. or_none (slice_get us at)) (map_set l es' at e) ∙ set_here (map (entry_seen l) es') at (entry_seen l e) (omega (arith, w, n));
  others = λ l i n.
      ap (λ us. or_none (slice_get us i)) (map_set l es' at e) ∙ set_there (map (entry_seen l) es') at i (entry_seen l e) n ∙ same l i;
})

-- ## Entries

got_grown : {A : Type 0} (xs ys more : List A) → ys ≡ xs ++ more → (i : ℕ) → i < length xs → slice_get ys i ≡ slice_get xs i
got_grown xs ys more g i p = ap (λ zs. slice_get zs i) g ∙ got_in xs more i p

-- what was listed stays, where more is listed
seen_in : (l m : Lists) → HasGrown l m → (e : CellEntry) → IsListed l e → entry_seen m e ≡ entry_seen l e
seen_in l m g entry.Unread p = refl
seen_in l m g entry.Plain p = refl
seen_in l m g (entry.Counted i) p = ap (λ n. option_map counts_kept n) (got_grown l.counted.items m.counted.items g.counted.0 g.counted.1 i p)
seen_in l m g (entry.Listed i) p = got_grown l.listed.items m.listed.items g.listed.0 g.listed.1 i p

all_seen_in : (l m : Lists) → HasGrown l m → (es : List CellEntry) → AllByRecursion (IsListed l) es → map (entry_seen m) es ≡ map (entry_seen l) es
all_seen_in l m g [] a = refl
all_seen_in l m g (e ∷ es) a = ap₂ (λ u us. u ∷ us) (seen_in l m g e a.0) (all_seen_in l m g es a.1)

longer : {A : Type 0} (xs ys more : List A) → ys ≡ xs ++ more → (i : ℕ) → i < length xs → i < length ys
longer xs ys more g i p =
    let n : length ys ≡ length xs + length more = ap length g ∙ length-append xs more in
    omega (arith, p, n)

listed_more : (l m : Lists) → HasGrown l m → (e : CellEntry) → IsListed l e → IsListed m e
listed_more l m g entry.Unread a = tt
listed_more l m g entry.Plain a = tt
listed_more l m g (entry.Counted i) a = longer l.counted.items m.counted.items g.counted.0 g.counted.1 i a
listed_more l m g (entry.Listed i) a = longer l.listed.items m.listed.items g.listed.0 g.listed.1 i a

pub set_within : (l : Lists) (es : List CellEntry) (i : ℕ) (e : CellEntry) → AllByRecursion (IsListed l) es → IsListed l e → AllByRecursion (IsListed l) (slice_set es i e)
set_within l [] i e a p = tt
set_within l (f ∷ es) zero e a p = (p, a.1)
set_within l (f ∷ es) (suc i) e a p = (a.0, set_within l es i e a.1 p)

-- the entries, after more was listed, still have numbers of the lists
pub grown_within : (l m : Lists) → HasGrown l m → (es : List CellEntry) → AllByRecursion (IsListed l) es → AllByRecursion (IsListed m) es
grown_within l m g [] a = tt
grown_within l m g (e ∷ es) a = (listed_more l m g e a.0, grown_within l m g es a.1)

-- ## Cells that were read

read_most : (es : List CellEntry) → read_count es ≤ length es
read_most [] = omega arith
read_most (entry.Unread ∷ es) = let l = read_most es in omega (arith, l)
read_most (entry.Plain ∷ es) = let l = read_most es in omega (arith, l)
read_most (entry.Counted i ∷ es) = let l = read_most es in omega (arith, l)
read_most (entry.Listed i ∷ es) = let l = read_most es in omega (arith, l)

-- so both lists are short
pub counted_short : (l : Lists) (es : List CellEntry) → IsSound l es → length l.counted.items < 2 ^ 32
counted_short l es s = omega (arith, s.counted_few, s.cells_few, read_most es)

pub listed_short : (l : Lists) (es : List CellEntry) → IsSound l es → length l.listed.items < 2 ^ 32
listed_short l es s = omega (arith, s.listed_few, s.cells_few, read_most es)

read_more : (es : List CellEntry) (e : CellEntry) → read_count es ≤ read_count (es ++ e ∷ [])
read_more [] e = omega arith
read_more (entry.Unread ∷ es) e = read_more es e
read_more (entry.Plain ∷ es) e = let l = read_more es e in omega (arith, l)
read_more (entry.Counted i ∷ es) e = let l = read_more es e in omega (arith, l)
read_more (entry.Listed i ∷ es) e = let l = read_more es e in omega (arith, l)

set_length : (es : List CellEntry) (i : ℕ) (e : CellEntry) → length (slice_set es i e) ≡ length es
set_length [] i e = refl
set_length (f ∷ es) zero e = refl
set_length (f ∷ es) (suc i) e = ap suc (set_length es i e)

read_plain : (es : List CellEntry) (i : ℕ) → read_count es ≤ read_count (slice_set es i entry.Plain)
read_plain [] i = omega arith
read_plain (entry.Unread ∷ es) zero = omega arith
read_plain (entry.Plain ∷ es) zero = omega arith
read_plain (entry.Counted j ∷ es) zero = omega arith
read_plain (entry.Listed j ∷ es) zero = omega arith
read_plain (entry.Unread ∷ es) (suc i) = read_plain es i
read_plain (entry.Plain ∷ es) (suc i) = let l = read_plain es i in omega (arith, l)
read_plain (entry.Counted j ∷ es) (suc i) = let l = read_plain es i in omega (arith, l)
read_plain (entry.Listed j ∷ es) (suc i) = let l = read_plain es i in omega (arith, l)

-- a cell that was not read is read
read_set : (m : Lists) (k : Kept) (es : List CellEntry) (i : ℕ) (e : CellEntry) → slice_get es i ≡ Some entry.Unread → entry_seen m e ≡ Some k → read_count (slice_set es i e) ≡ suc (read_count es)
read_set m k [] i e there f = cc
read_set m k (u ∷ es) zero e there f = here u e (same_Some u entry.Unread there) f
  where
    here : (u e : CellEntry) → u ≡ entry.Unread → entry_seen m e ≡ Some k → read_count (e ∷ es) ≡ suc (read_count (u ∷ es))
    here u entry.Unread is f = cc
    here u entry.Plain is f = ap (λ v. suc (read_count (v ∷ es))) (sym is)
    here u (entry.Counted j) is f = ap (λ v. suc (read_count (v ∷ es))) (sym is)
    here u (entry.Listed j) is f = ap (λ v. suc (read_count (v ∷ es))) (sym is)
read_set m k (entry.Unread ∷ es) (suc i) e there f = read_set m k es i e there f
read_set m k (entry.Plain ∷ es) (suc i) e there f = ap suc (read_set m k es i e there f)
read_set m k (entry.Counted j ∷ es) (suc i) e there f = ap suc (read_set m k es i e there f)
read_set m k (entry.Listed j ∷ es) (suc i) e there f = ap suc (read_set m k es i e there f)

-- an entry that says nothing is of a cell that was not read
got_some : {A B : Type 0} (f : A → B) (xs : List A) (i : ℕ) → i < length xs → option_map f (slice_get xs i) ≡ None → ⊥
got_some f [] i p e = omega (arith, p)
got_some f (x ∷ xs) zero p e = cc
got_some f (x ∷ xs) (suc i) p e = got_some f xs i (omega (arith, p)) e

got_one : {A : Type 0} (xs : List A) (i : ℕ) → i < length xs → slice_get xs i ≡ None → ⊥
got_one [] i p e = omega (arith, p)
got_one (x ∷ xs) zero p e = cc
got_one (x ∷ xs) (suc i) p e = got_one xs i (omega (arith, p)) e

unread_there : (l : Lists) (es : List CellEntry) (i : ℕ) → AllByRecursion (IsListed l) es → i < length es → said_at l es i ≡ None → slice_get es i ≡ Some entry.Unread
unread_there l [] i a p e = absurd (omega (arith, p))
unread_there l (entry.Unread ∷ es) zero a p e = refl
unread_there l (entry.Plain ∷ es) zero a p e = cc
unread_there l (entry.Counted j ∷ es) zero a p e = absurd (got_some counts_kept l.counted.items j a.0 e)
unread_there l (entry.Listed j ∷ es) zero a p e = absurd (got_one l.listed.items j a.0 e)
unread_there l (f ∷ es) (suc i) a p e = unread_there l es i a.1 (omega (arith, p)) e

-- ## What is kept stays right

-- room for one cell more
pub sound_unread : (l : Lists) (es : List CellEntry) → length es + 1 < 2 ^ 32 → IsSound l es → IsSound l (es ++ entry.Unread ∷ [])
sound_unread l es few s =
    let n : length (es ++ entry.Unread ∷ []) ≡ length es + 1 = length-append es (entry.Unread ∷ []) in
    let m = read_more es entry.Unread in
    record {
      listed = within_more l es entry.Unread s.listed tt;
      counted_few = omega (arith, s.counted_few, m);
      listed_few = omega (arith, s.listed_few, m);
      cells_few = omega (arith, n, few);
    }

-- a plain cell more, or one that becomes plain
pub sound_plain : (l : Lists) (es : List CellEntry) → length es + 1 < 2 ^ 32 → IsSound l es → IsSound l (es ++ entry.Plain ∷ [])
sound_plain l es few s =
    let n : length (es ++ entry.Plain ∷ []) ≡ length es + 1 = length-append es (entry.Plain ∷ []) in
    let m = read_more es entry.Plain in
    record {
      listed = within_more l es entry.Plain s.listed tt;
      counted_few = omega (arith, s.counted_few, m);
      listed_few = omega (arith, s.listed_few, m);
      cells_few = omega (arith, n, few);
    }

pub sound_set_plain : (l : Lists) (es : List CellEntry) (i : ℕ) → IsSound l es → IsSound l (slice_set es i entry.Plain)
sound_set_plain l es i s =
    let n : length (slice_set es i entry.Plain) ≡ length es = set_length es i entry.Plain in
    let m = read_plain es i in
    record {
      listed = set_within l es i entry.Plain s.listed tt;
      counted_few = omega (arith, s.counted_few, m);
      listed_few = omega (arith, s.listed_few, m);
      cells_few = omega (arith, n, s.cells_few);
    }

-- nothing was listed
pub sound_same : (l m : Lists) (es : List CellEntry) → HasGrown l m → HasMore 0 l m → IsSound l es → IsSound m es
sound_same l m es g h s = record {
  listed = grown_within l m g es s.listed;
  counted_few = omega (arith, s.counted_few, h.counted);
  listed_few = omega (arith, s.listed_few, h.listed);
  cells_few = s.cells_few;
}

-- one more was listed, of a cell that was not read
pub sound_set : (l m : Lists) (es : List CellEntry) (i : ℕ) (e : CellEntry) (k : Kept) → HasGrown l m → HasMore 1 l m → i < length es → said_at l es i ≡ None → IsListed m e
    → entry_seen m e ≡ Some k → IsSound l es → IsSound m (slice_set es i e)
sound_set l m es i e k g h p none in_it is s =
    let n : length (slice_set es i e) ≡ length es = set_length es i e in
    let r : read_count (slice_set es i e) ≡ suc (read_count es) = read_set m k es i e (unread_there l es i s.listed p none) is in
    record {
      listed = set_within m es i e (grown_within l m g es s.listed) in_it;
      counted_few = omega (arith, s.counted_few, h.counted, r);
      listed_few = omega (arith, s.listed_few, h.listed, r);
      cells_few = omega (arith, n, s.cells_few);
    }

-- a cell that was not read, by its number, is the one at a place
pub unread_at : (l : Lists) (es : List CellEntry) (c : ℕ) → 0 < c → kept_at (map (entry_seen l) es) c ≡ None → said_at l es (c - 1) ≡ None
unread_at l es zero p e = absurd (omega (arith, p))
unread_at l es (suc i) p e = (let at : suc i - 1 ≡ i = omega arith in ap (said_at l es) at ∙ e)

-- nothing more is listed
pub same_grown : (l : Lists) → HasGrown l l
same_grown l = record { counted = ([], sym (append-nil l.counted.items)); listed = ([], sym (append-nil l.listed.items)) }

-- what is kept of one cell is its entry
pub entry_put : (l m : Lists) (es es' : List CellEntry) (c : ℕ) (e : CellEntry) (k : Kept) → 0 < c → HasGrown l m → AllByRecursion (IsListed l) es → IsPut (c - 1) e es es'
    → entry_seen m e ≡ Some k → CellKept c k (map (entry_seen l) es) (map (entry_seen m) es')
entry_put l m es es' zero e k p g a put f = absurd (omega (arith, p))
entry_put l m es es' (suc i) e k p g a put f =
    let at : suc i - 1 ≡ i = omega arith in
    let here : IsPut i e es es' = subst (λ (j : ℕ). IsPut j e es es') at put in
    let stays : map (entry_seen m) es ≡ map (entry_seen l) es = all_seen_in l m g es a in
    record { is = here.is m ∙ f; others = each here stays }
  where
    each : IsPut i e es es' → map (entry_seen m) es ≡ map (entry_seen l) es → (d : ℕ) → (d ≡ suc i → ⊥) → kept_at (map (entry_seen m) es') d ≡ kept_at (map (entry_seen l) es) d
    each here stays zero n = refl
    each here stays (suc j) n = here.others m j (λ q. n (ap suc q)) ∙ ap (λ us. or_none (slice_get us j)) stays
