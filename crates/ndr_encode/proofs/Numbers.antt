-- The canonical number of a cell, name by name.
-- `n` is the next number, `seen` are the cells that were named before, `ds` those that are named, `c` is a cell, `e` the last one named.
use Rattle.std.proofs.Common.{◌≡◌, inl, inr, ◌⊎◌, ℕ, ◌+◌, ◌<◌, ◌≤◌, Bool, true, false, List, [], ◌∷◌, ◌++◌, refl, ap, sym, ◌∙◌, subst, arith}
use Rattle.std.specs.Prelude.{eqb, cond, set, get_or, length}
use Rattle.std.proofs.lemmas.Bool.{eq-eqb, eqb-true, eqb-false}
use Rattle.nd_value.specs.Canon.{has, number_from, canonical_number}
use Rattle.nd_value.specs.Setting.{Among}
use Rattle.nd_value.proofs.Apart.{all_append}
use Rattle.nd_grammar.proofs.written.CanonNumbers.{canon_range}
use Rattle.ndr_encode.specs.Search.{next_after, AreWithin, IsNumbered}
use Rattle.nd_lemmas.proofs.Lists.{set_elsewhere as get_other, set_here as get_set}
use Rattle.std.proofs.lemmas.List.{length-set as set_length}

-- what two names come to
abbrev by_two : Bool → Bool → ℕ → ℕ → ℕ → ℕ
by_two a b x n y = elim a [ true ↦ x | false ↦ elim b [ true ↦ n | false ↦ y ] ]

stays_by : (a b : Bool) (x x2 n y y2 : ℕ) → 0 < by_two a b x n y → (0 < x → x2 ≡ x) → (0 < y → y2 ≡ y) → by_two a b x2 n y2 ≡ by_two a b x n y
stays_by true b x x2 n y y2 h f g = f h
stays_by false true x x2 n y y2 h f g = refl
stays_by false false x x2 n y y2 h f g = g h

-- a number that was given stays
pub stays_numbered : (n : ℕ) (seen ds es : List ℕ) (c : ℕ) → 0 < number_from n seen ds c → number_from n seen (ds ++ es) c ≡ number_from n seen ds c
stays_numbered n seen [] es c h = absurd (let k : 0 < 0 = h in omega (arith, k))
stays_numbered n seen (d ∷ ds) es c h =
    stays_by (has seen d) (eqb c d) (number_from n seen ds c) (number_from n seen (ds ++ es) c) n (number_from (n + 1) (d ∷ seen) ds c) (number_from (n + 1) (d ∷ seen) (ds ++ es) c) h
    (λ k. stays_numbered n seen ds es c k) (λ k. stays_numbered (n + 1) (d ∷ seen) ds es c k)

first_by : (a b : Bool) (n : ℕ) → a ≡ false → b ≡ true → by_two a b 0 n 0 ≡ n
first_by true b n e f = cc
first_by false true n e f = refl
first_by false false n e f = cc

new_by : (a b : Bool) (x x2 n y y2 p q : ℕ) → 0 < n → by_two a b x n y ≡ 0 → (x ≡ 0 → x2 ≡ p) → (b ≡ false → y ≡ 0 → y2 ≡ q)
    → by_two a b x2 n y2 ≡ elim a [ true ↦ p | false ↦ q ]
new_by true b x x2 n y y2 p q some e f g = f e
new_by false true x x2 n y y2 p q some e f g = absurd (omega (arith, some, e))
new_by false false x x2 n y y2 p q some e f g = g refl e

-- a cell that had none has the next one
pub new_number : (n : ℕ) (seen ds : List ℕ) (c : ℕ) → 0 < n → has seen c ≡ false → number_from n seen ds c ≡ 0
    → number_from n seen (ds ++ c ∷ []) c ≡ next_after n seen ds
new_number n seen [] c some e h = first_by (has seen c) (eqb c c) n e (eq-eqb c c refl)
new_number n seen (d ∷ ds) c some e h =
    new_by (has seen d) (eqb c d) (number_from n seen ds c) (number_from n seen (ds ++ c ∷ []) c) n (number_from (n + 1) (d ∷ seen) ds c) (number_from (n + 1) (d ∷ seen) (ds ++ c ∷ []) c)
    (next_after n seen ds) (next_after (n + 1) (d ∷ seen) ds) some h
    (λ k. new_number n seen ds c some e k)
    (λ b k. new_number (n + 1) (d ∷ seen) ds c (omega arith) (ap (λ q. cond q true (has seen c)) b ∙ e) k)

last_by : (a b : Bool) (n : ℕ) → b ≡ false → by_two a b 0 n 0 ≡ 0
last_by true b n e = refl
last_by false true n e = cc
last_by false false n e = refl

other_by : (a b : Bool) (x x2 n y y2 : ℕ) → x2 ≡ x → y2 ≡ y → by_two a b x2 n y2 ≡ by_two a b x n y
other_by true b x x2 n y y2 f g = f
other_by false true x x2 n y y2 f g = refl
other_by false false x x2 n y y2 f g = g

-- another cell's name changes nothing
pub other_number : (n : ℕ) (seen ds : List ℕ) (e c : ℕ) → eqb c e ≡ false → number_from n seen (ds ++ e ∷ []) c ≡ number_from n seen ds c
other_number n seen [] e c h = last_by (has seen e) (eqb c e) n h
other_number n seen (d ∷ ds) e c h =
    other_by (has seen d) (eqb c d) (number_from n seen ds c) (number_from n seen (ds ++ e ∷ []) c) n (number_from (n + 1) (d ∷ seen) ds c) (number_from (n + 1) (d ∷ seen) (ds ++ e ∷ []) c)
    (other_number n seen ds e c h) (other_number (n + 1) (d ∷ seen) ds e c h)

-- the next number after one name more
pub next_new : (n : ℕ) (seen ds : List ℕ) (c : ℕ) → 0 < n → has seen c ≡ false → number_from n seen ds c ≡ 0 → next_after n seen (ds ++ c ∷ []) ≡ next_after n seen ds + 1
next_new n seen [] c some e h = go (has seen c) e
  where
    go : (b : Bool) → b ≡ false → elim b [ true ↦ n | false ↦ n + 1 ] ≡ n + 1
    go true f = cc
    go false f = refl
next_new n seen (d ∷ ds) c some e h =
    go (has seen d) (eqb c d) refl h (λ k. next_new n seen ds c some e k)
    (λ b k. next_new (n + 1) (d ∷ seen) ds c (omega arith) (ap (λ q. cond q true (has seen c)) b ∙ e) k)
  where
    go : (a b : Bool) → eqb c d ≡ b → by_two a b (number_from n seen ds c) n (number_from (n + 1) (d ∷ seen) ds c) ≡ 0
        → (number_from n seen ds c ≡ 0 → next_after n seen (ds ++ c ∷ []) ≡ next_after n seen ds + 1)
        → (eqb c d ≡ false → number_from (n + 1) (d ∷ seen) ds c ≡ 0 → next_after (n + 1) (d ∷ seen) (ds ++ c ∷ []) ≡ next_after (n + 1) (d ∷ seen) ds + 1)
        → elim a [ true ↦ next_after n seen (ds ++ c ∷ []) | false ↦ next_after (n + 1) (d ∷ seen) (ds ++ c ∷ []) ]
        ≡ elim a [ true ↦ next_after n seen ds | false ↦ next_after (n + 1) (d ∷ seen) ds ] + 1
    go true b q k f g = f k
    go false true q k f g = absurd (omega (arith, some, k))
    go false false q k f g = g q k

pub next_known : (n : ℕ) (seen ds : List ℕ) (c : ℕ) → (0 < number_from n seen ds c) ⊎ (has seen c ≡ true) → next_after n seen (ds ++ c ∷ []) ≡ next_after n seen ds
next_known n seen [] c (inl h) = absurd (let k : 0 < 0 = h in omega (arith, k))
next_known n seen [] c (inr h) = go (has seen c) h
  where
    go : (b : Bool) → b ≡ true → elim b [ true ↦ n | false ↦ n + 1 ] ≡ n
    go true f = refl
    go false f = cc
next_known n seen (d ∷ ds) c h =
    go (has seen d) (eqb c d) refl h (λ k. next_known n seen ds c k) (λ k. next_known (n + 1) (d ∷ seen) ds c k)
  where
    go : (a b : Bool) → eqb c d ≡ b → (0 < by_two a b (number_from n seen ds c) n (number_from (n + 1) (d ∷ seen) ds c)) ⊎ (has seen c ≡ true)
        → ((0 < number_from n seen ds c) ⊎ (has seen c ≡ true) → next_after n seen (ds ++ c ∷ []) ≡ next_after n seen ds)
        → ((0 < number_from (n + 1) (d ∷ seen) ds c) ⊎ (has (d ∷ seen) c ≡ true) → next_after (n + 1) (d ∷ seen) (ds ++ c ∷ []) ≡ next_after (n + 1) (d ∷ seen) ds)
        → ◌≡◌ {A = ℕ} (elim a [ true ↦ next_after n seen (ds ++ c ∷ []) | false ↦ next_after (n + 1) (d ∷ seen) (ds ++ c ∷ []) ])
        (elim a [ true ↦ next_after n seen ds | false ↦ next_after (n + 1) (d ∷ seen) ds ])
    go true b q k f g = f k
    go false true q k f g = g (inr (ap (λ b. cond b true (has seen c)) q))
    go false false q (inl k) f g = g (inl k)
    go false false q (inr k) f g = g (inr (ap (λ b. cond b true (has seen c)) q ∙ k))

all_within : (n : ℕ) (ds : List ℕ) → AreWithin n ds → (d : ℕ) → Among ds d → (0 < d) × (d ≤ n)
all_within n [] a d m = absurd m
all_within n (x ∷ xs) a d (inl e) = subst (λ y. (0 < y) × (y ≤ n)) (sym e) a.0
all_within n (x ∷ xs) a d (inr m) = all_within n xs a.1 d m

last_among : (ds : List ℕ) (c : ℕ) → Among (ds ++ c ∷ []) c
last_among [] c = inl refl
last_among (d ∷ ds) c = inr (last_among ds c)

module _ (n : ℕ) (names numbers : List ℕ) (named c : ℕ) (low : 0 < c) (high : c ≤ n) (x : IsNumbered n names numbers named) where
  within_more : AreWithin n (names ++ c ∷ [])
  within_more = all_append (λ d. (0 < d) × (d ≤ n)) names (c ∷ []) x.within ((low, high), tt)

  pub in_numbers : c < length numbers
  in_numbers = let r : length numbers ≡ n + 1 = x.room in omega (arith, r, high)

  -- the cell has a number
  pub numbered_known : 0 < get_or numbers c 0 → IsNumbered n (names ++ c ∷ []) numbers named
  numbered_known h =
      let has_one : 0 < canonical_number names c = subst (λ v. 0 < v) (x.numbers_are c) h in
      record {
        numbers_are = λ d. x.numbers_are d ∙ same d (eqb d c) refl has_one;
        next = x.next ∙ sym (next_known 1 [] names c (inl has_one));
        within = within_more;
        room = x.room;
      }
    where
      same : (d : ℕ) (b : Bool) → eqb d c ≡ b → 0 < canonical_number names c → canonical_number names d ≡ canonical_number (names ++ c ∷ []) d
      same d true e h = let k : d ≡ c = eqb-true d c e in ap (canonical_number names) k ∙ sym (stays_numbered 1 [] names (c ∷ []) c h) ∙ sym (ap (canonical_number (names ++ c ∷ [])) k)
      same d false e h = sym (other_number 1 [] names c d e)

  -- the cell has the next number
  pub numbered_new : get_or numbers c 0 ≡ 0 → (v : ℕ) → v ≡ named + 1 → IsNumbered n (names ++ c ∷ []) (set numbers c v) v
  numbered_new h v is =
      let none_yet : canonical_number names c ≡ 0 = sym (x.numbers_are c) ∙ h in
      let more : next_after 1 [] (names ++ c ∷ []) ≡ next_after 1 [] names + 1 = next_new 1 [] names c (omega arith) refl none_yet in
      let now : named + 1 ≡ next_after 1 [] names = x.next in
      record {
        numbers_are = λ d. number d (eqb d c) refl none_yet;
        next = omega (arith, is, more, now);
        within = within_more;
        room = set_length numbers c v ∙ x.room;
      }
    where
      number : (d : ℕ) (b : Bool) → eqb d c ≡ b → canonical_number names c ≡ 0 → get_or (set numbers c v) d 0 ≡ canonical_number (names ++ c ∷ []) d
      number d true e none_yet =
          let k : d ≡ c = eqb-true d c e in
          ap (λ i. get_or (set numbers c v) i 0) k ∙ get_set numbers c v in_numbers ∙ is ∙ x.next ∙ sym (new_number 1 [] names c (omega arith) refl none_yet)
          ∙ sym (ap (canonical_number (names ++ c ∷ [])) k)
      number d false e none_yet = get_other numbers c d v (eqb-false d c e) ∙ x.numbers_are d ∙ sym (other_number 1 [] names c d e)

  -- which is at most the number of cells
  pub next_fits : get_or numbers c 0 ≡ 0 → named + 1 ≤ n
  next_fits h =
      let none_yet : canonical_number names c ≡ 0 = sym (x.numbers_are c) ∙ h in
      let new : canonical_number (names ++ c ∷ []) c ≡ next_after 1 [] names = new_number 1 [] names c (omega arith) refl none_yet in
      let r = canon_range n (names ++ c ∷ []) (all_within n (names ++ c ∷ []) within_more) c (last_among names c) in
      let high : canonical_number (names ++ c ∷ []) c ≤ n = r.1 in
      let now : named + 1 ≡ next_after 1 [] names = x.next in
      omega (arith, new, high, now)
