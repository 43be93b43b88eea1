-- The numbers of cells by the order in which they are named.
-- `c`, `d` and `e` are cells' numbers, `ds` named cells, `seen` those that were named before, `xs` cells of which none is twice, `n`, `k` and `v` are numbers.
use Rattle.std.proofs.Common.{◌≡◌, ◌⊎◌, inl, inr, ℕ, ◌+◌, ◌<◌, ◌≤◌, ◌^◌, zero, suc, Bool, true, false, cond, ◌||◌, eqb, List, [], ◌∷◌, ◌++◌, length, get_or, set, refl, ap, sym, ◌∙◌, subst, arith}
use Rattle.std.proofs.Common.{append_assoc, length-append}
use Rattle.std.specs.List.{AllByRecursion}
use Rattle.std.proofs.lemmas.Bool.{eqb-true, eqb-false, eq-eqb, ne_eqb}
use Rattle.nd_value.specs.Setting.{Among}
use Rattle.nd_value.specs.Names.{AreThere}
use Rattle.nd_value.specs.Canon.{has, number_from}
use Rattle.nd_value.proofs.Apart.{all_append}
use Rattle.nd_graph.specs.Order.{Numbering, name, name_by, zeros, HaveNumbers}
use Rattle.nd_lemmas.proofs.Lists.{set_elsewhere as get_other, set_here as get_set}
use Rattle.nd_lemmas.proofs.Numbers.{zero_or}
use Rattle.std.proofs.lemmas.List.{length-set as set_length}

-- ## Places

-- the named cells, each once
abbrev pub firsts : List ℕ → List ℕ → List ℕ
firsts seen [] = []
firsts seen (d ∷ ds) = elim (has seen d) [ true ↦ firsts seen ds | false ↦ d ∷ firsts (d ∷ seen) ds ]

-- the place of a cell, counted from n on; 0 where it is not among them
abbrev pub place : ℕ → ℕ → List ℕ → ℕ
place n c [] = 0
place n c (d ∷ ds) = elim (eqb c d) [ true ↦ n | false ↦ place (n + 1) c ds ]

-- the first of two numbers, or the second
abbrev choose : Bool → ℕ → ℕ → ℕ
choose b x y = elim b [ true ↦ x | false ↦ y ]

pub number_is_place : (n : ℕ) (seen ds : List ℕ) (c : ℕ) → number_from n seen ds c ≡ place n c (firsts seen ds)
number_is_place n seen [] c = refl
number_is_place n seen (d ∷ ds) c = go (has seen d) (number_is_place n seen ds c) (number_is_place (n + 1) (d ∷ seen) ds c)
  where
    go : (b : Bool) → number_from n seen ds c ≡ place n c (firsts seen ds) → number_from (n + 1) (d ∷ seen) ds c ≡ place (n + 1) c (firsts (d ∷ seen) ds)
        → elim b [ true ↦ number_from n seen ds c | false ↦ elim (eqb c d) [ true ↦ n | false ↦ number_from (n + 1) (d ∷ seen) ds c ] ]
        ≡ place n c (elim b [ true ↦ firsts seen ds | false ↦ d ∷ firsts (d ∷ seen) ds ])
    go true p q = p
    go false p q = ap (λ (u : ℕ). elim (eqb c d) [ true ↦ n | false ↦ u ]) q

-- a cell, unless it is there
abbrev pub unless_there : Bool → ℕ → List ℕ
unless_there true c = []
unless_there false c = c ∷ []

or_first : (x y z : Bool) → (cond x true y || z) ≡ (y || cond x true z)
or_first true true z = refl
or_first true false z = refl
or_first false y z = refl

-- a cell more is named
pub firsts_more : (seen ds : List ℕ) (c : ℕ) → firsts seen (ds ++ c ∷ []) ≡ firsts seen ds ++ unless_there (has seen c || has (firsts seen ds) c) c
firsts_more seen [] c = go (has seen c)
  where
    go : (b : Bool) → elim b [ true ↦ [] | false ↦ c ∷ [] ] ≡ unless_there (b || false) c
    go true = refl
    go false = refl
firsts_more seen (d ∷ ds) c = go (has seen d) (firsts_more seen ds c) (firsts_more (d ∷ seen) ds c)
  where
    F : List ℕ
    F = firsts (d ∷ seen) ds

    go : (b : Bool) → firsts seen (ds ++ c ∷ []) ≡ firsts seen ds ++ unless_there (has seen c || has (firsts seen ds) c) c
        → firsts (d ∷ seen) (ds ++ c ∷ []) ≡ firsts (d ∷ seen) ds ++ unless_there (has (d ∷ seen) c || has (firsts (d ∷ seen) ds) c) c
        → elim b [ true ↦ firsts seen (ds ++ c ∷ []) | false ↦ d ∷ firsts (d ∷ seen) (ds ++ c ∷ []) ]
        ≡ elim b [ true ↦ firsts seen ds | false ↦ d ∷ firsts (d ∷ seen) ds ]
        ++ unless_there (has seen c || has (elim b [ true ↦ firsts seen ds | false ↦ d ∷ firsts (d ∷ seen) ds ]) c) c
    go true p q = p
    go false p q = ap (λ u. d ∷ u) q ∙ ap (λ b. d ∷ (F ++ unless_there b c)) (or_first (eqb c d) (has seen c) (has F c))

-- where a cell is
pub not_placed : (n c : ℕ) (xs : List ℕ) → has xs c ≡ false → place n c xs ≡ 0
not_placed n c [] h = refl
not_placed n c (d ∷ ds) h = go (eqb c d) h (not_placed (n + 1) c ds)
  where
    go : (b : Bool) → cond b true (has ds c) ≡ false → (has ds c ≡ false → place (n + 1) c ds ≡ 0) → choose b n (place (n + 1) c ds) ≡ 0
    go true h r = cc
    go false h r = r h

pub placed : (n c : ℕ) (xs : List ℕ) → has xs c ≡ true → (k : ℕ) × (place (suc n) c xs ≡ suc k)
placed n c [] h = cc
placed n c (d ∷ ds) h = go (eqb c d) h (placed (n + 1) c ds)
  where
    shift : place (suc (n + 1)) c ds ≡ place (suc n + 1) c ds
    shift = ap (λ m. place m c ds) (omega arith)

    go : (b : Bool) → cond b true (has ds c) ≡ true → (has ds c ≡ true → (k : ℕ) × (place (suc (n + 1)) c ds ≡ suc k))
        → (k : ℕ) × (choose b (suc n) (place (suc n + 1) c ds) ≡ suc k)
    go true h r = (n, refl)
    go false h r = let (k, e) = r h in (k, sym shift ∙ e)

-- a cell that was not there is put at the end
pub place_last : (n c : ℕ) (xs : List ℕ) → has xs c ≡ false → place n c (xs ++ c ∷ []) ≡ n + length xs
place_last n c [] h = go (eqb c c) (eq-eqb c c refl)
  where
    go : (b : Bool) → b ≡ true → choose b n 0 ≡ n + 0
    go true e = omega arith
    go false e = cc
place_last n c (d ∷ ds) h = go (eqb c d) h (place_last (n + 1) c ds)
  where
    go : (b : Bool) → cond b true (has ds c) ≡ false → (has ds c ≡ false → place (n + 1) c (ds ++ c ∷ []) ≡ n + 1 + length ds)
        → choose b n (place (n + 1) c (ds ++ c ∷ [])) ≡ n + suc (length ds)
    go true h r = cc
    go false h r = r h ∙ omega arith

pub place_other : (n e c : ℕ) (xs : List ℕ) → eqb e c ≡ false → place n e (xs ++ c ∷ []) ≡ place n e xs
place_other n e c [] h = go (eqb e c) h
  where
    go : (b : Bool) → b ≡ false → choose b n 0 ≡ 0
    go true h = cc
    go false h = refl
place_other n e c (d ∷ ds) h = ap (λ (u : ℕ). elim (eqb e d) [ true ↦ n | false ↦ u ]) (place_other (n + 1) e c ds h)

-- the numbers from n on
pub place_high : (n c : ℕ) (xs : List ℕ) → (place (suc n) c xs ≡ 0) ⊎ (suc n ≤ place (suc n) c xs)
place_high n c [] = inl refl
place_high n c (d ∷ ds) = go (eqb c d) (place_high (n + 1) c ds)
  where
    shift : place (suc (n + 1)) c ds ≡ place (suc n + 1) c ds
    shift = ap (λ m. place m c ds) (omega arith)

    go : (b : Bool) → (place (suc (n + 1)) c ds ≡ 0) ⊎ (suc (n + 1) ≤ place (suc (n + 1)) c ds)
        → (choose b (suc n) (place (suc n + 1) c ds) ≡ 0) ⊎ (suc n ≤ choose b (suc n) (place (suc n + 1) c ds))
    go true r = inr (omega arith)
    go false (inl e) = inl (sym shift ∙ e)
    go false (inr l) = inr (omega (arith, l, shift))

-- by a number the cell is found
pub found : (n c k : ℕ) (xs : List ℕ) → place (suc n) c xs ≡ suc n + k → (k < length xs) × (get_or xs k 0 ≡ c)
found n c k [] e = absurd (let z : 0 ≡ suc n + k = e in omega (arith, z))
found n c k (d ∷ ds) e = go (λ j. found (n + 1) c j ds) (eqb c d) refl e k refl
  where
    shift : place (suc (n + 1)) c ds ≡ place (suc n + 1) c ds
    shift = ap (λ m. place m c ds) (omega arith)

    go : ((j : ℕ) → place (suc (n + 1)) c ds ≡ suc (n + 1) + j → (j < length ds) × (get_or ds j 0 ≡ c))
        → (b : Bool) → eqb c d ≡ b → choose b (suc n) (place (suc n + 1) c ds) ≡ suc n + k → (j : ℕ) → j ≡ k
        → (k < suc (length ds)) × (get_or (d ∷ ds) k 0 ≡ c)
    go again true f e j g =
        let z : suc n ≡ suc n + k = e in
        let k0 : k ≡ 0 = omega (arith, z) in
        (omega (arith, k0), ap (λ i. get_or (d ∷ ds) i 0) k0 ∙ sym (eqb-true c d f))
    go again false f e zero g =
        let z : place (suc (n + 1)) c ds ≡ suc n + k = shift ∙ e in
        absurd (elim (place_high (n + 1) c ds) [ inl a ↦ omega (arith, a, z, g) | inr a ↦ omega (arith, a, z, g) ])
    go again false f e (suc j) g =
        let z : place (suc (n + 1)) c ds ≡ suc (n + 1) + j = shift ∙ e ∙ omega (arith, g) in
        let (l, h) = again j z in
        (omega (arith, l, g), ap (λ i. get_or (d ∷ ds) i 0) (sym g) ∙ h)

-- ## No cell twice

has_more : (d c : ℕ) (seen : List ℕ) → has seen c ≡ true → has (d ∷ seen) c ≡ true
has_more d c seen h = go (eqb c d)
  where
    go : (b : Bool) → cond b true (has seen c) ≡ true
    go true = refl
    go false = h

pub not_again : (seen ds : List ℕ) (c : ℕ) → has seen c ≡ true → has (firsts seen ds) c ≡ false
not_again seen [] c h = refl
not_again seen (d ∷ ds) c h = go (not_again seen ds c h) (not_again (d ∷ seen) ds c (has_more d c seen h)) (has seen d) refl (eqb c d) refl
  where
    go : has (firsts seen ds) c ≡ false → has (firsts (d ∷ seen) ds) c ≡ false → (b : Bool) → has seen d ≡ b → (x : Bool) → eqb c d ≡ x
        → has (elim b [ true ↦ firsts seen ds | false ↦ d ∷ firsts (d ∷ seen) ds ]) c ≡ false
    go p q true e x f = p
    go p q false e true f =
        let z : has seen d ≡ true = ap (has seen) (sym (eqb-true c d f)) ∙ h in
        absurd (cc)
    go p q false e false f = ap (λ b. cond b true (has (firsts (d ∷ seen) ds) c)) f ∙ q

has_itself : (d : ℕ) (seen : List ℕ) → has (d ∷ seen) d ≡ true
has_itself d seen = ap (λ b. cond b true (has seen d)) (eq-eqb d d refl)

has_at : (xs : List ℕ) (k : ℕ) → k < length xs → has xs (get_or xs k 0) ≡ true
has_at [] k l = absurd (omega (arith, l))
has_at (x ∷ xs) zero l = has_itself x xs
has_at (x ∷ xs) (suc k) l = has_more x (get_or xs k 0) xs (has_at xs k (omega (arith, l)))

-- each cell is at its place
pub placed_at : (n : ℕ) (seen ds : List ℕ) (k : ℕ) → k < length (firsts seen ds) → place n (get_or (firsts seen ds) k 0) (firsts seen ds) ≡ n + k
placed_at n seen [] k l = absurd (omega (arith, l))
placed_at n seen (d ∷ ds) k l = go (placed_at n seen ds k) (λ j. placed_at (n + 1) (d ∷ seen) ds j) (has seen d) l
  where
    F : List ℕ
    F = firsts (d ∷ seen) ds

    by_place : ((j : ℕ) → j < length F → place (n + 1) (get_or F j 0) F ≡ n + 1 + j) → (j : ℕ) → j < suc (length F) → place n (get_or (d ∷ F) j 0) (d ∷ F) ≡ n + j
    by_place again zero l = ap (λ b. elim b [ true ↦ n | false ↦ place (n + 1) d F ]) (eq-eqb d d refl) ∙ omega arith
    by_place again (suc j) l =
        let m : j < length F = omega (arith, l) in
        let x : ℕ = get_or F j 0 in
        let apart : eqb x d ≡ false = differs x (has_at F j m) (eqb x d) refl in
        ap (λ b. elim b [ true ↦ n | false ↦ place (n + 1) x F ]) apart ∙ again j m ∙ omega arith
      where
        differs : (x : ℕ) → has F x ≡ true → (b : Bool) → eqb x d ≡ b → eqb x d ≡ false
        differs x h false e = e
        differs x h true e =
            let z : has F x ≡ false = ap (has F) (eqb-true x d e) ∙ not_again (d ∷ seen) ds d (has_itself d seen) in
            absurd (cc)

    go : (k < length (firsts seen ds) → place n (get_or (firsts seen ds) k 0) (firsts seen ds) ≡ n + k)
        → ((j : ℕ) → j < length F → place (n + 1) (get_or F j 0) F ≡ n + 1 + j) → (b : Bool) → k < length {A = ℕ} (elim b [ true ↦ firsts seen ds | false ↦ d ∷ F ])
        → place n (get_or (elim b [ true ↦ firsts seen ds | false ↦ d ∷ F ]) k 0) (elim b [ true ↦ firsts seen ds | false ↦ d ∷ F ]) ≡ n + k
    go p q true l = p l
    go p q false l = by_place q k l

-- each named cell is there
pub has_among : (ds : List ℕ) (c : ℕ) → Among ds c → has ds c ≡ true
has_among [] c h = absurd h
has_among (d ∷ ds) c (inl e) = ap (λ b. cond b true (has ds c)) (eq-eqb c d e)
has_among (d ∷ ds) c (inr h) = has_more d c ds (has_among ds c h)

pub among_has : (ds : List ℕ) (c : ℕ) → has ds c ≡ true → Among ds c
among_has [] c h = cc
among_has (d ∷ ds) c h = go (eqb c d) refl h (among_has ds c)
  where
    go : (b : Bool) → eqb c d ≡ b → cond b true (has ds c) ≡ true → (has ds c ≡ true → Among ds c) → Among (d ∷ ds) c
    go true e h r = inl (eqb-true c d e)
    go false e h r = inr (r h)

pub firsts_have : (seen ds : List ℕ) (c : ℕ) → has ds c ≡ true → has seen c ≡ false → has (firsts seen ds) c ≡ true
firsts_have seen [] c h n = h
firsts_have seen (d ∷ ds) c h n = go (λ h. firsts_have seen ds c h n) (λ h m. firsts_have (d ∷ seen) ds c h m) (has seen d) refl (eqb c d) refl h
  where
    F : List ℕ
    F = firsts (d ∷ seen) ds

    go : (has ds c ≡ true → has (firsts seen ds) c ≡ true) → (has ds c ≡ true → has (d ∷ seen) c ≡ false → has F c ≡ true)
        → (b : Bool) → has seen d ≡ b → (x : Bool) → eqb c d ≡ x → cond x true (has ds c) ≡ true
        → has (elim b [ true ↦ firsts seen ds | false ↦ d ∷ F ]) c ≡ true
    go p q true e true f h =
        let z : has seen c ≡ true = ap (has seen) (eqb-true c d f) ∙ e in
        absurd (cc)
    go p q true e false f h = p h
    go p q false e true f h = ap (λ b. cond b true (has F c)) f
    go p q false e false f h = has_more d c F (q h (ap (λ b. cond b true (has seen c)) f ∙ n))

-- ## The numbers that are kept

zeros_set : (xs : List ℕ) (i v : ℕ) → i < length xs → get_or xs i 0 ≡ 0 → suc (zeros (set xs i (suc v))) ≡ zeros xs
zeros_set [] i v l e = absurd (omega (arith, l))
zeros_set (zero ∷ xs) zero v l e = refl
zeros_set (suc x ∷ xs) zero v l e = cc
zeros_set (zero ∷ xs) (suc i) v l e = ap suc (zeros_set xs i v (omega (arith, l)) e)
zeros_set (suc x ∷ xs) (suc i) v l e = zeros_set xs i v (omega (arith, l)) e

-- where all others have a number
pub no_zeros : (xs : List ℕ) → ((i : ℕ) → i < length xs → 0 < get_or xs i 0) → zeros xs ≡ 0
no_zeros [] h = refl
no_zeros (zero ∷ xs) h = absurd (let l = h 0 (omega arith) in omega (arith, l))
no_zeros (suc x ∷ xs) h = no_zeros xs (λ i l. h (suc i) (omega (arith, l)))

-- What is kept: n cells, of which these are named.
pub record AreNumbers (n : ℕ) (named : List ℕ) (s : Numbering) : Type 0 where
  pub listed : s.cells ≡ firsts [] named
  pub numbers : (c : ℕ) → get_or s.numbers c 0 ≡ place 1 c s.cells
  pub all : length s.numbers ≡ suc n
  pub few : length s.cells + zeros s.numbers ≡ suc n
  pub there : AreThere n s.cells

module _ (n : ℕ) (named : List ℕ) (s : Numbering) (are : AreNumbers n named s) (c : ℕ) (lo : 0 < c) (hi : c ≤ n) where
  known : (k : ℕ) → get_or s.numbers c 0 ≡ suc k → AreNumbers n (named ++ c ∷ []) s
  known k e =
      let h : has s.cells c ≡ true = is_there (has s.cells c) refl in
      let same : firsts [] (named ++ c ∷ []) ≡ firsts [] named =
      firsts_more [] named c ∙ ap (λ b. firsts [] named ++ unless_there b c) (ap (λ xs. has xs c) (sym are.listed) ∙ h) ∙ no_more (firsts [] named) in
      record { listed = are.listed ∙ sym same; numbers = are.numbers; all = are.all; few = are.few; there = are.there }
    where
      no_more : (xs : List ℕ) → xs ++ [] ≡ xs
      no_more [] = refl
      no_more (x ∷ xs) = ap (λ u. x ∷ u) (no_more xs)

      is_there : (b : Bool) → has s.cells c ≡ b → has s.cells c ≡ true
      is_there true f = f
      is_there false f =
          let z : suc k ≡ 0 = sym e ∙ are.numbers c ∙ not_placed 1 c s.cells f in
          absurd (cc)

  new : get_or s.numbers c 0 ≡ 0 → AreNumbers n (named ++ c ∷ []) (name_by 0 c s)
  new e =
      let h : has s.cells c ≡ false = not_there (has s.cells c) refl in
      let l : c < length s.numbers = let a = are.all in omega (arith, a, hi) in
      let m : length (s.cells ++ c ∷ []) ≡ length s.cells + 1 = length-append s.cells (c ∷ []) in
      let z = zeros_set s.numbers c (length s.cells) l e in
      let f = are.few in
      record {
        listed =
            ap (λ u. u ++ c ∷ []) are.listed
            ∙ sym (firsts_more [] named c ∙ ap (λ b. firsts [] named ++ unless_there b c) (ap (λ xs. has xs c) (sym are.listed) ∙ h));
        numbers = λ d. number d h l;
        all = set_length s.numbers c (suc (length s.cells)) ∙ are.all;
        few = omega (arith, m, z, f);
        there = all_append (λ d. (0 < d) × (d ≤ n)) s.cells (c ∷ []) are.there ((lo, hi), tt);
      }
    where
      not_there : (b : Bool) → has s.cells c ≡ b → has s.cells c ≡ false
      not_there false f = f
      not_there true f =
          let (k, g) = placed 0 c s.cells f in
          let z : 0 ≡ suc k = sym e ∙ are.numbers c ∙ g in
          absurd (cc)

      number : (d : ℕ) → has s.cells c ≡ false → c < length s.numbers → get_or (set s.numbers c (suc (length s.cells))) d 0 ≡ place 1 d (s.cells ++ c ∷ [])
      number d h l = by (eqb d c) refl
        where
          by : (b : Bool) → eqb d c ≡ b → get_or (set s.numbers c (suc (length s.cells))) d 0 ≡ place 1 d (s.cells ++ c ∷ [])
          by true f =
              let g : d ≡ c = eqb-true d c f in
              ap (λ i. get_or (set s.numbers c (suc (length s.cells))) i 0) g ∙ get_set s.numbers c (suc (length s.cells)) l ∙ omega arith
              ∙ sym (ap (λ i. place 1 i (s.cells ++ c ∷ [])) g ∙ place_last 1 c s.cells h)
          by false f = get_other s.numbers c d (suc (length s.cells)) (eqb-false d c f) ∙ are.numbers d ∙ sym (place_other 1 d c s.cells f)

  -- one cell more
  pub name_step : AreNumbers n (named ++ c ∷ []) (name_by (get_or s.numbers c 0) c s)
  name_step =
      elim (zero_or (get_or s.numbers c 0)) as (λ _. AreNumbers n (named ++ c ∷ []) (name_by (get_or s.numbers c 0) c s)) [
        | inl e ↦ subst (λ v. AreNumbers n (named ++ c ∷ []) (name_by v c s)) (sym e) (new e)
        | inr p ↦ subst (λ v. AreNumbers n (named ++ c ∷ []) (name_by v c s)) (sym p.1) (known p.0 p.1)
      ]

-- these cells more
pub names_step : (n : ℕ) (named : List ℕ) (s : Numbering) (cs : List ℕ) → AreNumbers n named s → AreThere n cs → AreNumbers n (named ++ cs) (name cs s)
names_step n named s [] are there = subst (λ u. AreNumbers n u s) (sym (no_more named)) are
  where
    no_more : (xs : List ℕ) → xs ++ [] ≡ xs
    no_more [] = refl
    no_more (x ∷ xs) = ap (λ u. x ∷ u) (no_more xs)
names_step n named s (c ∷ cs) are there =
    subst (λ u. AreNumbers n u (name (c ∷ cs) s)) (append_assoc named (c ∷ []) cs)
    (names_step n (named ++ c ∷ []) (name_by (get_or s.numbers c 0) c s) cs (name_step n named s are c there.0.0 there.0.1) there.1)

-- ## Cells that can be named

module _ (s : Numbering) (c : ℕ) where
  name_length : (v : ℕ) → length (name_by v c s).numbers ≡ length s.numbers
  name_length zero = set_length s.numbers c (suc (length s.cells))
  name_length (suc v) = refl

  name_first : (v : ℕ) → 0 < c → get_or (name_by v c s).numbers 0 0 ≡ get_or s.numbers 0 0
  name_first zero l = get_other s.numbers c 0 (suc (length s.cells)) (λ e. omega (arith, e, l))
  name_first (suc v) l = refl

  name_few : (v : ℕ) → get_or s.numbers c 0 ≡ v → c < length s.numbers
      → length (name_by v c s).cells + zeros (name_by v c s).numbers ≡ length s.cells + zeros s.numbers
  name_few zero e l =
      let m : length (s.cells ++ c ∷ []) ≡ length s.cells + 1 = length-append s.cells (c ∷ []) in
      let z = zeros_set s.numbers c (length s.cells) l e in
      omega (arith, m, z)
  name_few (suc v) e l = refl

there_on : (cs : List ℕ) (m n : ℕ) → m ≡ n → AllByRecursion (λ c. (0 < c) × (c < n)) cs → AllByRecursion (λ c. (0 < c) × (c < m)) cs
there_on cs m n e h = subst (λ k. AllByRecursion (λ c. (0 < c) × (c < k)) cs) (sym e) h

-- after one cell the others can be named
pub have_next : (s : Numbering) (c : ℕ) (cs : List ℕ) → HaveNumbers s.numbers s.cells (c ∷ cs)
    → HaveNumbers (name_by (get_or s.numbers c 0) c s).numbers (name_by (get_or s.numbers c 0) c s).cells cs
have_next s c cs h =
    let v : ℕ = get_or s.numbers c 0 in
    let few = h.few in
    let same = name_few s c v refl h.there.0.1 in
    record {
      there = there_on cs (length (name_by v c s).numbers) (length s.numbers) (name_length s c v) h.there.1;
      first = name_first s c v h.there.0.0 ∙ h.first;
      few = omega (arith, few, same);
    }

-- a cell that is named for the first time is not the last that can be
zeros_one : (xs : List ℕ) (i : ℕ) → i < length xs → get_or xs i 0 ≡ 0 → 1 ≤ zeros xs
zeros_one [] i l e = absurd (omega (arith, l))
zeros_one (zero ∷ xs) i l e = omega arith
zeros_one (suc x ∷ xs) zero l e = cc
zeros_one (suc x ∷ xs) (suc i) l e = zeros_one xs i (omega (arith, l)) e

pub zeros_two : (xs : List ℕ) (i : ℕ) → 0 < i → i < length xs → get_or xs 0 0 ≡ 0 → get_or xs i 0 ≡ 0 → 2 ≤ zeros xs
zeros_two [] i lo l f e = absurd (omega (arith, l))
zeros_two (zero ∷ xs) zero lo l f e = absurd (omega (arith, lo))
zeros_two (zero ∷ xs) (suc i) lo l f e = let one = zeros_one xs i (omega (arith, l)) e in omega (arith, one)
zeros_two (suc x ∷ xs) i lo l f e = cc

-- what is kept makes room
there_below : (n : ℕ) (cs : List ℕ) (m : ℕ) → m ≡ suc n → AreThere n cs → AllByRecursion (λ c. (0 < c) × (c < m)) cs
there_below n [] m e h = tt
there_below n (c ∷ cs) m e h = ((h.0.0, let l = h.0.1 in omega (arith, l, e)), there_below n cs m e h.1)

not_zero : (n : ℕ) (cs : List ℕ) → AreThere n cs → has cs 0 ≡ false
not_zero n [] h = refl
not_zero n (zero ∷ cs) h = absurd (let l = h.0.0 in omega (arith, l))
not_zero n (suc c ∷ cs) h = ap (λ b. cond b true (has cs 0)) (ne_eqb 0 (suc c) (λ e. cc)) ∙ not_zero n cs h.1

pub can_name : (n : ℕ) (named : List ℕ) (s : Numbering) (cs : List ℕ) → AreNumbers n named s → n < 2 ^ 32 → AreThere n cs → HaveNumbers s.numbers s.cells cs
can_name n named s cs are small there =
    let few = are.few in
    record {
      there = there_below n cs (length s.numbers) are.all there;
      first = are.numbers 0 ∙ not_placed 1 0 s.cells (not_zero n s.cells are.there);
      few = omega (arith, few, small);
    }

-- there is room for the number of a cell that has none
pub room : (numbers cells cells' : List ℕ) (c : ℕ) → HaveNumbers numbers cells (c ∷ []) → get_or numbers c 0 ≡ 0 → cells' ≡ cells ++ c ∷ [] → length cells' < 2 ^ 32
room numbers cells cells' c h e n =
    let two = zeros_two numbers c h.there.0.0 h.there.0.1 h.first e in
    let few = h.few in
    let l : length cells' ≡ length cells + 1 = ap length n ∙ length-append cells (c ∷ []) in
    omega (arith, two, few, l)
