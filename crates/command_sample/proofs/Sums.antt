-- The sum of the values of a graph that is the same up to the numbers of its cells.
use Rattle.std.proofs.Common.{◌≡◌, ℕ, zero, suc, ◌+◌, ◌-◌, ◌<◌, ◌≤◌, List, [], ◌∷◌, length, Option, Some, None, refl, ap, ap₂, sym, ◌∙◌, subst, inl, inr, ◌⊎◌, arith}
use Rattle.std.specs.Prelude.{pred}
use Rattle.std.specs.List.{slice_get, AllByRecursion}
use Rattle.std.proofs.lemmas.Bool.{cases_eq, lt-ltb}
use Rattle.nd_value.specs.declared.value.Graph.{Graph}
use Rattle.nd_value.specs.Tree as tree
use Rattle.nd_value.specs.Tree.{Tree, Trees, Referent, node, none, more}
use Rattle.nd_value.specs.Canon.{Same, renumbered, renumbered_label}
use Rattle.command_sample.specs.Nodes.{next_state, sample_nodes, sample_graph, sample_sum, value_by}
use Rattle.command_sample.specs.Values.{small_in, value_of, values_sum}
use Rattle.command_sample.proofs.Conforming.{length_is, value_small}

-- the sum of what a function gives for numbers
abbrev sum_of : (ℕ → ℕ) → List ℕ → ℕ
sum_of f [] = 0
sum_of f (d ∷ ds) = f d + sum_of f ds

-- ## Distinct numbers

-- a number is among others
abbrev Has : List ℕ → ℕ → Type 0
Has [] c = ⊥
Has (d ∷ ds) c = (c ≡ d) ⊎ Has ds c

-- each differs from all later ones
abbrev Distinct : List ℕ → Type 0
Distinct [] = Unit {0}
Distinct (d ∷ ds) = ¬ Has ds d × Distinct ds

abbrev Below : ℕ → List ℕ → Type 0
Below n ds = AllByRecursion (λ d. d < n) ds

-- the list without one instance of a number
data Removes (c : ℕ) : List ℕ → List ℕ → Type 0 where
  at_head : {ds : List ℕ} → Removes c (c ∷ ds) ds
  in_tail : {d : ℕ} {ds es : List ℕ} → Removes c ds es → Removes c (d ∷ ds) (d ∷ es)

find : (c : ℕ) (ds : List ℕ) → Has ds c → (es : List ℕ) × Removes c ds es
find c [] h = absurd h
find c (d ∷ ds) (inl e) = (ds, subst (λ x. Removes c (x ∷ ds) ds) e at_head)
find c (d ∷ ds) (inr h) = let r = find c ds h in (d ∷ r.0, in_tail r.1)

has_it : (c : ℕ) (ds es : List ℕ) → Removes c ds es → Has ds c
has_it c _ _ at_head = inl refl
has_it c (d ∷ ds) (d' ∷ es) (in_tail r) = inr (has_it c ds es r)

still : (c b : ℕ) (ds es : List ℕ) → Removes c ds es → Has es b → Has ds b
still c b _ _ at_head h = inr h
still c b (d ∷ ds) (d' ∷ es) (in_tail r) (inl e) = inl e
still c b (d ∷ ds) (d' ∷ es) (in_tail r) (inr h) = inr (still c b ds es r h)

removed_length : (c : ℕ) (ds es : List ℕ) → Removes c ds es → length ds ≡ suc (length es)
removed_length c _ _ at_head = refl
removed_length c (d ∷ ds) (d' ∷ es) (in_tail r) = ap suc (removed_length c ds es r)

removed_sum : (f : ℕ → ℕ) (c : ℕ) (ds es : List ℕ) → Removes c ds es → sum_of f ds ≡ f c + sum_of f es
removed_sum f c _ _ at_head = refl
removed_sum f c (d ∷ ds) (d' ∷ es) (in_tail r) = let e : sum_of f ds ≡ f c + sum_of f es = removed_sum f c ds es r in omega (arith, e)

removed_below : (n c : ℕ) (ds es : List ℕ) → Removes c ds es → Below n ds → Below n es
removed_below n c _ _ at_head b = b.1
removed_below n c (d ∷ ds) (d' ∷ es) (in_tail r) b = (b.0, removed_below n c ds es r b.1)

removed_distinct : (c : ℕ) (ds es : List ℕ) → Removes c ds es → Distinct ds → Distinct es × ¬ Has es c
removed_distinct c _ _ at_head d = (d.1, d.0)
removed_distinct c (d ∷ ds) (d' ∷ es) (in_tail r) (first, rest) =
    let q = removed_distinct c ds es r rest in
    ((λ h. first (still c d ds es r h), q.0), neither c d ds es first (has_it c ds es r) q.1)
  where
    neither : (c d : ℕ) (ds es : List ℕ) → ¬ Has ds d → Has ds c → ¬ Has es c → ¬ Has (d ∷ es) c
    neither c d ds es first there out (inl e) = first (subst (Has ds) e there)
    neither c d ds es first there out (inr h) = out h

has_or : (ds : List ℕ) (c : ℕ) → Has ds c ⊎ ¬ Has ds c
has_or [] c = inr (λ h. h)
has_or (d ∷ ds) c = either d ds c (cases_eq c d) (has_or ds c)
  where
    neither : (d : ℕ) (ds : List ℕ) (c : ℕ) → (c ≡ d → ⊥) → ¬ Has ds c → ¬ Has (d ∷ ds) c
    neither d ds c other out (inl e) = other e
    neither d ds c other out (inr h) = out h

    either : (d : ℕ) (ds : List ℕ) (c : ℕ) → (c ≡ d) ⊎ (c ≡ d → ⊥) → Has ds c ⊎ ¬ Has ds c → Has (d ∷ ds) c ⊎ ¬ Has (d ∷ ds) c
    either d ds c (inl e) rest = inl (inl e)
    either d ds c (inr other) (inl h) = inl (inr h)
    either d ds c (inr other) (inr out) = inr (neither d ds c other out)

narrower : (n : ℕ) (ds : List ℕ) → Below (suc n) ds → ¬ Has ds n → Below n ds
narrower n [] b out = tt
narrower n (d ∷ ds) b out =
    (let h : ¬ (n ≡ d) = λ e. out (inl e) in let lt : d < suc n = b.0 in omega (arith, h, lt), narrower n ds b.1 (λ h. out (inr h)))

-- there are no more distinct numbers than the bound
bounded : (n : ℕ) (ds : List ℕ) → Distinct ds → Below n ds → length ds ≤ n
bounded zero [] d b = omega arith
bounded zero (x ∷ ds) d b = let lt : x < 0 = b.0 in absurd (omega (arith, lt))
bounded (suc n) ds d b = go (has_or ds n) (bounded n)
  where
    go : Has ds n ⊎ ¬ Has ds n → ((es : List ℕ) → Distinct es → Below n es → length es ≤ n) → length ds ≤ suc n
    go (inl h) further =
        let r = find n ds h in
        let q = removed_distinct n ds r.0 r.1 d in
        let le = further r.0 q.0 (narrower n r.0 (removed_below (suc n) n ds r.0 r.1 b) q.1) in
        let e = removed_length n ds r.0 r.1 in
        omega (arith, le, e)
    go (inr out) further = let le = further ds d (narrower n ds b out) in omega (arith, le)

-- ## Sums over places

abbrev total : (ℕ → ℕ) → ℕ → ℕ
total f zero = 0
total f (suc n) = f n + total f n

-- as many distinct numbers as the bound are all below it
rearranged : (f : ℕ → ℕ) (n : ℕ) (ds : List ℕ) → Distinct ds → Below n ds → length ds ≡ n → sum_of f ds ≡ total f n
rearranged f zero [] d b e = refl
rearranged f zero (x ∷ ds) d b e = let lt : x < 0 = b.0 in absurd (omega (arith, lt))
rearranged f (suc n) ds d b e = go (has_or ds n) (rearranged f n)
  where
    go : Has ds n ⊎ ¬ Has ds n → ((es : List ℕ) → Distinct es → Below n es → length es ≡ n → sum_of f es ≡ total f n) → sum_of f ds ≡ total f (suc n)
    go (inl h) further =
        let r = find n ds h in
        let q = removed_distinct n ds r.0 r.1 d in
        let l = removed_length n ds r.0 r.1 in
        removed_sum f n ds r.0 r.1 ∙ ap (λ s. f n + s) (further r.0 q.0 (narrower n r.0 (removed_below (suc n) n ds r.0 r.1 b) q.1) (omega (arith, l, e)))
    go (inr out) further = let le = bounded n ds d (narrower n ds b out) in absurd (omega (arith, le, e))

total_same : (f k : ℕ → ℕ) (n : ℕ) → ((c : ℕ) → c < n → f c ≡ k c) → total f n ≡ total k n
total_same f k zero h = refl
total_same f k (suc n) h = ap₂ (λ a b. a + b) (h n (omega arith)) (total_same f k n (λ c lt. h c (omega (arith, lt))))

total_front : (f : ℕ → ℕ) (n : ℕ) → total f (suc n) ≡ f 0 + total (λ d. f (suc d)) n
total_front f zero = refl
total_front f (suc n) =
    let e : total f (suc n) ≡ f 0 + total (λ d. f (suc d)) n = total_front f n in
    ap (λ s. f (suc n) + s) e ∙ omega arith

-- ## The values of cells by their places

abbrev value_in : Option Referent → ℕ
value_in None = 0
value_in (Some x) = value_of x.val

by_places : (xs : List Referent) → values_sum xs ≡ total (λ d. value_in (slice_get xs d)) (length xs)
by_places [] = refl
by_places (x ∷ xs) = ap (λ s. value_of x.val + s) (by_places xs) ∙ sym (total_front (λ d. value_in (slice_get (x ∷ xs) d)) (length xs))

there_is : (xs : List Referent) (d : ℕ) → d < length xs → (x : Referent) × (slice_get xs d ≡ Some x)
there_is [] d lt = absurd (omega (arith, lt))
there_is (x ∷ xs) zero lt = (x, refl)
there_is (x ∷ xs) (suc d) lt = there_is xs d (omega (arith, lt))

-- what is renumbered keeps its value
kept_label : (m : ℕ → ℕ) (l : tree.Label) → small_in (renumbered_label m l) ≡ small_in l
kept_label m (tree.Num z) = refl
kept_label m tree.Rec = refl
kept_label m (tree.Arr max offset) = refl
kept_label m (tree.Text max octets) = refl
kept_label m (tree.Union tag) = refl
kept_label m (tree.Ptr None) = refl
kept_label m (tree.Ptr (Some c)) = refl
kept_label m (tree.Context attributes id) = refl
kept_label m tree.Pipe = refl
kept_label m tree.Unread = refl

kept_value : (m : ℕ → ℕ) (l k : tree.Label) (ks : Trees) → value_of (node k (renumbered m ks)) ≡ value_of (node l ks)
kept_value m l k none = refl
kept_value m l k (more (node q qs) ts) = kept_label m q

abbrev first_tree : Trees → Tree
first_tree none = node tree.Unread none
first_tree (more t ts) = t

renumbered_value : (m : ℕ → ℕ) (t u : Tree) → renumbered m (more t none) ≡ more u none → value_of u ≡ value_of t
renumbered_value m (node l ks) u e = ap (λ ts. value_of (first_tree ts)) (sym e) ∙ kept_value m l (renumbered_label m l) ks

module _ (g h : Graph) (s : Same g h) where
  abbrev images : ℕ → List ℕ
  images zero = []
  images (suc k) = pred (s.image (suc k)) ∷ images k

  length_images : (k : ℕ) → length (images k) ≡ k
  length_images zero = refl
  length_images (suc k) = ap suc (length_images k)

  image_some : (c : ℕ) → c < length g.cells → suc (pred (s.image (suc c))) ≡ s.image (suc c)
  image_some c lt = go (s.image (suc c)) (s.within (suc c) (omega arith) (omega (arith, lt))).0
    where
      go : (m : ℕ) → 0 < m → suc (pred m) ≡ m
      go zero low = absurd (omega (arith, low))
      go (suc m) low = refl

  below_images : (k : ℕ) → k ≤ length g.cells → Below (length g.cells) (images k)
  below_images zero le = tt
  below_images (suc k) le = (
    let e = image_some k (omega (arith, le)) in let hi = (s.within (suc k) (omega arith) (omega (arith, le))).1 in omega (arith, e, hi),
    below_images k (omega (arith, le)),
  )

  in_images : (k c : ℕ) → Has (images k) c → (j : ℕ) × (j < k) × (c ≡ pred (s.image (suc j)))
  in_images zero c has = absurd has
  in_images (suc k) c (inl e) = (k, omega arith, e)
  in_images (suc k) c (inr has) = let r = in_images k c has in (r.0, let lt = r.1 in omega (arith, lt), r.2)

  distinct_images : (k : ℕ) → k ≤ length g.cells → Distinct (images k)
  distinct_images zero le = tt
  distinct_images (suc k) le = (apart, distinct_images k (omega (arith, le)))
    where
      apart : ¬ Has (images k) (pred (s.image (suc k)))
      apart has =
          let r = in_images k (pred (s.image (suc k))) has in
          let lt : r.0 < k = r.1 in
          let same : s.image (suc k) ≡ s.image (suc r.0) =
          sym (image_some k (omega (arith, le))) ∙ ap suc r.2 ∙ image_some r.0 (omega (arith, le, lt)) in
          let e : suc k ≡ suc r.0 = s.one_to_one (suc k) (suc r.0) (omega arith) (omega (arith, le)) (omega arith) (omega (arith, le, lt)) same in
          absurd (omega (arith, e, lt))

  abbrev at_image : ℕ → ℕ
  at_image d = value_in (slice_get h.cells d)

  images_total : (k : ℕ) → sum_of at_image (images k) ≡ total (λ c. at_image (pred (s.image (suc c)))) k
  images_total zero = refl
  images_total (suc k) = ap (λ q. at_image (pred (s.image (suc k))) + q) (images_total k)

  value_at_image : (c : ℕ) → c < length g.cells → at_image (pred (s.image (suc c))) ≡ value_in (slice_get g.cells c)
  value_at_image c lt =
      let x = there_is g.cells c lt in
      let e = image_some c lt in
      let hi = (s.within (suc c) (omega arith) (omega (arith, lt))).1 in
      let many = s.as_many in
      let y = there_is h.cells (pred (s.image (suc c))) (omega (arith, e, hi, many)) in
      let r = s.cells c (pred (s.image (suc c))) x.0 y.0 x.1 (sym e) y.1 in
      ap value_in y.1 ∙ renumbered_value s.image x.0.val y.0.val r.1 ∙ sym (ap value_in x.1)

  pub same_sum : values_sum h.cells ≡ values_sum g.cells
  same_sum =
      by_places h.cells ∙ ap (total at_image) (sym s.as_many)
      ∙ sym (rearranged at_image (length g.cells) (images (length g.cells)) (distinct_images (length g.cells) (omega arith)) (below_images (length g.cells) (omega arith))
      (length_images (length g.cells)))
      ∙ images_total (length g.cells)
      ∙ total_same (λ c. at_image (pred (s.image (suc c)))) (λ c. value_in (slice_get g.cells c)) (length g.cells) value_at_image
      ∙ sym (by_places g.cells)

-- ## The sum of the sample

drawn_sum : (n i k x : ℕ) → values_sum (sample_nodes n i k x) ≡ sample_sum k x
drawn_sum n i zero x = refl
drawn_sum n i (suc k) x =
    ap₂ (λ a b. a + b) (rw (lt-ltb (value_by (next_state x)) 1000 (value_small (next_state x))) refl) (drawn_sum n (i + 1) k (next_state (next_state x)))

pub sum_is : (seed n : ℕ) (h : Graph) → Same (sample_graph seed n) h → values_sum h.cells ≡ sample_sum n seed
sum_is seed n h s = same_sum (sample_graph seed n) h s ∙ drawn_sum n 1 n seed

pub cells_are : (seed n : ℕ) (h : Graph) → Same (sample_graph seed n) h → length h.cells ≡ n
cells_are seed n h s = sym s.as_many ∙ length_is n 1 n seed
