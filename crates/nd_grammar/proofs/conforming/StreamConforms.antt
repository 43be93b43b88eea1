-- A partial graph whose stream is accepted whole: each node fits, each agreement holds, and its nodes are few.
use Rattle.std.proofs.Common.{◌≡◌, ℕ, ◌+◌, ◌<◌, ◌≤◌, zero, suc, Bool, true, false, List, [], ◌∷◌, ◌++◌, Some, refl, ap, ap₂, sym, ◌∙◌, inl, inr, ◌⊎◌, arith, subst, replicate, append_assoc}
use Rattle.std.specs.Prelude.{sum}
use Rattle.std.specs.List.{AllByRecursion, slice_get}
use Rattle.nd_types.specs.Table.{Table, type_at}
use Rattle.nd_types.specs.Layout.{hoists}
use Rattle.nd_types.specs.Roots.{Root}
use Rattle.nd_value.specs.declared.item.Home.{Home}
use Rattle.nd_value.specs.declared.item.Home.TheVariants as home
use Rattle.nd_value.specs.Tree.{Tree, Trees, node, none, more, count, node_count, is_pointer, take_trees, drop_trees}
use Rattle.nd_value.specs.Setting.{Among}
use Rattle.nd_value.specs.Deferral.{Pending, home_pointers, Due, due_root, due_roots}
use Rattle.nd_value.specs.Conforms.{root_pointers}
use Rattle.nd_value.proofs.Apart.{all_append, all_left, all_right}
use Rattle.nd_grammar.specs.Entry.{Entry, entries, in_place, own_tests, child_tests, hoisted, hoisted_max, whole_value}
use Rattle.nd_grammar.specs.Stream.{chunk_entries, chunks}
use Rattle.nd_grammar.proofs.next.NextPipes.{sum_first, count_drop}
use Rattle.nd_grammar.proofs.reader.ReaderInPlace.{node_entries, value_then_others}
use Rattle.nd_grammar.proofs.conforming.Passed.{Passed, PassedAll, right_passed, least, least_append}
use Rattle.nd_grammar.proofs.reader.FewNodes.{one}

pub one_few : (b : Bool) → one b ≤ 1
one_few true = omega arith
one_few false = omega arith

pub due_all : (P : Due → Type 0) (i n : ℕ) → ((j : ℕ) → j < n → P (due_root (i + j))) → AllByRecursion P (due_roots i n)
due_all P i zero f = tt
due_all P i (suc n) f =
    let e : i + 0 ≡ i = omega arith in (
      subst (λ u. P (due_root u)) e (f 0 (omega arith)),
      due_all P (suc i) n (λ j h. (let q : i + suc j ≡ suc i + j = omega arith in subst (λ u. P (due_root u)) q (f (suc j) (omega arith)))),
    )

pub due_at : (P : Due → Type 0) (i n : ℕ) → AllByRecursion P (due_roots i n) → (j : ℕ) → j < n → P (due_root (i + j))
due_at P i zero a j h = absurd (omega arith)
due_at P i (suc n) a zero h = let e : i ≡ i + 0 = omega arith in subst (λ u. P (due_root u)) e a.0
due_at P i (suc n) a (suc j) h = let e : suc i + j ≡ i + suc j = omega arith in subst (λ u. P (due_root u)) e (due_at P (suc i) n a.1 j (omega arith))

pub all_of : {X : Type 0} (P : X → Type 0) (xs : List X) → ((x : X) → Among xs x → P x) → AllByRecursion P xs
all_of P [] f = tt
all_of P (x ∷ xs) f = (f x (inl refl), all_of P xs (λ y m. f y (inr m)))

-- a pointer of the roots is one of a root
pub root_pointer : (table : Table) (n : ℕ) (rs : List Root) (vs : List Tree) (p : Pending) → Among (root_pointers table n rs vs) p
    → (j : ℕ) × (r : Root) × (v : Tree) × (slice_get rs j ≡ Some r) × (slice_get vs j ≡ Some v) × Among (home_pointers table (home.Root (n + j)) r.of v) p
root_pointer table n [] vs p m = absurd m
root_pointer table n (r ∷ rs) [] p m = absurd m
root_pointer table n (r ∷ rs) (v ∷ vs) p m = go (parted (home_pointers table (home.Root n) r.of v) m) (root_pointer table (n + 1) rs vs p)
  where
    parted : (xs : List Pending) → Among (xs ++ root_pointers table (n + 1) rs vs) p → Among xs p ⊎ Among (root_pointers table (n + 1) rs vs) p
    parted [] m = inr m
    parted (x ∷ xs) (inl e) = inl (inl e)
    parted (x ∷ xs) (inr m) = turn (parted xs m)
      where
        turn : Among xs p ⊎ Among (root_pointers table (n + 1) rs vs) p → Among (x ∷ xs) p ⊎ Among (root_pointers table (n + 1) rs vs) p
        turn (inl a) = inl (inr a)
        turn (inr a) = inr a

    go : Among (home_pointers table (home.Root n) r.of v) p ⊎ Among (root_pointers table (n + 1) rs vs) p
        → (Among (root_pointers table (n + 1) rs vs) p
        → (j : ℕ) × (q : Root) × (u : Tree) × (slice_get rs j ≡ Some q) × (slice_get vs j ≡ Some u) × Among (home_pointers table (home.Root (n + 1 + j)) q.of u) p)
        → (j : ℕ) × (q : Root) × (u : Tree) × (slice_get (r ∷ rs) j ≡ Some q) × (slice_get (v ∷ vs) j ≡ Some u) × Among (home_pointers table (home.Root (n + j)) q.of u) p
    go (inl a) f = let z : n ≡ n + 0 = omega arith in (0, r, v, refl, refl, subst (λ k. Among (home_pointers table (home.Root k) r.of v) p) z a)
    go (inr a) f =
        let (j, q, u, x, y, b) = f a in
        let z : n + 1 + j ≡ n + suc j = omega arith in
        (suc j, q, u, x, y, subst (λ k. Among (home_pointers table (home.Root k) q.of u) p) z b)

-- no agreements, no tests
own_none : (b : Bool) (h : Home) (n : ℕ) (t : Tree) → AllByRecursion Passed (own_tests b h n t [])
own_none true h n t = tt
own_none false h n t = tt

pub no_child_tests : (h : Home) (n : ℕ) (ts : Trees) → AllByRecursion Passed (child_tests h [] n ts)
no_child_tests h n none = tt
no_child_tests h n (more (node l ks) ts) =
    all_append Passed (own_tests (is_pointer l) h n (node l ks) []) (child_tests h [] (n + 1 + node_count ks) ts) (own_none (is_pointer l) h n (node l ks))
    (no_child_tests h (n + 1 + node_count ks) ts)

pub whole_all : (table : Table) (h : Home) (t : ℕ) (v : Tree) → PassedAll (whole_value table h t v) → PassedAll (in_place table h (t ∷ []) 0 (more v none))
whole_all table h t (node l ks) p =
    right_passed (entries h 0 (hoisted (hoists table t) l (hoisted_max 0 (more (node l ks) none)))) (in_place table h (t ∷ []) 0 (more (node l ks) none)) p

-- elements of one type, parted
elements_parted : (table : Table) (h : Home) (e k n : ℕ) (ts : Trees) → k ≤ count ts
    → in_place table h (replicate (count ts) e) n ts ≡ in_place table h (replicate k e) n (take_trees k ts)
    ++ in_place table h (replicate (count (drop_trees k ts)) e) (n + node_count (take_trees k ts)) (drop_trees k ts)
elements_parted table h e zero n ts b = ap (λ m. in_place table h (replicate (count ts) e) m ts) (omega arith)
elements_parted table h e (suc k) n none b = absurd (omega arith)
elements_parted table h e (suc k) n (more (node l ks) ts) b =
    let v : Tree = node l ks in
    let A : List Entry = node_entries table h e (type_at table e) n v in
    let m : ℕ = n + node_count (more v none) in
    let D : Trees = drop_trees k ts in
    let T : Trees = take_trees k ts in
    let z : m + node_count T ≡ n + node_count (more v T) = omega arith in
    value_then_others table h e (replicate (count ts) e) n v ts
    ∙ ap (λ u. A ++ u) (elements_parted table h e k m ts (omega arith))
    ∙ sym (append_assoc A (in_place table h (replicate k e) m T) (in_place table h (replicate (count D) e) (m + node_count T) D))
    ∙ ap₂ (λ u i. u ++ in_place table h (replicate (count D) e) i D) (sym (value_then_others table h e (replicate k e) n v T)) z

module _ (table : Table) (h : Home) (e : ℕ) where
  -- the elements of a pipe, out of its chunks
  pub least_chunks : (n : ℕ) (cut : List ℕ) (ts : Trees) → sum cut ≡ count ts → least (in_place table h (replicate (count ts) e) n ts) ≤ least (chunks table h e n cut ts)
  least_chunks n [] none s = omega arith
  least_chunks n [] (more t ts) s = let z : 0 ≡ suc (count ts) = s in absurd (omega arith)
  least_chunks n (k ∷ cut) ts s =
      let total : k + sum cut ≡ count ts = sym (sum_first k cut) ∙ s in
      let low : k ≤ count ts = omega arith in
      let left : sum cut ≡ count (drop_trees k ts) = omega (arith, count_drop k ts low) in
      let T : List Entry = in_place table h (replicate k e) n (take_trees k ts) in
      let D : List Entry = in_place table h (replicate (count (drop_trees k ts)) e) (n + node_count (take_trees k ts)) (drop_trees k ts) in
      let C : List Entry = chunk_entries table h e n k (take_trees k ts) in
      let O : List Entry = chunks table h e (n + node_count (take_trees k ts)) cut (drop_trees k ts) in
      let a : least D ≤ least O = least_chunks (n + node_count (take_trees k ts)) cut (drop_trees k ts) left in
      let b : least (in_place table h (replicate (count ts) e) n ts) ≡ least T + least D = ap least (elements_parted table h e k n ts low) ∙ least_append T D in
      let c : least (C ++ O) ≡ least C + least O = least_append C O in
      let f : least C ≡ 4 + least T = omega arith in
      omega arith

  pub passed_chunks : (n : ℕ) (cut : List ℕ) (ts : Trees) → sum cut ≡ count ts → AllByRecursion Passed (chunks table h e n cut ts)
      → AllByRecursion Passed (in_place table h (replicate (count ts) e) n ts)
  passed_chunks n [] none s p = tt
  passed_chunks n [] (more t ts) s p = let z : 0 ≡ suc (count ts) = s in absurd (omega arith)
  passed_chunks n (k ∷ cut) ts s p =
      let total : k + sum cut ≡ count ts = sym (sum_first k cut) ∙ s in
      let low : k ≤ count ts = omega arith in
      let left : sum cut ≡ count (drop_trees k ts) = omega (arith, count_drop k ts low) in
      let T : List Entry = in_place table h (replicate k e) n (take_trees k ts) in
      let D : List Entry = in_place table h (replicate (count (drop_trees k ts)) e) (n + node_count (take_trees k ts)) (drop_trees k ts) in
      let C : List Entry = chunk_entries table h e n k (take_trees k ts) in
      let O : List Entry = chunks table h e (n + node_count (take_trees k ts)) cut (drop_trees k ts) in
      subst (AllByRecursion Passed) (sym (elements_parted table h e k n ts low))
      (all_append Passed T D (all_left Passed C O p).1.1 (passed_chunks (n + node_count (take_trees k ts)) cut (drop_trees k ts) left (all_right Passed C O p)))
