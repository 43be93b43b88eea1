-- The entries before an entry fix the next one, over pipes.
use Rattle.std.proofs.Common.{◌≡◌, ℕ, ◌+◌, ◌<◌, ◌≤◌, zero, suc, true, false, List, [], ◌∷◌, ◌++◌, Option, Some, None, refl, ap, ap₂, sym, ◌∙◌, inl, inr, ◌⊎◌, arith, subst, replicate, append_assoc}
use Rattle.std.specs.Prelude.{sum}
use Rattle.std.specs.List.{AllByRecursion, fold}
use Rattle.nd_types.specs.declared.types.TypeDef.{TypeDef}
use Rattle.nd_types.specs.declared.types.TypeId.{TypeId}
use Rattle.nd_types.specs.declared.types.TypeDef.TheVariants as def
use Rattle.nd_types.specs.declared.types.Class.{Class}
use Rattle.nd_types.specs.Table.{Table, type_at}
use Rattle.nd_types.specs.Layout.{hoists}
use Rattle.nd_types.specs.Roots.{Root}
use Rattle.nd_value.specs.declared.value.Graph.{Graph}
use Rattle.nd_value.specs.declared.item.Home.{Home}
use Rattle.nd_value.specs.declared.item.Home.TheVariants as home
use Rattle.nd_value.specs.Tree as tree
use Rattle.nd_value.specs.Tree.{Tree, Trees, node, none, more, Label, count, node_count, take_trees, drop_trees, cell_in}
use Rattle.nd_value.specs.Misfit.{has_counts}
use Rattle.nd_value.specs.Nodes.{child_types}
use Rattle.nd_grammar.specs.Entry.{Entry, Align, Chunk, Unread, entries, in_place}
use Rattle.nd_grammar.specs.Stream.{chunks, Cuts, pipe_entries, pipes_entries, AllCut}
use Rattle.nd_grammar.proofs.next.Next.{Pair, HomesMeet, Readings, Next, unread_left, unread_right}
use Rattle.nd_grammar.proofs.next.Matching.{bare, class_of, Matched, CellsMatch, Known, NodeKnown, matched_nodes}
use Rattle.nd_grammar.proofs.next.NextInPlace.{in_place_next}
use Rattle.nd_grammar.proofs.next.HoistedMaxes.{HoistsLast, maxes_of_many}

fold_more : (a b : ℕ) (xs : List ℕ) → fold ◌+◌ (a + b) xs ≡ a + fold ◌+◌ b xs
fold_more a b [] = refl
fold_more a b (x ∷ xs) = ap (λ u. fold ◌+◌ u xs) (omega arith) ∙ fold_more a (b + x) xs

pub sum_first : (k : ℕ) (xs : List ℕ) → sum (k ∷ xs) ≡ k + sum xs
sum_first k xs = ap (λ u. fold ◌+◌ u xs) (omega arith) ∙ fold_more k 0 xs

pub count_drop : (k : ℕ) (ts : Trees) → k ≤ count ts → count (drop_trees k ts) + k ≡ count ts
count_drop zero ts h = omega arith
count_drop (suc k) none h = absurd (omega arith)
count_drop (suc k) (more t ts) h = let e = count_drop k ts (omega arith) in omega arith

module _ (g : Graph) (table : Table) (e : ℕ) where
  pub known_take : (k : ℕ) (ts : Trees) → k ≤ count ts → Known g table (replicate (count ts) e) ts → Known g table (replicate k e) (take_trees k ts)
  known_take zero ts h a = tt
  known_take (suc k) none h a = absurd (omega arith)
  known_take (suc k) (more (node l ks) ts) h a = (a.0, a.1, known_take k ts (omega arith) a.2)

  pub known_drop : (k : ℕ) (ts : Trees) → Known g table (replicate (count ts) e) ts → Known g table (replicate (count (drop_trees k ts)) e) (drop_trees k ts)
  known_drop zero ts a = a
  known_drop (suc k) none a = tt
  known_drop (suc k) (more (node l ks) ts) a = known_drop k ts a.2

module _ (C : Class → Option ℕ → Option ℕ → Type 0) (table : Table) (e : ℕ) where
  matched_join : (k : ℕ) (ts us : Trees) → k ≤ count ts → k ≤ count us → Matched C table (replicate k e) (take_trees k ts) (take_trees k us)
      → Matched C table (replicate (count (drop_trees k ts)) e) (drop_trees k ts) (drop_trees k us) → Matched C table (replicate (count ts) e) ts us
  matched_join zero ts us h h' a b = b
  matched_join (suc k) none us h h' a b = absurd (omega arith)
  matched_join (suc k) (more t ts) none h h' a b = absurd (omega arith)
  matched_join (suc k) (more (node l ks) ts) (more (node l' ks') us) h h' a b = (a.0, a.1, matched_join k ts us (omega arith) (omega arith) a.2 b)

-- the pipes match
abbrev pub PipesMatch : (Class → Option ℕ → Option ℕ → Type 0) → Table → List Root → List Tree → List Tree → Type 0
PipesMatch C table (r ∷ rs) (v ∷ vs) (v' ∷ vs') = Matched C table (r.of ∷ []) (more v none) (more v' none) × PipesMatch C table rs vs vs'
PipesMatch C table _ _ _ = Unit {0}

shaped : (l : Label) (A : Type 0) → (l ≡ tree.Unread) ⊎ ((false ≡ true) × A) → (l ≡ tree.Unread) ⊎ (l ≡ tree.Pipe)
shaped l A (inl e) = inl e
shaped l A (inr s) = let e : false ≡ true = s.0 in cc

-- the label of a pipe
pub pipe_label : (k : Graph) (e : TypeId) (l : Label) (ks : Trees) → NodeKnown k (Some (def.Pipe e)) l ks → (l ≡ tree.Unread) ⊎ (l ≡ tree.Pipe)
pipe_label k e tree.Pipe ks a = inr refl
pipe_label k e tree.Unread ks a = inl refl
pipe_label k e (tree.Num z) ks a = shaped (tree.Num z) (has_counts (Some (def.Pipe e)) (tree.Num z) ks ≡ true) a.shape
pipe_label k e tree.Rec ks a = shaped tree.Rec (has_counts (Some (def.Pipe e)) tree.Rec ks ≡ true) a.shape
pipe_label k e (tree.Arr m o) ks a = shaped (tree.Arr m o) (has_counts (Some (def.Pipe e)) (tree.Arr m o) ks ≡ true) a.shape
pipe_label k e (tree.Text m os) ks a = shaped (tree.Text m os) (has_counts (Some (def.Pipe e)) (tree.Text m os) ks ≡ true) a.shape
pipe_label k e (tree.Union v) ks a = shaped (tree.Union v) (has_counts (Some (def.Pipe e)) (tree.Union v) ks ≡ true) a.shape
pipe_label k e (tree.Ptr c) ks a = shaped (tree.Ptr c) (has_counts (Some (def.Pipe e)) (tree.Ptr c) ks ≡ true) a.shape
pipe_label k e (tree.Context x i) ks a = shaped (tree.Context x i) (has_counts (Some (def.Pipe e)) (tree.Context x i) ks ≡ true) a.shape

pub unread_pipe : (table : Table) (h : Home) (d : Option TypeDef) (cut : List ℕ) (ks : Trees)
    → pipe_entries table h d cut (node tree.Unread ks) ≡ record { home = h; node = 0; kind = Unread } ∷ []
unread_pipe table h (Some (def.Pipe e)) cut ks = refl
unread_pipe table h None cut ks = refl
unread_pipe table h (Some _) cut ks = refl

module _ (two : Readings) (W X : List Pair → Type 0) (table : Table) (laid : HoistsLast table) (g g' : Graph) (ys : List Pair) (one : W ys) where
  abbrev N : ℕ → List Entry → List Entry → Type 0
  N at ms ns = Next two W X ys at ms ns

  abbrev Numbers : Class → Option ℕ → Option ℕ → Type 0
  Numbers = CellsMatch two.left two.right

  module _ (h h' : Home) (meet : HomesMeet ys h h') (e : ℕ) (plain : hoists table e ≡ false) where
    -- the heads of two chunks: where both are spelt, their counts are equal
    chunk_head : (k k' : ℕ) (ms ns : List Entry) (at : ℕ) → ((p : ℕ) → k ≡ k' → N p ms ns)
        → N at (entries h 0 (Align 4 ∷ Chunk k ∷ []) ++ ms) (entries h' 0 (Align 4 ∷ Chunk k' ∷ []) ++ ns)
    chunk_head k k' ms ns at next =
        inr (inr ([], one, meet, (refl, refl), λ _ _. inr (inr ([], one, meet, (refl, refl), λ x y. next _ (sym x.1 ∙ y.1)))))

    chunk_next : (n k : ℕ) (ts us : Trees) → k ≤ count ts → k ≤ count us → Known g table (replicate (count ts) e) ts → Known g' table (replicate (count us) e) us
        → (ms ns : List Entry) (at : ℕ)
        → ((p : ℕ) → Matched Numbers table (replicate k e) (take_trees k ts) (take_trees k us) → N p ms ns)
        → N at (in_place table h (replicate k e) n (take_trees k ts) ++ ms) (in_place table h' (replicate k e) n (take_trees k us) ++ ns)
    chunk_next n k ts us f f' a b ms ns at next =
        let a' = known_take g table e k ts f a in
        let b' = known_take g' table e k us f' b in
        in_place_next two W X ys one table g g' h h' meet (replicate k e) n (take_trees k ts) (take_trees k us) a' b'
        (maxes_of_many table laid g g' e k (take_trees k ts) (take_trees k us) plain a' b') ms ns at next

    empty : (ts us : Trees) → 0 ≡ count ts → 0 ≡ count us → Matched Numbers table (replicate (count ts) e) ts us
    empty none none a b = tt
    empty none (more u us) a b = cc
    empty (more t ts) us a b = cc

    pub chunks_next : (n : ℕ) (cut cut' : List ℕ) (ts us : Trees) → sum cut ≡ count ts → sum cut' ≡ count us
        → AllByRecursion (λ k. 0 < k) cut → AllByRecursion (λ k. 0 < k) cut'
        → Known g table (replicate (count ts) e) ts → Known g' table (replicate (count us) e) us
        → (ms ns : List Entry) (at : ℕ)
        → ((p : ℕ) → Matched Numbers table (replicate (count ts) e) ts us → N p ms ns)
        → N at (chunks table h e n cut ts ++ ms) (chunks table h' e n cut' us ++ ns)
    chunks_next n [] [] ts us s s' c c' a b ms ns at next = chunk_head 0 0 ms ns at (λ p _. next p (empty ts us s s'))
    chunks_next n [] (k' ∷ cut') ts us s s' c c' a b ms ns at next =
        let I' : List Entry = in_place table h' (replicate k' e) n (take_trees k' us) in
        let R' : List Entry = chunks table h' e (n + node_count (take_trees k' us)) cut' (drop_trees k' us) in
        let low : 0 < k' = c'.0 in
        chunk_head 0 k' ms ((I' ++ R') ++ ns) at (λ p f. absurd (omega arith))
    chunks_next n (k ∷ cut) [] ts us s s' c c' a b ms ns at next =
        let I : List Entry = in_place table h (replicate k e) n (take_trees k ts) in
        let R : List Entry = chunks table h e (n + node_count (take_trees k ts)) cut (drop_trees k ts) in
        let low : 0 < k = c.0 in
        chunk_head k 0 ((I ++ R) ++ ms) ns at (λ p f. absurd (omega arith))
    chunks_next n (k ∷ cut) (k' ∷ cut') ts us s s' c c' a b ms ns at next =
        let I : List Entry = in_place table h (replicate k e) n (take_trees k ts) in
        let R : List Entry = chunks table h e (n + node_count (take_trees k ts)) cut (drop_trees k ts) in
        let I' : ℕ → List Entry = λ q. in_place table h' (replicate q e) n (take_trees q us) in
        let R' : ℕ → ℕ → List Entry = λ q m. chunks table h' e (n + m) cut' (drop_trees q us) in
        let total : k + sum cut ≡ count ts = sym (sum_first k cut) ∙ s in
        let total' : k' + sum cut' ≡ count us = sym (sum_first k' cut') ∙ s' in
        let low : k ≤ count ts = omega arith in
        chunk_head k k' ((I ++ R) ++ ms) ((I' k' ++ R' k' (node_count (take_trees k' us))) ++ ns) at (λ p f.
        let low' : k ≤ count us = omega arith in
        let left : sum cut ≡ count (drop_trees k ts) = omega (arith, count_drop k ts low) in
        let right : sum cut' ≡ count (drop_trees k us) = omega (arith, count_drop k us low') in
        subst (λ q. N p ((I ++ R) ++ ms) ((I' q ++ R' q (node_count (take_trees q us))) ++ ns)) f
        (rw (append_assoc I R ms, append_assoc (I' k) (R' k (node_count (take_trees k us))) ns)
        (chunk_next n k ts us low low' a b (R ++ ms) (R' k (node_count (take_trees k us)) ++ ns) p (λ p' m.
        subst (λ q. N p' (R ++ ms) (R' k q ++ ns)) (matched_nodes Numbers table (replicate k e) (take_trees k ts) (take_trees k us) m)
        (chunks_next (n + node_count (take_trees k ts)) cut cut' (drop_trees k ts) (drop_trees k us) left right c.1 c'.1
        (known_drop g table e k ts a) (known_drop g' table e k us b) ms ns p' (λ p'' m'. next p'' (matched_join Numbers table e k ts us low low' m m')))))))

  -- what is known of pipes: their types, and their values
  abbrev pub PipesKnown : List Root → List Tree → List Tree → Type 0
  PipesKnown [] [] [] = Unit {0}
  PipesKnown (r ∷ rs) (v ∷ vs) (v' ∷ vs') =
      ((e : TypeId) × (type_at table r.of ≡ Some (def.Pipe e)) × (hoists table e.0 ≡ false))
      × Known g table (r.of ∷ []) (more v none) × Known g' table (r.of ∷ []) (more v' none)
      × PipesKnown rs vs vs'
  PipesKnown _ _ _ = ⊥

  module _ (i : ℕ) where
    abbrev H : Home
    H = home.Root i

    abbrev unread_entry : Entry
    unread_entry = record { home = H; node = 0; kind = Unread }

    -- one pipe, both labels being known
    pipe_next : (t : ℕ) (e : TypeId) → type_at table t ≡ Some (def.Pipe e) → hoists table e.0 ≡ false → (l l' : Label) (ks ks' : Trees)
        → (l ≡ tree.Unread) ⊎ (l ≡ tree.Pipe) → (l' ≡ tree.Unread) ⊎ (l' ≡ tree.Pipe)
        → Known g table (t ∷ []) (more (node l ks) none) → Known g' table (t ∷ []) (more (node l' ks') none)
        → (cut cut' : List ℕ) → Cuts (count ks) cut → Cuts (count ks') cut'
        → (ms ns : List Entry) (at : ℕ)
        → ((p : ℕ) → Matched Numbers table (t ∷ []) (more (node l ks) none) (more (node l' ks') none) → N p ms ns)
        → N at (pipe_entries table H (type_at table t) cut (node l ks) ++ ms) (pipe_entries table H (type_at table t) cut' (node l' ks') ++ ns)
    pipe_next t e et plain l l' ks ks' (inl u) y a b cut cut' c c' ms ns at next =
        let f = ap (λ k. pipe_entries table H (type_at table t) cut (node k ks)) u ∙ unread_pipe table H (type_at table t) cut ks in
        subst (λ k. N at (k ++ ms) (pipe_entries table H (type_at table t) cut' (node l' ks') ++ ns)) (sym f)
        (unread_left two W X ys at unread_entry ms (pipe_entries table H (type_at table t) cut' (node l' ks') ++ ns) refl)
    pipe_next t e et plain l l' ks ks' (inr x) (inl u) a b cut cut' c c' ms ns at next =
        let f = ap (λ k. pipe_entries table H (type_at table t) cut' (node k ks')) u ∙ unread_pipe table H (type_at table t) cut' ks' in
        subst (λ k. N at (pipe_entries table H (type_at table t) cut (node l ks) ++ ms) (k ++ ns)) (sym f)
        (unread_right two W X ys at unread_entry (pipe_entries table H (type_at table t) cut (node l ks) ++ ms) ns refl)
    pipe_next t e et plain l l' ks ks' (inr x) (inr y) a b cut cut' c c' ms ns at next =
        let E : pipe_entries table H (type_at table t) cut (node l ks) ≡ chunks table H e.0 1 cut ks =
        ap₂ (λ d k. pipe_entries table H d cut (node k ks)) et x in
        let E' : pipe_entries table H (type_at table t) cut' (node l' ks') ≡ chunks table H e.0 1 cut' ks' =
        ap₂ (λ d k. pipe_entries table H d cut' (node k ks')) et y in
        let T : (k : Trees) → child_types (type_at table t) tree.Pipe k ≡ replicate (count k) e.0 = λ k. ap (λ d. child_types d tree.Pipe k) et in
        let r : l ≡ tree.Unread → ⊥ = λ f. (let q : tree.Pipe ≡ tree.Unread = sym x ∙ f in absurd (cc)) in
        let r' : l' ≡ tree.Unread → ⊥ = λ f. (let q : tree.Pipe ≡ tree.Unread = sym y ∙ f in absurd (cc)) in
        let A : Known g table (replicate (count ks) e.0) ks =
        subst (λ u. Known g table u ks) (ap (λ k. child_types (type_at table t) k ks) x ∙ T ks) (a.1 r) in
        let B : Known g' table (replicate (count ks') e.0) ks' =
        subst (λ u. Known g' table u ks') (ap (λ k. child_types (type_at table t) k ks') y ∙ T ks') (b.1 r') in
        subst (λ k. N at (k ++ ms) (pipe_entries table H (type_at table t) cut' (node l' ks') ++ ns)) (sym E)
        (subst (λ k. N at (chunks table H e.0 1 cut ks ++ ms) (k ++ ns)) (sym E')
        (chunks_next H H refl e.0 plain 1 cut cut' ks ks' c.0 c'.0 c.1 c'.1 A B ms ns at (λ p m.
        next p (
          record { same = ap bare (x ∙ sym y); cells = no_cells l l' x y; read = r; read' = r' },
          subst (λ u. Matched Numbers table u ks ks') (sym (ap (λ k. child_types (type_at table t) k ks) x ∙ T ks)) m,
          tt,
        ))))
      where
        no_cells : (l l' : Label) → l ≡ tree.Pipe → l' ≡ tree.Pipe → Numbers (class_of (type_at table t)) (cell_in l) (cell_in l')
        no_cells l l' x y =
            subst (λ k. Numbers (class_of (type_at table t)) (cell_in k) (cell_in l')) (sym x)
            (subst (λ k. Numbers (class_of (type_at table t)) None (cell_in k)) (sym y) (none_none (class_of (type_at table t))))
          where
            none_none : (k : Class) → Numbers k None None
            none_none k = tt

  pub pipes_next : (i : ℕ) (rs : List Root) (vs vs' : List Tree) (cuts cuts' : List (List ℕ)) → PipesKnown rs vs vs' → AllCut vs cuts → AllCut vs' cuts'
      → (ms ns : List Entry) (at : ℕ) → ((p : ℕ) → PipesMatch (CellsMatch two.left two.right) table rs vs vs' → N p ms ns)
      → N at (pipes_entries table i rs vs cuts ++ ms) (pipes_entries table i rs vs' cuts' ++ ns)
  pipes_next i [] [] [] cuts cuts' a c c' ms ns at next = next at tt
  pipes_next i [] [] (v' ∷ vs') cuts cuts' a c c' ms ns at next = absurd a
  pipes_next i [] (v ∷ vs) vs' cuts cuts' a c c' ms ns at next = absurd a
  pipes_next i (r ∷ rs) [] vs' cuts cuts' a c c' ms ns at next = absurd a
  pipes_next i (r ∷ rs) (v ∷ vs) [] cuts cuts' a c c' ms ns at next = absurd a
  pipes_next i (r ∷ rs) (v ∷ vs) (v' ∷ vs') [] cuts' a c c' ms ns at next = absurd c
  pipes_next i (r ∷ rs) (v ∷ vs) (v' ∷ vs') (cut ∷ cuts) [] a c c' ms ns at next = absurd c'
  pipes_next i (r ∷ rs) (node l ks ∷ vs) (node l' ks' ∷ vs') (cut ∷ cuts) (cut' ∷ cuts') a c c' ms ns at next =
      let (e, et, plain) = a.0 in
      let x = pipe_label g e l ks (subst (λ d. NodeKnown g d l ks) et a.1.0) in
      let y = pipe_label g' e l' ks' (subst (λ d. NodeKnown g' d l' ks') et a.2.0) in
      let P : List Entry = pipe_entries table (home.Root i) (type_at table r.of) cut (node l ks) in
      let P' : List Entry = pipe_entries table (home.Root i) (type_at table r.of) cut' (node l' ks') in
      let R : List Entry = pipes_entries table (i + 1) rs vs cuts in
      let R' : List Entry = pipes_entries table (i + 1) rs vs' cuts' in
      rw (append_assoc P R ms, append_assoc P' R' ns)
      (pipe_next i r.of e et plain l l' ks ks' x y a.1 a.2 cut cut' c.0 c'.0 (R ++ ms) (R' ++ ns) at (λ p m.
      pipes_next (i + 1) rs vs vs' cuts cuts' a.3 c.1 c'.1 ms ns p (λ p' q. next p' (m, q))))
