-- Two streams of one side follow each other, up to an unread value.
use Rattle.std.proofs.Common.{◌≡◌, ℕ, ◌+◌, ◌<◌, ◌≤◌, ◌-◌, zero, suc, Bool, true, false, List, [], ◌∷◌, ◌++◌, length, Option, Some, None, refl, ap, sym, ◌∙◌, inl, inr, ◌⊎◌, arith, subst, drop}
use Rattle.std.proofs.Common.{append_assoc, length-drop}
use Rattle.std.specs.Prelude.{flat_map}
use Rattle.std.specs.List.{AllByRecursion, slice_get}
use Rattle.std.proofs.lemmas.List.{append-nil}
use Rattle.std.proofs.lemmas.Bool.{cases_lt}
use Rattle.nd_types.specs.declared.types.TypeId.{TypeId}
use Rattle.nd_types.specs.declared.types.TypeDef.TheVariants as def
use Rattle.nd_types.specs.Table.{Table, type_at}
use Rattle.nd_types.specs.Legal.{has_none_within, is_barred_in_pipes}
use Rattle.nd_types.specs.Roots.{Root}
use Rattle.nd_value.specs.declared.value.Graph.{Graph}
use Rattle.nd_value.specs.Tree as tree
use Rattle.nd_value.specs.Tree.{Tree, Trees, node, none, more, Label}
use Rattle.nd_value.specs.Setting.{Setting, root_list, root_at, or_unread}
use Rattle.nd_value.specs.Agreement.{starred}
use Rattle.nd_value.specs.Deferral.{Step, Deferral, due_roots, before_pipes, root_type}
use Rattle.nd_value.proofs.NodeFacts.{IsSound}
use Rattle.nd_value.proofs.FewRoots.{few_before_pipes}
use Rattle.nd_grammar.proofs.next.PointerPlaces.{root_there}
use Rattle.nd_grammar.specs.Entry.{Entry}
use Rattle.nd_grammar.specs.Stream.{Stream, step_entries, root_tests, pipes_entries}
use Rattle.nd_grammar.proofs.next.Next.{Pair, OneToOne, Readings, Next}
use Rattle.nd_grammar.proofs.next.Matching.{Known, NodeKnown, Matched, CellsMatch}
use Rattle.nd_grammar.proofs.next.NextPending.{AllDueMatch}
use Rattle.nd_grammar.proofs.next.Carried.{InMap}
use Rattle.nd_grammar.proofs.next.Standings.{IsMap, no_pairs, AreDue, PairFits, IsClosed, AllCarried, RootCarried, Stands}
use Rattle.nd_grammar.proofs.next.NextDeferral.{deferral_next}
use Rattle.nd_grammar.proofs.next.NextRootTests.{starred_same, RootsReady, root_tests_next}
use Rattle.nd_grammar.proofs.next.NextPipes.{PipesKnown, PipesMatch, pipes_next, pipe_label}
use Rattle.nd_grammar.proofs.next.HoistedMaxes.{HoistsLast, maxes_hoisted}
use Rattle.nd_grammar.proofs.next.KnownNodes.{known_cells, known_roots}
use Rattle.nd_grammar.proofs.next.RootsMeeting.{roots_meet}
use Rattle.nd_lemmas.proofs.Lists.{all_at}

-- A pipe among the roots: its type is a pipe, and it has no attributes.
pub record IsPipeRoot (table : Table) (r : Root) : Type 0 where
  pub elem : TypeId
  pub type_is : type_at table r.of ≡ Some (def.Pipe elem)
  pub no_vars : r.vars ≡ []

-- a type holds nothing that may not stand in a pipe's element
abbrev pub FitsPipes : Table → ℕ → Type 0
FitsPipes table t = (depth : ℕ) × (has_none_within depth is_barred_in_pipes table t ≡ true)

-- What the laws need of a side: where maximum counts stand, what is in a pipe's element, and that pipes come last.
pub record IsLaidOut (w : Setting) : Type 0 where
  pub hoisting : HoistsLast w.table
  pub elements : (t : ℕ) (e : TypeId) → type_at w.table t ≡ Some (def.Pipe e) → FitsPipes w.table e.0
  pub pipes : AllByRecursion (IsPipeRoot w.table) (drop (before_pipes (root_list w)) (root_list w))

pub drop_at : {X : Type 0} (n : ℕ) (xs : List X) (j : ℕ) → slice_get (drop n xs) j ≡ slice_get xs (n + j)
drop_at zero xs j = ap (slice_get xs) (omega arith)
drop_at (suc n) [] j = refl
drop_at (suc n) (x ∷ xs) j =
    let e : suc (n + j) ≡ suc n + j = omega arith in
    drop_at n xs j ∙ ap (λ u. slice_get (x ∷ xs) u) e

module _ (two : Readings) (w : Setting) (g g' : Graph) where
  abbrev n : ℕ
  n = before_pipes (root_list w)

  -- What is known of two graphs once both streams are spelt: a one-to-one map of cells, whose cells match and are carried by it, as
  -- are the roots before the pipes; and the pipes match.
  pub record AreMapped (ys : List Pair) : Type 0 where
    pub one : OneToOne ys
    pub fit : AllByRecursion (PairFits two w g g') ys
    pub closed : AllByRecursion (IsClosed two w g g' ys) ys
    pub roots : AllCarried two w g g' ys (due_roots 0 (before_pipes (root_list w))) (due_roots 0 (before_pipes (root_list w)))
    pub pipes : PipesMatch (CellsMatch two.left two.right) w.table (drop (before_pipes (root_list w)) (root_list w)) (drop (before_pipes (root_list w)) g.roots)
        (drop (before_pipes (root_list w)) g'.roots)

  -- the roots that were due are carried
  pub root_carried : (ys : List Pair) (i k : ℕ) → AllCarried two w g g' ys (due_roots i k) (due_roots i k) → (j : ℕ) → j < k → RootCarried two w g g' ys (i + j)
  root_carried ys i zero a j h = absurd (omega arith)
  root_carried ys i (suc k) a zero h = subst (RootCarried two w g g' ys) (omega arith) a.0
  root_carried ys i (suc k) a (suc j) h = subst (RootCarried two w g g' ys) (omega arith) (root_carried ys (suc i) k a.1 j (omega arith))

  due_match : (C : Unit {0}) (i k : ℕ) → AllDueMatch (CellsMatch two.left two.right) g g' (due_roots i k) (due_roots i k)
  due_match C i zero = tt
  due_match C i (suc k) = (refl, due_match C (suc i) k)

  roots_due : (i k : ℕ) → i + k ≤ length (root_list w) → AreDue two w g g' [] (due_roots i k) (due_roots i k)
  roots_due i zero h = tt
  roots_due i (suc k) h = (root_there w i (omega arith), roots_due (suc i) k (omega arith))

  module _ (s : IsSound w g) (s' : IsSound w g') (laid : IsLaidOut w) where
    abbrev W : List Pair → Type 0
    W = IsMap two w g g'

    -- a root after the first pipe
    pub pipe_root : (i : ℕ) (r : Root) → slice_get (root_list w) i ≡ Some r → n ≤ i → IsPipeRoot w.table r
    pipe_root i r e h =
        let k : n + (i - n) ≡ i = omega arith in
        all_at (IsPipeRoot w.table) (drop n (root_list w)) (i - n) r laid.pipes (drop_at n (root_list w) (i - n) ∙ ap (slice_get (root_list w)) k ∙ e)

    no_number : (k : Graph) (star : Bool) (l : Label) (ks : Trees) → (l ≡ tree.Unread) ⊎ (l ≡ tree.Pipe) → starred k star (node l ks) ≡ None
    no_number k star l ks (inl e) = ap (λ u. starred k star (node u ks)) e ∙ by_star star
      where
        by_star : (b : Bool) → starred k b (node tree.Unread ks) ≡ None
        by_star true = refl
        by_star false = refl
    no_number k star l ks (inr e) = ap (λ u. starred k star (node u ks)) e ∙ by_star star
      where
        by_star : (b : Bool) → starred k b (node tree.Pipe ks) ≡ None
        by_star true = refl
        by_star false = refl

    no_pipe_number : (k : Graph) (star : Bool) (t : ℕ) (e : TypeId) (v : Tree) → type_at w.table t ≡ Some (def.Pipe e) → Known k w.table (t ∷ []) (more v none)
        → starred k star v ≡ None
    no_pipe_number k star t e (node l ks) et a = no_number k star l ks (pipe_label k e l ks (subst (λ d. NodeKnown k d l ks) et a.0))

    no_unread_number : (k : Graph) (star : Bool) (i : ℕ) → slice_get k.roots i ≡ None → starred k star (root_at k i) ≡ None
    no_unread_number k star i e = ap (λ u. starred k star (or_unread u)) e ∙ no_number k star tree.Unread none (inl refl)

    pub past : (rs : List Root) (vs : List Tree) (i : ℕ) → length vs ≡ length rs → slice_get rs i ≡ None → slice_get vs i ≡ None
    past [] [] i h e = refl
    past [] (v ∷ vs) i h e = cc
    past (r ∷ rs) [] i h e = cc
    past (r ∷ rs) (v ∷ vs) zero h e = cc
    past (r ∷ rs) (v ∷ vs) (suc i) h e = past rs vs i (omega arith) e

    module _ (X : List Pair → Type 0) (ys : List Pair) (st : Stands two w g g' [] (due_roots 0 n) (due_roots 0 n) ys) where
      its_root : (i : ℕ) → i < n → RootCarried two w g g' ys i
      its_root i h = subst (RootCarried two w g g' ys) (omega arith) (root_carried ys 0 n st.carried_due i h)

      vars_same : (i : ℕ) (star : Bool) → starred g star (root_at g i) ≡ starred g' star (root_at g' i)
      vars_same i star = go (cases_lt i n)
        where
          by_root : n ≤ i → (o : Option Root) → slice_get (root_list w) i ≡ o → starred g star (root_at g i) ≡ starred g' star (root_at g' i)
          by_root h None e =
              no_unread_number g star i (past (root_list w) g.roots i s.all_roots e)
              ∙ sym (no_unread_number g' star i (past (root_list w) g'.roots i s'.all_roots e))
          by_root h (Some r) e =
              let p : IsPipeRoot w.table r = pipe_root i r e h in
              no_pipe_number g star r.of p.elem (root_at g i) p.type_is (known_roots w g s i r e)
              ∙ sym (no_pipe_number g' star r.of p.elem (root_at g' i) p.type_is (known_roots w g' s' i r e))

          go : (i < n) ⊎ (n ≤ i) → starred g star (root_at g i) ≡ starred g' star (root_at g' i)
          go (inl h) = starred_same two W X w g g' ys st.one st.fit (root_type (slice_get (root_list w) i)) star (root_at g i) (root_at g' i) (its_root i h).carried_by
          go (inr h) = by_root h (slice_get (root_list w) i) refl

      abbrev Ready : List Root → List Tree → List Tree → Type 0
      Ready rs vs vs' = RootsReady two W X w g g' ys st.one st.fit vars_same rs vs vs'

      abbrev IsReady : Root → Tree → Tree → Type 0
      IsReady r v v' = (r.vars ≡ []) ⊎ Matched (InMap ys) w.table (r.of ∷ []) (more v none) (more v' none)

      ready_from : (rs : List Root) (vs vs' : List Tree) → length vs ≡ length rs → length vs' ≡ length rs
          → ((j : ℕ) (r : Root) → slice_get rs j ≡ Some r → IsReady r (or_unread (slice_get vs j)) (or_unread (slice_get vs' j))) → Ready rs vs vs'
      ready_from [] [] [] h h' f = tt
      ready_from [] [] (v ∷ vs) h h' f = cc
      ready_from [] (v ∷ vs) vs' h h' f = cc
      ready_from (r ∷ rs) [] vs' h h' f = cc
      ready_from (r ∷ rs) (v ∷ vs) [] h h' f = cc
      ready_from (r ∷ rs) (v ∷ vs) (v' ∷ vs') h h' f = (f 0 r refl, ready_from rs vs vs' (omega arith) (omega arith) (λ j q e. f (suc j) q e))

      ready : Ready (root_list w) g.roots g'.roots
      ready = ready_from (root_list w) g.roots g'.roots s.all_roots s'.all_roots (λ i r e. go i r e (cases_lt i n))
        where
          go : (i : ℕ) (r : Root) → slice_get (root_list w) i ≡ Some r → (i < n) ⊎ (n ≤ i) → IsReady r (root_at g i) (root_at g' i)
          go i r e (inr h) = inl (pipe_root i r e h).no_vars
          go i r e (inl h) =
              inr (subst (λ t. Matched (InMap ys) w.table (t ∷ []) (more (root_at g i) none) (more (root_at g' i) none)) (ap root_type e) (its_root i h).carried_by)

      abbrev Pipes : List Root → List Tree → List Tree → Type 0
      Pipes rs vs vs' = PipesKnown two W X w.table laid.hoisting g g' ys st.one rs vs vs'

      pipes_from : (rs : List Root) (vs vs' : List Tree) → length vs ≡ length rs → length vs' ≡ length rs → AllByRecursion (IsPipeRoot w.table) rs
          → ((j : ℕ) (r : Root) → slice_get rs j ≡ Some r
          → Known g w.table (r.of ∷ []) (more (or_unread (slice_get vs j)) none) × Known g' w.table (r.of ∷ []) (more (or_unread (slice_get vs' j)) none))
          → Pipes rs vs vs'
      pipes_from [] [] [] h h' a f = tt
      pipes_from [] [] (v ∷ vs) h h' a f = cc
      pipes_from [] (v ∷ vs) vs' h h' a f = cc
      pipes_from (r ∷ rs) [] vs' h h' a f = cc
      pipes_from (r ∷ rs) (v ∷ vs) [] h h' a f = cc
      pipes_from (r ∷ rs) (v ∷ vs) (v' ∷ vs') h h' a f =
          let (x, y) = f 0 r refl in (
            (a.0.elem, a.0.type_is, laid.hoisting.piped r.of a.0.elem a.0.type_is),
            x,
            y,
            pipes_from rs vs vs' (omega arith) (omega arith) a.1 (λ j q e. f (suc j) q e),
          )

      fewer : (vs : List Tree) → length vs ≡ length (root_list w) → length (drop n vs) ≡ length (drop n (root_list w))
      fewer vs e = length-drop n vs ∙ ap (λ u. u - n) e ∙ sym (length-drop n (root_list w))

      pipes_known : Pipes (drop n (root_list w)) (drop n g.roots) (drop n g'.roots)
      pipes_known =
          pipes_from (drop n (root_list w)) (drop n g.roots) (drop n g'.roots) (fewer g.roots s.all_roots) (fewer g'.roots s'.all_roots) laid.pipes (λ j r e.
          let e' : slice_get (root_list w) (n + j) ≡ Some r = sym (drop_at n (root_list w) j) ∙ e in (
            subst (λ u. Known g w.table (r.of ∷ []) (more (or_unread u) none)) (sym (drop_at n g.roots j)) (known_roots w g s (n + j) r e'),
            subst (λ u. Known g' w.table (r.of ∷ []) (more (or_unread u) none)) (sym (drop_at n g'.roots j)) (known_roots w g' s' (n + j) r e'),
          ))

      all_closed : AllByRecursion (IsClosed two w g g' ys) ys
      all_closed = subst (λ u. AllByRecursion (IsClosed two w g g' ys) u) (sym (append-nil st.new) ∙ sym st.all) st.closed

    -- What is before the pipes of two streams follows each other, up to an unread value, if what comes later does so by the map that was found.
    pub heads_next : (X : List Pair → Type 0) {us vs : List Step} → Deferral w g [] (due_roots 0 (before_pipes (root_list w))) us
        → Deferral w g' [] (due_roots 0 (before_pipes (root_list w))) vs → (ms ns : List Entry)
        → ((p : ℕ) (ys : List Pair) → Stands two w g g' [] (due_roots 0 (before_pipes (root_list w))) (due_roots 0 (before_pipes (root_list w))) ys → Next two (IsMap two w g g') X ys p ms ns)
        → Next two (IsMap two w g g') X [] 0 (flat_map (step_entries w g) us ++ (root_tests w g 0 (root_list w) g.roots ++ ms))
        (flat_map (step_entries w g') vs ++ (root_tests w g' 0 (root_list w) g'.roots ++ ns))
    heads_next X a b ms ns next =
        let T : List Entry = root_tests w g 0 (root_list w) g.roots in
        let T' : List Entry = root_tests w g' 0 (root_list w) g'.roots in
        deferral_next two X w g g' (known_cells w g s) (known_cells w g' s') (λ t v v'. maxes_hoisted w.table laid.hoisting g g' t v v') (roots_meet two w g g' s s')
        s s' a b [] refl refl (no_pairs two w g g') tt (due_match tt 0 n) (roots_due 0 n (omega (arith, few_before_pipes (root_list w)))) (T ++ ms) (T' ++ ns) 0 (λ p ys st.
        root_tests_next two W X w g g' ys st.one st.fit (vars_same X ys st) 0 (root_list w) g.roots g'.roots (ready X ys st) ms ns p (λ q. next q ys st))

    -- Two streams of sound graphs of one side follow each other, up to an unread value; where both are spelt whole, the graphs are mapped.
    pub streams_next : (ms ns : List Entry) → Stream w g ms → Stream w g' ns → Next two (IsMap two w g g') AreMapped [] 0 ms ns
    streams_next ms ns a b =
        let F : List Entry = flat_map (step_entries w g) a.steps in
        let F' : List Entry = flat_map (step_entries w g') b.steps in
        let T : List Entry = root_tests w g 0 (root_list w) g.roots in
        let T' : List Entry = root_tests w g' 0 (root_list w) g'.roots in
        let P : List Entry = pipes_entries w.table n (drop n (root_list w)) (drop n g.roots) a.cuts in
        let P' : List Entry = pipes_entries w.table n (drop n (root_list w)) (drop n g'.roots) b.cuts in
        let e : ms ≡ F ++ (T ++ (P ++ [])) = a.is_representation ∙ append_assoc F T P ∙ ap (λ u. F ++ (T ++ u)) (sym (append-nil P)) in
        let e' : ns ≡ F' ++ (T' ++ (P' ++ [])) = b.is_representation ∙ append_assoc F' T' P' ∙ ap (λ u. F' ++ (T' ++ u)) (sym (append-nil P')) in
        subst (λ u. Next two W AreMapped [] 0 u ns) (sym e) (subst (λ u. Next two W AreMapped [] 0 (F ++ (T ++ (P ++ []))) u) (sym e')
        (heads_next AreMapped a.deferral b.deferral (P ++ []) (P' ++ []) (λ q ys st.
        pipes_next two W AreMapped w.table laid.hoisting g g' ys st.one n (drop n (root_list w)) (drop n g.roots) (drop n g'.roots) a.cuts b.cuts (pipes_known AreMapped ys st)
        a.all_cut b.all_cut [] [] q (λ r m.
        ([], st.one, record { one = st.one.one; fit = st.fit; closed = all_closed AreMapped ys st; roots = st.carried_due; pipes = m })))))
