-- The entries before an entry fix the next one, over the steps of deferral.
use Rattle.std.proofs.Common.{◌≡◌, ℕ, List, [], ◌∷◌, ◌++◌, Option, Some, None, refl, ap, ap₂, sym, ◌∙◌, inl, subst, append_assoc}
use Rattle.std.specs.Prelude.{flat_map}
use Rattle.nd_types.specs.declared.types.Class.{Class}
use Rattle.nd_value.specs.declared.value.Graph.{Graph}
use Rattle.nd_value.specs.Tree.{Tree, none, more, Referent}
use Rattle.nd_value.specs.Agreement.{Agreement}
use Rattle.std.specs.List.{AllByRecursion}
use Rattle.nd_value.specs.Setting.{Setting, cell_home, cell_at, cell_of_number}
use Rattle.nd_value.specs.Deferral.{home_pointers, Due, due_root, Step, Deferral, none_due, at_root, at_null, at_standing, at_referent, due_of, standing_root, standing_cell, root_cell, Placed_cells}
use Rattle.nd_value.specs.Deferral.{IsPlaced, IsPlacedFull, AreFree}
use Rattle.nd_value.proofs.DeferralLaws.{full_stands}
use Rattle.nd_grammar.specs.Entry.{Entry, tests, whole_value}
use Rattle.nd_grammar.specs.Stream.{step_entries, standing_entries}
use Rattle.nd_value.specs.Deferral.{Standing}
use Rattle.nd_grammar.proofs.next.NextPending.{AllDueMatch, then_due}
use Rattle.nd_value.proofs.Apart.{all_append}
use Rattle.nd_value.proofs.NodeFacts.{IsSound}
use Rattle.nd_grammar.proofs.next.PointerPlaces.{in_home, in_cell, in_standing}
use Rattle.nd_grammar.proofs.next.Next.{Pair, IsApart, homes_grown, Readings, Next, grown}
use Rattle.nd_grammar.proofs.next.Matching.{CellsMatch, Known}
use Rattle.nd_grammar.proofs.next.NextInPlace.{tests_next}
use Rattle.nd_grammar.proofs.next.NextWhole.{MaxesFrom}
use Rattle.nd_grammar.proofs.next.Standings.{AreNamed, IsMap, map_grown, AreDue, due_grown, home_due, firsts, seconds, firsts_append, seconds_append, free_apart, SameTop, found_top, PairFits, Stands}
use Rattle.nd_grammar.proofs.next.Standings.{RootsMeet, partner, partner', no_right, no_left, full_match, cells_of}
use Rattle.nd_grammar.proofs.next.NextSteps.{root_next, referent_next, known_cell, known_cell', after_root, after_null, after_standing, after_referent, next_due}

module _ (two : Readings) (X : List Pair → Type 0) (w : Setting) (g g' : Graph)
    (cells : (c : ℕ) (x : Referent) → cell_of_number g c ≡ Some x → Known g w.table (x.of ∷ []) (more x.val none))
    (cells' : (c : ℕ) (x : Referent) → cell_of_number g' c ≡ Some x → Known g' w.table (x.of ∷ []) (more x.val none))
    (maxes : (t : ℕ) (v v' : Tree) → Known g w.table (t ∷ []) (more v none) → Known g' w.table (t ∷ []) (more v' none)
    → MaxesFrom w.table t (more v none) (more v' none))
    (roots_meet : (i : ℕ) → RootsMeet two w g g' i (standing_root w g i) (standing_root w g' i))
    (s : IsSound w g) (s' : IsSound w g')
  where
    abbrev Numbers : Class → Option ℕ → Option ℕ → Type 0
    Numbers = CellsMatch two.left two.right

    abbrev N : List Pair → ℕ → List Entry → List Entry → Type 0
    N xs at ms ns = Next two (IsMap two w g g') X xs at ms ns

    abbrev Fit : List Pair → Type 0
    Fit xs = AllByRecursion (PairFits two w g g') xs

    abbrev Due_match : List Due → List Due → Type 0
    Due_match xs ys = AllDueMatch Numbers g g' xs ys

    abbrev F : List Step → List Entry
    F us = flat_map (step_entries w g) us

    abbrev F' : List Step → List Entry
    F' us = flat_map (step_entries w g') us

    -- Two streams' steps of deferral follow each other, up to an unread value. The cells that stand are a map that grows, pair by pair.
    pub deferral_next : {done done' : Placed_cells} {due due' : List Due} {us vs : List Step} → Deferral w g done due us → Deferral w g' done' due' vs
        → (xs : List Pair) → done ≡ firsts xs → done' ≡ seconds xs → IsMap two w g g' xs → Fit xs → Due_match due due' → AreDue two w g g' xs due due'
        → (ms ns : List Entry) (at : ℕ) → ((p : ℕ) (ys : List Pair) → Stands two w g g' xs due due' ys → N ys p ms ns) → N xs at (F us ++ ms) (F' vs ++ ns)
    deferral_next none_due none_due xs f f' one m r d ms ns at k =
        k at xs (record { new = []; all = refl; one = one; fit = m; closed = tt; carried_due = tt })
    deferral_next none_due (at_root x b) xs f f' one m r d ms ns at k = absurd r
    deferral_next none_due (at_null x b) xs f f' one m r d ms ns at k = absurd r
    deferral_next none_due (at_standing c x y z b) xs f f' one m r d ms ns at k = absurd r
    deferral_next none_due (at_referent c x y b) xs f f' one m r d ms ns at k = absurd r
    deferral_next (at_root x a) none_due xs f f' one m r d ms ns at k = absurd r
    deferral_next (at_null x a) none_due xs f f' one m r d ms ns at k = absurd r
    deferral_next (at_standing c x y z a) none_due xs f f' one m r d ms ns at k = absurd r
    deferral_next (at_referent c x y a) none_due xs f f' one m r d ms ns at k = absurd r
    deferral_next (at_root x a) (at_null y b) xs f f' one m r d ms ns at k = absurd r.0
    deferral_next (at_root x a) (at_standing c y z u b) xs f f' one m r d ms ns at k = absurd r.0
    deferral_next (at_root x a) (at_referent c y z b) xs f f' one m r d ms ns at k = absurd r.0
    deferral_next (at_null x a) (at_root y b) xs f f' one m r d ms ns at k = absurd r.0
    deferral_next (at_standing c x y z a) (at_root u b) xs f f' one m r d ms ns at k = absurd r.0
    deferral_next (at_referent c x y a) (at_root z b) xs f f' one m r d ms ns at k = absurd r.0
    deferral_next (at_root {i = i} {due = ts} {steps = us} free a) (at_root {done = dd} {i = j} {due = ts'} {steps = vs} free' b) xs f f' one m r d ms ns at k =
        let x : Standing = standing_root w g i in
        let y : Standing = standing_root w g' i in
        let b' : Deferral w g' (root_cell y.home ++ dd) (due_of w.table y ++ ts') vs =
        subst (λ u. Deferral w g' (root_cell (standing_root w g' u).home ++ dd) (due_of w.table (standing_root w g' u) ++ ts') vs) (sym r.0) b in
        let free'' : AreFree (root_cell y.home) dd = subst (λ u. AreFree (root_cell (standing_root w g' u).home) dd) (sym r.0) free' in
        let k' : (p : ℕ) (ys : List Pair) → Stands two w g g' xs (due_root i ∷ ts) (due_root i ∷ ts') ys → N ys p ms ns =
        λ p ys s. k p ys (subst (λ u. Stands two w g g' xs (due_root i ∷ ts) (due_root u ∷ ts') ys) r.0 s) in
        let whole : N xs at ((standing_entries w.table x ++ F us) ++ ms) ((standing_entries w.table y ++ F' vs) ++ ns) =
        rw (append_assoc (standing_entries w.table x) (F us) ms, append_assoc (standing_entries w.table y) (F' vs) ns)
        (root_next two X w g g' cells cells' maxes i x y (roots_meet i) xs one (subst (AreFree (root_cell x.home)) f free) (subst (AreFree (root_cell y.home)) f' free'')
        (F us ++ ms) (F' vs ++ ns) at (λ o one' m' p.
        deferral_next a b' (o.pairs ++ xs)
        (ap₂ (λ u v. u ++ v) o.lefts f ∙ sym (firsts_append o.pairs xs))
        (ap₂ (λ u v. u ++ v) o.rights f' ∙ sym (seconds_append o.pairs xs))
        one'
        (all_append (PairFits two w g g') o.pairs xs (o.fit m') m)
        (then_due Numbers g g' (home_pointers w.table x.home x.of x.val) (home_pointers w.table y.home y.of y.val) ts ts'
        (next_due two X w g g' cells cells' maxes x y o.of o.known o.known' m') r.1)
        (home_due two w g g' (o.pairs ++ xs) x.home y.home (o.meet xs) (home_pointers w.table x.home x.of x.val) (home_pointers w.table y.home y.of y.val) ts ts'
        (next_due two X w g g' cells cells' maxes x y o.of o.known o.known' m') (in_home w.table x.home x.of x.val) (in_home w.table y.home y.of y.val)
        (in_standing w g s i d.0.0 d.0.1) (in_standing w g' s' i d.0.0 d.0.1) (due_grown two w g g' o.pairs xs ts ts' d.1))
        ms ns p (λ p' ys s. k' p' ys (after_root two X w g g' cells cells' maxes i x y o xs ys ts ts' m' s)))) in
        subst (λ u. N xs at ((standing_entries w.table x ++ F us) ++ ms) ((standing_entries w.table (standing_root w g' u) ++ F' vs) ++ ns)) r.0 whole
    deferral_next (at_null {p = p} {due = ts} x a) (at_null {p = q} {due = ts'} y b) xs f f' one m r d ms ns at k =
        deferral_next a b xs f f' one m r.1 d.1 ms ns at (λ p' ys s. k p' ys (after_null two X w g g' cells cells' maxes p q x y xs ys ts ts' s))
    deferral_next (at_null {p = p} x a) (at_standing {p = q} c y z u b) xs f f' one m r d ms ns at k =
        absurd (no_right two w g g' p.class c (cells_of two w g g' p q None (Some c) r.0 x y))
    deferral_next (at_null {p = p} x a) (at_referent {p = q} c y z b) xs f f' one m r d ms ns at k =
        absurd (no_right two w g g' p.class c (cells_of two w g g' p q None (Some c) r.0 x y))
    deferral_next (at_standing {p = p} c y z u a) (at_null {p = q} x b) xs f f' one m r d ms ns at k =
        absurd (no_left two w g g' p.class c (cells_of two w g g' p q (Some c) None r.0 y x))
    deferral_next (at_referent {p = p} c y z a) (at_null {p = q} x b) xs f f' one m r d ms ns at k =
        absurd (no_left two w g g' p.class c (cells_of two w g g' p q (Some c) None r.0 y x))
    deferral_next (at_standing {p = p} {due = ts} {steps = us} c x full y a) (at_standing {p = q} {due = ts'} {steps = vs} c' x' full' y' b) xs f f' one m r d ms ns at k =
        let (z, am, l, e, s, i) = partner two w g g' xs m c (subst (λ u. IsPlacedFull u c) f y) in
        let same : z.right ≡ c' = two.right_one z.right c' (sym e ∙ full_match two w g g' p.class c c' full (cells_of two w g g' p q (Some c) (Some c') r.0 x x')) in
        let top : SameTop (cell_at g c) (cell_at g' c') = subst (λ u. SameTop (cell_at g c) (cell_at g' u)) same s in
        subst (λ v. N xs at ((tests (cell_home c) 0 (cell_at g c) p.agreements ++ F us) ++ ms) ((tests (cell_home c') 0 (cell_at g' c') v ++ F' vs) ++ ns)) r.0.agreements
        (rw (append_assoc (tests (cell_home c) 0 (cell_at g c) p.agreements) (F us) ms, append_assoc (tests (cell_home c') 0 (cell_at g' c') p.agreements) (F' vs) ns)
        (tests_next two (IsMap two w g g') X xs one w.table g g' (cell_home c) (cell_home c') (z, am, l, same) 0 (cell_at g c) (cell_at g' c') p.agreements
        (found_top _ _ top) (F us ++ ms) (F' vs ++ ns) at (λ p'.
        deferral_next a b xs f f' one m r.1 d.1 ms ns p' (λ p'' ys s'. k p'' ys (after_standing two X w g g' cells cells' maxes p q c c' x x' z l same xs ys am ts ts' s')))))
    deferral_next (at_standing {p = p} c x full y a) (at_referent {done = dd} {p = q} c' x' n b) xs f f' one m r d ms ns at k =
        let (z, am, l, e, s, i) = partner two w g g' xs m c (subst (λ u. IsPlacedFull u c) f y) in
        let same : z.right ≡ c' = two.right_one z.right c' (sym e ∙ full_match two w g g' p.class c c' full (cells_of two w g g' p q (Some c) (Some c') r.0 x x')) in
        absurd (n (full_stands dd c' (subst (λ u. IsPlacedFull u c') (sym f') (subst (λ u. IsPlacedFull (seconds xs) u) same i))))
    deferral_next (at_referent {done = dd} {p = p} c x n a) (at_standing {p = q} c' x' full y b) xs f f' one m r d ms ns at k =
        let (d, e, i) = partner' two w g g' xs m c' (subst (λ u. IsPlacedFull u c') f' y) in
        let same : d ≡ c = two.left_one d c (e ∙ sym (full_match two w g g' p.class c c' (r.0.class ∙ full) (cells_of two w g g' p q (Some c) (Some c') r.0 x x'))) in
        absurd (n (full_stands dd c (subst (λ u. IsPlacedFull u c) (sym f) (subst (λ u. IsPlacedFull (firsts xs) u) same i))))
    deferral_next (at_referent {done = dd} {p = p} {due = ts} {steps = us} c x n a) (at_referent {done = dd'} {p = q} {due = ts'} {steps = vs} c' x' n' b) xs f f' one m r d ms ns at k =
        let known : Known g w.table (p.to ∷ []) (more (cell_at g c) none) = known_cell two X w g g' cells cells' maxes p c x r.0.typed in
        let known' : Known g' w.table (p.to ∷ []) (more (cell_at g' c') none) =
        subst (λ t. Known g' w.table (t ∷ []) (more (cell_at g' c') none)) (sym r.0.to) (known_cell' two X w g g' cells cells' maxes q c' x' r.0.typed') in
        let W : List Entry = whole_value w.table (cell_home c) p.to (cell_at g c) ++ tests (cell_home c) 0 (cell_at g c) p.agreements in
        let W' : ℕ → List Agreement → List Entry = λ t v. whole_value w.table (cell_home c') t (cell_at g' c') ++ tests (cell_home c') 0 (cell_at g' c') v in
        let cm = cells_of two w g g' p q (Some c) (Some c') r.0 x x' in
        let z : Pair = record { class = p.class; of = p.to; left = c; right = c' } in
        let (y, ey, ty) = r.0.typed' c' x' in
        let right_cell : (k : Referent) × (cell_of_number g' c' ≡ Some k) × (k.of ≡ p.to) = (y, ey, ty ∙ sym r.0.to) in
        let apart : AllByRecursion (IsApart z) xs = free_apart z xs (subst (λ u. ¬ IsPlaced u c) f n) (subst (λ u. ¬ IsPlaced u c') f' n') in
        let own : AreNamed two w g g' (z ∷ xs) c c' = record {
          left = p;
          right = q;
          in_left = d.0.in_left;
          in_right = d.0.in_right;
          left_cell = x;
          right_cell = x';
          class = r.0.class;
          node = r.0.node;
          homes = homes_grown (z ∷ []) xs p.home q.home d.0.homes;
          number = λ e. full_match two w g g' p.class c c' e cm;
        } in
        let one' : IsMap two w g g' (z ∷ xs) = map_grown two w g g' (z ∷ []) xs (apart, one.one) (own, tt) one in
        subst (λ t. N xs at ((W ++ F us) ++ ms) ((W' t q.agreements ++ F' vs) ++ ns)) r.0.to
        (subst (λ v. N xs at ((W ++ F us) ++ ms) ((W' p.to v ++ F' vs) ++ ns)) r.0.agreements
        (rw (append_assoc W (F us) ms, append_assoc (W' p.to p.agreements) (F' vs) ns)
        (grown two (IsMap two w g g') X (z ∷ []) xs at (W ++ (F us ++ ms)) (W' p.to p.agreements ++ (F' vs ++ ns))
        (referent_next two X w g g' cells cells' maxes (z ∷ xs) one' (cell_home c) (cell_home c') (z, inl refl, refl, refl) p.to (cell_at g c) (cell_at g' c') p.agreements
        known known' (F us ++ ms) (F' vs ++ ns) at (λ p' m'.
        deferral_next a b (z ∷ xs) (ap (λ u. (p.class, c) ∷ u) f) (ap₂ (λ u v. (u, c') ∷ v) (sym r.0.class) f') one'
        (record { number = λ e. full_match two w g g' p.class c c' e cm; known = known; known' = known'; matched = m'; left_cell = r.0.typed c x; right_cell = right_cell }, m)
        (then_due Numbers g g' _ _ ts ts' (next_due two X w g g' cells cells' maxes (standing_cell g p c) (standing_cell g' q c') r.0.to known known' m') r.1)
        (home_due two w g g' (z ∷ xs) (cell_home c) (cell_home c') (z, inl refl, refl, refl) _ _ ts ts'
        (next_due two X w g g' cells cells' maxes (standing_cell g p c) (standing_cell g' q c') r.0.to known known' m')
        (in_home w.table (cell_home c) p.to (cell_at g c)) (in_home w.table (cell_home c') q.to (cell_at g' c'))
        (in_cell w g c p.to (r.0.typed c x)) (in_cell w g' c' q.to (r.0.typed' c' x')) (due_grown two w g g' (z ∷ []) xs ts ts' d.1)) ms ns p'
        (λ p'' ys s. k p'' ys (after_referent two X w g g' cells cells' maxes p q c c' x x' r.0.to z refl xs ys ts ts' known known' m' s)))))))
