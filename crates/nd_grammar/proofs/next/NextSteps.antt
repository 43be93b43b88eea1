-- The entries before an entry fix the next one, over the steps of deferral: each kind of step.
use Rattle.std.proofs.Common.{◌≡◌, ℕ, List, [], ◌∷◌, ◌++◌, Option, Some, None, refl, ap, sym, ◌∙◌, inl, inr, subst, append_assoc}
use Rattle.nd_types.specs.declared.types.Class.{Class}
use Rattle.nd_value.specs.declared.value.Graph.{Graph}
use Rattle.nd_value.specs.declared.item.Home.{Home}
use Rattle.nd_value.specs.Tree.{Tree, node, none, more, Referent}
use Rattle.nd_value.specs.Agreement.{Agreement}
use Rattle.nd_value.specs.Setting.{Setting, Among, cell_at, cell_of_number}
use Rattle.nd_value.specs.Deferral.{Pending, home_pointers, Due, due_root, due_referent, due_of, standing_cell, root_cell, AreFree}
use Rattle.nd_grammar.specs.Entry.{Entry, tests, whole_value}
use Rattle.nd_grammar.specs.Stream.{standing_entries}
use Rattle.nd_value.specs.Deferral.{Standing}
use Rattle.nd_value.specs.Setting.{cell_tree}
use Rattle.nd_grammar.proofs.next.NextPending.{AllPointers}
use Rattle.nd_value.proofs.Orderly.{Pointee}
use Rattle.nd_value.proofs.Apart.{all_append, among_left, among_right}
use Rattle.nd_grammar.proofs.next.Next.{Pair, HomesMeet, Readings, Next, unread_left, unread_right, grown}
use Rattle.nd_grammar.proofs.next.Matching.{CellsMatch, Matched, Known}
use Rattle.nd_grammar.proofs.next.NextInPlace.{tests_next}
use Rattle.nd_grammar.proofs.next.NextWhole.{MaxesFrom, whole_value_next, unread_whole, unread_entry}
use Rattle.nd_grammar.proofs.next.Carried.{InMap, AllInMap}
use Rattle.nd_grammar.proofs.next.Standings.{firsts, seconds, one_to_one, IsMap, map_grown, found_top, top_of, IsClosed, Stands, RootsAlike, RootsMeet, IsUnreadTree, in_map, carried_parts}
use Rattle.nd_grammar.proofs.next.Standings.{home_match, home_carried}

module _ (two : Readings) (X : List Pair → Type 0) (w : Setting) (g g' : Graph)
    (cells : (c : ℕ) (x : Referent) → cell_of_number g c ≡ Some x → Known g w.table (x.of ∷ []) (more x.val none))
    (cells' : (c : ℕ) (x : Referent) → cell_of_number g' c ≡ Some x → Known g' w.table (x.of ∷ []) (more x.val none))
    (maxes : (t : ℕ) (v v' : Tree) → Known g w.table (t ∷ []) (more v none) → Known g' w.table (t ∷ []) (more v' none)
    → MaxesFrom w.table t (more v none) (more v' none))
  where
    abbrev Numbers : Class → Option ℕ → Option ℕ → Type 0
    Numbers = CellsMatch two.left two.right

    abbrev W : List Pair → Type 0
    W = IsMap two w g g'

    abbrev N : List Pair → ℕ → List Entry → List Entry → Type 0
    N xs at ms ns = Next two W X xs at ms ns

    pub known_cell : (p : Pending) (c : ℕ) → p.cell ≡ Some c → Pointee g p → Known g w.table (p.to ∷ []) (more (cell_at g c) none)
    known_cell p c e f =
        let (x, q, t) = f c e in
        subst (λ v. Known g w.table (p.to ∷ []) (more v none)) (sym (ap cell_tree q))
        (subst (λ u. Known g w.table (u ∷ []) (more x.val none)) t (cells c x q))

    pub known_cell' : (p : Pending) (c : ℕ) → p.cell ≡ Some c → Pointee g' p → Known g' w.table (p.to ∷ []) (more (cell_at g' c) none)
    known_cell' p c e f =
        let (x, q, t) = f c e in
        subst (λ v. Known g' w.table (p.to ∷ []) (more v none)) (sym (ap cell_tree q))
        (subst (λ u. Known g' w.table (u ∷ []) (more x.val none)) t (cells' c x q))

    left_unread : (xs : List Pair) (at : ℕ) (h : Home) (t : ℕ) (v : Tree) (ms ns : List Entry) → IsUnreadTree two w g g' v → N xs at (whole_value w.table h t v ++ ms) ns
    left_unread xs at h t (node l ks) ms ns e =
        let (rest, f) = unread_whole w.table h t l ks e in
        subst (λ u. N xs at (u ++ ms) ns) (sym f) (unread_left two W X xs at (unread_entry h) (rest ++ ms) ns refl)

    right_unread : (xs : List Pair) (at : ℕ) (h : Home) (t : ℕ) (v : Tree) (ms ns : List Entry) → IsUnreadTree two w g g' v → N xs at ms (whole_value w.table h t v ++ ns)
    right_unread xs at h t (node l ks) ms ns e =
        let (rest, f) = unread_whole w.table h t l ks e in
        subst (λ u. N xs at ms (u ++ ns)) (sym f) (unread_right two W X xs at (unread_entry h) ms (rest ++ ns) refl)

    -- two roots stand, in their own places or as cells
    pub root_next : (i : ℕ) (x y : Standing) → RootsMeet two w g g' i x y → (xs : List Pair) → IsMap two w g g' xs
        → AreFree (root_cell x.home) (firsts xs) → AreFree (root_cell y.home) (seconds xs)
        → (ms ns : List Entry) (at : ℕ)
        → ((o : RootsAlike two w g g' i x y) → IsMap two w g g' (o.pairs ++ xs) → Matched Numbers w.table (x.of ∷ []) (more x.val none) (more y.val none)
        → (p : ℕ) → N (o.pairs ++ xs) p ms ns)
        → N xs at (standing_entries w.table x ++ ms) (standing_entries w.table y ++ ns)
    root_next i x y (inl u) xs one free free' ms ns at k = left_unread xs at x.home x.of x.val ms (standing_entries w.table y ++ ns) u
    root_next i x y (inr (inl u)) xs one free free' ms ns at k = right_unread xs at y.home y.of y.val (standing_entries w.table x ++ ms) ns u
    root_next i x y (inr (inr o)) xs one free free' ms ns at k =
        let one' : IsMap two w g g' (o.pairs ++ xs) = map_grown two w g g' o.pairs xs (one_to_one o.pairs xs o.one (subst (λ u. AreFree u (firsts xs)) o.lefts free)
        (subst (λ u. AreFree u (seconds xs)) o.rights free') one.one) (o.named (o.pairs ++ xs)) one in
        subst (λ t. N xs at (standing_entries w.table x ++ ms) (whole_value w.table y.home t y.val ++ ns)) o.of
        (grown two W X o.pairs xs at (whole_value w.table x.home x.of x.val ++ ms) (whole_value w.table y.home x.of y.val ++ ns)
        (whole_value_next two W X (o.pairs ++ xs) one' w.table g g' x.home y.home (o.meet xs) x.of x.val y.val o.known o.known'
        (maxes x.of x.val y.val o.known o.known') ms ns at (λ p m. k o one' m p)))

    -- a referent stands, with the agreements of its pointer
    pub referent_next : (xs : List Pair) → IsMap two w g g' xs → (h h' : Home) → HomesMeet xs h h' → (t : ℕ) (v v' : Tree) (ws : List Agreement)
        → Known g w.table (t ∷ []) (more v none) → Known g' w.table (t ∷ []) (more v' none)
        → (ms ns : List Entry) (at : ℕ)
        → ((p : ℕ) → Matched Numbers w.table (t ∷ []) (more v none) (more v' none) → N xs p ms ns)
        → N xs at ((whole_value w.table h t v ++ tests h 0 v ws) ++ ms) ((whole_value w.table h' t v' ++ tests h' 0 v' ws) ++ ns)
    referent_next xs one h h' meet t v v' ws a b ms ns at k =
        rw (append_assoc (whole_value w.table h t v) (tests h 0 v ws) ms, append_assoc (whole_value w.table h' t v') (tests h' 0 v' ws) ns)
        (whole_value_next two W X xs one w.table g g' h h' meet t v v' a b (maxes t v v' a b) (tests h 0 v ws ++ ms) (tests h' 0 v' ws ++ ns) at (λ p m.
        tests_next two W X xs one w.table g g' h h' meet 0 v v' ws (found_top v v' (top_of Numbers w.table t v v' m)) ms ns p (λ q. k q m)))

    pub next_due : (x y : Standing) → x.of ≡ y.of → Known g w.table (x.of ∷ []) (more x.val none) → Known g' w.table (x.of ∷ []) (more y.val none)
        → Matched Numbers w.table (x.of ∷ []) (more x.val none) (more y.val none)
        → AllPointers Numbers g g' (home_pointers w.table x.home x.of x.val) (home_pointers w.table y.home y.of y.val)
    next_due x y e a b m =
        subst (λ t. AllPointers Numbers g g' (home_pointers w.table x.home x.of x.val) (home_pointers w.table y.home t y.val)) e
        (home_match two w g g' x.home y.home x.of x.val y.val a b m)

    -- once the pointers of a home are carried by a map, so is its value
    value_carried : (ys : List Pair) (x y : Standing) → x.of ≡ y.of → Known g w.table (x.of ∷ []) (more x.val none)
        → Matched Numbers w.table (x.of ∷ []) (more x.val none) (more y.val none)
        → AllInMap ys (home_pointers w.table x.home x.of x.val) (home_pointers w.table y.home y.of y.val)
        → Matched (InMap ys) w.table (x.of ∷ []) (more x.val none) (more y.val none)
    value_carried ys x y e a m p =
        home_carried two w g g' ys x.home y.home x.of x.val y.val a m
        (subst (λ t. AllInMap ys (home_pointers w.table x.home x.of x.val) (home_pointers w.table y.home t y.val)) (sym e) p)

    pub after_root : (i : ℕ) (x y : Standing) (o : RootsAlike two w g g' i x y) (xs ys : List Pair) (ts ts' : List Due)
        → Matched Numbers w.table (x.of ∷ []) (more x.val none) (more y.val none)
        → Stands two w g g' (o.pairs ++ xs) (due_of w.table x ++ ts) (due_of w.table y ++ ts') ys
        → Stands two w g g' xs (due_root i ∷ ts) (due_root i ∷ ts') ys
    after_root i x y o xs ys ts ts' m s =
        let (own, rest) = carried_parts two w g g' ys (home_pointers w.table x.home x.of x.val) (home_pointers w.table y.home y.of y.val) ts ts'
        (next_due x y o.of o.known o.known' m) s.carried_due in
        let value = value_carried ys x y o.of o.known m own in
        record {
          new = s.new ++ o.pairs;
          all = s.all ∙ sym (append_assoc s.new o.pairs xs);
          one = s.one;
          fit = s.fit;
          closed = all_append (IsClosed two w g g' ys) s.new o.pairs s.closed (o.closed ys value);
          carried_due = (
            o.whole ys (λ z a. subst (λ u. Among u z) (sym s.all) (among_right s.new (o.pairs ++ xs) z (among_left o.pairs xs z a))) value,
            rest,
          );
        }

    pub after_null : (p q : Pending) → p.cell ≡ None → q.cell ≡ None → (xs ys : List Pair) (ts ts' : List Due) → Stands two w g g' xs ts ts' ys
        → Stands two w g g' xs (due_referent p ∷ ts) (due_referent q ∷ ts') ys
    after_null p q e f xs ys ts ts' s = record {
      new = s.new;
      all = s.all;
      one = s.one;
      fit = s.fit;
      closed = s.closed;
      carried_due = (in_map two w g g' ys p q None None e f tt, s.carried_due);
    }

    pub after_standing : (p q : Pending) (c c' : ℕ) → p.cell ≡ Some c → q.cell ≡ Some c' → (z : Pair) → z.left ≡ c → z.right ≡ c' → (xs ys : List Pair)
        → Among xs z → (ts ts' : List Due) → Stands two w g g' xs ts ts' ys → Stands two w g g' xs (due_referent p ∷ ts) (due_referent q ∷ ts') ys
    after_standing p q c c' e f z l r xs ys a ts ts' s = record {
      new = s.new;
      all = s.all;
      one = s.one;
      fit = s.fit;
      closed = s.closed;
      carried_due = (
        in_map two w g g' ys p q (Some c) (Some c') e f (z, subst (λ u. Among u z) (sym s.all) (among_right s.new xs z a), l, r),
        s.carried_due,
      );
    }

    pub after_referent : (p q : Pending) (c c' : ℕ) → p.cell ≡ Some c → q.cell ≡ Some c' → p.to ≡ q.to → (z : Pair)
        → z ≡ record { class = p.class; of = p.to; left = c; right = c' } → (xs ys : List Pair) (ts ts' : List Due)
        → Known g w.table (p.to ∷ []) (more (cell_at g c) none) → Known g' w.table (p.to ∷ []) (more (cell_at g' c') none)
        → Matched Numbers w.table (p.to ∷ []) (more (cell_at g c) none) (more (cell_at g' c') none)
        → Stands two w g g' (z ∷ xs) (due_of w.table (standing_cell g p c) ++ ts) (due_of w.table (standing_cell g' q c') ++ ts') ys
        → Stands two w g g' xs (due_referent p ∷ ts) (due_referent q ∷ ts') ys
    after_referent p q c c' e f t z ez xs ys ts ts' a b m s =
        let x : Standing = standing_cell g p c in
        let y : Standing = standing_cell g' q c' in
        let (own, rest) = carried_parts two w g g' ys (home_pointers w.table x.home x.of x.val) (home_pointers w.table y.home y.of y.val) ts ts'
        (next_due x y t a b m) s.carried_due in
        let value : IsClosed two w g g' ys (record { class = p.class; of = p.to; left = c; right = c' }) = value_carried ys x y t a m own in
        let am : Among ys z = subst (λ u. Among u z) (sym s.all) (among_right s.new (z ∷ xs) z (inl refl)) in
        record {
          new = s.new ++ z ∷ [];
          all = s.all ∙ sym (append_assoc s.new (z ∷ []) xs);
          one = s.one;
          fit = s.fit;
          closed = all_append (IsClosed two w g g' ys) s.new (z ∷ []) s.closed (subst (IsClosed two w g g' ys) (sym ez) value, tt);
          carried_due = (
            in_map two w g g' ys p q (Some c) (Some c') e f (z, am, ap (λ u. u.left) ez, ap (λ u. u.right) ez),
            rest,
          );
        }
