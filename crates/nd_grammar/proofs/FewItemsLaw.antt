-- The items of a conforming graph's stream but gaps, and its cells, are together no more than the octets and the roots.
use Rattle.std.proofs.Common.{◌≡◌, ℕ, ◌+◌, ◌*◌, ◌-◌, ◌<◌, ◌≤◌, zero, suc, false, List, [], ◌∷◌, ◌++◌, length, Option, Some, None, refl, ap, sym, ◌∙◌, inl, inr, ◌⊎◌, arith, subst, drop}
use Rattle.std.specs.Prelude.{flat_map}
use Rattle.std.specs.List.{AllByRecursion, slice_get}
use Rattle.std.proofs.lemmas.Bool.{cases_lt}
use Rattle.std.proofs.lemmas.Option.{same_Some, slice_get-get_or}
use Rattle.nd_base.specs.declared.octets.Order.{Order}
use Rattle.nd_types.specs.declared.types.TypeId.{TypeId}
use Rattle.nd_types.specs.Table.{Table, type_at}
use Rattle.nd_types.specs.Roots.{Root}
use Rattle.nd_value.specs.declared.value.Graph.{Graph}
use Rattle.nd_value.specs.declared.item.Home.TheVariants as home
use Rattle.nd_value.specs.Tree as tree
use Rattle.nd_value.specs.Tree.{Tree, Trees, node, none, more}
use Rattle.nd_value.specs.Setting.{Setting, Among, root_list, root_at, or_unread}
use Rattle.nd_value.specs.Deferral.{Pending, home_pointers, due_root, due_roots, before_pipes, Step, Deferral, standing_root, standing_by, direct, root_type}
use Rattle.nd_value.specs.Conforms.{root_pointers, Conforms, Reached, by_root, by_cell}
use Rattle.nd_types.specs.declared.types.Class.TheVariants.{Ref}
use Rattle.nd_value.specs.Agreement.{Agreement, root_agreements}
use Rattle.nd_value.proofs.DeferralExists.{direct_is, direct_pointer}
use Rattle.nd_value.proofs.FewRoots.{few_before_pipes}
use Rattle.nd_grammar.specs.Entry.{Entry, end_of}
use Rattle.nd_grammar.specs.Items.{item_count}
use Rattle.nd_grammar.specs.LegalSide.{IsLegalSide}
use Rattle.nd_grammar.specs.Stream.{Represents, step_entries, root_tests, pipes_entries}
use Rattle.nd_grammar.proofs.next.Counting.{no_longer, down, length_down, down_distinct}
use Rattle.nd_grammar.proofs.conforming.GoodEntries.{HoldsNoPipe}
use Rattle.nd_grammar.proofs.conforming.GoodStream.{DueGood, roots_due}
use Rattle.nd_grammar.proofs.conforming.GoodTrees.{GoodTrees, good_roots}
use Rattle.nd_grammar.proofs.ItemSizes.{numbers, numbers_append, items_size}
use Rattle.nd_grammar.proofs.legal.LegalPipes.{holds_no_pipe, plain_before}
use Rattle.nd_grammar.proofs.LegalSides.{laid_out}
use Rattle.nd_grammar.proofs.next.Mapped.{pipe_pointers}
use Rattle.nd_grammar.proofs.next.NextStream.{IsLaidOut, IsPipeRoot, drop_at}
use Rattle.nd_lemmas.proofs.Lists.{all_at}
use Rattle.nd_grammar.proofs.Placed.{all_placed, few_placed, made, made_numbers, covered, DueCovered, Covers, among_split, own}

pub down_in : (n c : ℕ) → Among (down n) c → (0 < c) × (c ≤ n)
down_in zero c m = absurd m
down_in (suc n) c (inl e) = (omega arith, omega arith)
down_in (suc n) c (inr m) = let (a, b) = down_in n c m in (a, omega arith)

roots_length : (i n : ℕ) → length (due_roots i n) ≡ n
roots_length i zero = refl
roots_length i (suc n) = ap suc (roots_length (suc i) n)

-- a pointer of the roots is in one of them
root_pointer : (table : Table) (i : ℕ) (rs : List Root) (vs : List Tree) (p : Pending) → Among (root_pointers table i rs vs) p
    → (j : ℕ) × (r : Root) × (slice_get rs j ≡ Some r) × Among (home_pointers table (home.Root (i + j)) r.of (or_unread (slice_get vs j))) p
root_pointer table i [] vs p a = absurd a
root_pointer table i (r ∷ rs) [] p a = absurd a
root_pointer table i (r ∷ rs) (v ∷ vs) p a = go (among_split (home_pointers table (home.Root i) r.of v) (root_pointers table (i + 1) rs vs) p a) (root_pointer table (i + 1) rs vs p)
  where
    go : Among (home_pointers table (home.Root i) r.of v) p ⊎ Among (root_pointers table (i + 1) rs vs) p
        → (Among (root_pointers table (i + 1) rs vs) p
        → (j : ℕ) × (q : Root) × (slice_get rs j ≡ Some q) × Among (home_pointers table (home.Root (i + 1 + j)) q.of (or_unread (slice_get vs j))) p)
        → (j : ℕ) × (q : Root) × (slice_get (r ∷ rs) j ≡ Some q) × Among (home_pointers table (home.Root (i + j)) q.of (or_unread (slice_get (v ∷ vs) j))) p
    go (inl b) k = (0, r, refl, (let e : i ≡ i + 0 = omega arith in subst (λ u. Among (home_pointers table (home.Root u) r.of v) p) e b))
    go (inr b) k =
        let (j, q, e, m) = k b in
        let f : i + 1 + j ≡ i + suc j = omega arith in
        (suc j, q, e, subst (λ u. Among (home_pointers table (home.Root u) q.of (or_unread (slice_get vs j))) p) f m)

module _ (w : Setting) (side : IsLegalSide w) (g : Graph) (c : Conforms w g) where
  abbrev n : ℕ
  n = before_pipes (root_list w)

  none_inside : HoldsNoPipe w.table
  none_inside = holds_no_pipe w.table side.operations side.legal

  laid : IsLaidOut w
  laid = laid_out w side

  all_due : AllByRecursion (DueGood w none_inside g) (due_roots 0 n)
  all_due =
      roots_due w none_inside g c 0 n (λ j h. (
      let few : n ≤ length (root_list w) = few_before_pipes (root_list w) in
      let k : 0 + j < length (root_list w) = omega arith in
      let z : 0 + j < n = omega arith in
      let e = slice_get-get_or (root_list w) (0 + j) (record { of = 0; param = None; vars = []; is_pipe = false }) k in
      (_, e, plain_before w side (0 + j) _ e z)))

  module _ (steps : List Step) (d : Deferral w g [] (due_roots 0 n) steps) where
    root_covered : (i k : ℕ) → AllByRecursion (DueCovered w g [] steps) (due_roots i k) → (j : ℕ) → j < k → DueCovered w g [] steps (due_root (i + j))
    root_covered i zero a j h = absurd (omega arith)
    root_covered i (suc k) a zero h = let e : i ≡ i + 0 = omega arith in subst (λ u. DueCovered w g [] steps (due_root u)) e a.0
    root_covered i (suc k) a (suc j) h = let e : suc i + j ≡ i + suc j = omega arith in subst (λ u. DueCovered w g [] steps (due_root u)) e (root_covered (suc i) k a.1 j (omega arith))

    is_placed : (b : ℕ) → Covers w g [] steps b → Among (all_placed w g steps) b
    is_placed b (inl h) = absurd h
    is_placed b (inr a) = a

    -- the pointers of a root stand in its place, or the root is the pointer to the cell that does
    by_standing : (i t : ℕ) (l : tree.Label) (ks : Trees) (ags : List (List Agreement)) → GoodTrees w.table g (t ∷ []) ags (more (node l ks) none)
        → (o : Option (ℕ × ℕ)) → direct (type_at w.table t) (node l ks) ≡ o
        → ((p : Pending) → Among (home_pointers w.table (standing_by g i t (node l ks) o).home (standing_by g i t (node l ks) o).of (standing_by g i t (node l ks) o).val) p
        → (b : ℕ) → p.cell ≡ Some b → Covers w g [] steps b)
        → ((b : ℕ) → Among (own (standing_by g i t (node l ks) o).home) b → Covers w g [] steps b)
        → (p : Pending) → Among (home_pointers w.table (home.Root i) t (node l ks)) p → (b : ℕ) → p.cell ≡ Some b → Among (all_placed w g steps) b
    by_standing i t l ks ags a None e f k p m b h = is_placed b (f p m b h)
    by_standing i t l ks ags a (Some (q, u)) e f k p m b h =
        let (to, ed, el, eu) = direct_is (type_at w.table t) l ks q u e a.0.no_null in
        let only : home_pointers w.table (home.Root i) t (node l ks) ≡ record { home = home.Root i; node = 0; class = Ref; to = to.0; cell = Some q; agreements = [] } ∷ [] =
        ap (λ z. home_pointers w.table (home.Root i) t (node z ks)) el ∙ direct_pointer w.table (home.Root i) t q to ks ed in
        is_placed b (k b (only_one p q b to (subst (λ z. Among z p) only m) h))
      where
        only_one : (p : Pending) (q b : ℕ) (to : TypeId) → Among (record { home = home.Root i; node = 0; class = Ref; to = to.0; cell = Some q; agreements = [] } ∷ []) p
            → p.cell ≡ Some b → Among (q ∷ []) b
        only_one p q b to (inl e) h = inl (same_Some b q (sym h ∙ ap (λ z. z.cell) e))
        only_one p q b to (inr a) h = absurd a

    by_tree : (i t : ℕ) (v : Tree) (ags : List (List Agreement)) → GoodTrees w.table g (t ∷ []) ags (more v none)
        → ((p : Pending) → Among (home_pointers w.table (standing_by g i t v (direct (type_at w.table t) v)).home (standing_by g i t v (direct (type_at w.table t) v)).of
        (standing_by g i t v (direct (type_at w.table t) v)).val) p → (b : ℕ) → p.cell ≡ Some b → Covers w g [] steps b)
        → ((b : ℕ) → Among (own (standing_by g i t v (direct (type_at w.table t) v)).home) b → Covers w g [] steps b)
        → (p : Pending) → Among (home_pointers w.table (home.Root i) t v) p → (b : ℕ) → p.cell ≡ Some b → Among (all_placed w g steps) b
    by_tree i t (node l ks) ags a f k p m b h = by_standing i t l ks ags a (direct (type_at w.table t) (node l ks)) refl f k p m b h

    root_placed : (i : ℕ) (r : Root) → slice_get (root_list w) i ≡ Some r → (p : Pending) → Among (home_pointers w.table (home.Root i) r.of (root_at g i)) p
        → (b : ℕ) → p.cell ≡ Some b → Among (all_placed w g steps) b
    root_placed i r e p m b h = go (cases_lt i n)
      where
        of_plain : DueCovered w g [] steps (due_root i) → Among (all_placed w g steps) b
        of_plain a =
            let s : standing_root w g i ≡ standing_by g i r.of (root_at g i) (direct (type_at w.table r.of) (root_at g i)) =
            ap (λ t. standing_by g i t (root_at g i) (direct (type_at w.table t) (root_at g i))) (ap root_type e) in
            by_tree i r.of (root_at g i) (root_agreements w g r.vars ∷ []) (good_roots w g c i r e)
            (subst (λ x. (p : Pending) → Among (home_pointers w.table x.home x.of x.val) p → (b : ℕ) → p.cell ≡ Some b → Covers w g [] steps b) s a.0)
            (subst (λ x. (b : ℕ) → Among (own x.home) b → Covers w g [] steps b) s a.1) p m b h

        go : (i < n) ⊎ (n ≤ i) → Among (all_placed w g steps) b
        go (inl k) =
            let z : 0 + i ≡ i = omega arith in
            of_plain (subst (λ u. DueCovered w g [] steps (due_root u)) z (root_covered 0 n (covered w g none_inside c d all_due).0 i k))
        go (inr k) =
            let z : n + (i - n) ≡ i = omega arith in
            let q : IsPipeRoot w.table r = all_at (IsPipeRoot w.table) (drop n (root_list w)) (i - n) r laid.pipes (drop_at n (root_list w) (i - n) ∙ ap (slice_get (root_list w)) z ∙ e) in
            absurd (subst (λ u. Among u p) (pipe_pointers w.table (home.Root i) r.of q.elem (root_at g i) q.type_is (laid.elements r.of q.elem q.type_is)) m)

    reached_placed : (b : ℕ) → Reached w g b → Among (all_placed w g steps) b
    reached_placed b (by_root p a e) =
        let (j, r, f, m) = root_pointer w.table 0 (root_list w) g.roots p a in
        let z : 0 + j ≡ j = omega arith in
        root_placed j r f p (subst (λ u. Among (home_pointers w.table (home.Root u) r.of (or_unread (slice_get g.roots j))) p) z m) b e
    reached_placed b (by_cell {b = q} x p r ex a e) = is_placed b ((covered w g none_inside c d all_due).1 q (reached_placed q r) x ex p a b e)

    -- the cells are no more than the numbers of pointers and the roots
    pub few_cells : length g.cells ≤ n + numbers (flat_map (step_entries w g) steps)
    few_cells =
        let a : length (down (length g.cells)) ≤ length (all_placed w g steps) =
        no_longer (down (length g.cells)) (all_placed w g steps) (down_distinct (length g.cells)) (λ b m.
        (let (low, high) = down_in (length g.cells) b m in reached_placed b (c.reached b low (omega arith)))) in
        let b : length (all_placed w g steps) ≤ length (due_roots 0 n) + length (flat_map (made w g) steps) = few_placed w g d in
        let e = length_down (length g.cells) in
        let f = roots_length 0 n in
        let k = made_numbers w g steps in
        omega arith

-- The items but gaps, and the cells, are no more than the octets and the roots.
pub few_items : (w : Setting) → IsLegalSide w → (order : Order) (octets : List ℕ) (g : Graph) → Conforms w g → (r : Represents w order octets g)
    → item_count order octets r.entries + length g.cells ≤ length octets + length g.roots
few_items w side order octets g c r =
    let n : ℕ = before_pipes (root_list w) in
    let F : List Entry = flat_map (step_entries w g) r.stream.steps in
    let T : List Entry = root_tests w g 0 (root_list w) g.roots in
    let Q : List Entry = pipes_entries w.table n (drop n (root_list w)) (drop n g.roots) r.stream.cuts in
    let cells : length g.cells ≤ n + numbers F = few_cells w side g c r.stream.steps r.stream.deferral in
    let some : n ≤ length (root_list w) = few_before_pipes (root_list w) in
    let roots : length g.roots ≡ length (root_list w) = c.all_roots in
    let size : item_count order octets r.entries + 3 * numbers r.entries + 0 ≤ end_of 0 r.entries = items_size order octets 0 r.entries in
    let end : end_of 0 r.entries ≡ length octets = r.whole in
    let parts : numbers r.entries ≡ (numbers F + numbers T) + numbers Q =
    ap numbers r.stream.is_representation ∙ numbers_append (F ++ T) Q ∙ ap (λ u. u + numbers Q) (numbers_append F T) in
    omega arith
