-- The octets that are written for a conforming graph represent it.
use Rattle.std.proofs.Common.{◌≡◌, ℕ, ◌+◌, ◌-◌, ◌^◌, ◌<◌, ◌≤◌, zero, suc, Bool, true, false, List, [], ◌∷◌, ◌++◌, length, Option, Some, None, refl, ap, sym, ◌∙◌, inl, inr, ◌⊎◌, arith, subst}
use Rattle.std.proofs.Common.{replicate, drop}
use Rattle.std.specs.Prelude.{map, flat_map, sum, ltb}
use Rattle.std.specs.List.{AllByRecursion, slice_get}
use Rattle.std.proofs.lemmas.Option.{same_Some, slice_get-get_or, slice_get_within}
use Rattle.std.proofs.lemmas.Bool.{ltb-false}
use Rattle.nd_base.specs.declared.octets.Order.{Order}
use Rattle.nd_base.specs.declared.TheConstants.{STREAM_LIMIT}
use Rattle.nd_types.specs.declared.types.TypeDef.{TypeDef}
use Rattle.nd_types.specs.declared.types.TypeId.{TypeId}
use Rattle.nd_types.specs.declared.types.TypeDef.TheVariants as def
use Rattle.nd_types.specs.declared.types.Class.TheVariants.{Ref}
use Rattle.nd_types.specs.Table.{type_at}
use Rattle.nd_types.specs.Roots.{Root}
use Rattle.nd_value.specs.declared.value.Graph.{Graph}
use Rattle.nd_value.specs.declared.item.Home.{Home}
use Rattle.nd_value.specs.declared.item.Home.TheVariants as home
use Rattle.nd_value.specs.Tree as tree
use Rattle.nd_value.specs.Tree.{Tree, Trees, node, none, more, Label, Referent, count, node_count, take_trees, drop_trees}
use Rattle.nd_value.specs.Agreement.{Agreement, root_agreements}
use Rattle.nd_value.specs.Setting.{Setting, Among, root_list, root_at, or_unread, cell_home, cell_at, cell_tree, cell_of_number}
use Rattle.nd_value.specs.Nodes.{nodes_of, child_types}
use Rattle.nd_value.specs.Deferral.{Pending, pointer, home_pointers, Due, due_referent, due_roots, before_pipes, Step, root_stands, referent_stands, stands_already, Deferral, none_due, at_root}
use Rattle.nd_value.specs.Deferral.{at_null, at_standing, at_referent, Placed_cells, Standing, standing_root, standing_by, standing_cell, direct, root_type, due_of}
use Rattle.nd_value.specs.Conforms.{HomeNode, in_home, root_nodes, cell_nodes, all_nodes, Conforms}
use Rattle.nd_value.specs.Misfit.{has_shape, misfit_of, names_cell, names_pointee, has_machine_values}
use Rattle.nd_value.specs.Canon.{named, target, own_cell, step_names, named_cells, canonical_number, Same}
use Rattle.nd_value.proofs.Apart.{all_append, all_left, all_right, all_map, among_left, among_right}
use Rattle.nd_value.proofs.Orderly.{pointee_of_cell}
use Rattle.nd_value.proofs.NodeFacts.{IsFit, fit_node, all_of_list, sound_conforming}
use Rattle.nd_value.proofs.DeferralBridge.{deferral_is}
use Rattle.nd_value.proofs.DeferralLaws.{one_order}
use Rattle.nd_value.proofs.DeferralExists.{direct_is}
use Rattle.nd_grammar.specs.LegalSide.{IsLegalSide}
use Rattle.nd_grammar.specs.Entry.{Entry, full_cells, tests}
use Rattle.nd_grammar.specs.Stream.{step_entries, standing_entries, step_tests, root_tests, chunk_entries, chunks, Cuts, pipe_entries, pipes_entries, AllCut, kids_of, representation, Represents}
use Rattle.nd_grammar.specs.Stream.{Chosen, octets_from, pipe_cuts, cut_within}
use Rattle.nd_value.proofs.FewRoots.{few_before_pipes}
use Rattle.nd_grammar.proofs.OneGraph.{IsSpelled, one_spelled}
use Rattle.std.proofs.lemmas.List.{append-nil}
use Rattle.nd_grammar.proofs.conforming.GoodEntries.{HoldsNoPipe}
use Rattle.nd_grammar.specs.ReaderState.{IsNoPipe}
use Rattle.nd_grammar.proofs.conforming.GoodStream.{PendingGood, StandsGood, DueGood, standing_due, pending_cell, root_good, roots_due}
use Rattle.nd_grammar.proofs.legal.LegalPipes.{holds_no_pipe, plain_before}
use Rattle.nd_grammar.proofs.LegalSides.{laid_out}
use Rattle.nd_grammar.proofs.next.Mapped.{no_pointers}
use Rattle.nd_grammar.proofs.next.NextPipes.{sum_first, count_drop}
use Rattle.nd_grammar.proofs.next.NextStream.{IsPipeRoot, FitsPipes, drop_at}
use Rattle.nd_grammar.proofs.conforming.StreamConforming.{pipe_label as label_is}
use Rattle.nd_grammar.proofs.reader.EntriesFine.{Fine, FullOk, fine_tests, fine_whole, fine_in_place, full_fine}
use Rattle.nd_grammar.proofs.reader.ReaderTests.{IsTest, root_tests_are, tests_fine}
use Rattle.nd_grammar.proofs.written.CanonNumbers.{canon_range, canon_apart}
use Rattle.nd_grammar.proofs.written.WrittenEntries.{Counted, CanWrite, Writable, AreWritten, entries_written}
use Rattle.nd_grammar.proofs.written.WritableTrees.{IsWritable, WritableTrees, writable_trees, PointerCounted, writable_tests, in_place_writable, whole_writable}

-- the counts of chunks that are written
cut_sum : (fuel k n : ℕ) → 0 < k → n ≤ fuel → sum (cut_within fuel k n) ≡ n
cut_sum zero k n p h = omega arith
cut_sum (suc fuel) k zero p h = refl
cut_sum (suc fuel) k (suc n) p h = go (ltb (suc n) k) refl (cut_sum fuel k (suc n - k) p (omega arith))
  where
    go : (b : Bool) → ltb (suc n) k ≡ b → sum (cut_within fuel k (suc n - k)) ≡ suc n - k → sum (elim b [ true ↦ suc n ∷ [] | false ↦ k ∷ cut_within fuel k (suc n - k) ]) ≡ suc n
    go true e r = omega arith
    go false e r = let l : k ≤ suc n = ltb-false (suc n) k e in sum_first k (cut_within fuel k (suc n - k)) ∙ ap (λ u. k + u) r ∙ omega arith

cut_positive : (fuel k n : ℕ) → 0 < k → AllByRecursion (λ k. 0 < k) (cut_within fuel k n)
cut_positive zero k n p = tt
cut_positive (suc fuel) k zero p = tt
cut_positive (suc fuel) k (suc n) p = go (ltb (suc n) k) (cut_positive fuel k (suc n - k) p)
  where
    go : (b : Bool) → AllByRecursion (λ k. 0 < k) (cut_within fuel k (suc n - k)) → AllByRecursion (λ k. 0 < k) (elim b [ true ↦ suc n ∷ [] | false ↦ k ∷ cut_within fuel k (suc n - k) ])
    go true r = (omega arith, tt)
    go false r = (p, r)

pipes_cut : (k : ℕ) → 0 < k → (vs : List Tree) → AllCut vs (pipe_cuts k vs)
pipes_cut k p [] = tt
pipes_cut k p (v ∷ vs) =
    ((cut_sum (count (kids_of v)) k (count (kids_of v)) p (omega arith), cut_positive (count (kids_of v)) k (count (kids_of v)) p), pipes_cut k p vs)

-- a pointer's cell is one that its home names
pub of_named : (ps : List Pending) → (c : ℕ) → (p : Pending) → Among ps p → p.cell ≡ Some c → Among (flat_map (λ p. target p.cell) ps) c
of_named [] c p m e = absurd m
of_named (q ∷ ps) c p (inl f) e =
    among_left (target q.cell) (flat_map (λ p. target p.cell) ps) c (subst (λ o. Among (target o) c) (sym (ap (λ u. u.cell) (sym f) ∙ e)) (inl refl))
of_named (q ∷ ps) c p (inr m) e = among_right (target q.cell) (flat_map (λ p. target p.cell) ps) c (of_named ps c p m e)

pub all_members : {X : Type 0} (P : X → Type 0) (xs : List X) → ((x : X) → Among xs x → P x) → AllByRecursion P xs
all_members P [] f = tt
all_members P (x ∷ xs) f = (f x (inl refl), all_members P xs (λ y m. f y (inr m)))

module _ (w : Setting) (g : Graph) (P : ℕ → Type 0) where
  -- entries of steps are fine where the cells that they name are such ones
  standing_fine : (x : Standing) → ((c : ℕ) → Among (named w.table x) c → P c) → AllByRecursion (Fine P) (standing_entries w.table x)
  standing_fine x f =
      fine_whole P w.table x.home x.of x.val
      (all_members (FullOk P) (home_pointers w.table x.home x.of x.val) (λ p m c k e. f c (of_named (home_pointers w.table x.home x.of x.val) c p m e)))

  step_fine : (x : Step) → ((c : ℕ) → Among (step_names w g x) c → P c) → AllByRecursion (Fine P) (step_entries w g x)
  step_fine (root_stands i) f = standing_fine (standing_root w g i) (λ c m. f c (among_right (own_cell (standing_root w g i).home) (named w.table (standing_root w g i)) c m))
  step_fine (referent_stands p k) f =
      all_append (Fine P) (standing_entries w.table (standing_cell g p k)) (step_tests g p k) (standing_fine (standing_cell g p k) f) (fine_tests P (cell_home k) 0 (cell_at g k) p.agreements)
  step_fine (stands_already p k) f = fine_tests P (cell_home k) 0 (cell_at g k) p.agreements

  steps_fine : (steps : List Step) → ((c : ℕ) → Among (named_cells w g steps) c → P c) → AllByRecursion (Fine P) (flat_map (step_entries w g) steps)
  steps_fine [] f = tt
  steps_fine (x ∷ steps) f =
      all_append (Fine P) (step_entries w g x) (flat_map (step_entries w g) steps) (step_fine x (λ c m. f c (among_left (step_names w g x) (named_cells w g steps) c m)))
      (steps_fine steps (λ c m. f c (among_right (step_names w g x) (named_cells w g steps) c m)))

module _ (w : Setting) (side : IsLegalSide w) (g : Graph) (c : Conforms w g) where
  abbrev Node : HomeNode → Type 0
  Node x = IsWritable w.table g x.typed.of x.typed.label x.typed.kids

  both : (xs : List HomeNode) → AllByRecursion (λ x. misfit_of w.table g x.typed ≡ None) xs → AllByRecursion (λ x. has_machine_values x.typed.label ≡ true) xs → AllByRecursion Node xs
  both [] a b = tt
  both (x ∷ xs) a b = (record { fit = fit_node w.table g x.typed a.0; machine = b.0 }, both xs a.1 b.1)

  nodes : AllByRecursion Node (all_nodes w g)
  nodes = both (all_nodes w g) c.local (all_of_list (λ x. has_machine_values x.typed.label) (all_nodes w g) c.machine_values)

  by_cell : (n : ℕ) (xs : List Referent) → AllByRecursion Node (cell_nodes w.table n xs) → (i : ℕ) (x : Referent) → slice_get xs i ≡ Some x → WritableTrees w.table g (x.of ∷ []) (more x.val none)
  by_cell n [] a i x e = cc
  by_cell n (y ∷ ys) a zero x e =
      subst (λ u. WritableTrees w.table g (u.of ∷ []) (more u.val none)) (same_Some _ _ e)
      (writable_trees w.table g (y.of ∷ []) [] 0 (more y.val none) refl (all_map Node (in_home (cell_home n)) _ (all_left Node _ (cell_nodes w.table (n + 1) ys) a)))
  by_cell n (y ∷ ys) a (suc i) x e = by_cell (n + 1) ys (all_right Node _ (cell_nodes w.table (n + 1) ys) a) i x e

  by_root : (n : ℕ) (rs : List Root) (vs : List Tree) → length vs ≡ length rs → AllByRecursion Node (root_nodes w g n rs vs) → (i : ℕ) (r : Root) → slice_get rs i ≡ Some r
      → WritableTrees w.table g (r.of ∷ []) (more (or_unread (slice_get vs i)) none)
  by_root n [] vs e a i r f = cc
  by_root n (q ∷ rs) [] e a i r f = absurd (omega arith)
  by_root n (q ∷ rs) (v ∷ vs) e a zero r f =
      subst (λ u. WritableTrees w.table g (u.of ∷ []) (more v none)) (same_Some _ _ f)
      (writable_trees w.table g (q.of ∷ []) (root_agreements w g q.vars ∷ []) 0 (more v none) refl (all_map Node (in_home (home.Root n)) _ (all_left Node _ (root_nodes w g (n + 1) rs vs) a)))
  by_root n (q ∷ rs) (v ∷ vs) e a (suc i) r f = by_root (n + 1) rs vs (omega arith) (all_right Node _ (root_nodes w g (n + 1) rs vs) a) i r f

  w_cells : (k : ℕ) (x : Referent) → cell_of_number g k ≡ Some x → WritableTrees w.table g (x.of ∷ []) (more x.val none)
  w_cells zero x e = cc
  w_cells (suc i) x e = by_cell 1 g.cells (all_right Node (root_nodes w g 0 (root_list w) g.roots) (cell_nodes w.table 1 g.cells) nodes) i x e

  pub w_roots : (i : ℕ) (r : Root) → slice_get (root_list w) i ≡ Some r → WritableTrees w.table g (r.of ∷ []) (more (root_at g i) none)
  w_roots i r e = by_root 0 (root_list w) g.roots c.all_roots (all_left Node (root_nodes w g 0 (root_list w) g.roots) (cell_nodes w.table 1 g.cells) nodes) i r e

  cell_typed : (t k : ℕ) (x : Referent) → cell_of_number g k ≡ Some x → x.of ≡ t → WritableTrees w.table g (t ∷ []) (more (cell_at g k) none)
  cell_typed t k x e f =
      subst (λ u. WritableTrees w.table g (t ∷ []) (more u none)) (sym (ap cell_tree e)) (subst (λ u. WritableTrees w.table g (u ∷ []) (more x.val none)) f (w_cells k x e))

  pub none_inside : HoldsNoPipe w.table
  none_inside = holds_no_pipe w.table side.operations side.legal

  pending_w : (p : Pending) → PendingGood w none_inside g p → (k : ℕ) → p.cell ≡ Some k → WritableTrees w.table g (p.to ∷ []) (more (cell_at g k) none)
  pending_w p s k e = let (x, ex, et) = s.pointee k e in cell_typed p.to k x ex et

  root_by : (i t : ℕ) (l : Label) (ks : Trees) → WritableTrees w.table g (t ∷ []) (more (node l ks) none) → (o : Option (ℕ × ℕ)) → direct (type_at w.table t) (node l ks) ≡ o
      → WritableTrees w.table g ((standing_by g i t (node l ks) o).of ∷ []) (more (standing_by g i t (node l ks) o).val none)
  root_by i t l ks a None e = a
  root_by i t l ks a (Some (b, u)) e =
      let f : IsFit w.table g t l ks = a.0.fit in
      let (to, ed, el, eu) = direct_is (type_at w.table t) l ks b u e f.no_null in
      let f1 : names_cell g (tree.Ptr (Some b)) ≡ true = subst (λ q. names_cell g q ≡ true) el f.cell in
      let f2 : names_pointee g (Some (def.Pointer Ref to)) (tree.Ptr (Some b)) ≡ true = subst (λ q. names_pointee g q (tree.Ptr (Some b)) ≡ true) ed
      (subst (λ q. names_pointee g (type_at w.table t) q ≡ true) el f.pointee) in
      let (x, ex, et) = pointee_of_cell g Ref to b f1 f2 in
      cell_typed u b x ex (et ∙ sym eu)

  root_tree : (i t : ℕ) (v : Tree) → WritableTrees w.table g (t ∷ []) (more v none)
      → WritableTrees w.table g ((standing_by g i t v (direct (type_at w.table t) v)).of ∷ []) (more (standing_by g i t v (direct (type_at w.table t) v)).val none)
  root_tree i t (node l ks) a = root_by i t l ks a (direct (type_at w.table t) (node l ks)) refl

  root_w : (i : ℕ) (r : Root) → slice_get (root_list w) i ≡ Some r → WritableTrees w.table g ((standing_root w g i).of ∷ []) (more (standing_root w g i).val none)
  root_w i r e =
      subst (λ t. WritableTrees w.table g ((standing_by g i t (root_at g i) (direct (type_at w.table t) (root_at g i))).of ∷ [])
      (more (standing_by g i t (root_at g i) (direct (type_at w.table t) (root_at g i))).val none))
      (sym (ap root_type e)) (root_tree i r.of (root_at g i) (w_roots i r e))

  module _ (nums : ℕ → ℕ) where
    abbrev Can : Entry → Type 0
    Can = Writable nums

    standing_can : (x : Standing) → IsNoPipe w.table x.of → WritableTrees w.table g (x.of ∷ []) (more x.val none) → ((k : ℕ) → Among (named w.table x) k → Counted nums k)
        → AllByRecursion (Writable nums) (standing_entries w.table x)
    standing_can x p t f =
        whole_writable w.table side.operations side.legal none_inside g nums x.home x.of x.val p t
        (all_members (PointerCounted w.table side.operations side.legal none_inside g nums) (home_pointers w.table x.home x.of x.val)
        (λ q m k e. f k (of_named (home_pointers w.table x.home x.of x.val) k q m e)))

    tests_can : (h : Home) (n : ℕ) (t : Tree) (ags : List Agreement) → AllByRecursion (Writable nums) (tests h n t ags)
    tests_can h n t ags = writable_tests w.table side.operations side.legal none_inside g nums h n t ags

    steps_can : {done : Placed_cells} {due : List Due} {steps : List Step} → Deferral w g done due steps → AllByRecursion (DueGood w none_inside g) due
        → ((k : ℕ) → Among (named_cells w g steps) k → Counted nums k) → AllByRecursion (Writable nums) (flat_map (step_entries w g) steps)
    steps_can none_due a f = tt
    steps_can (at_root {i = i} {due = due} {steps = steps} fr d) a f =
        let (r, e, p) = a.0 in
        let x : Standing = standing_root w g i in
        let s : StandsGood w none_inside g x = root_good w none_inside g c i r e p in
        let own : List ℕ = own_cell x.home ++ named w.table x in
        all_append Can (standing_entries w.table x) (flat_map (step_entries w g) steps)
        (standing_can x s.no_pipe (root_w i r e) (λ k m. f k (among_left own (named_cells w g steps) k (among_right (own_cell x.home) (named w.table x) k m))))
        (steps_can d (all_append (DueGood w none_inside g) (due_of w.table x) due (standing_due w none_inside g x s) a.1) (λ k m. f k (among_right own (named_cells w g steps) k m)))
    steps_can (at_null e d) a f = steps_can d a.1 f
    steps_can (at_standing {p = p} {steps = steps} k e full h d) a f =
        all_append Can (step_tests g p k) (flat_map (step_entries w g) steps) (tests_can (cell_home k) 0 (cell_at g k) p.agreements) (steps_can d a.1 f)
    steps_can (at_referent {p = p} {due = due} {steps = steps} k e n d) a f =
        let x : Standing = standing_cell g p k in
        let s : StandsGood w none_inside g x = pending_cell w none_inside g c p a.0 k e in
        let own : List ℕ = named w.table x in
        all_append Can (standing_entries w.table x ++ step_tests g p k) (flat_map (step_entries w g) steps)
        (all_append Can (standing_entries w.table x) (step_tests g p k) (standing_can x s.no_pipe (pending_w p a.0 k e) (λ q m. f q (among_left own (named_cells w g steps) q m)))
        (tests_can (cell_home k) 0 (cell_at g k) p.agreements))
        (steps_can d (all_append (DueGood w none_inside g) (due_of w.table x) due (standing_due w none_inside g x s) a.1) (λ q m. f q (among_right own (named_cells w g steps) q m)))

    tests_writable : (ms : List Entry) → AllByRecursion IsTest ms → AllByRecursion (Writable nums) ms
    tests_writable [] a = tt
    tests_writable (m ∷ ms) a = let (q, x, y, e) = a.0 in (subst (CanWrite nums) (sym e) tt, tests_writable ms a.1)

    -- the chunks of a pipe
    many_of : (P : ℕ → Type 0) (t k : ℕ) → P t → AllByRecursion P (replicate k t)
    many_of P t zero a = tt
    many_of P t (suc k) a = (a, many_of P t k a)

    take_w : (e k : ℕ) (ts : Trees) → k ≤ count ts → WritableTrees w.table g (replicate (count ts) e) ts → WritableTrees w.table g (replicate k e) (take_trees k ts)
    take_w e zero ts h a = tt
    take_w e (suc k) none h a = absurd (omega arith)
    take_w e (suc k) (more (node l ks) ts) h a = (a.0, a.1, take_w e k ts (omega arith) a.2)

    drop_w : (e k : ℕ) (ts : Trees) → WritableTrees w.table g (replicate (count ts) e) ts → WritableTrees w.table g (replicate (count (drop_trees k ts)) e) (drop_trees k ts)
    drop_w e zero ts a = a
    drop_w e (suc k) none a = tt
    drop_w e (suc k) (more (node l ks) ts) a = drop_w e k ts a.2

    chunks_can : (h : Home) (t : ℕ) (e : TypeId) → type_at w.table t ≡ Some (def.Pipe e) → (n : ℕ) (cut : List ℕ) (ts : Trees) → sum cut ≡ count ts → count ts < 2 ^ 32
        → WritableTrees w.table g (replicate (count ts) e.0) ts → AllByRecursion (Writable nums) (chunks w.table h e.0 n cut ts)
    chunks_can h t e et n [] ts s b a = (tt, (omega arith, tt))
    chunks_can h t e et n (k ∷ cut) ts s b a =
        let total : k + sum cut ≡ count ts = sym (sum_first k cut) ∙ s in
        let low : k ≤ count ts = omega arith in
        let cd : count (drop_trees k ts) + k ≡ count ts = count_drop k ts low in
        let T : Trees = take_trees k ts in
        let no_p : flat_map (pointer w.table h) (nodes_of w.table (replicate k e.0) [] n T) ≡ [] =
        no_pointers w.table h (replicate k e.0) [] n T (many_of _ e.0 k ((laid_out w side).elements t e et)) in
        all_append Can (chunk_entries w.table h e.0 n k T) (chunks w.table h e.0 (n + node_count T) cut (drop_trees k ts)) (
          tt,
          (
            omega arith,
            in_place_writable w.table side.operations side.legal none_inside g nums h (replicate k e.0) [] n T (many_of (IsNoPipe w.table) e.0 k (none_inside.element t e et)) (take_w e.0 k ts low a)
                (subst (AllByRecursion (PointerCounted w.table side.operations side.legal none_inside g nums)) (sym no_p) tt),
          ),
        )
        (chunks_can h t e et (n + node_count T) cut (drop_trees k ts) (omega arith) (omega arith) (drop_w e.0 k ts a))

    pipe_can : (h : Home) (t : ℕ) (e : TypeId) (l : Label) (ks : Trees) (cut : List ℕ) → type_at w.table t ≡ Some (def.Pipe e) → (d : Option TypeDef) → d ≡ Some (def.Pipe e) → l ≡ tree.Pipe
        → Cuts (count ks) cut → count ks < 2 ^ 32 → WritableTrees w.table g (replicate (count ks) e.0) ks → AllByRecursion (Writable nums) (pipe_entries w.table h d cut (node l ks))
    pipe_can h t e l ks cut et d ed el cuts b a =
        subst (λ u. AllByRecursion (Writable nums) (pipe_entries w.table h u cut (node l ks))) (sym ed)
        (subst (λ u. AllByRecursion (Writable nums) (pipe_entries w.table h (Some (def.Pipe e)) cut (node u ks))) (sym el) (chunks_can h t e et 1 cut ks cuts.0 b a))

    count_few : (ks : Trees) → count ks ≤ node_count ks
    count_few none = omega arith
    count_few (more (node l kids) ts) = let a = count_few ts in omega arith

    -- the pipes
    one_pipe : (h : Home) (r : Root) (l : Label) (ks : Trees) (cut : List ℕ) → IsPipeRoot w.table r → WritableTrees w.table g (r.of ∷ []) (more (node l ks) none) → Cuts (count ks) cut
        → node_count (more (node l ks) none) < 2 ^ 32 → AllByRecursion (Writable nums) (pipe_entries w.table h (type_at w.table r.of) cut (node l ks))
    one_pipe h r l ks cut q a cuts b =
        let e : l ≡ tree.Pipe = label_is q.elem l ks (subst (λ d. has_shape d l ks ≡ true) q.type_is a.0.fit.shape) in
        let k : count ks ≤ node_count ks = count_few ks in
        let m : WritableTrees w.table g (replicate (count ks) q.elem.0) ks =
        subst (λ d. WritableTrees w.table g (child_types d tree.Pipe ks) ks) q.type_is (subst (λ u. WritableTrees w.table g (child_types (type_at w.table r.of) u ks) ks) e a.1) in
        pipe_can h r.of q.elem l ks cut q.type_is (type_at w.table r.of) q.type_is e cuts (omega arith) m

    pipes_can : (i : ℕ) (rs : List Root) (vs : List Tree) (cuts : List (List ℕ)) → AllByRecursion (IsPipeRoot w.table) rs → AllCut vs cuts
        → ((j : ℕ) (r : Root) → slice_get rs j ≡ Some r → WritableTrees w.table g (r.of ∷ []) (more (or_unread (slice_get vs j)) none))
        → AllByRecursion (λ t. node_count (more t none) < 2 ^ 32) vs → AllByRecursion (Writable nums) (pipes_entries w.table i rs vs cuts)
    pipes_can i [] vs cuts p k f b = tt
    pipes_can i (r ∷ rs) [] cuts p k f b = tt
    pipes_can i (r ∷ rs) (v ∷ vs) [] p k f b = tt
    pipes_can i (r ∷ rs) (node l ks ∷ vs) (cut ∷ cuts) p k f b =
        all_append Can (pipe_entries w.table (home.Root i) (type_at w.table r.of) cut (node l ks)) (pipes_entries w.table (i + 1) rs vs cuts)
        (one_pipe (home.Root i) r l ks cut p.0 (f 0 r refl) k.0 b.0) (pipes_can (i + 1) rs vs cuts p.1 k.1 (λ j q e. f (suc j) q e) b.1)

  -- pipes name no cells
  module _ (P : ℕ → Type 0) where
    chunks_fine : (h : Home) (t : ℕ) (e : TypeId) → type_at w.table t ≡ Some (def.Pipe e) → (n : ℕ) (cut : List ℕ) (ts : Trees) → AllByRecursion (Fine P) (chunks w.table h e.0 n cut ts)
    chunks_fine h t e et n [] ts = (inr (inr (inl refl)), (tt, tt))
    chunks_fine h t e et n (k ∷ cut) ts =
        let T : Trees = take_trees k ts in
        let no_p : flat_map (pointer w.table h) (nodes_of w.table (replicate k e.0) [] n T) ≡ [] = no_pointers w.table h (replicate k e.0) [] n T (fits k) in
        all_append (Fine P) (chunk_entries w.table h e.0 n k T) (chunks w.table h e.0 (n + node_count T) cut (drop_trees k ts))
        (inr (inr (inl refl)), (tt, fine_in_place P w.table h (replicate k e.0) [] n T (subst (AllByRecursion (FullOk P)) (sym no_p) tt)))
        (chunks_fine h t e et (n + node_count T) cut (drop_trees k ts))
      where
        fits : (k : ℕ) → AllByRecursion (FitsPipes w.table) (replicate k e.0)
        fits zero = tt
        fits (suc k) = ((laid_out w side).elements t e et, fits k)

    pipe_fine : (h : Home) (r : Root) (l : Label) (ks : Trees) (cut : List ℕ) → IsPipeRoot w.table r → AllByRecursion (Fine P) (pipe_entries w.table h (type_at w.table r.of) cut (node l ks))
    pipe_fine h r l ks cut q = subst (λ d. AllByRecursion (Fine P) (pipe_entries w.table h d cut (node l ks))) (sym q.type_is) (by_label l)
      where
        by_label : (l : Label) → AllByRecursion (Fine P) (pipe_entries w.table h (Some (def.Pipe q.elem)) cut (node l ks))
        by_label tree.Pipe = chunks_fine h r.of q.elem q.type_is 1 cut ks
        by_label (tree.Num z) = (tt, tt)
        by_label tree.Rec = (tt, tt)
        by_label (tree.Arr a b) = (tt, tt)
        by_label (tree.Text a b) = (tt, tt)
        by_label (tree.Union a) = (tt, tt)
        by_label (tree.Ptr a) = (tt, tt)
        by_label (tree.Context a b) = (tt, tt)
        by_label tree.Unread = (tt, tt)

    pipes_fine : (i : ℕ) (rs : List Root) (vs : List Tree) (cuts : List (List ℕ)) → AllByRecursion (IsPipeRoot w.table) rs → AllByRecursion (Fine P) (pipes_entries w.table i rs vs cuts)
    pipes_fine i [] vs cuts p = tt
    pipes_fine i (r ∷ rs) [] cuts p = tt
    pipes_fine i (r ∷ rs) (v ∷ vs) [] p = tt
    pipes_fine i (r ∷ rs) (node l ks ∷ vs) (cut ∷ cuts) p =
        all_append (Fine P) (pipe_entries w.table (home.Root i) (type_at w.table r.of) cut (node l ks)) (pipes_entries w.table (i + 1) rs vs cuts)
        (pipe_fine (home.Root i) r l ks cut p.0) (pipes_fine (i + 1) rs vs cuts p.1)

  -- the cells that are named are cells of the graph
  abbrev pub Within : ℕ → Type 0
  Within k = (0 < k) × (k ≤ length g.cells)

  pub cell_within : (k : ℕ) (x : Referent) → cell_of_number g k ≡ Some x → Within k
  cell_within zero x e = cc
  cell_within (suc i) x e = let b = slice_get_within g.cells i x e in (omega arith, omega arith)

  target_within : (o : Option ℕ) → ((k : ℕ) → o ≡ Some k → Within k) → (k : ℕ) → Among (target o) k → Within k
  target_within None f k m = absurd m
  target_within (Some b) f k (inl e) = f k (ap Some (sym e))
  target_within (Some b) f k (inr m) = absurd m

  pub split_among : (xs ys : List ℕ) (k : ℕ) → Among (xs ++ ys) k → Among xs k ⊎ Among ys k
  split_among [] ys k m = inr m
  split_among (x ∷ xs) ys k (inl e) = inl (inl e)
  split_among (x ∷ xs) ys k (inr m) = go (split_among xs ys k m)
    where
      go : Among xs k ⊎ Among ys k → Among (x ∷ xs) k ⊎ Among ys k
      go (inl a) = inl (inr a)
      go (inr a) = inr a

  either_within : (k : ℕ) {A B : Type 0} → A ⊎ B → (A → Within k) → (B → Within k) → Within k
  either_within k (inl a) f h = f a
  either_within k (inr b) f h = h b

  named_within : (ps : List Pending) → AllByRecursion (DueGood w none_inside g) (map due_referent ps) → (k : ℕ) → Among (flat_map (λ p. target p.cell) ps) k → Within k
  named_within [] a k m = absurd m
  named_within (p ∷ ps) a k m =
      either_within k (split_among (target p.cell) (flat_map (λ p. target p.cell) ps) k m)
      (λ b. target_within p.cell (λ j e. (let (x, ex, et) = a.0.pointee j e in cell_within j x ex)) k b) (λ b. named_within ps a.1 k b)

  pub own_by : (i t : ℕ) (l : Label) (ks : Trees) → WritableTrees w.table g (t ∷ []) (more (node l ks) none) → (o : Option (ℕ × ℕ)) → direct (type_at w.table t) (node l ks) ≡ o
      → (k : ℕ) → Among (own_cell (standing_by g i t (node l ks) o).home) k → Within k
  own_by i t l ks a None e k m = absurd m
  own_by i t l ks a (Some (b, u)) e k (inr m) = absurd m
  own_by i t l ks a (Some (b, u)) e k (inl h) =
      let f : IsFit w.table g t l ks = a.0.fit in
      let (to, ed, el, eu) = direct_is (type_at w.table t) l ks b u e f.no_null in
      let f1 : names_cell g (tree.Ptr (Some b)) ≡ true = subst (λ q. names_cell g q ≡ true) el f.cell in
      let f2 : names_pointee g (Some (def.Pointer Ref to)) (tree.Ptr (Some b)) ≡ true = subst (λ q. names_pointee g q (tree.Ptr (Some b)) ≡ true) ed
      (subst (λ q. names_pointee g (type_at w.table t) q ≡ true) el f.pointee) in
      let (x, ex, et) = pointee_of_cell g Ref to b f1 f2 in
      subst (λ j. (0 < j) × (j ≤ length g.cells)) (sym h) (cell_within b x ex)

  own_tree : (i t : ℕ) (v : Tree) → WritableTrees w.table g (t ∷ []) (more v none) → (k : ℕ) → Among (own_cell (standing_by g i t v (direct (type_at w.table t) v)).home) k → Within k
  own_tree i t (node l ks) a k m = own_by i t l ks a (direct (type_at w.table t) (node l ks)) refl k m

  pub own_within : (i : ℕ) (r : Root) → slice_get (root_list w) i ≡ Some r → (k : ℕ) → Among (own_cell (standing_root w g i).home) k → Within k
  own_within i r e k m =
      own_tree i r.of (root_at g i) (w_roots i r e) k
      (subst (λ t. Among (own_cell (standing_by g i t (root_at g i) (direct (type_at w.table t) (root_at g i))).home) k) (ap root_type e) m)

  pub steps_within : {done : Placed_cells} {due : List Due} {steps : List Step} → Deferral w g done due steps → AllByRecursion (DueGood w none_inside g) due
      → (k : ℕ) → Among (named_cells w g steps) k → Within k
  steps_within none_due a k m = absurd m
  steps_within (at_root {i = i} {due = due} {steps = steps} fr d) a k m =
      let (r, e, p) = a.0 in
      let x : Standing = standing_root w g i in
      let s : StandsGood w none_inside g x = root_good w none_inside g c i r e p in
      let sd : AllByRecursion (DueGood w none_inside g) (due_of w.table x) = standing_due w none_inside g x s in
      either_within k (split_among (own_cell x.home ++ named w.table x) (named_cells w g steps) k m)
      (λ b. either_within k (split_among (own_cell x.home) (named w.table x) k b) (λ q. own_within i r e k q) (λ q. named_within (home_pointers w.table x.home x.of x.val) sd k q))
      (λ b. steps_within d (all_append (DueGood w none_inside g) (due_of w.table x) due sd a.1) k b)
  steps_within (at_null e d) a k m = steps_within d a.1 k m
  steps_within (at_standing b e full h d) a k m = steps_within d a.1 k m
  steps_within (at_referent {p = p} {due = due} {steps = steps} b e n d) a k m =
      let x : Standing = standing_cell g p b in
      let s : StandsGood w none_inside g x = pending_cell w none_inside g c p a.0 b e in
      let sd : AllByRecursion (DueGood w none_inside g) (due_of w.table x) = standing_due w none_inside g x s in
      either_within k (split_among (named w.table x) (named_cells w g steps) k m) (λ q. named_within (home_pointers w.table x.home x.of x.val) sd k q)
      (λ q. steps_within d (all_append (DueGood w none_inside g) (due_of w.table x) due sd a.1) k q)

  abbrev pub n : ℕ
  n = before_pipes (root_list w)

  pub dues : AllByRecursion (DueGood w none_inside g) (due_roots 0 n)
  dues = roots_due w none_inside g c 0 n (λ j h. (
      let k : 0 + j < length (root_list w) = omega (arith, h, few_before_pipes (root_list w)) in
      let z : 0 + j < n = omega arith in
      let e = slice_get-get_or (root_list w) (0 + j) (record { of = 0; param = None; vars = []; is_pipe = false }) k in
      (_, e, plain_before w side (0 + j) _ e z)))

  dropped : {X : Type 0} (P : X → Type 0) (k : ℕ) (xs : List X) → AllByRecursion P xs → AllByRecursion P (drop k xs)
  dropped P zero xs a = a
  dropped P (suc k) [] a = tt
  dropped P (suc k) (x ∷ xs) a = dropped P k xs a.1

  module _ (order : Order) (chunk : ℕ) (positive : 0 < chunk) (octets : List ℕ) (o : Chosen w order chunk g octets) where
    abbrev ds : List ℕ
    ds = named_cells w g o.steps

    abbrev nums : ℕ → ℕ
    nums = canonical_number ds

    abbrev cuts : List (List ℕ)
    cuts = pipe_cuts chunk (drop n g.roots)

    abbrev ms : List Entry
    ms = representation w g o.steps cuts

    abbrev F : List Entry
    F = flat_map (step_entries w g) o.steps

    abbrev T : List Entry
    T = root_tests w g 0 (root_list w) g.roots

    abbrev Q : List Entry
    Q = pipes_entries w.table n (drop n (root_list w)) (drop n g.roots) cuts

    counted : (k : ℕ) → Among ds k → Counted nums k
    counted k m =
        let (a, b) = canon_range (length g.cells) ds (λ d h. steps_within o.deferral dues d h) k m in
        (a, omega (arith, b, c.few_cells))

    pipe_roots : AllByRecursion (IsPipeRoot w.table) (drop n (root_list w))
    pipe_roots = (laid_out w side).pipes

    all_cut : AllCut (drop n g.roots) cuts
    all_cut = pipes_cut chunk positive (drop n g.roots)

    can_all : AllByRecursion (Writable nums) ms
    can_all =
        all_append (Writable nums) (F ++ T) Q
        (all_append (Writable nums) F T (steps_can nums o.deferral dues counted) (tests_writable nums T (root_tests_are w g 0 (root_list w) g.roots)))
        (pipes_can nums n (drop n (root_list w)) (drop n g.roots) cuts pipe_roots all_cut
        (λ j r e. subst (λ u. WritableTrees w.table g (r.of ∷ []) (more (or_unread u) none)) (sym (drop_at n g.roots j)) (w_roots (n + j) r (sym (drop_at n (root_list w) j) ∙ e)))
        (dropped (λ t. node_count (more t none) < 2 ^ 32) n g.roots (all_left (λ t. node_count (more t none) < 2 ^ 32) g.roots (map (λ c. c.val) g.cells) c.few_nodes)))

    fine_all : AllByRecursion (Fine (Among ds)) ms
    fine_all =
        all_append (Fine (Among ds)) (F ++ T) Q
        (all_append (Fine (Among ds)) F T (steps_fine w g (Among ds) o.steps (λ k m. m)) (tests_fine (Among ds) T (root_tests_are w g 0 (root_list w) g.roots)))
        (pipes_fine (Among ds) n (drop n (root_list w)) (drop n g.roots) cuts pipe_roots)

    full_named : (k : ℕ) → Among (full_cells ms) k → Among ds k
    full_named k m = full_fine (Among ds) ms fine_all k m

    written : AreWritten order nums octets 0 ms
    written = subst (λ u. AreWritten order nums u 0 ms) (sym o.written) (entries_written order nums 0 ms [] refl can_all)

    -- The octets that are written for a graph are a stream of it.
    pub chosen_spelled : IsSpelled w order octets g
    chosen_spelled = record {
      entries = ms;
      stream = record { steps = o.steps; cuts = cuts; deferral = o.deferral; all_cut = all_cut; is_representation = refl };
      numbering = nums;
      is_numbering = record {
        in_range = λ k m. counted k (full_named k m);
        one_to_one = λ a b m k e. canon_apart ds a b (full_named a m) (full_named b k) e;
      };
      rendered = written.rendered;
      whole = sym written.ends;
    }

    -- Within the limit they represent it.
    pub chosen_represents : length octets ≤ STREAM_LIMIT → Represents w order octets g
    chosen_represents fits =
        let r : IsSpelled w order octets g = chosen_spelled in
        record { entries = r.entries; stream = r.stream; numbering = r.numbering; is_numbering = r.is_numbering; rendered = r.rendered; whole = r.whole; within = fits }

-- Graphs for which the same octets are written are the same.
pub chosen_apart : (w : Setting) → IsLegalSide w → (order : Order) (chunk other : ℕ) (octets : List ℕ) (g h : Graph) → 0 < chunk → 0 < other → Conforms w g → Conforms w h
    → Chosen w order chunk g octets → Chosen w order other h octets → Same g h
chosen_apart w side order chunk other octets g h p q c k o u =
    (one_spelled w side order octets [] g h c k (subst (λ x. IsSpelled w order x g) (sym (append-nil octets)) (chosen_spelled w side g c order chunk p octets o))
    (chosen_spelled w side h k order other q octets u)).1

-- Some octets are written for each conforming graph.
pub chosen_exists : (w : Setting) (order : Order) (chunk : ℕ) (g : Graph) → Conforms w g → (octets : List ℕ) × Chosen w order chunk g octets
chosen_exists w order chunk g c =
    let (steps, d) = deferral_is w g (sound_conforming w g c) in
    (_, record { steps = steps; deferral = d; written = refl })

-- There are no others.
pub chosen_alone : (w : Setting) (order : Order) (chunk : ℕ) (g : Graph) (octets other : List ℕ) → Chosen w order chunk g octets → Chosen w order chunk g other → octets ≡ other
chosen_alone w order chunk g octets other o u =
    o.written
    ∙ ap (λ s. octets_from order (canonical_number (named_cells w g s)) 0 (representation w g s (pipe_cuts chunk (drop (before_pipes (root_list w)) g.roots)))) (one_order w g o.deferral u.deferral)
    ∙ sym u.written
