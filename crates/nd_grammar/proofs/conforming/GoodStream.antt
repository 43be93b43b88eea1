-- The entries of a conforming graph's stream are good ones.
use Rattle.std.proofs.Common.{◌≡◌, ℕ, ◌+◌, ◌<◌, ◌≤◌, zero, suc, true, false, List, [], ◌∷◌, ◌++◌, length, Option, Some, None, refl, ap, sym, ◌∙◌, arith, subst, replicate, drop}
use Rattle.std.specs.Prelude.{flat_map, map, sum}
use Rattle.std.specs.List.{AllByRecursion, slice_get}
use Rattle.std.proofs.lemmas.Grind.{flat_map-append}
use Rattle.std.proofs.lemmas.Option.{same_Some, slice_get-get_or}
use Rattle.nd_types.specs.declared.types.TypeDef.{TypeDef}
use Rattle.nd_types.specs.declared.types.TypeId.{TypeId}
use Rattle.nd_types.specs.declared.types.TypeDef.TheVariants as def
use Rattle.nd_types.specs.Table.{type_at}
use Rattle.nd_types.specs.Roots.{Root}
use Rattle.nd_value.specs.declared.value.Graph.{Graph}
use Rattle.nd_value.specs.declared.item.Home.{Home}
use Rattle.nd_value.specs.declared.item.Home.TheVariants as home
use Rattle.nd_value.specs.Tree as tree
use Rattle.nd_value.specs.Tree.{Tree, Trees, node, none, more, Label, Referent, count, node_count, is_pointer, cell_in, take_trees, drop_trees}
use Rattle.nd_value.specs.Agreement.{Agreement, root_agreements}
use Rattle.nd_value.specs.Setting.{Setting, root_list, root_at, or_unread, cell_at, cell_tree, cell_of_number, cell_home}
use Rattle.nd_value.specs.Nodes.{TypedNode, nodes_of, child_types, child_agreements, first_agreements, rest_agreements}
use Rattle.nd_value.specs.Deferral.{Pending, pointer, pointer_by, home_pointers, Due, due_root, due_referent, due_roots, before_pipes, Step, Deferral, none_due, at_root, at_null, at_standing}
use Rattle.nd_value.specs.Deferral.{at_referent, Placed_cells, Standing, standing_root, standing_by, standing_cell, root_type, direct, due_of}
use Rattle.nd_types.specs.declared.types.Class.TheVariants.{Ref}
use Rattle.nd_value.specs.Misfit.{names_cell, names_pointee, has_shape}
use Rattle.nd_value.specs.Conforms.{Conforms, IsAgreed}
use Rattle.nd_value.proofs.Apart.{all_append}
use Rattle.nd_value.proofs.Orderly.{Pointee, pointee_of_cell}
use Rattle.nd_value.proofs.NodeFacts.{IsFit}
use Rattle.nd_value.proofs.DeferralExists.{direct_is}
use Rattle.nd_grammar.specs.Entry.{Entry}
use Rattle.nd_grammar.specs.Stream.{Stream, step_entries, standing_entries, step_tests, root_test, root_tests, chunk_entries, chunks, Cuts, pipe_entries, pipes_entries, AllCut, head_entries}
use Rattle.nd_grammar.proofs.next.NextPipes.{sum_first, count_drop}
use Rattle.nd_grammar.proofs.next.NextStream.{IsPipeRoot, drop_at}
use Rattle.nd_grammar.proofs.conforming.GoodTrees.{Agrees, GoodTrees, good_take, good_drop, good_cells, good_roots}
use Rattle.nd_grammar.proofs.conforming.GoodEntries.{GoodEntry, HoldsNoPipe, good_tests, good_in_place, good_whole}
use Rattle.nd_grammar.specs.ReaderState.{IsNoPipe}

abbrev home_number : Home → ℕ
home_number (home.Root i) = 0
home_number (home.Cell c) = c.0

pub same_home_number : (k b : ℕ) → cell_home k ≡ cell_home b → k ≡ b
same_home_number k b h = ap home_number h

module _ (w : Setting) (none_inside : HoldsNoPipe w.table) (g : Graph) where
  abbrev Good : Entry → Type 0
  Good = GoodEntry g

  -- a pointer whose referent is there, and agrees
  pub record PendingGood (p : Pending) : Type 0 where
    pub pointee : Pointee g p
    pub no_pipe : IsNoPipe w.table p.to
    pub agrees : (c : ℕ) → p.cell ≡ Some c → AllByRecursion (IsAgreed (cell_at g c)) p.agreements

  good_pointer : (t : ℕ) (d : Option TypeDef) (l : Label) (ks : Trees) (h : Home) (n : ℕ) (ags : List Agreement) → type_at w.table t ≡ d
      → IsFit w.table g t l ks → IsNoPipe w.table t → Agrees g l ks ags → AllByRecursion PendingGood (pointer_by d (is_pointer l) (cell_in l) h n ags)
  good_pointer t (Some (def.Pointer k to)) (tree.Ptr None) ks h n ags e f p a = (
    record { pointee = λ c s. cc; no_pipe = none_inside.pointee t k to e p; agrees = λ c s. cc },
    tt,
  )
  good_pointer t (Some (def.Pointer k to)) (tree.Ptr (Some b)) ks h n ags e f p a = (
    record {
      pointee = λ c s.
          subst (λ u. (x : Referent) × (cell_of_number g u ≡ Some x) × (x.of ≡ to.0)) (same_Some _ _ s)
          (pointee_of_cell g k to b f.cell (subst (λ u. names_pointee g u (tree.Ptr (Some b)) ≡ true) e f.pointee));
      no_pipe = none_inside.pointee t k to e p;
      agrees = λ c s. subst (λ u. AllByRecursion (IsAgreed (cell_at g u)) ags) (same_Some _ _ s) a.0;
    },
    tt,
  )
  good_pointer t (Some (def.Pointer k to)) _ ks h n ags e f p a = tt
  good_pointer t _ l ks h n ags e f p a = tt

  good_pointers : (h : Home) (types : List ℕ) (ags : List (List Agreement)) (n : ℕ) (ts : Trees) → AllByRecursion (IsNoPipe w.table) types
      → GoodTrees w.table g types ags ts → AllByRecursion PendingGood (flat_map (pointer w.table h) (nodes_of w.table types ags n ts))
  good_pointers h [] ags n none p a = tt
  good_pointers h [] ags n (more t ts) p a = absurd a
  good_pointers h (t ∷ types) ags n none p a = absurd a
  good_pointers h (t ∷ types) ags n (more (node l ks) ts) p a =
      let d : Option TypeDef = type_at w.table t in
      let kids : List TypedNode = nodes_of w.table (child_types d l ks) (child_agreements d ks) (n + 1) ks in
      let rest : List TypedNode = nodes_of w.table types (rest_agreements ags) (n + 1 + node_count ks) ts in
      all_append PendingGood (pointer_by d (is_pointer l) (cell_in l) h n (first_agreements ags)) _
      (good_pointer t d l ks h n (first_agreements ags) refl a.0 p.0 a.1)
      (subst (AllByRecursion PendingGood) (sym (flat_map-append (pointer w.table h) kids rest))
      (all_append PendingGood (flat_map (pointer w.table h) kids) (flat_map (pointer w.table h) rest)
      (good_pointers h (child_types d l ks) (child_agreements d ks) (n + 1) ks (none_inside.children t l ks p.0) a.2)
      (good_pointers h types (rest_agreements ags) (n + 1 + node_count ks) ts p.1 a.3)))

  none_agree : (l : Label) (ks : Trees) → Agrees g l ks []
  none_agree (tree.Ptr None) ks = tt
  none_agree (tree.Ptr (Some c)) ks = (tt, tt)
  none_agree (tree.Num z) ks = (tt, tt)
  none_agree _ ks = (tt, tt)

  -- a value that stands as a whole
  pub record StandsGood (x : Standing) : Type 0 where
    pub no_pipe : IsNoPipe w.table x.of
    pub trees : GoodTrees w.table g (x.of ∷ []) [] (more x.val none)
    pub its_cell : (b : ℕ) → x.home ≡ cell_home b → (y : Referent) → cell_of_number g b ≡ Some y → (y.of ≡ x.of) × (y.val ≡ x.val)

  ungoverned : (t : ℕ) (ags : List (List Agreement)) (v : Tree) → GoodTrees w.table g (t ∷ []) ags (more v none) → GoodTrees w.table g (t ∷ []) [] (more v none)
  ungoverned t ags (node l ks) a = (a.0, none_agree l ks, a.2, tt)

  -- what is due: a root that is there, or the referent of a good pointer
  abbrev pub DueGood : Due → Type 0
  DueGood (due_root i) = (r : Root) × (slice_get (root_list w) i ≡ Some r) × IsNoPipe w.table r.of
  DueGood (due_referent p) = PendingGood p

  pub due_good : (ps : List Pending) → AllByRecursion PendingGood ps → AllByRecursion DueGood (map due_referent ps)
  due_good [] a = tt
  due_good (p ∷ ps) a = (a.0, due_good ps a.1)

  pub standing_due : (x : Standing) → StandsGood x → AllByRecursion DueGood (due_of w.table x)
  standing_due x s = due_good (home_pointers w.table x.home x.of x.val) (good_pointers x.home (x.of ∷ []) [] 0 (more x.val none) (s.no_pipe, tt) s.trees)

  standing_good : (x : Standing) → StandsGood x → AllByRecursion Good (standing_entries w.table x)
  standing_good x s = good_whole w.table none_inside g x.home x.of [] x.val s.no_pipe s.trees

  module _ (c : Conforms w g) where
    cell_good : (t : ℕ) (k : ℕ) (x : Referent) → cell_of_number g k ≡ Some x → x.of ≡ t → GoodTrees w.table g (t ∷ []) [] (more (cell_at g k) none)
    cell_good t k x e f =
        subst (λ u. GoodTrees w.table g (t ∷ []) [] (more u none)) (sym (ap cell_tree e))
        (subst (λ u. GoodTrees w.table g (u ∷ []) [] (more x.val none)) f (good_cells w g c k x e))

    -- a cell's home has its type and its value
    same_cell : (k t : ℕ) (x : Referent) → cell_of_number g k ≡ Some x → x.of ≡ t → (b : ℕ) → cell_home k ≡ cell_home b → (y : Referent) → cell_of_number g b ≡ Some y
        → (y.of ≡ t) × (y.val ≡ cell_at g k)
    same_cell k t x e f b h y e' =
        let kb : k ≡ b = same_home_number k b h in
        let s : y ≡ x = same_Some _ _ (sym e' ∙ ap (cell_of_number g) (sym kb) ∙ e) in
        (ap (λ u. u.of) s ∙ f, ap (λ u. u.val) s ∙ sym (ap cell_tree e))

    pub pending_cell : (p : Pending) → PendingGood p → (k : ℕ) → p.cell ≡ Some k → StandsGood (standing_cell g p k)
    pending_cell p s k e = let (x, ex, et) = s.pointee k e in record { no_pipe = s.no_pipe; trees = cell_good p.to k x ex et; its_cell = same_cell k p.to x ex et }

    root_stands_by : (i t : ℕ) (ags : List (List Agreement)) (l : Label) (ks : Trees) → IsNoPipe w.table t → GoodTrees w.table g (t ∷ []) ags (more (node l ks) none)
        → (o : Option (ℕ × ℕ)) → direct (type_at w.table t) (node l ks) ≡ o → StandsGood (standing_by g i t (node l ks) o)
    root_stands_by i t ags l ks p a None e = record { no_pipe = p; trees = ungoverned t ags (node l ks) a; its_cell = λ b h. cc }
    root_stands_by i t ags l ks p a (Some (b, u)) e =
        let (to, ed, el, eu) = direct_is (type_at w.table t) l ks b u e a.0.no_null in
        let f1 = subst (λ q. names_cell g q ≡ true) el a.0.cell in
        let f2 : names_pointee g (Some (def.Pointer Ref to)) (tree.Ptr (Some b)) ≡ true = subst (λ q. names_pointee g q (tree.Ptr (Some b)) ≡ true) ed
        (subst (λ q. names_pointee g (type_at w.table t) q ≡ true) el a.0.pointee) in
        let (x, ex, et) = pointee_of_cell g Ref to b f1 f2 in
        record {
          no_pipe = subst (IsNoPipe w.table) (sym eu) (none_inside.pointee t Ref to ed p);
          trees = cell_good u b x ex (et ∙ sym eu);
          its_cell = same_cell b u x ex (et ∙ sym eu);
        }

    root_stands_tree : (i t : ℕ) (ags : List (List Agreement)) (v : Tree) → IsNoPipe w.table t → GoodTrees w.table g (t ∷ []) ags (more v none)
        → StandsGood (standing_by g i t v (direct (type_at w.table t) v))
    root_stands_tree i t ags (node l ks) p a = root_stands_by i t ags l ks p a (direct (type_at w.table t) (node l ks)) refl

    pub root_good : (i : ℕ) (r : Root) → slice_get (root_list w) i ≡ Some r → IsNoPipe w.table r.of → StandsGood (standing_root w g i)
    root_good i r e p =
        subst (λ t. StandsGood (standing_by g i t (root_at g i) (direct (type_at w.table t) (root_at g i)))) (sym (ap root_type e))
        (root_stands_tree i r.of (root_agreements w g r.vars ∷ []) (root_at g i) p (good_roots w g c i r e))

    pub good_steps : {done : Placed_cells} {due : List Due} {steps : List Step} → Deferral w g done due steps → AllByRecursion DueGood due
        → AllByRecursion Good (flat_map (step_entries w g) steps)
    good_steps none_due a = tt
    good_steps (at_root {i = i} {due = due} {steps = steps} f d) a =
        let (r, e, p) = a.0 in
        let s = root_good i r e p in
        all_append Good (standing_entries w.table (standing_root w g i)) (flat_map (step_entries w g) steps) (standing_good (standing_root w g i) s)
        (good_steps d (all_append DueGood (due_of w.table (standing_root w g i)) due (standing_due (standing_root w g i) s) a.1))
    good_steps (at_null e d) a = good_steps d a.1
    good_steps (at_standing {p = p} {steps = steps} k e full h d) a =
        all_append Good (step_tests g p k) (flat_map (step_entries w g) steps) (good_tests g (cell_home k) 0 (cell_at g k) p.agreements (a.0.agrees k e)) (good_steps d a.1)
    good_steps (at_referent {p = p} {due = due} {steps = steps} k e n d) a =
        let s = pending_cell p a.0 k e in
        all_append Good (standing_entries w.table (standing_cell g p k) ++ step_tests g p k) (flat_map (step_entries w g) steps)
        (all_append Good (standing_entries w.table (standing_cell g p k)) (step_tests g p k) (standing_good (standing_cell g p k) s)
        (good_tests g (cell_home k) 0 (cell_at g k) p.agreements (a.0.agrees k e)))
        (good_steps d (all_append DueGood (due_of w.table (standing_cell g p k)) due (standing_due (standing_cell g p k) s) a.1))

    good_root_test : (i : ℕ) (l : Label) (ks : Trees) (ags : List Agreement) → Agrees g l ks ags → AllByRecursion Good (root_test g i (node l ks) ags)
    good_root_test i (tree.Ptr None) ks ags a = tt
    good_root_test i (tree.Ptr (Some k)) ks ags a = good_tests g (cell_home k) 0 (cell_at g k) ags a.0
    good_root_test i (tree.Num z) ks ags a = good_tests g (home.Root i) 0 (node (tree.Num z) ks) ags a.0
    good_root_test i tree.Rec ks ags a = good_tests g (home.Root i) 0 (node tree.Rec ks) ags a.0
    good_root_test i (tree.Arr m o) ks ags a = good_tests g (home.Root i) 0 (node (tree.Arr m o) ks) ags a.0
    good_root_test i (tree.Text m os) ks ags a = good_tests g (home.Root i) 0 (node (tree.Text m os) ks) ags a.0
    good_root_test i (tree.Union v) ks ags a = good_tests g (home.Root i) 0 (node (tree.Union v) ks) ags a.0
    good_root_test i (tree.Context x q) ks ags a = good_tests g (home.Root i) 0 (node (tree.Context x q) ks) ags a.0
    good_root_test i tree.Pipe ks ags a = good_tests g (home.Root i) 0 (node tree.Pipe ks) ags a.0
    good_root_test i tree.Unread ks ags a = good_tests g (home.Root i) 0 (node tree.Unread ks) ags a.0

    good_root_tests : (i : ℕ) (rs : List Root) (vs : List Tree) → length vs ≡ length rs
        → ((j : ℕ) (r : Root) → slice_get rs j ≡ Some r → GoodTrees w.table g (r.of ∷ []) (root_agreements w g r.vars ∷ []) (more (or_unread (slice_get vs j)) none))
        → AllByRecursion Good (root_tests w g i rs vs)
    good_root_tests i [] vs h f = tt
    good_root_tests i (r ∷ rs) [] h f = tt
    good_root_tests i (r ∷ rs) (node l ks ∷ vs) h f =
        all_append Good (root_test g i (node l ks) (root_agreements w g r.vars)) (root_tests w g (i + 1) rs vs)
        (good_root_test i l ks (root_agreements w g r.vars) (f 0 r refl).1)
        (good_root_tests (i + 1) rs vs (omega arith) (λ j q e. f (suc j) q e))

    good_chunks : (h : Home) (e : ℕ) → IsNoPipe w.table e → (n : ℕ) (cut : List ℕ) (ts : Trees) → sum cut ≡ count ts
        → GoodTrees w.table g (replicate (count ts) e) [] ts → AllByRecursion Good (chunks w.table h e n cut ts)
    good_chunks h e p n [] ts s a = (tt, (tt, tt))
    good_chunks h e p n (k ∷ cut) ts s a =
        let total : k + sum cut ≡ count ts = sym (sum_first k cut) ∙ s in
        let low : k ≤ count ts = omega arith in
        let left : sum cut ≡ count (drop_trees k ts) = omega (arith, count_drop k ts low) in
        all_append Good (chunk_entries w.table h e n k (take_trees k ts)) (chunks w.table h e (n + node_count (take_trees k ts)) cut (drop_trees k ts))
        (tt, (tt, good_in_place w.table none_inside g h (replicate k e) [] n (take_trees k ts) (many k p) (good_take w.table g e k ts low a)))
        (good_chunks h e p (n + node_count (take_trees k ts)) cut (drop_trees k ts) left (good_drop w.table g e k ts a))
      where
        many : (k : ℕ) → IsNoPipe w.table e → AllByRecursion (IsNoPipe w.table) (replicate k e)
        many zero p = tt
        many (suc k) p = (p, many k p)

    good_pipe : (h : Home) (t : ℕ) (e : TypeId) (ags : List (List Agreement)) (d : Option TypeDef) → type_at w.table t ≡ d → d ≡ Some (def.Pipe e)
        → (l : Label) (ks : Trees) (cut : List ℕ) → Cuts (count ks) cut
        → has_shape d l ks ≡ true → GoodTrees w.table g (child_types d l ks) (child_agreements d ks) ks → AllByRecursion Good (pipe_entries w.table h d cut (node l ks))
    good_pipe h t e ags (Some (def.Pipe x)) ed f tree.Pipe ks cut cuts s a = good_chunks h x.0 (none_inside.element t x ed) 1 cut ks cuts.0 a
    good_pipe h t e ags (Some (def.Pipe x)) ed f _ ks cut cuts s a = cc
    good_pipe h t e ags None ed f l ks cut cuts s a = cc
    good_pipe h t e ags (Some _) ed f l ks cut cuts s a = cc

    good_pipes : (i : ℕ) (rs : List Root) (vs : List Tree) (cuts : List (List ℕ)) → AllByRecursion (IsPipeRoot w.table) rs → AllCut vs cuts
        → ((j : ℕ) (r : Root) → slice_get rs j ≡ Some r → GoodTrees w.table g (r.of ∷ []) (root_agreements w g r.vars ∷ []) (more (or_unread (slice_get vs j)) none))
        → AllByRecursion Good (pipes_entries w.table i rs vs cuts)
    good_pipes i [] vs cuts p k f = tt
    good_pipes i (r ∷ rs) [] cuts p k f = tt
    good_pipes i (r ∷ rs) (v ∷ vs) [] p k f = tt
    good_pipes i (r ∷ rs) (node l ks ∷ vs) (cut ∷ cuts) p k f =
        let a = f 0 r refl in
        all_append Good (pipe_entries w.table (home.Root i) (type_at w.table r.of) cut (node l ks)) (pipes_entries w.table (i + 1) rs vs cuts)
        (good_pipe (home.Root i) r.of p.0.elem [] (type_at w.table r.of) refl p.0.type_is l ks cut k.0 a.0.shape a.2)
        (good_pipes (i + 1) rs vs cuts p.1 k.1 (λ j q e. f (suc j) q e))

    pub roots_due : (i n : ℕ) → ((j : ℕ) → j < n → DueGood (due_root (i + j))) → AllByRecursion DueGood (due_roots i n)
    roots_due i zero f = tt
    roots_due i (suc n) f =
        let e : i + 0 ≡ i = omega arith in (
          subst (λ u. DueGood (due_root u)) e (f 0 (omega arith)),
          roots_due (suc i) n (λ j h. (let q : i + suc j ≡ suc i + j = omega arith in subst (λ u. DueGood (due_root u)) q (f (suc j) (omega arith)))),
        )

    -- the entries of each stream of the graph
    pub good_stream : (plain : (i : ℕ) (r : Root) → slice_get (root_list w) i ≡ Some r → i < before_pipes (root_list w) → IsNoPipe w.table r.of)
        → (before_pipes (root_list w) ≤ length (root_list w))
        → AllByRecursion (IsPipeRoot w.table) (drop (before_pipes (root_list w)) (root_list w))
        → (ms : List Entry) → Stream w g ms → AllByRecursion Good ms
    good_stream plain few pipes ms s =
        let n : ℕ = before_pipes (root_list w) in
        let dues : AllByRecursion DueGood (due_roots 0 n) = roots_due 0 n (λ j h. (
        let k : 0 + j < length (root_list w) = omega arith in
        let z : 0 + j < n = omega arith in
        let e = slice_get-get_or (root_list w) (0 + j) (record { of = 0; param = None; vars = []; is_pipe = false }) k in
        (_, e, plain (0 + j) _ e z))) in
        subst (AllByRecursion Good) (sym s.is_representation)
        (all_append Good (head_entries w g s.steps) (pipes_entries w.table n (drop n (root_list w)) (drop n g.roots) s.cuts)
        (all_append Good (flat_map (step_entries w g) s.steps) (root_tests w g 0 (root_list w) g.roots) (good_steps s.deferral dues)
        (good_root_tests 0 (root_list w) g.roots c.all_roots (λ j r e. good_roots w g c j r e)))
        (good_pipes n (drop n (root_list w)) (drop n g.roots) s.cuts pipes s.all_cut (λ j r e.
        subst (λ u. GoodTrees w.table g (r.of ∷ []) (root_agreements w g r.vars ∷ []) (more (or_unread u) none)) (sym (drop_at n g.roots j))
        (good_roots w g c (n + j) r (sym (drop_at n (root_list w) j) ∙ e)))))
