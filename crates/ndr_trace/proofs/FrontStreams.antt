-- Agreements along a stream: each that is not at a home's own value is of an attribute of a member of a struct, and one on a maximum count is tried at the value
-- whose maximum count is in front of the value of its home.
-- `w` is a setting, `g` a partial graph, `i` is the index of a root, `r` a root, `t` a type's number, `l` a label, `ks` are its children, `v` is a value, `x` a
-- value that stands, `p` a pointer, `c` a cell, `cut` are the counts of the chunks of a pipe.
use Rattle.std.proofs.Common.{◌≡◌, ◌⊎◌, inl, inr, ◌∙◌, ℕ, zero, suc, ◌+◌, ◌≤◌, true, false, List, [], ◌∷◌, ◌++◌, Option, Some, None, refl, sym, ap, subst}
use Rattle.std.proofs.Common.{add-zero, arith, drop, replicate}
use Rattle.std.specs.Prelude.{flat_map, map, sum}
use Rattle.std.specs.List.{AllByRecursion, slice_get}
use Rattle.std.proofs.lemmas.Bool.{both_ways}
use Rattle.nd_lemmas.proofs.Lists.{all_at}
use Rattle.nd_types.specs.declared.types.AttrVar.{AttrVar}
use Rattle.nd_types.specs.declared.types.Class.{Class}
use Rattle.nd_types.specs.declared.types.Field.{Field}
use Rattle.nd_types.specs.declared.types.TypeDef.{TypeDef}
use Rattle.nd_types.specs.declared.types.TypeDef.TheVariants as def
use Rattle.nd_types.specs.declared.types.TypeId.{TypeId}
use Rattle.nd_types.specs.Kinds.{pointee, pointee_by}
use Rattle.nd_types.specs.Layout.{hoists}
use Rattle.nd_types.specs.Roots.{Root}
use Rattle.nd_types.specs.Table.{type_at}
use Rattle.nd_value.specs.declared.item.Home.{Home}
use Rattle.nd_value.specs.declared.item.Home.TheVariants as home
use Rattle.nd_value.specs.declared.value.Graph.{Graph}
use Rattle.nd_value.specs.Agreement.{Agreement, agreement, root_agreements, variable}
use Rattle.nd_value.specs.Deferral.{Deferral, Due, Pending, Placed_cells, Standing, Step, at_null, at_referent, at_root, at_standing, before_pipes, direct, due_of, due_referent, due_root}
use Rattle.nd_value.specs.Deferral.{home_pointers, none_due, referent_stands, root_stands, root_type, standing_by, standing_cell, standing_root}
use Rattle.nd_value.specs.Misfit.{has_counts, has_shape}
use Rattle.nd_value.specs.Nodes.{TypedNode, child_agreements, child_types, nodes_of, rest_agreements}
use Rattle.nd_value.specs.Setting.{Among, Setting, cell_at, cell_home, cell_of_number, or_unread, root_at, root_list}
use Rattle.nd_value.specs.Tree as tree
use Rattle.nd_value.specs.Tree.{Label, Referent, Tree, Trees, cell_in, count, drop_trees, more, node, node_count, none, take_trees}
use Rattle.nd_value.proofs.Apart.{all_append, among_left, among_right}
use Rattle.nd_value.proofs.DeferralExists.{direct_is}
use Rattle.nd_value.proofs.NodeFacts.{IsSound}
use Rattle.nd_value.proofs.FewRoots.{few_before_pipes}
use Rattle.nd_grammar.specs.Entry.{Align, Chunk, Entry, EntryAt, Unread, end_to_end, size_at, entries, in_place, tests, whole_value}
use Rattle.nd_grammar.specs.LegalSide.{IsLegalSide}
use Rattle.nd_grammar.specs.Stream.{Cuts, AllCut, Stream, chunk_entries, chunks, pipe_entries, pipes_entries, root_test, root_tests, step_entries, step_tests}
use Rattle.nd_grammar.specs.Tested.{IsReadAt}
use Rattle.nd_grammar.proofs.LegalSides.{laid_out}
use Rattle.nd_grammar.proofs.Placed.{among_split}
use Rattle.nd_grammar.proofs.agreements.LegalSubjects.{has_subjects, roots_fit}
use Rattle.nd_grammar.proofs.agreements.StreamFinds.{PendFits, RootFits, Whole, cell_whole, root_whole, standing_pends}
use Rattle.nd_grammar.proofs.agreements.TestsFind.{AllFit, AttrFits, HasSubjects}
use Rattle.nd_grammar.proofs.next.HoistedMaxes.{replicate_last, replicate_only}
use Rattle.nd_grammar.proofs.next.KnownNodes.{known_roots}
use Rattle.nd_grammar.proofs.next.Matching.{Known as AreKnown, NodeKnown, PointeeKnown}
use Rattle.nd_grammar.proofs.next.NextPipes.{count_drop, known_drop, known_take, pipe_label, sum_first, unread_pipe}
use Rattle.nd_grammar.proofs.next.NextStream.{IsLaidOut, IsPipeRoot, drop_at}
use Rattle.nd_grammar.proofs.next.PointerPlaces.{root_there}
use Rattle.nd_grammar.proofs.conforming.StreamConforms.{due_all}
use Rattle.text_grammar.specs.Paths.{cell_types, home_types, home_value, root_types}
use Rattle.ndr_trace.proofs.FrontTests.{AreTestsOfFront, HaveNodes, IsTestOfFront, both_parts, home_in, in_place_there, inner_nodes, later_nodes, no_tests, own_value_there}
use Rattle.ndr_trace.proofs.FrontTests.{whole_there}
use Rattle.ndr_trace.proofs.LastPaths.{last_path-legal, last_variable-legal, no_member, no_member_behind}
use Rattle.ndr_trace.proofs.RootAttributes.{members_one}
use Rattle.ndr_trace_value.specs.LastMembers.{last_member, last_path, last_variable, onward, stated_in, struct_of}
use Rattle.ndr_trace_value.proofs.Attributes.{OneEach}

-- what has the shape of a pointer is one
pub as_pointer : (d : Option TypeDef) (c : Option ℕ) (ks : Trees) → has_shape d (tree.Ptr c) ks ≡ true → (k : Class) × (to : TypeId) × (d ≡ Some (def.Pointer k to))
as_pointer (Some (def.Pointer k to)) c ks e = (k, to, refl)
as_pointer None c ks e = cc
as_pointer (Some _) c ks e = cc

module _ (w : Setting) (side : IsLegalSide w) (g : Graph) (s : IsSound w g) where
  laid : IsLaidOut w
  laid = laid_out w side

  subjects : HasSubjects w.table
  subjects = has_subjects w.table side.operations side.legal

  unfolds : (t : ℕ) (p : List ℕ) → last_path w.table t p ≡ onward (last_path w.table) p (last_member (type_at w.table t))
  unfolds t p = last_path-legal w.table side.operations side.legal t p

  stated : (t : ℕ) (p : List ℕ) → last_variable w.table t p ≡ stated_in (last_variable w.table) p (struct_of (type_at w.table t))
  stated t p = last_variable-legal w.table side.operations side.legal t p

  one_each : (t : ℕ) (fs : List Field) → type_at w.table t ≡ Some (def.Struct fs) → AllByRecursion (λ (f : Field). OneEach f.vars) fs
  one_each t fs e = members_one w.table side.operations side.legal t fs e

  abbrev There : List Entry → Type 0
  There ms = AreTestsOfFront w g ms

  abbrev Fits : Pending → Type 0
  Fits p = PendFits w g s laid subjects p

  joined_there : (ms ns : List Entry) → There ms → There ns → There (ms ++ ns)
  joined_there ms ns a b = both_parts w g ms ns a (λ rs. b)

  -- ## Values that stand

  -- a value is that of its home, with the type of the home
  abbrev IsOfHome : Standing → Type 0
  IsOfHome x = (home_types w g x.home ≡ x.of ∷ []) × (home_value g x.home ≡ x.val)

  cell_of_home : (c t : ℕ) (y : Referent) → cell_of_number g c ≡ Some y → y.of ≡ t → home_types w g (cell_home c) ≡ t ∷ []
  cell_of_home c t y e of = ap cell_types e ∙ ap (λ u. u ∷ []) of

  root_by : (i : ℕ) (r : Root) → slice_get (root_list w) i ≡ Some r → (l : Label) (ks : Trees) → root_at g i ≡ node l ks
      → AreKnown g w.table (r.of ∷ []) (more (node l ks) none) → (o : Option (ℕ × ℕ)) → direct (type_at w.table r.of) (node l ks) ≡ o
      → IsOfHome (standing_by g i r.of (node l ks) o)
  root_by i r there l ks value k None e = (ap root_types there, value)
  root_by i r there l ks value k (Some (c, u)) e =
      let (to, ed, el, eu) = direct_is (type_at w.table r.of) l ks c u e k.0.no_null in
      let (y, ey, ty) = subst (λ d. PointeeKnown g d (Some c)) ed (subst (λ q. PointeeKnown g (type_at w.table r.of) (cell_in q)) el k.0.pointee) in
      (cell_of_home c u y ey (ty ∙ sym eu), refl)

  root_of_home : (i : ℕ) (r : Root) → slice_get (root_list w) i ≡ Some r → (v : Tree) → root_at g i ≡ v → AreKnown g w.table (r.of ∷ []) (more v none)
      → IsOfHome (standing_by g i r.of v (direct (type_at w.table r.of) v))
  root_of_home i r there (node l ks) value k = root_by i r there l ks value k (direct (type_at w.table r.of) (node l ks)) refl

  root_standing : (i : ℕ) (r : Root) → slice_get (root_list w) i ≡ Some r → IsOfHome (standing_root w g i)
  root_standing i r there =
      subst (λ t. IsOfHome (standing_by g i t (root_at g i) (direct (type_at w.table t) (root_at g i)))) (sym (ap root_type there))
      (root_of_home i r there (root_at g i) refl (known_roots w g s i r there))

  standing_there : (x : Standing) → IsOfHome x → AreKnown g w.table (x.of ∷ []) (more x.val none) → There (whole_value w.table x.home x.of x.val)
  standing_there x h k = whole_there w g laid.hoisting subjects unfolds stated one_each x.home x.of x.val h.0 h.1 k

  -- the agreements of a pointer's member
  step_there : (p : Pending) (c : ℕ) → Fits p → p.cell ≡ Some c → There (step_tests g p c)
  step_there p c f e =
      let (y, ey, ty) = f.pointee c e in
      own_value_there w g laid.hoisting subjects unfolds stated one_each (cell_home c) p.to (type_at w.table p.to) (cell_at g c) p.agreements (cell_of_home c p.to y ey ty)
      (no_member (type_at w.table p.to)) f.fits

  -- ## The order of deferral

  abbrev IsDue : Due → Type 0
  IsDue (due_root i) = (r : Root) × (slice_get (root_list w) i ≡ Some r)
  IsDue (due_referent p) = Fits p

  are_due : (ps : List Pending) → AllByRecursion Fits ps → AllByRecursion IsDue (map due_referent ps)
  are_due [] a = tt
  are_due (p ∷ ps) a = (a.0, are_due ps a.1)

  made_due : (x : Standing) → AreKnown g w.table (x.of ∷ []) (more x.val none) → AllByRecursion IsDue (due_of w.table x)
  made_due x k = are_due (home_pointers w.table x.home x.of x.val) (standing_pends w g s laid subjects x k)

  steps_there : {done : Placed_cells} {due : List Due} {steps : List Step} → Deferral w g done due steps → AllByRecursion IsDue due
      → There (flat_map (step_entries w g) steps)
  steps_there none_due f = tt
  steps_there (at_root {i = i} {due = due} {steps = steps} free d) f =
      let x : Standing = standing_root w g i in
      let (r, there) = f.0 in
      let q : Whole w g s laid subjects x = root_whole w g s laid subjects i r there in
      joined_there (step_entries w g (root_stands i)) (flat_map (step_entries w g) steps) (standing_there x (root_standing i r there) q.known)
      (steps_there d (all_append IsDue (due_of w.table x) due (made_due x q.known) f.1))
  steps_there (at_null e d) f = steps_there d f.1
  steps_there (at_standing {p = p} {steps = steps} c e full h d) f =
      joined_there (step_tests g p c) (flat_map (step_entries w g) steps) (step_there p c f.0 e) (steps_there d f.1)
  steps_there (at_referent {p = p} {due = due} {steps = steps} c e n d) f =
      let x : Standing = standing_cell g p c in
      let (y, ey, ty) = f.0.pointee c e in
      let q : Whole w g s laid subjects x = cell_whole w g s laid subjects c p.to y ey ty in
      joined_there (step_entries w g (referent_stands p c)) (flat_map (step_entries w g) steps)
      (joined_there (whole_value w.table x.home x.of x.val) (step_tests g p c) (standing_there x (cell_of_home c p.to y ey ty, refl) q.known)
      (step_there p c f.0 e))
      (steps_there d (all_append IsDue (due_of w.table x) due (made_due x q.known) f.1))

  -- ## The agreements of parameters

  agreements_fit : (d : Option TypeDef) (vars : List AttrVar) → AllByRecursion (λ (v : AttrVar). AttrFits v.attr d) vars → AllFit d (root_agreements w g vars)
  agreements_fit d [] a = tt
  agreements_fit d (v ∷ vs) a =
      all_append (λ (q : Agreement). AttrFits q.attr d) (agreement v.attr (variable w g v)) (root_agreements w g vs) (one (variable w g v)) (agreements_fit d vs a.1)
    where
      one : (o : Option _) → AllFit d (agreement v.attr o)
      one None = tt
      one (Some z) = (a.0, tt)

  module _ (i : ℕ) (r : Root) (there : slice_get (root_list w) i ≡ Some r) (fits : RootFits w.table r) where
    -- on the value of a root itself
    own_root : (v : Tree) → There (tests (home.Root i) 0 v (root_agreements w g r.vars))
    own_root v =
        own_value_there w g laid.hoisting subjects unfolds stated one_each (home.Root i) r.of (type_at w.table (pointee w.table r.of)) v (root_agreements w g r.vars) (ap root_types there)
        (no_member_behind w.table r.of (type_at w.table r.of) refl) (agreements_fit (type_at w.table (pointee w.table r.of)) r.vars fits)

    -- on the cell that a root names
    named_root : (c : ℕ) (ks : Trees) → AreKnown g w.table (r.of ∷ []) (more (node (tree.Ptr (Some c)) ks) none)
        → There (tests (cell_home c) 0 (cell_at g c) (root_agreements w g r.vars))
    named_root c ks k = go k.0.shape
      where
        go : (tree.Ptr (Some c) ≡ tree.Unread)
            ⊎ ((has_shape (type_at w.table r.of) (tree.Ptr (Some c)) ks ≡ true) × (has_counts (type_at w.table r.of) (tree.Ptr (Some c)) ks ≡ true))
            → There (tests (cell_home c) 0 (cell_at g c) (root_agreements w g r.vars))
        go (inl e) = cc
        go (inr (shape, counts)) =
            let (class, to, is) = as_pointer (type_at w.table r.of) (Some c) ks shape in
            let (y, ey, ty) = subst (λ d. PointeeKnown g d (Some c)) is k.0.pointee in
            let fit : AllFit (type_at w.table to.0) (root_agreements w g r.vars) =
            subst (λ u. AllFit (type_at w.table u) (root_agreements w g r.vars)) (ap (pointee_by r.of) is)
            (agreements_fit (type_at w.table (pointee w.table r.of)) r.vars fits) in
            own_value_there w g laid.hoisting subjects unfolds stated one_each (cell_home c) to.0 (type_at w.table to.0) (cell_at g c) (root_agreements w g r.vars)
            (cell_of_home c to.0 y ey ty) (no_member (type_at w.table to.0)) fit

    root_test_there : (v : Tree) → AreKnown g w.table (r.of ∷ []) (more v none) → There (root_test g i v (root_agreements w g r.vars))
    root_test_there (node (tree.Ptr None) ks) k = tt
    root_test_there (node (tree.Ptr (Some c)) ks) k = named_root c ks k
    root_test_there (node (tree.Num z) ks) k = own_root (node (tree.Num z) ks)
    root_test_there (node tree.Rec ks) k = own_root (node tree.Rec ks)
    root_test_there (node (tree.Arr m o) ks) k = own_root (node (tree.Arr m o) ks)
    root_test_there (node (tree.Text m os) ks) k = own_root (node (tree.Text m os) ks)
    root_test_there (node (tree.Union z) ks) k = own_root (node (tree.Union z) ks)
    root_test_there (node (tree.Context a id) ks) k = own_root (node (tree.Context a id) ks)
    root_test_there (node tree.Pipe ks) k = own_root (node tree.Pipe ks)
    root_test_there (node tree.Unread ks) k = own_root (node tree.Unread ks)

  root_tests_there : (i : ℕ) (rs : List Root) (vs : List Tree)
      → ((j : ℕ) (r : Root) (v : Tree) → slice_get rs j ≡ Some r → slice_get vs j ≡ Some v → There (root_test g (i + j) v (root_agreements w g r.vars)))
      → There (root_tests w g i rs vs)
  root_tests_there i [] vs f = tt
  root_tests_there i (r ∷ rs) [] f = tt
  root_tests_there i (r ∷ rs) (v ∷ vs) f =
      let here : i + 0 ≡ i = omega arith in
      joined_there (root_test g i v (root_agreements w g r.vars)) (root_tests w g (i + 1) rs vs)
      (subst (λ n. There (root_test g n v (root_agreements w g r.vars))) here (f 0 r v refl refl))
      (root_tests_there (i + 1) rs vs (λ j q u e d.
      (let next : i + suc j ≡ i + 1 + j = omega arith in subst (λ n. There (root_test g n u (root_agreements w g q.vars))) next (f (suc j) q u e d))))

  -- ## Pipes

  -- the nodes of the first elements
  nodes_take : (t c n : ℕ) (ts : Trees) (ags : List (List Agreement)) (x : TypedNode) → Among (nodes_of w.table (replicate c t) ags n (take_trees c ts)) x
      → Among (nodes_of w.table (replicate (count ts) t) ags n ts) x
  nodes_take t zero n ts ags x m = absurd m
  nodes_take t (suc c) n none ags x m = absurd m
  nodes_take t (suc c) n (more (node l ks) ts) ags x (inl e) = inl e
  nodes_take t (suc c) n (more (node l ks) ts) ags x (inr m) =
      go
      (among_split (nodes_of w.table (child_types (type_at w.table t) l ks) (child_agreements (type_at w.table t) ks) (n + 1) ks)
      (nodes_of w.table (replicate c t) (rest_agreements ags) (n + 1 + node_count ks) (take_trees c ts)) x m)
      (nodes_take t c (n + 1 + node_count ks) ts (rest_agreements ags) x)
    where
      go : Among (nodes_of w.table (child_types (type_at w.table t) l ks) (child_agreements (type_at w.table t) ks) (n + 1) ks) x
          ⊎ Among (nodes_of w.table (replicate c t) (rest_agreements ags) (n + 1 + node_count ks) (take_trees c ts)) x
          → (Among (nodes_of w.table (replicate c t) (rest_agreements ags) (n + 1 + node_count ks) (take_trees c ts)) x
          → Among (nodes_of w.table (replicate (count ts) t) (rest_agreements ags) (n + 1 + node_count ks) ts) x)
          → Among (nodes_of w.table (replicate (count (more (node l ks) ts)) t) ags n (more (node l ks) ts)) x
      go (inl a) later =
          inr (among_left (nodes_of w.table (child_types (type_at w.table t) l ks) (child_agreements (type_at w.table t) ks) (n + 1) ks)
          (nodes_of w.table (replicate (count ts) t) (rest_agreements ags) (n + 1 + node_count ks) ts) x a)
      go (inr a) later =
          inr (among_right (nodes_of w.table (child_types (type_at w.table t) l ks) (child_agreements (type_at w.table t) ks) (n + 1) ks)
          (nodes_of w.table (replicate (count ts) t) (rest_agreements ags) (n + 1 + node_count ks) ts) x (later a))

  have_take : (h : Home) (t c n : ℕ) (ts : Trees) → HaveNodes w g h (replicate (count ts) t) n ts → HaveNodes w g h (replicate c t) n (take_trees c ts)
  have_take h t c n ts (ags, f) = (ags, λ x m. f x (nodes_take t c n ts ags x m))

  -- and of those after them
  have_drop : (h : Home) (t c n : ℕ) (ts : Trees) → HaveNodes w g h (replicate (count ts) t) n ts
      → HaveNodes w g h (replicate (count (drop_trees c ts)) t) (n + node_count (take_trees c ts)) (drop_trees c ts)
  have_drop h t zero n ts nodes = subst (λ m. HaveNodes w g h (replicate (count ts) t) m ts) (sym (add-zero n)) nodes
  have_drop h t (suc c) n none nodes = ([], λ x m. absurd m)
  have_drop h t (suc c) n (more (node l ks) ts) nodes =
      let further : n + 1 + node_count ks + node_count (take_trees c ts) ≡ n + suc (node_count ks + node_count (take_trees c ts)) = omega arith in
      subst (λ m. HaveNodes w g h (replicate (count (drop_trees c ts)) t) m (drop_trees c ts)) further
      (have_drop h t c (n + 1 + node_count ks) ts (later_nodes w g h t (replicate (count ts) t) n l ks ts nodes))

  chunks_there : (h : Home) (t n : ℕ) (cut : List ℕ) (ts : Trees) → hoists w.table t ≡ false → sum cut ≡ count ts → AreKnown g w.table (replicate (count ts) t) ts
      → HaveNodes w g h (replicate (count ts) t) n ts → There (chunks w.table h t n cut ts)
  chunks_there h t n [] ts plain total k nodes = no_tests w g h 0 (Align 4 ∷ Chunk 0 ∷ []) (tt, (tt, tt))
  chunks_there h t n (c ∷ cut) ts plain total k nodes =
      let all : c + sum cut ≡ count ts = sym (sum_first c cut) ∙ total in
      let low : c ≤ count ts = omega (arith, all) in
      let left : sum cut ≡ count (drop_trees c ts) = (let d = count_drop c ts low in omega (arith, all, d)) in
      joined_there (chunk_entries w.table h t n c (take_trees c ts)) (chunks w.table h t (n + node_count (take_trees c ts)) cut (drop_trees c ts))
      (joined_there (entries h 0 (Align 4 ∷ Chunk c ∷ [])) (in_place w.table h (replicate c t) n (take_trees c ts))
      (no_tests w g h 0 (Align 4 ∷ Chunk c ∷ []) (tt, (tt, tt)))
      (in_place_there w g laid.hoisting subjects unfolds stated one_each h (replicate c t) n (take_trees c ts) (replicate_only (hoists w.table) t plain c)
      (known_take g w.table t c ts low k) (λ e. absurd (both_ways _ (replicate_last (hoists w.table) t plain c) e)) (have_take h t c n ts nodes)))
      (chunks_there h t (n + node_count (take_trees c ts)) cut (drop_trees c ts) plain left (known_drop g w.table t c ts k) (have_drop h t c n ts nodes))

  pipe_there : (i : ℕ) (r : Root) (cut : List ℕ) (l : Label) (ks : Trees) → IsPipeRoot w.table r → AreKnown g w.table (r.of ∷ []) (more (node l ks) none)
      → HaveNodes w g (home.Root i) (r.of ∷ []) 0 (more (node l ks) none) → Cuts (count ks) cut → There (pipe_entries w.table (home.Root i) (type_at w.table r.of) cut (node l ks))
  pipe_there i r cut l ks p k nodes c = go (pipe_label g p.elem l ks (subst (λ d. NodeKnown g d l ks) p.type_is k.0))
    where
      go : (l ≡ tree.Unread) ⊎ (l ≡ tree.Pipe) → There (pipe_entries w.table (home.Root i) (type_at w.table r.of) cut (node l ks))
      go (inl e) =
          subst (λ q. There (pipe_entries w.table (home.Root i) (type_at w.table r.of) cut (node q ks))) (sym e)
          (subst There (sym (unread_pipe w.table (home.Root i) (type_at w.table r.of) cut ks)) (inl refl))
      go (inr e) =
          let unread_not : l ≡ tree.Unread → ⊥ = λ f. (let z : tree.Pipe ≡ tree.Unread = sym e ∙ f in absurd (cc)) in
          let kids : AreKnown g w.table (replicate (count ks) p.elem.0) ks =
          subst (λ d. AreKnown g w.table (child_types d tree.Pipe ks) ks) p.type_is
          (subst (λ q. AreKnown g w.table (child_types (type_at w.table r.of) q ks) ks) e (k.1 unread_not)) in
          subst (λ q. There (pipe_entries w.table (home.Root i) (type_at w.table r.of) cut (node q ks))) (sym e)
          (subst (λ d. There (pipe_entries w.table (home.Root i) d cut (node tree.Pipe ks))) (sym p.type_is)
          (chunks_there (home.Root i) p.elem.0 1 cut ks (laid.hoisting.piped r.of p.elem p.type_is) c.0 kids
          (subst (λ d. HaveNodes w g (home.Root i) (child_types d tree.Pipe ks) 1 ks) p.type_is
          (subst (λ q. HaveNodes w g (home.Root i) (child_types (type_at w.table r.of) q ks) 1 ks) e (inner_nodes w g (home.Root i) r.of [] 0 l ks none nodes)))))

  pipes_there : (i : ℕ) (rs : List Root) (vs : List Tree) (cuts : List (List ℕ)) → AllByRecursion (IsPipeRoot w.table) rs → AllCut vs cuts
      → ((j : ℕ) (r : Root) → slice_get rs j ≡ Some r → AreKnown g w.table (r.of ∷ []) (more (or_unread (slice_get vs j)) none))
      → ((j : ℕ) (r : Root) → slice_get rs j ≡ Some r → HaveNodes w g (home.Root (i + j)) (r.of ∷ []) 0 (more (or_unread (slice_get vs j)) none))
      → There (pipes_entries w.table i rs vs cuts)
  pipes_there i [] vs cuts p c f nodes = tt
  pipes_there i (r ∷ rs) [] cuts p c f nodes = tt
  pipes_there i (r ∷ rs) (v ∷ vs) [] p c f nodes = tt
  pipes_there i (r ∷ rs) (node l ks ∷ vs) (cut ∷ cuts) p c f nodes =
      joined_there (pipe_entries w.table (home.Root i) (type_at w.table r.of) cut (node l ks)) (pipes_entries w.table (i + 1) rs vs cuts)
      (pipe_there i r cut l ks p.0 (f 0 r refl) (subst (λ m. HaveNodes w g (home.Root m) (r.of ∷ []) 0 (more (node l ks) none)) (add-zero i) (nodes 0 r refl)) c.0)
      (pipes_there (i + 1) rs vs cuts p.1 c.1 (λ j q e. f (suc j) q e)
      (λ j q e. subst (λ m. HaveNodes w g (home.Root m) (q.of ∷ []) 0 (more (or_unread (slice_get vs j)) none)) (one_on j) (nodes (suc j) q e)))
    where
      one_on : (j : ℕ) → i + suc j ≡ i + 1 + j
      one_on j = omega arith

  -- ## The whole

  stream_there : (ms : List Entry) → Stream w g ms → There ms
  stream_there ms a =
      let n : ℕ = before_pipes (root_list w) in
      let F : List Entry = flat_map (step_entries w g) a.steps in
      let T : List Entry = root_tests w g 0 (root_list w) g.roots in
      let P : List Entry = pipes_entries w.table n (drop n (root_list w)) (drop n g.roots) a.cuts in
      subst There (sym a.is_representation)
      (joined_there (F ++ T) P
      (joined_there F T (steps_there a.deferral (due_all IsDue 0 n (λ j h. root_there w (0 + j) (omega (arith, h, few_before_pipes (root_list w))))))
      (root_tests_there 0 (root_list w) g.roots (λ j r v there value.
      (let at : 0 + j ≡ j = omega arith in
      subst (λ m. There (root_test g m v (root_agreements w g r.vars))) (sym at)
      (root_test_there j r there (all_at (RootFits w.table) (root_list w) j r (roots_fit w side) there) v
      (subst (λ u. AreKnown g w.table (r.of ∷ []) (more u none)) (ap or_unread value) (known_roots w g s j r there)))))))
      (pipes_there n (drop n (root_list w)) (drop n g.roots) a.cuts laid.pipes a.all_cut
      (λ j r there.
      subst (λ u. AreKnown g w.table (r.of ∷ []) (more (or_unread u) none)) (sym (drop_at n g.roots j))
      (known_roots w g s (n + j) r (sym (drop_at n (root_list w) j) ∙ there)))
      (λ j r there.
      home_in w g (home.Root (n + j)) r.of (or_unread (slice_get (drop n g.roots) j)) (ap root_types (sym (drop_at n (root_list w) j) ∙ there))
      (ap or_unread (sym (drop_at n g.roots j))))))

  -- an agreement after entries that were read
  found_there : (at : ℕ) (ms : List Entry) (earlier : List EntryAt) (here : EntryAt) (later : List EntryAt) → end_to_end at ms ≡ earlier ++ here ∷ later
      → AllByRecursion IsReadAt earlier → There ms → (here.entry.kind ≡ Unread) ⊎ IsTestOfFront w g here.entry.home here.entry.node here.entry.kind
  found_there at [] [] here later e r t = cc
  found_there at [] (x ∷ earlier) here later e r t = cc
  found_there at (m ∷ ms) [] here later e r (inl u) =
      let h : record { at = at; entry = m } ≡ here = cc in
      inl (ap (λ (y : EntryAt). y.entry.kind) (sym h) ∙ u)
  found_there at (m ∷ ms) [] here later e r (inr (read, is, rest)) =
      let h : record { at = at; entry = m } ≡ here = cc in
      inr (subst (λ (y : EntryAt). IsTestOfFront w g y.entry.home y.entry.node y.entry.kind) h is)
  found_there at (m ∷ ms) (x ∷ earlier) here later e r (inl u) =
      let h : record { at = at; entry = m } ≡ x = cc in
      absurd (r.0 (ap (λ (y : EntryAt). y.entry.kind) (sym h) ∙ u))
  found_there at (m ∷ ms) (x ∷ earlier) here later e r (inr (read, is, rest)) =
      let f : end_to_end (at + size_at at m.kind) ms ≡ earlier ++ here ∷ later = cc in
      found_there (at + size_at at m.kind) ms earlier here later f r.1 rest

  pub test_of_front : (ms : List Entry) → Stream w g ms → (earlier : List EntryAt) (here : EntryAt) (later : List EntryAt) → end_to_end 0 ms ≡ earlier ++ here ∷ later
      → AllByRecursion IsReadAt earlier → (here.entry.kind ≡ Unread) ⊎ IsTestOfFront w g here.entry.home here.entry.node here.entry.kind
  test_of_front ms a earlier here later e r = found_there 0 ms earlier here later e r (stream_there ms a)
