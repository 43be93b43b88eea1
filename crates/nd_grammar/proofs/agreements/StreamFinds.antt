-- Each agreement that a stream of a sound graph tries stands after the count or tag that it speaks of.
use Rattle.std.proofs.Common.{◌≡◌, ℕ, ◌+◌, ◌<◌, ◌≤◌, ◌-◌, zero, suc, true, false, List, [], ◌∷◌, ◌++◌, length, Option, Some, None, refl, ap, sym, ◌∙◌, inl, inr, ◌⊎◌, arith, subst, replicate}
use Rattle.std.proofs.Common.{append_assoc, drop}
use Rattle.std.specs.Prelude.{flat_map, map, sum}
use Rattle.std.specs.List.{AllByRecursion, slice_get}
use Rattle.std.proofs.lemmas.Grind.{flat_map-append}
use Rattle.std.proofs.lemmas.Bool.{both_ways, cases_lt}
use Rattle.std.proofs.lemmas.Option.{same_Some}
use Rattle.nd_types.specs.declared.types.TypeDef.{TypeDef}
use Rattle.nd_types.specs.declared.types.TypeDef.TheVariants as def
use Rattle.nd_types.specs.declared.types.Class.{Class}
use Rattle.nd_types.specs.declared.types.Class.TheVariants.{Ref, Unique, Full}
use Rattle.nd_types.specs.declared.types.AttrVar.{AttrVar}
use Rattle.nd_types.specs.Table.{Table, type_at}
use Rattle.nd_types.specs.Layout.{hoists}
use Rattle.nd_types.specs.Kinds.{pointee, pointee_by}
use Rattle.nd_types.specs.Roots.{Root}
use Rattle.nd_value.specs.declared.value.Graph.{Graph}
use Rattle.nd_value.specs.declared.item.Home.{Home}
use Rattle.nd_value.specs.declared.item.Home.TheVariants as home
use Rattle.nd_value.specs.Tree as tree
use Rattle.nd_value.specs.Tree.{Tree, Trees, node, none, more, Label, Referent, count, node_count, is_pointer, cell_in, take_trees, drop_trees}
use Rattle.nd_value.specs.Agreement.{Agreement, agreement, root_agreements, variable}
use Rattle.nd_value.specs.Setting.{Setting, root_list, root_at, or_unread, cell_at, cell_tree, cell_of_number, cell_home}
use Rattle.nd_value.specs.Nodes.{TypedNode, nodes_of, child_types, child_agreements, first_agreements, rest_agreements}
use Rattle.nd_value.specs.Deferral.{Pending, pointer, pointer_by, home_pointers, Due, due_root, due_referent, due_roots, before_pipes, Step, Deferral, none_due, at_root, at_null, at_standing}
use Rattle.nd_value.specs.Deferral.{at_referent, Placed_cells, IsPlacedFull, Standing, standing_root, standing_by, standing_cell, root_type, root_cell, direct, due_of}
use Rattle.nd_value.proofs.Apart.{all_append, all_left, all_right}
use Rattle.nd_value.proofs.NodeFacts.{IsSound}
use Rattle.nd_value.proofs.DeferralExists.{direct_is}
use Rattle.nd_value.proofs.FewRoots.{few_before_pipes}
use Rattle.nd_grammar.specs.Entry.{Entry, Align, Chunk, Unread, entries, in_place, tests, before_children}
use Rattle.nd_grammar.specs.Stream.{Stream, step_entries, standing_entries, step_tests, root_test, root_tests, chunks, Cuts, pipe_entries, pipes_entries, AllCut}
use Rattle.nd_grammar.proofs.next.Matching.{Known, NodeKnown, PointeeKnown}
use Rattle.nd_grammar.proofs.next.HoistedMaxes.{no_children, replicate_only, replicate_last}
use Rattle.nd_grammar.proofs.next.KnownNodes.{known_cells, known_roots}
use Rattle.nd_grammar.proofs.next.NextPipes.{sum_first, count_drop, known_take, known_drop, pipe_label, unread_pipe}
use Rattle.nd_grammar.proofs.next.NextStream.{IsLaidOut, IsPipeRoot, drop_at}
use Rattle.nd_lemmas.proofs.Lists.{all_at}
use Rattle.nd_grammar.proofs.next.PointerPlaces.{root_there}
use Rattle.nd_grammar.proofs.agreements.TestsFind.{IsReadKind, Finds, onto, behind, Within, still_seen, now_seen, kinds_find, is_read, AttrFits, AllFit, AgsFit, stands_more, HasSubjects, tests_find}
use Rattle.nd_grammar.proofs.agreements.TestsFind.{child_fits, in_place_find, NodeStands, whole_find, whole_stands}

-- what an agreement of a parameter speaks of is in its subject's type
abbrev pub RootFits : Table → Root → Type 0
RootFits table r = AllByRecursion (λ (v : AttrVar). AttrFits v.attr (type_at table (pointee table r.of))) r.vars

module _ (w : Setting) (g : Graph) (s : IsSound w g) (laid : IsLaidOut w) (subjects : HasSubjects w.table) where
  abbrev table : Table
  table = w.table

  -- a cell stands: its value, by its type
  abbrev CellStands : List Entry → ℕ → Type 0
  CellStands seen c = (x : Referent) → cell_of_number g c ≡ Some x → NodeStands table laid.hoisting subjects g (cell_home c) seen x.of x.val

  node_more : (xs ys : List Entry) (h : Home) (t : ℕ) (v : Tree) → Within xs ys → NodeStands table laid.hoisting subjects g h xs t v
      → NodeStands table laid.hoisting subjects g h ys t v
  node_more xs ys h t (node l ks) k a = stands_more table xs ys h t 0 l ks k a

  cell_more : (xs ys : List Entry) (c : ℕ) → Within xs ys → CellStands xs c → CellStands ys c
  cell_more xs ys c k a x e = node_more xs ys (cell_home c) x.of x.val k (a x e)

  abbrev DoneStand : List Entry → Placed_cells → Type 0
  DoneStand seen done = AllByRecursion (λ d. CellStands seen d.1) done

  done_more : (xs ys : List Entry) (done : Placed_cells) → Within xs ys → DoneStand xs done → DoneStand ys done
  done_more xs ys [] k a = tt
  done_more xs ys (d ∷ done) k a = (cell_more xs ys d.1 k a.0, done_more xs ys done k a.1)

  full_stands : (seen : List Entry) (done : Placed_cells) (c : ℕ) → IsPlacedFull done c → DoneStand seen done → CellStands seen c
  full_stands seen [] c h a = absurd h
  full_stands seen (d ∷ done) c (inl h) a = subst (CellStands seen) (sym h.1) a.0
  full_stands seen (d ∷ done) c (inr h) a = full_stands seen done c h a.1

  -- a pointer whose agreements fit its referent, which is there
  pub record PendFits (p : Pending) : Type 0 where
    pub fits : AllFit (type_at table p.to) p.agreements
    pub pointee : (c : ℕ) → p.cell ≡ Some c → (x : Referent) × (cell_of_number g c ≡ Some x) × (x.of ≡ p.to)

  pointer_fits : (h : Home) (t : ℕ) (d : Option TypeDef) (l : Label) (n : ℕ) (ags : List Agreement) → AllFit (type_at table (pointee_by t d)) ags → PointeeKnown g d (cell_in l)
      → AllByRecursion PendFits (pointer_by d (is_pointer l) (cell_in l) h n ags)
  pointer_fits h t (Some (def.Pointer k to)) (tree.Ptr None) n ags f p = (record { fits = f; pointee = λ c e. cc }, tt)
  pointer_fits h t (Some (def.Pointer k to)) (tree.Ptr (Some b)) n ags f p = (
    record { fits = f; pointee = λ c e. subst (λ u. (x : Referent) × (cell_of_number g u ≡ Some x) × (x.of ≡ to.0)) (same_Some _ _ e) p },
    tt,
  )
  pointer_fits h t (Some (def.Pointer k to)) _ n ags f p = tt
  pointer_fits h t _ l n ags f p = tt

  no_nodes : (types : List ℕ) (ags : List (List Agreement)) (n : ℕ) (ts : Trees) → types ≡ [] → nodes_of table types ags n ts ≡ []
  no_nodes types ags n none e = ap (λ u. nodes_of table u ags n none) e
  no_nodes types ags n (more t ts) e = ap (λ u. nodes_of table u ags n (more t ts)) e

  pointers_fit : (h : Home) (types : List ℕ) (ags : List (List Agreement)) (n : ℕ) (ts : Trees) → Known g table types ts → AgsFit table types ags
      → AllByRecursion PendFits (flat_map (pointer table h) (nodes_of table types ags n ts))
  pointers_fit h [] ags n none k f = tt
  pointers_fit h [] ags n (more t ts) k f = absurd k
  pointers_fit h (t ∷ types) ags n none k f = absurd k
  pointers_fit h (t ∷ types) ags n (more (node l ks) ts) k f =
      let d : Option TypeDef = type_at table t in
      let kids : List TypedNode = nodes_of table (child_types d l ks) (child_agreements d ks) (n + 1) ks in
      let rest : List TypedNode = nodes_of table types (rest_agreements ags) (n + 1 + node_count ks) ts in
      all_append PendFits (pointer_by d (is_pointer l) (cell_in l) h n (first_agreements ags)) _
      (pointer_fits h t d l n (first_agreements ags) f.0 k.0.pointee)
      (subst (AllByRecursion PendFits) (sym (flat_map-append (pointer table h) kids rest))
      (all_append PendFits (flat_map (pointer table h) kids) (flat_map (pointer table h) rest)
      (by_read d refl (is_read l) (λ u. pointers_fit h (child_types d l ks) (child_agreements d ks) (n + 1) ks (k.1 u) (child_fits table laid.hoisting subjects t d l ks refl)))
      (pointers_fit h types (rest_agreements ags) (n + 1 + node_count ks) ts k.2 f.1)))
    where
      by_read : (d : Option TypeDef) → type_at table t ≡ d → (l ≡ tree.Unread) ⊎ (l ≡ tree.Unread → ⊥)
          → ((l ≡ tree.Unread → ⊥) → AllByRecursion PendFits (flat_map (pointer table h) (nodes_of table (child_types d l ks) (child_agreements d ks) (n + 1) ks)))
          → AllByRecursion PendFits (flat_map (pointer table h) (nodes_of table (child_types d l ks) (child_agreements d ks) (n + 1) ks))
      by_read d e (inr u) rec = rec u
      by_read d e (inl u) rec =
          subst (λ xs. AllByRecursion PendFits (flat_map (pointer table h) xs))
          (sym (no_nodes (child_types d l ks) (child_agreements d ks) (n + 1) ks (ap (λ q. child_types d q ks) u ∙ no_children d ks))) tt

  none_fit_one : (t : ℕ) → AgsFit table (t ∷ []) []
  none_fit_one t = (tt, tt)

  -- what is due fits: a root that is there, a pointer that does
  abbrev DueFits : Due → Type 0
  DueFits (due_root i) = (r : Root) × (slice_get (root_list w) i ≡ Some r)
  DueFits (due_referent p) = PendFits p

  due_fit : (ps : List Pending) → AllByRecursion PendFits ps → AllByRecursion DueFits (map due_referent ps)
  due_fit [] a = tt
  due_fit (p ∷ ps) a = (a.0, due_fit ps a.1)

  pub standing_pends : (x : Standing) → Known g table (x.of ∷ []) (more x.val none) → AllByRecursion PendFits (home_pointers table x.home x.of x.val)
  standing_pends x k = pointers_fit x.home (x.of ∷ []) [] 0 (more x.val none) k (none_fit_one x.of)

  standing_fits : (x : Standing) → Known g table (x.of ∷ []) (more x.val none) → AllByRecursion DueFits (due_of table x)
  standing_fits x k = due_fit (home_pointers table x.home x.of x.val) (standing_pends x k)

  -- a pointer's referent stands
  abbrev PendMet : List Entry → Pending → Type 0
  PendMet seen p = (c : ℕ) → p.cell ≡ Some c → CellStands seen c

  -- what was due stands, and all that it made due
  record StandsMet (seen : List Entry) (x : Standing) : Type 0 where
    pub stands : NodeStands table laid.hoisting subjects g x.home seen x.of x.val
    pub pointers : AllByRecursion (PendMet seen) (home_pointers table x.home x.of x.val)

  abbrev Met : List Entry → Due → Type 0
  Met seen (due_root i) = StandsMet seen (standing_root w g i)
  Met seen (due_referent p) = PendMet seen p

  met_pointers : (seen : List Entry) (ps : List Pending) → AllByRecursion (Met seen) (map due_referent ps) → AllByRecursion (PendMet seen) ps
  met_pointers seen [] a = tt
  met_pointers seen (p ∷ ps) a = (a.0, met_pointers seen ps a.1)

  -- a value that stands as a whole, known, and its cell where it is one
  pub record Whole (x : Standing) : Type 0 where
    pub known : Known g table (x.of ∷ []) (more x.val none)
    pub its_cell : (b : ℕ) → x.home ≡ cell_home b → (y : Referent) → cell_of_number g b ≡ Some y → (y.of ≡ x.of) × (y.val ≡ x.val)

  abbrev home_number : Home → ℕ
  home_number (home.Root i) = 0
  home_number (home.Cell c) = c.0

  pub cell_whole : (c t : ℕ) (x : Referent) → cell_of_number g c ≡ Some x → x.of ≡ t → Whole (record { home = cell_home c; of = t; val = cell_at g c })
  cell_whole c t x e f = record {
    known =
        subst (λ u. Known g table (t ∷ []) (more u none)) (sym (ap cell_tree e))
        (subst (λ u. Known g table (u ∷ []) (more x.val none)) f (known_cells w g s c x e));
    its_cell = λ b h y e'.
        (let same : y ≡ x = same_Some _ _ (sym e' ∙ ap (cell_of_number g) (sym (ap home_number h)) ∙ e) in
        (ap (λ u. u.of) same ∙ f, ap (λ u. u.val) same ∙ sym (ap cell_tree e)));
  }

  root_whole_by : (i t : ℕ) (l : Label) (ks : Trees) → Known g table (t ∷ []) (more (node l ks) none) → (o : Option (ℕ × ℕ)) → direct (type_at table t) (node l ks) ≡ o
      → Whole (standing_by g i t (node l ks) o)
  root_whole_by i t l ks k None e = record { known = k; its_cell = λ b h. cc }
  root_whole_by i t l ks k (Some (b, u)) e =
      let (to, ed, el, eu) = direct_is (type_at table t) l ks b u e k.0.no_null in
      let (x, ex, et) = subst (λ d. PointeeKnown g d (Some b)) ed (subst (λ q. PointeeKnown g (type_at table t) (cell_in q)) el k.0.pointee) in
      cell_whole b u x ex (et ∙ sym eu)

  root_whole_tree : (i t : ℕ) (v : Tree) → Known g table (t ∷ []) (more v none) → Whole (standing_by g i t v (direct (type_at table t) v))
  root_whole_tree i t (node l ks) k = root_whole_by i t l ks k (direct (type_at table t) (node l ks)) refl

  pub root_whole : (i : ℕ) (r : Root) → slice_get (root_list w) i ≡ Some r → Whole (standing_root w g i)
  root_whole i r e =
      subst (λ t. Whole (standing_by g i t (root_at g i) (direct (type_at table t) (root_at g i)))) (sym (ap root_type e)) (root_whole_tree i r.of (root_at g i) (known_roots w g s i r e))

  -- a home that stands, as a cell that is placed
  placed_stands : (x : Standing) (seen : List Entry) → Whole x → NodeStands table laid.hoisting subjects g x.home seen x.of x.val → DoneStand seen (root_cell x.home)
  placed_stands x seen q n = go x.home refl
    where
      go : (h : Home) → x.home ≡ h → DoneStand seen (root_cell h)
      go (home.Root i) e = tt
      go (home.Cell c) e = (
        (λ y f. (
            let (a, b) = q.its_cell c.0 e y f in
            subst (λ t. NodeStands table laid.hoisting subjects g (home.Cell c) seen t y.val) (sym a)
            (subst (λ v. NodeStands table laid.hoisting subjects g (home.Cell c) seen x.of v) (sym b)
            (subst (λ u. NodeStands table laid.hoisting subjects g u seen x.of x.val) e n)))),
        tt,
      )

  -- a standing value's entries, and its agreements in a cell
  stand_find : (x : Standing) (seen : List Entry) → Whole x → Finds seen (standing_entries table x)
  stand_find x seen q = whole_find table laid.hoisting subjects g x.home x.of x.val seen q.known

  cell_tests : (p : Pending) (c : ℕ) (seen : List Entry) → PendFits p → p.cell ≡ Some c → CellStands seen c → Finds seen (step_tests g p c)
  cell_tests p c seen f e a =
      let (x, ex, et) = f.pointee c e in
      by_tree (cell_at g c)
      (subst (λ v. NodeStands table laid.hoisting subjects g (cell_home c) seen p.to v) (sym (ap cell_tree ex))
      (subst (λ t. NodeStands table laid.hoisting subjects g (cell_home c) seen t x.val) et (a x ex)))
    where
      by_tree : (v : Tree) → NodeStands table laid.hoisting subjects g (cell_home c) seen p.to v → Finds seen (tests (cell_home c) 0 v p.agreements)
      by_tree (node l ks) n = tests_find table laid.hoisting subjects (cell_home c) p.to 0 l ks p.agreements seen f.fits n

  module _ (rest : List Entry) where
    steps_find : {done : Placed_cells} {due : List Due} {steps : List Step} → Deferral w g done due steps → (seen : List Entry) → DoneStand seen done → AllByRecursion DueFits due
        → ((later : List Entry) → Within seen later → AllByRecursion (Met later) due → Finds later rest) → Finds seen (flat_map (step_entries w g) steps ++ rest)
    steps_find none_due seen a f k = k seen (λ x m. m) tt
    steps_find (at_root {i = i} {due = due} {steps = steps} free d) seen a f k =
        let x : Standing = standing_root w g i in
        let (r, er) = f.0 in
        let q : Whole x = root_whole i r er in
        let E : List Entry = standing_entries table x in
        let F : List Entry = flat_map (step_entries w g) steps in
        subst (Finds seen) (sym (append_assoc E F rest))
        (behind E (F ++ rest) seen (stand_find x seen q) (λ read.
        let s1 : List Entry = onto E seen in
        let n = whole_stands table laid.hoisting subjects g x.home x.of x.val s1 q.known (now_seen E seen) read in
        steps_find d s1
        (all_append (λ d. CellStands s1 d.1) (root_cell x.home) _ (placed_stands x s1 q n) (done_more seen s1 _ (still_seen E seen) a))
        (all_append DueFits (due_of table x) due (standing_fits x q.known) f.1) (λ later within met.
        k later (λ y m. within y (still_seen E seen y m)) (
          record {
            stands = node_more s1 later x.home x.of x.val within n;
            pointers = met_pointers later (home_pointers table x.home x.of x.val) (all_left (Met later) (due_of table x) due met);
          },
          all_right (Met later) (due_of table x) due met,
        ))))
    steps_find (at_null {p = p} e d) seen a f k =
        steps_find d seen a f.1 (λ later within met. k later within ((λ c h. (let z : None ≡ Some c = sym e ∙ h in cc)), met))
    steps_find (at_standing {p = p} {steps = steps} c e full h d) seen a f k =
        let E : List Entry = step_tests g p c in
        let F : List Entry = flat_map (step_entries w g) steps in
        let stands : CellStands seen c = full_stands seen _ c h a in
        subst (Finds seen) (sym (append_assoc E F rest))
        (behind E (F ++ rest) seen (cell_tests p c seen f.0 e stands) (λ read.
        let s1 : List Entry = onto E seen in
        steps_find d s1 (done_more seen s1 _ (still_seen E seen) a) f.1 (λ later within met.
        let all : Within seen later = λ y m. within y (still_seen E seen y m) in
        k later all ((λ b z. subst (CellStands later) (same_Some _ _ (sym e ∙ z)) (cell_more seen later c all stands)), met))))
    steps_find (at_referent {p = p} {due = due} {steps = steps} c e n d) seen a f k =
        let x : Standing = standing_cell g p c in
        let (y, ey, ty) = f.0.pointee c e in
        let q : Whole x = cell_whole c p.to y ey ty in
        let E : List Entry = standing_entries table x in
        let T : List Entry = step_tests g p c in
        let F : List Entry = flat_map (step_entries w g) steps in
        let s1 : List Entry = onto E seen in
        let s2 : List Entry = onto T s1 in
        subst (Finds seen) (sym (append_assoc (E ++ T) F rest ∙ append_assoc E T (F ++ rest)))
        (behind E (T ++ (F ++ rest)) seen (stand_find x seen q) (λ read.
        let here = whole_stands table laid.hoisting subjects g x.home x.of x.val s1 q.known (now_seen E seen) read in
        let stands : CellStands s1 c = (placed_stands x s1 q here).0 in
        behind T (F ++ rest) s1 (cell_tests p c s1 f.0 e stands) (λ read'.
        let stands2 : CellStands s2 c = cell_more s1 s2 c (still_seen T s1) stands in
        steps_find d s2 (stands2, done_more seen s2 _ (λ z m. still_seen T s1 z (still_seen E seen z m)) a)
        (all_append DueFits (due_of table x) due (standing_fits x q.known) f.1) (λ later within met.
        k later (λ z m. within z (still_seen T s1 z (still_seen E seen z m))) (
          (λ b z. subst (CellStands later) (same_Some _ _ (sym e ∙ z)) (cell_more s2 later c within stands2)),
          all_right (Met later) (due_of table x) due met,
        )))))

  -- ## The agreements of parameters

  root_ags_fit : (d : Option TypeDef) (vars : List AttrVar) → AllByRecursion (λ (v : AttrVar). AttrFits v.attr d) vars → AllFit d (root_agreements w g vars)
  root_ags_fit d [] a = tt
  root_ags_fit d (v ∷ vs) a =
      all_append (λ (q : Agreement). AttrFits q.attr d) (agreement v.attr (variable w g v)) (root_agreements w g vs) (one (variable w g v)) (root_ags_fit d vs a.1)
    where
      one : (o : Option _) → AllFit d (agreement v.attr o)
      one None = tt
      one (Some z) = (a.0, tt)

  -- a root before the pipes stands, or it has no attributes
  abbrev RootReady : List Entry → ℕ → Root → Tree → Type 0
  RootReady seen i r v = (r.vars ≡ []) ⊎ (RootFits table r × Known g table (r.of ∷ []) (more v none) × StandsMet seen (standing_by g i r.of v (direct (type_at table r.of) v)))

  pub no_root_tests : (i : ℕ) (l : Label) (ks : Trees) (ags : List Agreement) → ags ≡ [] → root_test g i (node l ks) ags ≡ []
  no_root_tests i (tree.Ptr None) ks ags e = refl
  no_root_tests i (tree.Ptr (Some c)) ks ags e = ap (tests (cell_home c) 0 (cell_at g c)) e
  no_root_tests i (tree.Num z) ks ags e = ap (tests (home.Root i) 0 (node (tree.Num z) ks)) e
  no_root_tests i tree.Rec ks ags e = ap (tests (home.Root i) 0 (node tree.Rec ks)) e
  no_root_tests i (tree.Arr m o) ks ags e = ap (tests (home.Root i) 0 (node (tree.Arr m o) ks)) e
  no_root_tests i (tree.Text m os) ks ags e = ap (tests (home.Root i) 0 (node (tree.Text m os) ks)) e
  no_root_tests i (tree.Union v) ks ags e = ap (tests (home.Root i) 0 (node (tree.Union v) ks)) e
  no_root_tests i (tree.Context x q) ks ags e = ap (tests (home.Root i) 0 (node (tree.Context x q) ks)) e
  no_root_tests i tree.Pipe ks ags e = ap (tests (home.Root i) 0 (node tree.Pipe ks)) e
  no_root_tests i tree.Unread ks ags e = ap (tests (home.Root i) 0 (node tree.Unread ks)) e

  -- a subject that is the root itself
  self_find : (i t : ℕ) (d : Option TypeDef) (l : Label) (ks : Trees) (ags : List Agreement) (seen : List Entry) → type_at table t ≡ d → is_pointer l ≡ false
      → AllFit (type_at table (pointee_by t d)) ags → StandsMet seen (standing_by g i t (node l ks) (direct d (node l ks)))
      → Finds seen (tests (home.Root i) 0 (node l ks) ags)
  self_find i t (Some (def.Pointer Ref to)) (tree.Ptr c) ks ags seen e p f m = cc
  self_find i t (Some (def.Pointer k to)) l ks ags seen e p f m = by_class k l e p m
    where
      by_class : (k : Class) (l : Label) → type_at table t ≡ Some (def.Pointer k to) → is_pointer l ≡ false
          → StandsMet seen (standing_by g i t (node l ks) (direct (Some (def.Pointer k to)) (node l ks))) → Finds seen (tests (home.Root i) 0 (node l ks) ags)
      by_class k (tree.Ptr c) e p m = cc
      by_class Ref l e p m =
          let r : AllByRecursion IsReadKind (Unread ∷ []) = subst (λ d. AllByRecursion IsReadKind (before_children table t d l ks)) e m.stands.read in
          absurd r.0
      by_class Unique l e p m =
          let r : AllByRecursion IsReadKind (Unread ∷ []) = subst (λ d. AllByRecursion IsReadKind (before_children table t d l ks)) e m.stands.read in
          absurd r.0
      by_class Full l e p m =
          let r : AllByRecursion IsReadKind (Unread ∷ []) = subst (λ d. AllByRecursion IsReadKind (before_children table t d l ks)) e m.stands.read in
          absurd r.0
  self_find i t None l ks ags seen e p f m = tests_find table laid.hoisting subjects (home.Root i) t 0 l ks ags seen f m.stands
  self_find i t (Some _) l ks ags seen e p f m = tests_find table laid.hoisting subjects (home.Root i) t 0 l ks ags seen f m.stands

  -- the cell that a pointer among the roots names stands
  named_stands : (i t : ℕ) (d : Option TypeDef) (c : ℕ) (ks : Trees) (seen : List Entry) → type_at table t ≡ d → Known g table (t ∷ []) (more (node (tree.Ptr (Some c)) ks) none)
      → StandsMet seen (standing_by g i t (node (tree.Ptr (Some c)) ks) (direct d (node (tree.Ptr (Some c)) ks)))
      → (to : ℕ) × (pointee_by t d ≡ to) × NodeStands table laid.hoisting subjects g (cell_home c) seen to (cell_at g c)
  named_stands i t (Some (def.Pointer Ref to)) c ks seen e k m = (to.0, refl, m.stands)
  named_stands i t (Some (def.Pointer k to)) c ks seen e known m = by_class k e m
    where
      abbrev_cell : (x : Referent) → cell_of_number g c ≡ Some x → x.of ≡ to.0 → CellStands seen c → NodeStands table laid.hoisting subjects g (cell_home c) seen to.0 (cell_at g c)
      abbrev_cell x ex et a =
          subst (λ v. NodeStands table laid.hoisting subjects g (cell_home c) seen to.0 v) (sym (ap cell_tree ex))
          (subst (λ u. NodeStands table laid.hoisting subjects g (cell_home c) seen u x.val) et (a x ex))

      by_pointer : (k : Class) → type_at table t ≡ Some (def.Pointer k to) → AllByRecursion (PendMet seen) (home_pointers table (home.Root i) t (node (tree.Ptr (Some c)) ks))
          → NodeStands table laid.hoisting subjects g (cell_home c) seen to.0 (cell_at g c)
      by_pointer k e a =
          let (x, ex, et) = subst (λ d. PointeeKnown g d (Some c)) e known.0.pointee in
          abbrev_cell x ex et ((all_left (PendMet seen) (pointer_by (Some (def.Pointer k to)) true (Some c) (home.Root i) 0 []) _
          (subst (λ d. AllByRecursion (PendMet seen) (pointer_by d true (Some c) (home.Root i) 0 []
          ++ flat_map (pointer table (home.Root i)) (nodes_of table (child_types (type_at table t) (tree.Ptr (Some c)) ks) (child_agreements (type_at table t) ks) 1 ks
          ++ nodes_of table [] [] (1 + node_count ks) none))) e a)).0 c refl)

      by_class : (k : Class) → type_at table t ≡ Some (def.Pointer k to)
          → StandsMet seen (standing_by g i t (node (tree.Ptr (Some c)) ks) (direct (Some (def.Pointer k to)) (node (tree.Ptr (Some c)) ks)))
          → (u : ℕ) × (to.0 ≡ u) × NodeStands table laid.hoisting subjects g (cell_home c) seen u (cell_at g c)
      by_class Ref e m = (to.0, refl, m.stands)
      by_class Unique e m = (to.0, refl, by_pointer Unique e m.pointers)
      by_class Full e m = (to.0, refl, by_pointer Full e m.pointers)
  named_stands i t (Some (def.Prim p)) c ks seen e k m = absurd (subst (λ d. AllByRecursion IsReadKind (before_children table t d (tree.Ptr (Some c)) ks)) e m.stands.read).0
  named_stands i t None c ks seen e k m = absurd (subst (λ d. AllByRecursion IsReadKind (before_children table t d (tree.Ptr (Some c)) ks)) e m.stands.read).0
  named_stands i t (Some _) c ks seen e k m = absurd (subst (λ d. AllByRecursion IsReadKind (before_children table t d (tree.Ptr (Some c)) ks)) e m.stands.read).0

  by_node : (h : Home) (t : ℕ) (v : Tree) (ags : List Agreement) (seen : List Entry) → AllFit (type_at table t) ags → NodeStands table laid.hoisting subjects g h seen t v
      → Finds seen (tests h 0 v ags)
  by_node h t (node l ks) ags seen f n = tests_find table laid.hoisting subjects h t 0 l ks ags seen f n

  root_find : (i : ℕ) (r : Root) (l : Label) (ks : Trees) (seen : List Entry) → RootReady seen i r (node l ks) → Finds seen (root_test g i (node l ks) (root_agreements w g r.vars))
  root_find i r l ks seen (inl e) = subst (Finds seen) (sym (no_root_tests i l ks (root_agreements w g r.vars) (ap (root_agreements w g) e))) tt
  root_find i r l ks seen (inr (f, k, m)) = go l k m
    where
      fit : AllFit (type_at table (pointee table r.of)) (root_agreements w g r.vars)
      fit = root_ags_fit (type_at table (pointee table r.of)) r.vars f

      go : (l : Label) → Known g table (r.of ∷ []) (more (node l ks) none) → StandsMet seen (standing_by g i r.of (node l ks) (direct (type_at table r.of) (node l ks)))
          → Finds seen (root_test g i (node l ks) (root_agreements w g r.vars))
      go (tree.Ptr None) k m = tt
      go (tree.Ptr (Some c)) k m =
          let (to, e, n) = named_stands i r.of (type_at table r.of) c ks seen refl k m in
          by_node (cell_home c) to (cell_at g c) (root_agreements w g r.vars) seen (subst (λ u. AllFit (type_at table u) (root_agreements w g r.vars)) e fit) n
      go (tree.Num z) k m = self_find i r.of (type_at table r.of) (tree.Num z) ks (root_agreements w g r.vars) seen refl refl fit m
      go tree.Rec k m = self_find i r.of (type_at table r.of) tree.Rec ks (root_agreements w g r.vars) seen refl refl fit m
      go (tree.Arr x o) k m = self_find i r.of (type_at table r.of) (tree.Arr x o) ks (root_agreements w g r.vars) seen refl refl fit m
      go (tree.Text x os) k m = self_find i r.of (type_at table r.of) (tree.Text x os) ks (root_agreements w g r.vars) seen refl refl fit m
      go (tree.Union v) k m = self_find i r.of (type_at table r.of) (tree.Union v) ks (root_agreements w g r.vars) seen refl refl fit m
      go (tree.Context x q) k m = self_find i r.of (type_at table r.of) (tree.Context x q) ks (root_agreements w g r.vars) seen refl refl fit m
      go tree.Pipe k m = self_find i r.of (type_at table r.of) tree.Pipe ks (root_agreements w g r.vars) seen refl refl fit m
      go tree.Unread k m = self_find i r.of (type_at table r.of) tree.Unread ks (root_agreements w g r.vars) seen refl refl fit m

  standing_more : (xs ys : List Entry) (x : Standing) → Within xs ys → StandsMet xs x → StandsMet ys x
  standing_more xs ys x k m = record {
    stands = node_more xs ys x.home x.of x.val k m.stands;
    pointers = all_more (home_pointers table x.home x.of x.val) m.pointers;
  }
    where
      all_more : (ps : List Pending) → AllByRecursion (PendMet xs) ps → AllByRecursion (PendMet ys) ps
      all_more [] a = tt
      all_more (p ∷ ps) a = ((λ c e. cell_more xs ys c k (a.0 c e)), all_more ps a.1)

  ready_more : (xs ys : List Entry) (i : ℕ) (r : Root) (v : Tree) → Within xs ys → RootReady xs i r v → RootReady ys i r v
  ready_more xs ys i r v k (inl e) = inl e
  ready_more xs ys i r v k (inr (f, q, m)) = inr (f, q, standing_more xs ys _ k m)

  roots_find : (i : ℕ) (rs : List Root) (vs : List Tree) (seen : List Entry) → length vs ≡ length rs
      → ((j : ℕ) (r : Root) → slice_get rs j ≡ Some r → RootReady seen (i + j) r (or_unread (slice_get vs j))) → Finds seen (root_tests w g i rs vs)
  roots_find i [] vs seen h f = tt
  roots_find i (r ∷ rs) [] seen h f = tt
  roots_find i (r ∷ rs) (node l ks ∷ vs) seen h f =
      let T : List Entry = root_test g i (node l ks) (root_agreements w g r.vars) in
      let z : i + 0 ≡ i = omega arith in
      behind T (root_tests w g (i + 1) rs vs) seen (root_find i r l ks seen (subst (λ u. RootReady seen u r (node l ks)) z (f 0 r refl))) (λ read.
      roots_find (i + 1) rs vs (onto T seen) (omega arith) (λ j q e.
      let y : i + suc j ≡ i + 1 + j = omega arith in
      ready_more seen (onto T seen) (i + 1 + j) q (or_unread (slice_get vs j)) (still_seen T seen) (subst (λ u. RootReady seen u q (or_unread (slice_get vs j))) y (f (suc j) q e))))

  -- ## Pipes

  chunks_find : (h : Home) (e : ℕ) → (n : ℕ) (cut : List ℕ) (ts : Trees) (seen : List Entry) → sum cut ≡ count ts → (one : (m : ℕ) (us : Trees) (xs : List Entry) (k : ℕ)
      → Known g table (replicate k e) us → Finds xs (in_place table h (replicate k e) m us)) → Known g table (replicate (count ts) e) ts
      → Finds seen (chunks table h e n cut ts)
  chunks_find h e n [] ts seen s one k = kinds_find h 0 seen (Align 4 ∷ Chunk 0 ∷ []) (tt, (tt, tt))
  chunks_find h e n (c ∷ cut) ts seen s one k =
      let total : c + sum cut ≡ count ts = sym (sum_first c cut) ∙ s in
      let low : c ≤ count ts = omega arith in
      let left : sum cut ≡ count (drop_trees c ts) = omega (arith, count_drop c ts low) in
      let head : List Entry = entries h 0 (Align 4 ∷ Chunk c ∷ []) in
      let here : List Entry = in_place table h (replicate c e) n (take_trees c ts) in
      let later : List Entry = chunks table h e (n + node_count (take_trees c ts)) cut (drop_trees c ts) in
      behind (head ++ here) later seen
      (behind head here seen (kinds_find h 0 seen (Align 4 ∷ Chunk c ∷ []) (tt, (tt, tt))) (λ read. one n (take_trees c ts) (onto head seen) c (known_take g table e c ts low k))) (λ read.
      chunks_find h e (n + node_count (take_trees c ts)) cut (drop_trees c ts) (onto (head ++ here) seen) left one (known_drop g table e c ts k))

  pipe_find : (i : ℕ) (r : Root) (cut : List ℕ) (l : Label) (ks : Trees) (seen : List Entry) → IsPipeRoot table r → Known g table (r.of ∷ []) (more (node l ks) none) → Cuts (count ks) cut
      → Finds seen (pipe_entries table (home.Root i) (type_at table r.of) cut (node l ks))
  pipe_find i r cut l ks seen p k c =
      go (pipe_label g p.elem l ks (subst (λ d. NodeKnown g d l ks) p.type_is k.0))
    where
      go : (l ≡ tree.Unread) ⊎ (l ≡ tree.Pipe) → Finds seen (pipe_entries table (home.Root i) (type_at table r.of) cut (node l ks))
      go (inl e) =
          subst (λ q. Finds seen (pipe_entries table (home.Root i) (type_at table r.of) cut (node q ks))) (sym e)
          (subst (Finds seen) (sym (unread_pipe table (home.Root i) (type_at table r.of) cut ks)) (inl refl))
      go (inr e) =
          let plain = laid.hoisting.piped r.of p.elem p.type_is in
          let unread_not : l ≡ tree.Unread → ⊥ = λ f. (let z : tree.Pipe ≡ tree.Unread = sym e ∙ f in absurd (cc)) in
          let kids : Known g table (replicate (count ks) p.elem.0) ks =
          subst (λ d. Known g table (child_types d tree.Pipe ks) ks) p.type_is
          (subst (λ q. Known g table (child_types (type_at table r.of) q ks) ks) e (k.1 unread_not)) in
          subst (λ q. Finds seen (pipe_entries table (home.Root i) (type_at table r.of) cut (node q ks))) (sym e)
          (subst (λ d. Finds seen (pipe_entries table (home.Root i) d cut (node tree.Pipe ks))) (sym p.type_is)
          (chunks_find (home.Root i) p.elem.0 1 cut ks seen c.0 (λ m us xs j q.
          in_place_find table laid.hoisting subjects g (home.Root i) (replicate j p.elem.0) m us xs (replicate_only (hoists table) p.elem.0 plain j) q
          (λ z. absurd (both_ways _ (replicate_last (hoists table) p.elem.0 plain j) z))) kids))

  pipes_find : (i : ℕ) (rs : List Root) (vs : List Tree) (cuts : List (List ℕ)) (seen : List Entry) → AllByRecursion (IsPipeRoot table) rs → AllCut vs cuts
      → ((j : ℕ) (r : Root) → slice_get rs j ≡ Some r → Known g table (r.of ∷ []) (more (or_unread (slice_get vs j)) none)) → Finds seen (pipes_entries table i rs vs cuts)
  pipes_find i [] vs cuts seen p c f = tt
  pipes_find i (r ∷ rs) [] cuts seen p c f = tt
  pipes_find i (r ∷ rs) (v ∷ vs) [] seen p c f = tt
  pipes_find i (r ∷ rs) (node l ks ∷ vs) (cut ∷ cuts) seen p c f =
      let P : List Entry = pipe_entries table (home.Root i) (type_at table r.of) cut (node l ks) in
      behind P (pipes_entries table (i + 1) rs vs cuts) seen (pipe_find i r cut l ks seen p.0 (f 0 r refl) c.0) (λ read.
      pipes_find (i + 1) rs vs cuts (onto P seen) p.1 c.1 (λ j q e. f (suc j) q e))

  -- ## The whole

  abbrev n : ℕ
  n = before_pipes (root_list w)

  roots_due : (i k : ℕ) → i + k ≤ length (root_list w) → AllByRecursion DueFits (due_roots i k)
  roots_due i zero h = tt
  roots_due i (suc k) h = (root_there w i (omega arith), roots_due (suc i) k (omega arith))

  met_at : (seen : List Entry) (i k : ℕ) → AllByRecursion (Met seen) (due_roots i k) → (j : ℕ) → j < k → StandsMet seen (standing_root w g (i + j))
  met_at seen i zero a j h = absurd (omega arith)
  met_at seen i (suc k) a zero h = subst (λ u. StandsMet seen (standing_root w g u)) (omega arith) a.0
  met_at seen i (suc k) a (suc j) h = subst (λ u. StandsMet seen (standing_root w g u)) (omega arith) (met_at seen (suc i) k a.1 j (omega arith))

  pub stream_finds : AllByRecursion (RootFits table) (root_list w) → (ms : List Entry) → Stream w g ms → Finds [] ms
  stream_finds fits ms a =
      let F : List Entry = flat_map (step_entries w g) a.steps in
      let T : List Entry = root_tests w g 0 (root_list w) g.roots in
      let P : List Entry = pipes_entries table n (drop n (root_list w)) (drop n g.roots) a.cuts in
      let e : ms ≡ F ++ (T ++ P) = a.is_representation ∙ append_assoc F T P in
      subst (Finds []) (sym e)
      (steps_find (T ++ P) a.deferral [] tt (roots_due 0 n (omega (arith, few_before_pipes (root_list w)))) (λ later within met.
      behind T P later (roots_find 0 (root_list w) g.roots later s.all_roots (λ j r er. ready later met j r er (cases_lt j n))) (λ read.
      pipes_find n (drop n (root_list w)) (drop n g.roots) a.cuts (onto T later) laid.pipes a.all_cut (λ j r er.
      subst (λ u. Known g table (r.of ∷ []) (more (or_unread u) none)) (sym (drop_at n g.roots j))
      (known_roots w g s (n + j) r (sym (drop_at n (root_list w) j) ∙ er))))))
    where
      ready : (later : List Entry) → AllByRecursion (Met later) (due_roots 0 n) → (j : ℕ) (r : Root) → slice_get (root_list w) j ≡ Some r → (j < n) ⊎ (n ≤ j)
          → RootReady later (0 + j) r (or_unread (slice_get g.roots j))
      ready later met j r e (inl h) =
          let z : 0 + j ≡ j = omega arith in
          let m : StandsMet later (standing_root w g j) = subst (λ u. StandsMet later (standing_root w g u)) z (met_at later 0 n met j h) in
          subst (λ u. RootReady later u r (root_at g j)) (sym z)
          (inr (
            all_at (RootFits table) (root_list w) j r fits e,
            known_roots w g s j r e,
            subst (λ t. StandsMet later (standing_by g j t (root_at g j) (direct (type_at table t) (root_at g j)))) (ap root_type e) m,
          ))
      ready later met j r e (inr h) =
          let k : n + (j - n) ≡ j = omega arith in
          inl (all_at (IsPipeRoot table) (drop n (root_list w)) (j - n) r laid.pipes (drop_at n (root_list w) (j - n) ∙ ap (slice_get (root_list w)) k ∙ e)).no_vars
