-- The agreements that are tried at a root's own value: they are those of the root's attributes.
-- `w` is a setting, `g` a partial graph, `h` a home, `n` a node's number, `m` an entry, `a` an agreement or an attribute, `r` a root, `i` and `j` are places
-- of roots, `vs` are attributes with their variables, `t` is a type's number or a tree.
use Rattle.std.proofs.Common.{◌≡◌, ◌⊎◌, inl, inr, ◌∙◌, ℕ, suc, ◌+◌, ◌<◌, ◌≤◌, ℤ, Bool, true, false, List, [], ◌∷◌, ◌++◌, drop, replicate, Option, Some, None, refl, sym, ap, subst, arith}
use Rattle.std.specs.Prelude.{flat_map}
use Rattle.std.specs.List.{AllByRecursion, slice_get}
use Rattle.nd_types.specs.declared.types.Attr.{Attr}
use Rattle.nd_types.specs.declared.types.AttrVar.{AttrVar}
use Rattle.nd_types.specs.declared.types.TypeDef.{TypeDef}
use Rattle.nd_types.specs.declared.types.TypeDef.TheVariants as def
use Rattle.nd_types.specs.Layout.{hoists}
use Rattle.nd_types.specs.Roots.{Root}
use Rattle.nd_types.specs.Table.{Table, type_at}
use Rattle.nd_value.specs.declared.item.Home.{Home}
use Rattle.nd_value.specs.declared.item.Home.TheVariants as home
use Rattle.nd_value.specs.declared.value.Graph.{Graph}
use Rattle.nd_value.specs.Agreement.{Agreement, agreement, found_in, wanted_by, root_agreements, variable}
use Rattle.nd_value.specs.Deferral.{Step, before_pipes, referent_stands, root_stands, standing_cell, standing_root, stands_already}
use Rattle.nd_value.specs.Nodes.{child_agreements, child_types, first_agreements, rest_agreements}
use Rattle.nd_value.specs.Setting.{Among, Setting, cell_at, cell_home, root_list}
use Rattle.nd_value.specs.Tree as tree
use Rattle.nd_value.specs.Tree.{Label, Tree, Trees, drop_trees, is_pointer, more, node, node_count, none, take_trees}
use Rattle.nd_value.proofs.Apart.{all_among, all_append, all_weaker}
use Rattle.nd_grammar.specs.Entry.{Align, Chunk, Entry, EntryAt, Kind, Test, Unread, end_to_end, size_at, before_children, child_tests, entries, hoisted, hoisted_max, in_place, own_tests, tests}
use Rattle.nd_grammar.specs.Entry.{whole_value}
use Rattle.nd_grammar.specs.Stream.{Stream, chunk_entries, chunks, pipe_entries, pipes_entries, root_test, root_tests, standing_entries, step_entries, step_tests}
use Rattle.nd_grammar.proofs.Placed.{among_split}
use Rattle.nd_grammar.proofs.agreements.TestsFind.{IsNoTest, before_plain}
use Rattle.ndr_trace_value.specs.Untested.{is_test}

-- ## Agreements of members

-- an agreement is tried at a node after this one
abbrev pub Later : ℕ → Entry → Type 0
Later n m = is_test m.kind ≡ true → n < m.node

no_test : {A : Type 0} (x : Kind) → IsNoTest x → is_test x ≡ true → A
no_test (Test a wanted found) p e = absurd p
no_test _ p e = cc

plain_later : (n : ℕ) (h : Home) (j : ℕ) (xs : List Kind) → AllByRecursion IsNoTest xs → AllByRecursion (Later n) (entries h j xs)
plain_later n h j [] a = tt
plain_later n h j (x ∷ xs) a = (no_test x a.0, plain_later n h j xs a.1)

own_later : (n : ℕ) (h : Home) (j : ℕ) (t : Tree) → n < j → (b : Bool) (ags : List Agreement) → AllByRecursion (Later n) (own_tests b h j t ags)
own_later n h j t low true ags = tt
own_later n h j t low false [] = tt
own_later n h j t low false (a ∷ ags) = ((λ e. low), own_later n h j t low false ags)

children_later : (n : ℕ) (h : Home) (ags : List (List Agreement)) (j : ℕ) (ts : Trees) → n < j → AllByRecursion (Later n) (child_tests h ags j ts)
children_later n h ags j none low = tt
children_later n h ags j (more (node l ks) ts) low =
    all_append (Later n) (own_tests (is_pointer l) h j (node l ks) (first_agreements ags)) (child_tests h (rest_agreements ags) (j + 1 + node_count ks) ts)
    (own_later n h j (node l ks) low (is_pointer l) (first_agreements ags)) (children_later n h (rest_agreements ags) (j + 1 + node_count ks) ts (omega (arith, low)))

module _ (table : Table) where
  placed_later : (n : ℕ) (h : Home) (types : List ℕ) (j : ℕ) (ts : Trees) → n ≤ j → AllByRecursion (Later n) (in_place table h types j ts)
  placed_later n h [] j none low = tt
  placed_later n h (t ∷ types) j none low = tt
  placed_later n h [] j (more v ts) low = tt
  placed_later n h (t ∷ types) j (more (node l ks) ts) low =
      let d : Option TypeDef = type_at table t in
      let A : List Entry = entries h j (before_children table t d l ks) in
      let B : List Entry = in_place table h (child_types d l ks) (j + 1) ks in
      let C : List Entry = child_tests h (child_agreements d ks) (j + 1) ks in
      let D : List Entry = in_place table h types (j + 1 + node_count ks) ts in
      all_append (Later n) A (B ++ (C ++ D)) (plain_later n h j (before_children table t d l ks) (before_plain table t d l ks))
      (all_append (Later n) B (C ++ D) (placed_later n h (child_types d l ks) (j + 1) ks (omega (arith, low)))
      (all_append (Later n) C D (children_later n h (child_agreements d ks) (j + 1) ks (omega (arith, low)))
      (placed_later n h types (j + 1 + node_count ks) ts (omega (arith, low)))))

  hoisted_plain : (b : Bool) (l : Label) (max : ℕ) → AllByRecursion IsNoTest (hoisted b l max)
  hoisted_plain false l max = tt
  hoisted_plain true tree.Unread max = tt
  hoisted_plain true _ max = (tt, (tt, tt))

  pub whole_later : (h : Home) (t : ℕ) (v : Tree) → AllByRecursion (Later 0) (whole_value table h t v)
  whole_later h t (node l ks) =
      all_append (Later 0) (entries h 0 (hoisted (hoists table t) l (hoisted_max 0 (more (node l ks) none)))) (in_place table h (t ∷ []) 0 (more (node l ks) none))
      (plain_later 0 h 0 (hoisted (hoists table t) l (hoisted_max 0 (more (node l ks) none))) (hoisted_plain (hoists table t) l (hoisted_max 0 (more (node l ks) none))))
      (placed_later 0 h (t ∷ []) 0 (more (node l ks) none) (omega arith))

  chunks_later : (h : Home) (t j : ℕ) (cut : List ℕ) (ts : Trees) → AllByRecursion (Later 0) (chunks table h t j cut ts)
  chunks_later h t j [] ts = plain_later 0 h 0 (Align 4 ∷ Chunk 0 ∷ []) (tt, (tt, tt))
  chunks_later h t j (k ∷ cut) ts =
      all_append (Later 0) (chunk_entries table h t j k (take_trees k ts)) (chunks table h t (j + node_count (take_trees k ts)) cut (drop_trees k ts))
      (all_append (Later 0) (entries h 0 (Align 4 ∷ Chunk k ∷ [])) (in_place table h (replicate k t) j (take_trees k ts))
      (plain_later 0 h 0 (Align 4 ∷ Chunk k ∷ []) (tt, (tt, tt))) (placed_later 0 h (replicate k t) j (take_trees k ts) (omega arith)))
      (chunks_later h t (j + node_count (take_trees k ts)) cut (drop_trees k ts))

  pipe_later : (h : Home) (d : Option TypeDef) (cut : List ℕ) (v : Tree) → AllByRecursion (Later 0) (pipe_entries table h d cut v)
  pipe_later h (Some (def.Pipe elem)) cut (node tree.Pipe ks) = chunks_later h elem.0 1 cut ks
  pipe_later h (Some (def.Pipe elem)) cut (node _ ks) = plain_later 0 h 0 (Unread ∷ []) (tt, tt)
  pipe_later h None cut v = plain_later 0 h 0 (Unread ∷ []) (tt, tt)
  pipe_later h (Some _) cut v = plain_later 0 h 0 (Unread ∷ []) (tt, tt)

  pub pipes_later : (i : ℕ) (rs : List Root) (vs : List Tree) (cuts : List (List ℕ)) → AllByRecursion (Later 0) (pipes_entries table i rs vs cuts)
  pipes_later i [] vs cuts = tt
  pipes_later i (r ∷ rs) [] cuts = tt
  pipes_later i (r ∷ rs) (v ∷ vs) [] = tt
  pipes_later i (r ∷ rs) (v ∷ vs) (cut ∷ cuts) =
      all_append (Later 0) (pipe_entries table (home.Root i) (type_at table r.of) cut v) (pipes_entries table (i + 1) rs vs cuts)
      (pipe_later (home.Root i) (type_at table r.of) cut v) (pipes_later (i + 1) rs vs cuts)

-- ## Agreements of pointers

-- no agreement is tried at a root's own value
abbrev NotOwn : Entry → Type 0
NotOwn m = is_test m.kind ≡ true → m.node ≡ 0 → (i : ℕ) → m.home ≡ home.Root i → ⊥

later_not_own : (m : Entry) → Later 0 m → NotOwn m
later_not_own m f e z i h = let low = f e in absurd (omega (arith, low, z))

cell_not_own : (c : ℕ) (v : Tree) (ags : List Agreement) → AllByRecursion NotOwn (tests (cell_home c) 0 v ags)
cell_not_own c v [] = tt
cell_not_own c v (a ∷ ags) = ((λ e z i h. absurd (let x : ⊥ = cc in x)), cell_not_own c v ags)

-- ## What the agreements of a root say

pub tests_tell : (h : Home) (n : ℕ) (v : Tree) (ags : List Agreement) (m : Entry) → Among (tests h n v ags) m
    → (a : Agreement) × Among ags a × (m ≡ record { home = h; node = n; kind = Test a.attr a.wanted (found_in a.attr v) })
tests_tell h n v [] m e = absurd e
tests_tell h n v (a ∷ ags) m (inl e) = (a, inl refl, e)
tests_tell h n v (a ∷ ags) m (inr e) = let (b, k, is) = tests_tell h n v ags m e in (b, inr k, is)

-- an attribute with its variable states this number
pub record Says (w : Setting) (g : Graph) (vs : List AttrVar) (a : Attr) (wanted : ℤ) : Type 0 where
  pub by : AttrVar
  pub among : Among vs by
  pub attr_is : by.attr ≡ a
  pub value : ℤ
  pub value_is : variable w g by ≡ Some value
  pub wanted_is : wanted ≡ wanted_by a value

-- an agreement of a root's is tried at its own value
pub record OwnTest (w : Setting) (g : Graph) (i : ℕ) (a : Attr) (wanted : ℤ) : Type 0 where
  pub root : Root
  pub there : slice_get (root_list w) i ≡ Some root
  pub says : Says w g root.vars a wanted

pub same_attr : (a b : Attr) (v u f g : ℤ) → Test a v f ≡ Test b u g → a ≡ b
same_attr a b v u f g e = cc

pub same_wanted : (a b : Attr) (v u f g : ℤ) → Test a v f ≡ Test b u g → v ≡ u
same_wanted a b v u f g e = cc

module _ (w : Setting) (g : Graph) where
  one_more : (v : AttrVar) (vs : List AttrVar) (a : Attr) (wanted : ℤ) → Says w g vs a wanted → Says w g (v ∷ vs) a wanted
  one_more v vs a wanted s = record { by = s.by; among = inr s.among; attr_is = s.attr_is; value = s.value; value_is = s.value_is; wanted_is = s.wanted_is }

  agreements_tell : (vs : List AttrVar) (x : Agreement) → Among (root_agreements w g vs) x → Says w g vs x.attr x.wanted
  agreements_tell [] x e = absurd e
  agreements_tell (v ∷ vs) x e = go (variable w g v) refl e (agreements_tell vs x)
    where
      go : (o : Option ℤ) → variable w g v ≡ o → Among (agreement v.attr o ++ root_agreements w g vs) x
          → (Among (root_agreements w g vs) x → Says w g vs x.attr x.wanted) → Says w g (v ∷ vs) x.attr x.wanted
      go None f k later = one_more v vs x.attr x.wanted (later k)
      go (Some z) f (inl k) later = record {
        by = v;
        among = inl refl;
        attr_is = ap (λ (y : Agreement). y.attr) (sym k);
        value = z;
        value_is = f;
        wanted_is = ap (λ (y : Agreement). y.wanted) k ∙ ap (λ b. wanted_by b z) (ap (λ (y : Agreement). y.attr) (sym k));
      }
      go (Some z) f (inr k) later = one_more v vs x.attr x.wanted (later k)

  pub tests_say : (h : Home) (n : ℕ) (v : Tree) (vs : List AttrVar) (m : Entry) → Among (tests h n v (root_agreements w g vs)) m → (a : Attr) (wanted found : ℤ)
      → m.kind ≡ Test a wanted found → (m.home ≡ h) × Says w g vs a wanted
  tests_say h n v vs m e a wanted found k =
      let (x, among, is) = tests_tell h n v (root_agreements w g vs) m e in
      let same_kind : Test x.attr x.wanted (found_in x.attr v) ≡ Test a wanted found = sym (ap (λ (y : Entry). y.kind) is) ∙ k in
      let attr_is : x.attr ≡ a = same_attr x.attr a x.wanted wanted (found_in x.attr v) found same_kind in
      let wanted_is : x.wanted ≡ wanted = same_wanted x.attr a x.wanted wanted (found_in x.attr v) found same_kind in (
        ap (λ (y : Entry). y.home) is,
        subst (λ u. Says w g vs a u) wanted_is (subst (λ u. Says w g vs u x.wanted) attr_is (agreements_tell vs x among)),
      )

  -- those of a root are tried at its own value, or in the cell that it names
  root_tells : (j : ℕ) (r : Root) (v : Tree) (m : Entry) → Among (root_test g j v (root_agreements w g r.vars)) m → (a : Attr) (wanted found : ℤ)
      → m.kind ≡ Test a wanted found → (i : ℕ) → m.home ≡ home.Root i → (i ≡ j) × Says w g r.vars a wanted
  root_tells j r (node l ks) m e a wanted found k i h = go l e
    where
      own : (v : Tree) → Among (tests (home.Root j) 0 v (root_agreements w g r.vars)) m → (i ≡ j) × Says w g r.vars a wanted
      own v e =
          let (its_home, says) = tests_say (home.Root j) 0 v r.vars m e a wanted found k in
          (same_place (sym h ∙ its_home), says)
        where
          same_place : home.Root i ≡ home.Root j → i ≡ j
          same_place f = cc

      elsewhere : {A : Type 0} (c : ℕ) → Among (tests (cell_home c) 0 (cell_at g c) (root_agreements w g r.vars)) m → A
      elsewhere c e =
          let (x, among, is) = tests_tell (cell_home c) 0 (cell_at g c) (root_agreements w g r.vars) m e in
          let same_home : home.Root i ≡ cell_home c = sym h ∙ ap (λ (y : Entry). y.home) is in
          absurd (let z : ⊥ = cc in z)

      go : (l : Label) → Among (root_test g j (node l ks) (root_agreements w g r.vars)) m → (i ≡ j) × Says w g r.vars a wanted
      go (tree.Ptr None) e = absurd e
      go (tree.Ptr (Some c)) e = elsewhere c e
      go (tree.Num z) e = own (node (tree.Num z) ks) e
      go tree.Rec e = own (node tree.Rec ks) e
      go (tree.Arr x o) e = own (node (tree.Arr x o) ks) e
      go (tree.Text x os) e = own (node (tree.Text x os) ks) e
      go (tree.Union z) e = own (node (tree.Union z) ks) e
      go (tree.Context x id) e = own (node (tree.Context x id) ks) e
      go tree.Pipe e = own (node tree.Pipe ks) e
      go tree.Unread e = own (node tree.Unread ks) e

  -- an agreement of one of the roots from the i-th on
  abbrev pub OneOf : ℕ → List Root → List Tree → Entry → Type 0
  OneOf i rs vs m =
      (j : ℕ) × (r : Root) × (v : Tree) × (slice_get rs j ≡ Some r) × (slice_get vs j ≡ Some v) × Among (root_test g (i + j) v (root_agreements w g r.vars)) m

  pub roots_tell : (i : ℕ) (rs : List Root) (vs : List Tree) (m : Entry) → Among (root_tests w g i rs vs) m → OneOf i rs vs m
  roots_tell i [] vs m e = absurd e
  roots_tell i (r ∷ rs) [] m e = absurd e
  roots_tell i (r ∷ rs) (v ∷ vs) m e =
      go (among_split (root_test g i v (root_agreements w g r.vars)) (root_tests w g (i + 1) rs vs) m e) (roots_tell (i + 1) rs vs m)
    where
      go : Among (root_test g i v (root_agreements w g r.vars)) m ⊎ Among (root_tests w g (i + 1) rs vs) m → (Among (root_tests w g (i + 1) rs vs) m → OneOf (i + 1) rs vs m)
          → OneOf i (r ∷ rs) (v ∷ vs) m
      go (inl k) later =
          let z : i ≡ i + 0 = omega arith in
          (0, r, v, refl, refl, subst (λ u. Among (root_test g u v (root_agreements w g r.vars)) m) z k)
      go (inr k) later =
          let (j, q, u, there, value, at) = later k in
          let z : i + 1 + j ≡ i + suc j = omega arith in
          (suc j, q, u, there, value, subst (λ x. Among (root_test g x u (root_agreements w g q.vars)) m) z at)

  -- ## Over a stream

  standing_not_own : (h : Home) (t : ℕ) (v : Tree) → AllByRecursion NotOwn (whole_value w.table h t v)
  standing_not_own h t v = all_weaker (Later 0) NotOwn later_not_own (whole_value w.table h t v) (whole_later w.table h t v)

  step_not_own : (s : Step) → AllByRecursion NotOwn (step_entries w g s)
  step_not_own (root_stands i) = let x = standing_root w g i in standing_not_own x.home x.of x.val
  step_not_own (referent_stands p c) =
      let x = standing_cell g p c in
      all_append NotOwn (standing_entries w.table x) (step_tests g p c) (standing_not_own x.home x.of x.val) (cell_not_own c (cell_at g c) p.agreements)
  step_not_own (stands_already p c) = cell_not_own c (cell_at g c) p.agreements

  steps_not_own : (steps : List Step) → AllByRecursion NotOwn (flat_map (step_entries w g) steps)
  steps_not_own [] = tt
  steps_not_own (s ∷ steps) = all_append NotOwn (step_entries w g s) (flat_map (step_entries w g) steps) (step_not_own s) (steps_not_own steps)

  -- an agreement that is tried at a root's own value is one of the root's
  pub own_test : (ms : List Entry) → Stream w g ms → (m : Entry) → Among ms m → (a : Attr) (wanted found : ℤ) → m.kind ≡ Test a wanted found → (i : ℕ)
      → m.home ≡ home.Root i → m.node ≡ 0 → OwnTest w g i a wanted
  own_test ms s m among a wanted found k i h z = by_part (among_split (F ++ T) P m (subst (λ xs. Among xs m) s.is_representation among))
    where
      F : List Entry
      F = flat_map (step_entries w g) s.steps

      T : List Entry
      T = root_tests w g 0 (root_list w) g.roots

      P : List Entry
      P =
          pipes_entries w.table (before_pipes (root_list w)) (drop (before_pipes (root_list w)) (root_list w)) (drop (before_pipes (root_list w)) g.roots)
          s.cuts

      tried : is_test m.kind ≡ true
      tried = ap is_test k

      of_root : OneOf 0 (root_list w) g.roots m → OwnTest w g i a wanted
      of_root (j, r, v, there, value, at) =
          let (same, says) = root_tells (0 + j) r v m at a wanted found k i h in
          let place : j ≡ i = omega (arith, same) in
          record { root = r; there = ap (slice_get (root_list w)) (sym place) ∙ there; says = says }

      by_head : Among F m ⊎ Among T m → OwnTest w g i a wanted
      by_head (inl e) = absurd (all_among NotOwn F m e (steps_not_own s.steps) tried z i h)
      by_head (inr e) = of_root (roots_tell 0 (root_list w) g.roots m e)

      by_part : Among (F ++ T) m ⊎ Among P m → OwnTest w g i a wanted
      by_part (inl e) = by_head (among_split F T m e)
      by_part (inr e) =
          absurd (later_not_own m (all_among (Later 0) P m e (pipes_later w.table (before_pipes (root_list w)) (drop (before_pipes (root_list w)) (root_list w))
          (drop (before_pipes (root_list w)) g.roots) s.cuts)) tried z i h)

-- the refused entry is one of the stream's
pub here_among : (at : ℕ) (ms : List Entry) (earlier : List EntryAt) (here : EntryAt) (later : List EntryAt) → end_to_end at ms ≡ earlier ++ here ∷ later → Among ms here.entry
here_among at [] [] here later e = cc
here_among at [] (x ∷ earlier) here later e = cc
here_among at (m ∷ ms) [] here later e =
    let h : record { at = at; entry = m } ≡ here = cc in
    inl (ap (λ (y : EntryAt). y.entry) (sym h))
here_among at (m ∷ ms) (x ∷ earlier) here later e =
    let f : end_to_end (at + size_at at m.kind) ms ≡ earlier ++ here ∷ later = cc in
    inr (here_among (at + size_at at m.kind) ms earlier here later f)
