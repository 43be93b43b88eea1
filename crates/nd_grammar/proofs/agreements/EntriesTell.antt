-- What the counts and tags of a stream say is told by the node at which they stand.
use Rattle.std.proofs.Common.{◌≡◌, ℕ, ◌+◌, zero, suc, ℤ, Bool, true, false, List, [], ◌∷◌, ◌++◌, length, length-append, Option, Some, None, refl, ap, sym, ◌∙◌, arith, subst, replicate, append_assoc}
use Rattle.std.proofs.Common.{drop}
use Rattle.std.specs.Prelude.{flat_map}
use Rattle.std.specs.List.{AllByRecursion, slice_get}
use Rattle.std.proofs.lemmas.List.{append-nil}
use Rattle.nd_types.specs.declared.types.TypeDef.{TypeDef}
use Rattle.nd_types.specs.declared.types.Arm.{Arm}
use Rattle.nd_types.specs.declared.types.TypeDef.TheVariants as def
use Rattle.nd_types.specs.Table.{Table, type_at}
use Rattle.nd_types.specs.Layout.{hoists}
use Rattle.nd_types.specs.Roots.{Root}
use Rattle.nd_value.specs.declared.value.Graph.{Graph}
use Rattle.nd_value.specs.declared.item.Home.{Home}
use Rattle.nd_value.specs.declared.item.Home.TheVariants as home
use Rattle.nd_value.specs.Tree as tree
use Rattle.nd_value.specs.Tree.{Tree, Trees, node, none, more, Label, Flat, flat, count, node_count, take_trees, drop_trees, is_pointer}
use Rattle.nd_value.specs.Agreement.{Agreement, offset_of, tag_of, root_agreements}
use Rattle.nd_value.specs.Setting.{Setting, root_list, root_at, or_unread, cell_at, cell_home}
use Rattle.nd_value.specs.Nodes.{child_types, child_agreements, first_agreements, rest_agreements}
use Rattle.nd_value.specs.Deferral.{Step, root_stands, referent_stands, stands_already, standing_root, standing_by, direct, root_type, before_pipes}
use Rattle.nd_value.proofs.Apart.{all_append}
use Rattle.nd_grammar.specs.Entry.{Kind, Entry, Max, Offset, Actual, Num, Tag, Text, Context, Unread, before_children, entries, in_place, tag_entries, counts, tests, own_tests, child_tests}
use Rattle.nd_grammar.specs.Entry.{hoisted_max, hoisted, whole_value}
use Rattle.nd_grammar.specs.Stream.{Stream, step_entries, root_test, root_tests, chunk_entries, chunks, pipe_entries, pipes_entries}
use Rattle.nd_grammar.proofs.next.NextInPlace.{View, view, v_prim, v_enum, v_struct, v_array, v_text, v_union, v_pointer, v_context, v_unread}
use Rattle.nd_grammar.proofs.next.NextStream.{drop_at}

-- the n-th node, depth first; unread where there is none
abbrev pub node_at : List Flat → ℕ → Flat
node_at [] n = (tree.Unread, 0)
node_at (f ∷ fs) zero = f
node_at (f ∷ fs) (suc n) = node_at fs n

-- the actual count of a node, by how many children it has
abbrev pub actual_by : Label → ℕ → ℕ
actual_by (tree.Text m octets) c = length octets + 1
actual_by _ c = c

-- the value of a home
abbrev pub home_tree : Graph → Home → Tree
home_tree g (home.Root i) = root_at g i
home_tree g (home.Cell c) = cell_at g c.0

-- a count or tag says what the node at which it stands has, a maximum count in front what its home's value has
abbrev pub Tells : List Flat → ℕ → ℕ → Kind → Type 0
Tells nodes max n (Max v) = (n ≡ 0) × (v ≡ max)
Tells nodes max n (Offset of_text v) = v ≡ offset_of (node_at nodes n).0
Tells nodes max n (Actual of_text offset limit v) = (offset ≡ offset_of (node_at nodes n).0) × (v ≡ actual_by (node_at nodes n).0 (node_at nodes n).1)
Tells nodes max n (Tag p values arms default v) = v ≡ tag_of (node_at nodes n).0
Tells nodes max n _ = Unit {0}

abbrev pub TellsOf : Tree → Entry → Type 0
TellsOf v x = Tells (flat (more v none)) (hoisted_max 0 (more v none)) x.node x.kind

abbrev pub TellsAt : Graph → Entry → Type 0
TellsAt g x = TellsOf (home_tree g x.home) x

pub node_here : (pre rest : List Flat) (f : Flat) → node_at (pre ++ (f ∷ rest)) (length pre) ≡ f
node_here [] rest f = refl
node_here (p ∷ pre) rest f = node_here pre rest f

pub flat_length : (ts : Trees) → length (flat ts) ≡ node_count ts
flat_length none = refl
flat_length (more (node l ks) ts) = let a = flat_length ks in let b = flat_length ts in omega (arith, a, b, length-append (flat ks) (flat ts))

pub flat_cut : (k : ℕ) (ts : Trees) → flat ts ≡ flat (take_trees k ts) ++ flat (drop_trees k ts)
flat_cut zero ts = refl
flat_cut (suc k) none = refl
flat_cut (suc k) (more (node l ks) ts) =
    ap (λ u. (l, count ks) ∷ u) (ap (λ u. flat ks ++ u) (flat_cut k ts) ∙ sym (append_assoc (flat ks) (flat (take_trees k ts)) (flat (drop_trees k ts))))

module _ (g : Graph) (h : Home) where
  abbrev nodes : List Flat
  nodes = flat (more (home_tree g h) none)

  abbrev most : ℕ
  most = hoisted_max 0 (more (home_tree g h) none)

  abbrev All : List Entry → Type 0
  All ms = AllByRecursion (TellsAt g) ms

  kinds_tell : (n : ℕ) (xs : List Kind) → AllByRecursion (Tells nodes most n) xs → All (entries h n xs)
  kinds_tell n [] a = tt
  kinds_tell n (x ∷ xs) a = (a.0, kinds_tell n xs a.1)

  tests_tell : (n : ℕ) (v : Tree) (ags : List Agreement) → All (tests h n v ags)
  tests_tell n v [] = tt
  tests_tell n v (a ∷ ags) = (tt, tests_tell n v ags)

  own_tell : (b : Bool) (n : ℕ) (v : Tree) (ags : List Agreement) → All (own_tests b h n v ags)
  own_tell true n v ags = tt
  own_tell false n v ags = tests_tell n v ags

  child_tell : (ags : List (List Agreement)) (n : ℕ) (ts : Trees) → All (child_tests h ags n ts)
  child_tell ags n none = tt
  child_tell ags n (more (node l ks) ts) =
      all_append (TellsAt g) (own_tests (is_pointer l) h n (node l ks) (first_agreements ags)) (child_tests h (rest_agreements ags) (n + 1 + node_count ks) ts)
      (own_tell (is_pointer l) n (node l ks) (first_agreements ags)) (child_tell (rest_agreements ags) (n + 1 + node_count ks) ts)

  module _ (n : ℕ) where
    counts_tell : (b : Bool) (m o : ℕ) (ks : Trees) → node_at nodes n ≡ (tree.Arr m o, count ks) → AllByRecursion (Tells nodes most n) (counts b m o (count ks))
    counts_tell false m o ks e = tt
    counts_tell true m o ks e =
        let first : o ≡ offset_of (node_at nodes n).0 = sym (ap (λ (f : Flat). offset_of f.0) e) in
        let many : count ks ≡ actual_by (node_at nodes n).0 (node_at nodes n).1 = sym (ap (λ (f : Flat). actual_by f.0 f.1) e) in
        (tt, (first, ((first, many), tt)))

    tag_tell : (d : Option TypeDef) (arms : List Arm) (default : Option Arm) (v : ℤ) (c : ℕ) → node_at nodes n ≡ (tree.Union v, c)
        → AllByRecursion (Tells nodes most n) (tag_entries d arms default v)
    tag_tell (Some (def.Prim p)) arms default v c e = (tt, (sym (ap (λ (f : Flat). tag_of f.0) e), tt))
    tag_tell (Some (def.Enum vs)) arms default v c e = (tt, (sym (ap (λ (f : Flat). tag_of f.0) e), tt))
    tag_tell None arms default v c e = (tt, tt)
    tag_tell (Some _) arms default v c e = (tt, tt)

    node_tells : (table : Table) (t : ℕ) (d : Option TypeDef) (l : Label) (ks : Trees) → View table t d l → node_at nodes n ≡ (l, count ks)
        → AllByRecursion (Tells nodes most n) (before_children table t d l ks)
    node_tells table t d l ks v_prim e = (tt, (tt, tt))
    node_tells table t d l ks v_enum e = (tt, (tt, tt))
    node_tells table t d l ks v_struct e = (tt, tt)
    node_tells table t d l ks (v_array {v = b} {m = m} {o = o}) e = counts_tell b m o ks e
    node_tells table t d l ks (v_text {m = m} {os = os}) e =
        let first : 0 ≡ offset_of (node_at nodes n).0 = sym (ap (λ (f : Flat). offset_of f.0) e) in
        let many : length os + 1 ≡ actual_by (node_at nodes n).0 (node_at nodes n).1 = sym (ap (λ (f : Flat). actual_by f.0 f.1) e) in
        (tt, (first, ((first, many), (tt, tt))))
    node_tells table t d l ks (v_union {tag = tag} {arms = arms} {d = default} {v = v}) e = tag_tell (type_at table tag.0) arms default v (count ks) e
    node_tells table t d l ks v_pointer e = (tt, (tt, tt))
    node_tells table t d l ks v_context e = (tt, (tt, tt))
    node_tells table t d l ks (v_unread f) e = subst (AllByRecursion (Tells nodes most n)) (sym (f ks)) (tt, tt)

  place_tells : (table : Table) (types : List ℕ) (n : ℕ) (ts : Trees) (pre post : List Flat) → nodes ≡ pre ++ (flat ts ++ post) → n ≡ length pre → All (in_place table h types n ts)
  place_tells table types n none pre post e k = tt
  place_tells table [] n (more t ts) pre post e k = tt
  place_tells table (t ∷ types) n (more (node l ks) ts) pre post e k =
      let d : Option TypeDef = type_at table t in
      let f : Flat = (l, count ks) in
      let e1 : nodes ≡ pre ++ (f ∷ (flat ks ++ (flat ts ++ post))) = e ∙ ap (λ u. pre ++ (f ∷ u)) (append_assoc (flat ks) (flat ts) post) in
      let here : node_at nodes n ≡ f = ap (λ u. node_at u n) e1 ∙ ap (node_at (pre ++ (f ∷ (flat ks ++ (flat ts ++ post))))) k ∙ node_here pre (flat ks ++ (flat ts ++ post)) f in
      let kids : nodes ≡ (pre ++ f ∷ []) ++ (flat ks ++ (flat ts ++ post)) = e1 ∙ sym (append_assoc pre (f ∷ []) (flat ks ++ (flat ts ++ post))) in
      let rest : nodes ≡ (pre ++ (f ∷ flat ks)) ++ (flat ts ++ post) = e1 ∙ sym (append_assoc pre (f ∷ flat ks) (flat ts ++ post)) in
      let k1 : n + 1 ≡ length (pre ++ f ∷ []) = omega (arith, k, length-append pre (f ∷ [])) in
      let k2 : n + 1 + node_count ks ≡ length (pre ++ (f ∷ flat ks)) = omega (arith, k, length-append pre (f ∷ flat ks), flat_length ks) in
      let A : List Entry = entries h n (before_children table t d l ks) in
      let B : List Entry = in_place table h (child_types d l ks) (n + 1) ks in
      let C : List Entry = child_tests h (child_agreements d ks) (n + 1) ks in
      let D : List Entry = in_place table h types (n + 1 + node_count ks) ts in
      all_append (TellsAt g) A (B ++ (C ++ D)) (kinds_tell n _ (node_tells n table t d l ks (view table t d l) here))
      (all_append (TellsAt g) B (C ++ D) (place_tells table (child_types d l ks) (n + 1) ks (pre ++ f ∷ []) (flat ts ++ post) kids k1)
      (all_append (TellsAt g) C D (child_tell (child_agreements d ks) (n + 1) ks)
      (place_tells table types (n + 1 + node_count ks) ts (pre ++ (f ∷ flat ks)) post rest k2)))

  hoisted_tells : (b : Bool) (l : Label) (m : ℕ) → m ≡ most → AllByRecursion (Tells nodes most 0) (hoisted b l m)
  hoisted_tells false l m e = tt
  hoisted_tells true tree.Unread m e = tt
  hoisted_tells true _ m e = (tt, ((refl, e), tt))

  whole_tells : (table : Table) (t : ℕ) (v : Tree) → v ≡ home_tree g h → All (whole_value table h t v)
  whole_tells table t (node l ks) e =
      let one : Trees = more (node l ks) none in
      let same : flat one ≡ nodes = ap (λ u. flat (more u none)) e in
      all_append (TellsAt g) (entries h 0 (hoisted (hoists table t) l (hoisted_max 0 one))) (in_place table h (t ∷ []) 0 one)
      (kinds_tell 0 _ (hoisted_tells (hoists table t) l (hoisted_max 0 one) (ap (λ u. hoisted_max 0 (more u none)) e)))
      (place_tells table (t ∷ []) 0 one [] [] (sym same ∙ sym (append-nil (flat one))) refl)

  chunks_tell : (table : Table) (t n : ℕ) (cut : List ℕ) (ts : Trees) (pre post : List Flat) → nodes ≡ pre ++ (flat ts ++ post) → n ≡ length pre → All (chunks table h t n cut ts)
  chunks_tell table t n [] ts pre post e k = (tt, (tt, tt))
  chunks_tell table t n (c ∷ cut) ts pre post e k =
      let X : Trees = take_trees c ts in
      let Y : Trees = drop_trees c ts in
      let e1 : nodes ≡ pre ++ (flat X ++ (flat Y ++ post)) = e ∙ ap (λ u. pre ++ u) (ap (λ u. u ++ post) (flat_cut c ts) ∙ append_assoc (flat X) (flat Y) post) in
      let k2 : n + node_count X ≡ length (pre ++ flat X) = omega (arith, k, length-append pre (flat X), flat_length X) in
      all_append (TellsAt g) (chunk_entries table h t n c X) (chunks table h t (n + node_count X) cut Y)
      (tt, (tt, place_tells table (replicate c t) n X pre (flat Y ++ post) e1 k))
      (chunks_tell table t (n + node_count X) cut Y (pre ++ flat X) post (e1 ∙ sym (append_assoc pre (flat X) (flat Y ++ post))) k2)

  pipe_tells : (table : Table) (d : Option TypeDef) (cut : List ℕ) (v : Tree) → v ≡ home_tree g h → All (pipe_entries table h d cut v)
  pipe_tells table (Some (def.Pipe x)) cut (node tree.Pipe ks) e =
      chunks_tell table x.0 1 cut ks ((tree.Pipe, count ks) ∷ []) [] (sym (ap (λ u. flat (more u none)) e)) refl
  pipe_tells table (Some (def.Pipe x)) cut (node _ ks) e = (tt, tt)
  pipe_tells table None cut v e = (tt, tt)
  pipe_tells table (Some _) cut v e = (tt, tt)

module _ (w : Setting) (g : Graph) where
  root_is : (i t : ℕ) (v : Tree) (o : Option (ℕ × ℕ)) → v ≡ root_at g i → (standing_by g i t v o).val ≡ home_tree g (standing_by g i t v o).home
  root_is i t v None e = e
  root_is i t v (Some d) e = refl

  step_tells : (s : Step) → AllByRecursion (TellsAt g) (step_entries w g s)
  step_tells (root_stands i) =
      let x = standing_root w g i in
      let t = root_type (slice_get (root_list w) i) in
      whole_tells g x.home w.table x.of x.val (root_is i t (root_at g i) (direct (type_at w.table t) (root_at g i)) refl)
  step_tells (referent_stands p c) =
      all_append (TellsAt g) _ _ (whole_tells g (cell_home c) w.table p.to (cell_at g c) refl) (tests_tell g (cell_home c) 0 (cell_at g c) p.agreements)
  step_tells (stands_already p c) = tests_tell g (cell_home c) 0 (cell_at g c) p.agreements

  steps_tell : (steps : List Step) → AllByRecursion (TellsAt g) (flat_map (step_entries w g) steps)
  steps_tell [] = tt
  steps_tell (s ∷ steps) = all_append (TellsAt g) (step_entries w g s) (flat_map (step_entries w g) steps) (step_tells s) (steps_tell steps)

  root_test_tells : (i : ℕ) (l : Label) (ks : Trees) (ags : List Agreement) → AllByRecursion (TellsAt g) (root_test g i (node l ks) ags)
  root_test_tells i (tree.Ptr None) ks ags = tt
  root_test_tells i (tree.Ptr (Some c)) ks ags = tests_tell g (cell_home c) 0 (cell_at g c) ags
  root_test_tells i (tree.Num z) ks ags = tests_tell g (home.Root i) 0 (node (tree.Num z) ks) ags
  root_test_tells i tree.Rec ks ags = tests_tell g (home.Root i) 0 (node tree.Rec ks) ags
  root_test_tells i (tree.Arr m o) ks ags = tests_tell g (home.Root i) 0 (node (tree.Arr m o) ks) ags
  root_test_tells i (tree.Text m os) ks ags = tests_tell g (home.Root i) 0 (node (tree.Text m os) ks) ags
  root_test_tells i (tree.Union v) ks ags = tests_tell g (home.Root i) 0 (node (tree.Union v) ks) ags
  root_test_tells i (tree.Context x q) ks ags = tests_tell g (home.Root i) 0 (node (tree.Context x q) ks) ags
  root_test_tells i tree.Pipe ks ags = tests_tell g (home.Root i) 0 (node tree.Pipe ks) ags
  root_test_tells i tree.Unread ks ags = tests_tell g (home.Root i) 0 (node tree.Unread ks) ags

  root_tests_tell : (i : ℕ) (rs : List Root) (vs : List Tree) → AllByRecursion (TellsAt g) (root_tests w g i rs vs)
  root_tests_tell i [] vs = tt
  root_tests_tell i (r ∷ rs) [] = tt
  root_tests_tell i (r ∷ rs) (node l ks ∷ vs) =
      all_append (TellsAt g) (root_test g i (node l ks) (root_agreements w g r.vars)) (root_tests w g (i + 1) rs vs)
      (root_test_tells i l ks (root_agreements w g r.vars)) (root_tests_tell (i + 1) rs vs)

  pipes_tell : (i : ℕ) (rs : List Root) (vs : List Tree) (cuts : List (List ℕ)) → ((j : ℕ) (v : Tree) → slice_get vs j ≡ Some v → v ≡ root_at g (i + j))
      → AllByRecursion (TellsAt g) (pipes_entries w.table i rs vs cuts)
  pipes_tell i [] vs cuts f = tt
  pipes_tell i (r ∷ rs) [] cuts f = tt
  pipes_tell i (r ∷ rs) (v ∷ vs) [] f = tt
  pipes_tell i (r ∷ rs) (v ∷ vs) (cut ∷ cuts) f =
      let z : i + 0 ≡ i = omega arith in
      all_append (TellsAt g) (pipe_entries w.table (home.Root i) (type_at w.table r.of) cut v) (pipes_entries w.table (i + 1) rs vs cuts)
      (pipe_tells g (home.Root i) w.table (type_at w.table r.of) cut v (f 0 v refl ∙ ap (root_at g) z))
      (pipes_tell (i + 1) rs vs cuts (λ j u e. (let y : i + suc j ≡ i + 1 + j = omega arith in f (suc j) u e ∙ ap (root_at g) y)))

  -- the entries of each stream
  pub stream_tells : (ms : List Entry) → Stream w g ms → AllByRecursion (TellsAt g) ms
  stream_tells ms s =
      let n : ℕ = before_pipes (root_list w) in
      let F : List Entry = flat_map (step_entries w g) s.steps in
      let T : List Entry = root_tests w g 0 (root_list w) g.roots in
      let P : List Entry = pipes_entries w.table n (drop n (root_list w)) (drop n g.roots) s.cuts in
      subst (AllByRecursion (TellsAt g)) (sym s.is_representation)
      (all_append (TellsAt g) (F ++ T) P (all_append (TellsAt g) F T (steps_tell s.steps) (root_tests_tell 0 (root_list w) g.roots))
      (pipes_tell n (drop n (root_list w)) (drop n g.roots) s.cuts (λ j v e. sym (ap or_unread (sym (drop_at n g.roots j) ∙ e)))))
