-- The homes of a graph that conforms can be counted, and so can its pipes.
-- `t` is a type's number, `l` a label, `ks` are its children, `v` is a value, `k` the greatest count of a chunk, `x` a value as a whole, `j` a pipe's place among the pipes.
use Rattle.std.proofs.Common.{◌≡◌, ℕ, ◌+◌, ◌*◌, ◌^◌, ◌<◌, ◌≤◌, zero, suc, ℤ, Bool, true, false, List, [], ◌∷◌, ◌++◌, length, map, drop, Option, Some, None, refl, ap, ap₂, sym, ◌∙◌, subst, arith}
use Rattle.std.proofs.Common.{length-append}
use Rattle.std.specs.Prelude.{◌==◌, replicate, flat_map}
use Rattle.std.specs.List.{AllByRecursion, slice_get}
use Rattle.std.proofs.lemmas.Bool.{and_parts, not-true as not_true}
use Rattle.std.proofs.lemmas.Option.{slice_get_within}
use Rattle.nd_types.specs.declared.types.TypeDef.{TypeDef}
use Rattle.nd_types.specs.declared.types.TypeDef.TheVariants as def
use Rattle.nd_types.specs.declared.types.Arm.{Arm}
use Rattle.nd_types.specs.Table.{Table, type_at, width}
use Rattle.nd_types.specs.Layout.{align_of, hoists, parts}
use Rattle.nd_types.specs.Legal.{is_barred_in_pipes, has_none_within}
use Rattle.nd_types.specs.Roots.{Root}
use Rattle.nd_value.specs.declared.value.Graph.{Graph}
use Rattle.nd_value.specs.declared.item.Home.{Home}
use Rattle.nd_value.specs.declared.item.Home.TheVariants as home
use Rattle.nd_value.specs.Tree as tree
use Rattle.nd_value.specs.Tree.{Tree, Trees, node, none, more, count, node_count, Label, flat, take_trees, drop_trees}
use Rattle.nd_value.specs.Nodes.{child_types}
use Rattle.nd_value.specs.Setting.{Setting, root_list, root_at}
use Rattle.nd_value.specs.Deferral.{Pending, Due, due_referent, Step, Deferral, none_due, at_root, at_null, at_standing, at_referent, Placed_cells, due_roots, before_pipes, Standing, standing_root}
use Rattle.nd_value.specs.Deferral.{standing_cell, due_of, home_pointers}
use Rattle.nd_value.specs.Conforms.{Conforms}
use Rattle.nd_value.proofs.Apart.{all_append}
use Rattle.nd_value.proofs.NodeFacts.{all_of_list}
use Rattle.nd_grammar.specs.LegalSide.{IsLegalSide}
use Rattle.nd_grammar.specs.Entry.{before_children, tag_entries, hoisted, hoisted_max}
use Rattle.nd_grammar.specs.Stream.{cut_of}
use Rattle.nd_grammar.proofs.ChosenRepresents.{w_roots, cell_within, none_inside, dues}
use Rattle.nd_grammar.proofs.LegalSides.{laid_out}
use Rattle.nd_grammar.proofs.next.NextStream.{IsPipeRoot, FitsPipes, drop_at}
use Rattle.nd_lemmas.proofs.Lists.{all_at}
use Rattle.nd_grammar.proofs.next.Mapped.{in_parts}
use Rattle.nd_grammar.specs.ReaderState.{IsNoPipe}
use Rattle.nd_grammar.proofs.conforming.GoodStream.{StandsGood, standing_due, pending_cell, root_good}
use Rattle.nd_grammar.proofs.written.WritableTrees.{WritableTrees}
use Rattle.nd_flat.specs.Building.{HasHome}
use Rattle.ndr_code.specs.declared.instr.Instr.{Instr}
use Rattle.ndr_code.specs.declared.instr.Instr.TheVariants as op
use Rattle.ndr_code.specs.Code.{whole_at, place_at, pipe_at, code_of, pipe_roots}
use Rattle.ndr_code.specs.Runs.{IsRunAt}
use Rattle.ndr_code.proofs.SideRuns.{pipe_run_at}
use Rattle.ndr_encoder_laws.specs.pieces.Pieces.{Piece, Gap, Figure, gap_pieces, named_cell, pieces_end, pieces_names}
use Rattle.ndr_encoder_laws.specs.pieces.Shown.{kinds_pieces, values_pieces, chunks_pieces, pipe_pieces}
use Rattle.ndr_encoder_laws.specs.pieces.Heads.{standings}
use Rattle.ndr_encoder_laws.proofs.pieces.Showing.{end_joined}
use Rattle.ndr_encoder_output.specs.Filling.{FitsPiece}
use Rattle.ndr_encoder_laws.specs.written.Run.{run}
use Rattle.ndr_encoder_laws.specs.written.Shaped.{Shaped}
use Rattle.ndr_encoder_laws.proofs.written.Pipes.{pipe_written, nodes_of_count as count_few}
use Rattle.ndr_encoder_laws.specs.shaped.ShapedPipes.{IsShapedPipe}
use Rattle.ndr_encoder_laws.proofs.shaped.Homes.{homes_shaped, pipes_shaped}
use Rattle.ndr_encoder_laws.specs.turns.Turned.{STEPS, names_of}
use Rattle.ndr_encoder_laws.specs.turns.Roots.{home_turns}
use Rattle.ndr_encoder_laws.proofs.turns.Names.{name_of, names_are, counts_names as counts_nameless, names_joined}
use Rattle.ndr_encoder_laws.specs.chosen.Written.{value_at, turn_pieces, pipe_turns, all_turns}
use Rattle.ndr_encoder_value.specs.Counted.{counted_turn, AreCells, IsCounted}
use Rattle.ndr_encoder_value.proofs.Fits.{Good, values_good, hoisted_good}
use Rattle.ndr_encoder_value.proofs.Sizes.{end_small, values_few, hoisted_few, hoisted_end, chunks_few, cuts_few}
use Rattle.ndr_encoder_value.proofs.GoodHomes.{Home_good, D, steps_good, one_pipe}
use Rattle.ndr_encoder_value.proofs.Maxima.{few_at, values_are, by_run, pipe_same}
use Rattle.ndr_encoder_value.proofs.Encoded.{fit_of}

-- ## Names

after_gap : (n : ℕ) (xs : List Piece) → pieces_names xs ≡ [] → pieces_names (gap_pieces n ++ xs) ≡ []
after_gap n xs e = names_joined (gap_pieces n) xs ∙ ap₂ (λ u v. u ++ v) (go (n == 1)) e
  where
    go : (b : Bool) → pieces_names (elim b [ true ↦ [] | false ↦ Gap n ∷ [] ]) ≡ []
    go true = refl
    go false = refl

tag_nameless : (table : Table) (d : Option TypeDef) (arms : List Arm) (default : Option Arm) (v : ℤ) → pieces_names (kinds_pieces table (tag_entries d arms default v)) ≡ []
tag_nameless table (Some (def.Prim p)) arms default v = after_gap (width p) (Figure p v ∷ []) refl
tag_nameless table (Some (def.Enum vs)) arms default v = refl
tag_nameless table None arms default v = refl
tag_nameless table (Some _) arms default v = refl

-- what is no pointer names nothing before its children
before_nameless : (table : Table) (t : ℕ) (d : Option TypeDef) (l : Label) (ks : Trees) → is_barred_in_pipes d ≡ false → pieces_names (kinds_pieces table (before_children table t d l ks)) ≡ []
before_nameless table t (Some (def.Prim p)) (tree.Num z) ks e = after_gap (width p) (Figure p z ∷ []) refl
before_nameless table t (Some (def.Enum vs)) (tree.Num z) ks e = refl
before_nameless table t (Some (def.Struct ms)) tree.Rec ks e = after_gap (align_of table t) [] refl
before_nameless table t (Some (def.Array el b v)) (tree.Arr mx o) ks e = counts_nameless table v mx o (count ks)
before_nameless table t (Some (def.Text el b)) (tree.Text mx os) ks e = refl
before_nameless table t (Some (def.Union tag own arms default)) (tree.Union v) ks e = tag_nameless table (type_at table tag.0) arms default v
before_nameless table t (Some (def.Pointer k to)) (tree.Ptr c) ks e = cc
before_nameless table t (Some def.Context) (tree.Context x i) ks e = refl
before_nameless table t _ _ ks e = refl

weaker : (P Q : ℕ → Type 0) → ((t : ℕ) → P t → Q t) → (ts : List ℕ) → AllByRecursion P ts → AllByRecursion Q ts
weaker P Q f [] a = tt
weaker P Q f (t ∷ ts) a = (f t a.0, weaker P Q f ts a.1)

module _ (table : Table) where
  deeper : (depth t : ℕ) → has_none_within depth is_barred_in_pipes table t ≡ true → (is_barred_in_pipes (type_at table t) ≡ false) × AllByRecursion (FitsPipes table) (parts (type_at table t))
  deeper zero t e = cc
  deeper (suc depth) t e =
      let (a, b) = and_parts _ _ e in
      (not_true _ a, weaker _ (FitsPipes table) (λ u f. (depth, f)) (parts (type_at table t)) (all_of_list _ _ b))

  -- values that may be elements of pipes name nothing
  nameless : (types : List ℕ) (ts : Trees) → AllByRecursion (FitsPipes table) types → pieces_names (values_pieces table types ts) ≡ []
  nameless types none a = refl
  nameless [] (more (node l ks) ts) a = refl
  nameless (t ∷ types) (more (node l ks) ts) a =
      let d : Option TypeDef = type_at table t in
      let (depth, f) = a.0 in
      let (b, c) = deeper depth t f in
      let K : List Piece = kinds_pieces table (before_children table t d l ks) in
      let V : List Piece = values_pieces table (child_types d l ks) ks in
      let R : List Piece = values_pieces table types ts in
      names_joined K (V ++ R)
      ∙ ap₂ (λ u v. u ++ v) (before_nameless table t d l ks b)
      (names_joined V R ∙ ap₂ (λ u v. u ++ v) (nameless (child_types d l ks) ks (in_parts (FitsPipes table) d l ks c)) (nameless types ts a.1))

  alike : (k e : ℕ) → FitsPipes table e → AllByRecursion (FitsPipes table) (replicate k e)
  alike zero e f = tt
  alike (suc k) e f = (f, alike k e f)

  chunks_nameless : (e : ℕ) (cut : List ℕ) (ts : Trees) → FitsPipes table e → pieces_names (chunks_pieces table e cut ts) ≡ []
  chunks_nameless e [] ts f = refl
  chunks_nameless e (k ∷ cut) ts f =
      names_joined (values_pieces table (replicate k e) (take_trees k ts)) (chunks_pieces table e cut (drop_trees k ts))
      ∙ ap₂ (λ u v. u ++ v) (nameless (replicate k e) (take_trees k ts) (alike k e f)) (chunks_nameless e cut (drop_trees k ts) f)

-- ## Homes

module _ (w : Setting) (side : IsLegalSide w) (g : Graph) (c : Conforms w g) where
  abbrev C : List Instr
  C = code_of w.table side.operations

  abbrev DueIsGood : Due → Type 0
  DueIsGood = D w side g c

  -- the pointers of a home name cells
  cell_by : (p : Pending) → DueIsGood (due_referent p) → (o : Option ℕ) → p.cell ≡ o → AreCells g (named_cell o (whole_at w.table p.to))
  cell_by p a None e = tt
  cell_by p a (Some b) e = let (x, ex, et) = a.pointee b e in (cell_within w side g c b x ex, tt)

  names_cells : (ps : List Pending) → AllByRecursion DueIsGood (map due_referent ps) → AreCells g (flat_map (name_of w.table) ps)
  names_cells [] a = tt
  names_cells (p ∷ ps) a =
      all_append (λ (x : ℕ × ℕ). (0 < x.0) × (x.0 ≤ length g.cells)) (name_of w.table p) (flat_map (name_of w.table) ps) (cell_by p a.0 p.cell refl) (names_cells ps a.1)

  steps_due : {done : Placed_cells} {due : List Due} {steps : List Step} → Deferral w g done due steps → AllByRecursion DueIsGood due
      → AllByRecursion (λ (x : Standing). AllByRecursion DueIsGood (due_of w.table x)) (standings w g steps)
  steps_due none_due a = tt
  steps_due (at_root {i = i} {due = due} f d) a =
      let (r, e, p) = a.0 in
      let s : StandsGood w (none_inside w side g c) g (standing_root w g i) = root_good w (none_inside w side g c) g c i r e p in
      let n : AllByRecursion DueIsGood (due_of w.table (standing_root w g i)) = standing_due w (none_inside w side g c) g (standing_root w g i) s in
      (n, steps_due d (all_append DueIsGood (due_of w.table (standing_root w g i)) due n a.1))
  steps_due (at_null e d) a = steps_due d a.1
  steps_due (at_standing k e full h d) a = steps_due d a.1
  steps_due (at_referent {p = p} {due = due} k e n d) a =
      let s : StandsGood w (none_inside w side g c) g (standing_cell g p k) = pending_cell w (none_inside w side g c) g c p a.0 k e in
      let m : AllByRecursion DueIsGood (due_of w.table (standing_cell g p k)) = standing_due w (none_inside w side g c) g (standing_cell g p k) s in
      (m, steps_due d (all_append DueIsGood (due_of w.table (standing_cell g p k)) due m a.1))

  -- what the pointers of a home name does not depend on the count of a chunk
  named_alike : (k : ℕ) (h : Home) (t : ℕ) (v : Tree) → value_at g h ≡ v → Shaped 32 w.table (t ∷ []) (more v none) → node_count (more v none) < 2 ^ 32
      → pieces_names (counted_turn C k g (h, whole_at w.table t)) ≡ names_of C (whole_at w.table t) v
  named_alike k h t (node l ks) e s few =
      ap pieces_names
      (ap (λ (u : Tree). run C 0 k STEPS (whole_at w.table t) [] (flat (more u none))) e ∙ by_run w side g c k t l ks s few 0 ∙ sym (by_run w side g c 1 t l ks s few 0))

  home_counted : (k : ℕ) (h : Home) (t : ℕ) (v : Tree) → value_at g h ≡ v → HasHome g h → IsNoPipe w.table t → Shaped 32 w.table (t ∷ []) (more v none)
      → WritableTrees w.table g (t ∷ []) (more v none) → node_count (more v none) < 2 ^ 32 → AllByRecursion DueIsGood (map due_referent (home_pointers w.table h t v))
      → IsCounted C k g (h, whole_at w.table t)
  home_counted k h t (node l ks) e there p s a few ds =
      let W : ℕ = whole_at w.table t in
      let V : List Piece = values_pieces w.table (t ∷ []) (more (node l ks) none) in
      let M : ℕ = hoisted_max 0 (more (node l ks) none) in
      let H : List Piece = kinds_pieces w.table (hoisted (hoists w.table t) l 0) in
      let K : List Piece = kinds_pieces w.table (hoisted (hoists w.table t) l M) in
      let is : counted_turn C k g (h, W) ≡ H ++ V = ap (λ (u : Tree). run C 0 k STEPS W [] (flat (more u none))) e ∙ by_run w side g c k t l ks s few 0 in
      let full : turn_pieces C k g (h, W) ≡ K ++ V =
      ap (λ (u : Tree). run C (hoisted_max 0 (more u none)) k STEPS W [] (flat (more u none))) e ∙ by_run w side g c k t l ks s few M in
      let good : AllByRecursion Good (H ++ V) =
      all_append Good H V (hoisted_good w.table side.operations side.legal (none_inside w side g c) g (hoists w.table t) l 0 (omega arith))
      (values_good w.table side.operations side.legal (none_inside w side g c) g (t ∷ []) (more (node l ks) none) (p, tt) a) in
      let long : length (H ++ V) ≡ length H + length V = length-append H V in
      let h2 : length H ≤ 2 = hoisted_few w.table (hoists w.table t) l 0 in
      let v4 : length V ≤ 4 * node_count (more (node l ks) none) = values_few w.table (t ∷ []) (more (node l ks) none) in
      record {
        there = there;
        fits = subst (AllByRecursion FitsPiece) (sym is) (fit_of (H ++ V) good);
        ends = λ at.
            ap (pieces_end at) is ∙ end_joined at H V ∙ ap (λ i. pieces_end i V) (hoisted_end w.table (hoists w.table t) l 0 M at) ∙ sym (end_joined at K V) ∙ sym (ap (pieces_end at) full);
        short = λ at.
            subst (λ (xs : List Piece). pieces_end at xs ≤ at + 2 ^ 67) (sym is)
            (let small : pieces_end at (H ++ V) ≤ at + length (H ++ V) * 2 ^ 32 = end_small at (H ++ V) good in omega (arith, small, long, h2, v4, few));
        cells = subst (AreCells g) (sym (named_alike k h t (node l ks) e s few ∙ names_are w.table side.operations h t (node l ks) s few)) (names_cells (home_pointers w.table h t (node l ks)) ds);
      }

  one_home : (k : ℕ) (x : Standing) → Shaped 32 w.table (x.of ∷ []) (more x.val none) → value_at g x.home ≡ x.val → Home_good w side g c x → AllByRecursion DueIsGood (due_of w.table x)
      → IsCounted C k g (x.home, whole_at w.table x.of)
  one_home k x s e h ds =
      home_counted k x.home x.of x.val e h.there h.no_pipe s h.trees (subst (λ (v : Tree). node_count (more v none) < 2 ^ 32) e (few_at g c.few_nodes x.home)) ds

  homes_by : (k : ℕ) (xs : List Standing) → AllByRecursion (λ (x : Standing). Shaped 32 w.table (x.of ∷ []) (more x.val none)) xs → AllByRecursion (λ (x : Standing). value_at g x.home ≡ x.val) xs
      → AllByRecursion (Home_good w side g c) xs → AllByRecursion (λ (x : Standing). AllByRecursion DueIsGood (due_of w.table x)) xs → AllByRecursion (IsCounted C k g) (home_turns w.table xs)
  homes_by k [] s e h d = tt
  homes_by k (x ∷ xs) s e h d = (one_home k x s.0 e.0 h.0 d.0, homes_by k xs s.1 e.1 h.1 d.1)

  names_by : (k : ℕ) (xs : List Standing) → AllByRecursion (λ (x : Standing). Shaped 32 w.table (x.of ∷ []) (more x.val none)) xs → AllByRecursion (λ (x : Standing). value_at g x.home ≡ x.val) xs
      → AllByRecursion (λ u. pieces_names (counted_turn C k g u) ≡ names_of C u.1 (value_at g u.0)) (home_turns w.table xs)
  names_by k [] s e = tt
  names_by k (x ∷ xs) s e = (
    named_alike k x.home x.of x.val e.0 s.0 (subst (λ (v : Tree). node_count (more v none) < 2 ^ 32) e.0 (few_at g c.few_nodes x.home)) ∙ sym (ap (names_of C (whole_at w.table x.of)) e.0),
    names_by k xs s.1 e.1,
  )

  -- ## Pipes

  -- what is known of a pipe, the j-th
  record PipeKnown (at : ℕ → ℕ) (first j : ℕ) (r : Root) : Type 0 where
    there : first + j < length g.roots
    itself : IsPipeRoot w.table r
    shaped : IsShapedPipe w.table r.of (root_at g (first + j))
    runs : IsRunAt C (at j) (op.Call (place_at w.table r.of) ∷ op.Ret ∷ [])
    trees : WritableTrees w.table g (r.of ∷ []) (more (root_at g (first + j)) none)

  -- the pieces that are counted of it
  pipe_is : (k : ℕ) (at : ℕ → ℕ) (first j : ℕ) (r : Root) (q : PipeKnown at first j r) → 1 ≤ k
      → counted_turn C k g (home.Root (first + j), at j) ≡ chunks_pieces w.table q.shaped.elem.0 (cut_of k (count q.shaped.kids)) q.shaped.kids
  pipe_is k at first j r q some =
      let ks : Trees = q.shaped.kids in
      let V : Tree = node tree.Pipe ks in
      let small : node_count (more V none) < 2 ^ 32 = subst (λ (u : Tree). node_count (more u none) < 2 ^ 32) q.shaped.value_is (few_at g c.few_nodes (home.Root (first + j))) in
      let enough : 8 + 9 * node_count ks ≤ STEPS = omega (arith, small) in
      let room : 32 + 3 ≤ 36 = omega arith in
      ap (λ (u : Tree). run C 0 k STEPS (at j) [] (flat (more u none))) q.shaped.value_is
      ∙ pipe_written w.table side.operations 0 k 32 r.of (at j) q.shaped.elem ks q.runs q.shaped.type_is q.shaped.shaped room STEPS some enough

  pipe_counted : (k : ℕ) (at : ℕ → ℕ) (first j : ℕ) (r : Root) → PipeKnown at first j r → 1 ≤ k → IsCounted C k g (home.Root (first + j), at j)
  pipe_counted k at first j r q some =
      let ks : Trees = q.shaped.kids in
      let e : ℕ = q.shaped.elem.0 in
      let cut : List ℕ = cut_of k (count ks) in
      let X : List Piece = chunks_pieces w.table e cut ks in
      let V : Tree = node tree.Pipe ks in
      let is : counted_turn C k g (home.Root (first + j), at j) ≡ X = pipe_is k at first j r q some in
      let few : node_count (more V none) < 2 ^ 32 = subst (λ (u : Tree). node_count (more u none) < 2 ^ 32) q.shaped.value_is (few_at g c.few_nodes (home.Root (first + j))) in
      let trees : WritableTrees w.table g (r.of ∷ []) (more V none) = subst (λ (u : Tree). WritableTrees w.table g (r.of ∷ []) (more u none)) q.shaped.value_is q.trees in
      let good : AllByRecursion Good X =
      subst (λ (d : Option TypeDef). AllByRecursion Good (pipe_pieces w.table d cut V)) q.shaped.type_is (one_pipe w side g c k r tree.Pipe ks q.itself trees few) in
      let free : FitsPipes w.table e = (laid_out w side).elements r.of q.shaped.elem q.shaped.type_is in
      let many : length X ≤ 2 + 2 * length cut + 4 * node_count ks = chunks_few w.table e cut ks in
      let cuts : length cut ≤ count ks = cuts_few k (count ks) in
      let kids : count ks ≤ node_count ks = count_few ks in
      record {
        there = q.there;
        fits = subst (AllByRecursion FitsPiece) (sym is) (fit_of X good);
        ends = λ i.
            ap (pieces_end i)
            (pipe_same w side g c k (home.Root (first + j)) r.of (at j) (root_at g (first + j)) q.shaped q.runs refl some 0 (hoisted_max 0 (more (root_at g (first + j)) none)));
        short = λ i.
            subst (λ (xs : List Piece). pieces_end i xs ≤ i + 2 ^ 67) (sym is)
            (let small : pieces_end i X ≤ i + length X * 2 ^ 32 = end_small i X good in omega (arith, small, many, cuts, kids, few));
        cells = subst (AreCells g) (sym (ap pieces_names is ∙ chunks_nameless w.table e cut ks free)) tt;
      }

  pipe_names_none : (k : ℕ) (at : ℕ → ℕ) (first j : ℕ) (r : Root) → PipeKnown at first j r → 1 ≤ k → pieces_names (counted_turn C k g (home.Root (first + j), at j)) ≡ []
  pipe_names_none k at first j r q some =
      ap pieces_names (pipe_is k at first j r q some)
      ∙ chunks_nameless w.table q.shaped.elem.0 (cut_of k (count q.shaped.kids)) q.shaped.kids ((laid_out w side).elements r.of q.shaped.elem q.shaped.type_is)

  pipes_by : (P : Home × ℕ → Type 0) (at : ℕ → ℕ) (first : ℕ) (rs : List Root) (j : ℕ) → ((i a : ℕ) (r : Root) → a ≡ j + i → slice_get rs i ≡ Some r → P (home.Root (first + a), at a))
      → AllByRecursion P (pipe_turns at first j (length rs))
  pipes_by P at first [] j f = tt
  pipes_by P at first (r ∷ rs) j f = (f 0 j r (omega arith) refl, pipes_by P at first rs (suc j) (λ i a q e z. f (suc i) a q (e ∙ omega arith) z))

  abbrev First : ℕ
  First = before_pipes (root_list w)

  abbrev Pipes : List Root
  Pipes = drop First (root_list w)

  abbrev At : ℕ → ℕ → ℕ
  At n = pipe_at w.table side.operations n w.op w.side

  module _ (pipes_last : pipe_roots (root_list w) ≡ Pipes) (k n : ℕ) (is : slice_get side.operations n ≡ Some w.op) (some : 1 ≤ k) where
    known : (a : ℕ) (r : Root) → slice_get Pipes a ≡ Some r → PipeKnown (At n) First a r
    known a r e =
        let there : slice_get (root_list w) (First + a) ≡ Some r = sym (drop_at First (root_list w) a) ∙ e in
        record {
          there =
              (let inside : First + a < length (root_list w) = slice_get_within (root_list w) (First + a) r there in
              let same : length g.roots ≡ length (root_list w) = c.all_roots in omega (arith, inside, same));
          itself = all_at (IsPipeRoot w.table) Pipes a r (laid_out w side).pipes e;
          shaped = pipes_shaped w side g c a r e;
          runs = pipe_run_at w.table side.operations n w.op is w.side a r (ap (λ (l : List Root). slice_get l a) pipes_last ∙ e);
          trees = w_roots w side g c (First + a) r there;
        }

    known_at : (i a : ℕ) (r : Root) → a ≡ 0 + i → slice_get Pipes i ≡ Some r → PipeKnown (At n) First a r
    known_at i a r e s = known a r (ap (slice_get Pipes) (e ∙ omega arith) ∙ s)

    pub pipes_counted : AllByRecursion (IsCounted C k g) (pipe_turns (At n) First 0 (length Pipes))
    pipes_counted = pipes_by (IsCounted C k g) (At n) First Pipes 0 (λ i a r e s. pipe_counted k (At n) First a r (known_at i a r e s) some)

    pub pipes_nameless : AllByRecursion (λ u. pieces_names (counted_turn C k g u) ≡ []) (pipe_turns (At n) First 0 (length Pipes))
    pipes_nameless = pipes_by (λ u. pieces_names (counted_turn C k g u) ≡ []) (At n) First Pipes 0 (λ i a r e s. pipe_names_none k (At n) First a r (known_at i a r e s) some)

    pub all_counted : (steps : List Step) → Deferral w g [] (due_roots 0 (before_pipes (root_list w))) steps → AllByRecursion (IsCounted C k g) (all_turns w side.operations n g steps)
    all_counted steps d =
        all_append (IsCounted C k g) (home_turns w.table (standings w g steps)) (pipe_turns (At n) First 0 (length Pipes))
        (homes_by k (standings w g steps) (homes_shaped w side g c steps d) (values_are w side g c steps) (steps_good w side g c d (dues w side g c)) (steps_due d (dues w side g c))) pipes_counted

  pub homes_named : (k : ℕ) (steps : List Step) → Deferral w g [] (due_roots 0 (before_pipes (root_list w))) steps
      → AllByRecursion (λ u. pieces_names (counted_turn C k g u) ≡ names_of C u.1 (value_at g u.0)) (home_turns w.table (standings w g steps))
  homes_named k steps d = names_by k (standings w g steps) (homes_shaped w side g c steps d) (values_are w side g c steps)
