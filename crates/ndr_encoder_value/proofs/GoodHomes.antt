-- The homes of a graph that conforms are there, and their pieces can be written.
use Rattle.std.proofs.Common.{◌≡◌, ℕ, ◌+◌, ◌-◌, ◌^◌, ◌<◌, ◌≤◌, zero, suc, Bool, true, false, ltb, List, [], ◌∷◌, ◌++◌, length, map, drop, Option, Some, None, refl, ap, sym, ◌∙◌, subst, arith}
use Rattle.std.specs.Prelude.{replicate}
use Rattle.std.specs.List.{AllByRecursion, slice_get}
use Rattle.std.proofs.lemmas.Option.{same_Some, slice_get_within}
use Rattle.std.proofs.lemmas.Bool.{ltb-false}
use Rattle.nd_types.specs.declared.types.TypeDef.TheVariants as def
use Rattle.nd_types.specs.declared.types.Class.TheVariants.{Ref}
use Rattle.nd_types.specs.Table.{type_at}
use Rattle.nd_types.specs.Layout.{hoists}
use Rattle.nd_types.specs.Roots.{Root}
use Rattle.nd_value.specs.declared.value.Graph.{Graph}
use Rattle.nd_value.specs.declared.item.Home.{Home}
use Rattle.nd_value.specs.Tree as tree
use Rattle.nd_value.specs.Tree.{Tree, Trees, node, none, more, Label, Referent, count, node_count, take_trees, drop_trees}
use Rattle.nd_value.specs.Setting.{Setting, root_list, root_at, or_unread, cell_home, cell_at, cell_tree, cell_of_number}
use Rattle.nd_value.specs.Nodes.{child_types}
use Rattle.nd_value.specs.Deferral.{Pending, Due, due_roots, before_pipes, Step, Deferral, none_due, at_root, at_null, at_standing, at_referent, Placed_cells, Standing, standing_root, standing_by}
use Rattle.nd_value.specs.Deferral.{standing_cell, direct, root_type, due_of}
use Rattle.nd_value.specs.Conforms.{HomeNode, in_home, root_nodes, cell_nodes, all_nodes, Conforms}
use Rattle.nd_value.specs.Misfit.{has_shape, misfit_of, names_cell, names_pointee, has_machine_values}
use Rattle.nd_value.proofs.Apart.{all_append, all_left, all_right, all_map}
use Rattle.nd_value.proofs.Orderly.{pointee_of_cell}
use Rattle.nd_value.proofs.NodeFacts.{IsFit, fit_node, all_of_list}
use Rattle.nd_value.proofs.DeferralExists.{direct_is}
use Rattle.nd_grammar.specs.LegalSide.{IsLegalSide}
use Rattle.nd_grammar.specs.Entry.{before_children, hoisted, hoisted_max}
use Rattle.nd_grammar.specs.Stream.{standing_entries, cut_of, cut_within, pipe_cuts}
use Rattle.nd_grammar.proofs.ChosenRepresents.{w_roots, cell_within, none_inside, dues}
use Rattle.nd_grammar.proofs.LegalSides.{laid_out}
use Rattle.nd_grammar.proofs.next.NextStream.{IsPipeRoot, drop_at}
use Rattle.nd_grammar.specs.ReaderState.{IsNoPipe}
use Rattle.nd_grammar.proofs.conforming.GoodStream.{PendingGood, StandsGood, DueGood, standing_due, pending_cell, root_good}
use Rattle.nd_grammar.proofs.conforming.StreamConforming.{pipe_label as label_is}
use Rattle.nd_grammar.proofs.written.WritableTrees.{IsWritable, WritableTrees, writable_trees, max_below}
use Rattle.nd_flat.specs.Building.{HasHome}
use Rattle.ndr_encoder_laws.specs.pieces.Pieces.{Piece}
use Rattle.ndr_encoder_laws.specs.pieces.Shown.{shown, kinds_pieces, values_pieces, chunks_pieces, pipe_pieces}
use Rattle.ndr_encoder_laws.specs.pieces.Heads.{standings, homes_pieces, pipes_pieces, stream_pieces}
use Rattle.ndr_encoder_laws.proofs.pieces.Showing.{shown_whole}
use Rattle.ndr_encoder_value.proofs.Fits.{Good, four_good, values_good, hoisted_good}
use Rattle.ndr_encoder_laws.proofs.written.Pipes.{nodes_of_count as count_few}

module _ (w : Setting) (side : IsLegalSide w) (g : Graph) (c : Conforms w g) where
  abbrev Node : HomeNode → Type 0
  Node x = IsWritable w.table g x.typed.of x.typed.label x.typed.kids

  both : (xs : List HomeNode) → AllByRecursion (λ x. misfit_of w.table g x.typed ≡ None) xs → AllByRecursion (λ x. has_machine_values x.typed.label ≡ true) xs → AllByRecursion Node xs
  both [] a b = tt
  both (x ∷ xs) a b = (record { fit = fit_node w.table g x.typed a.0; machine = b.0 }, both xs a.1 b.1)

  nodes : AllByRecursion Node (all_nodes w g)
  nodes = both (all_nodes w g) c.local (all_of_list (λ x. has_machine_values x.typed.label) (all_nodes w g) c.machine_values)

  by_cell : (n : ℕ) (xs : List Referent) → AllByRecursion Node (cell_nodes w.table n xs) → (i : ℕ) (x : Referent) → slice_get xs i ≡ Some x → WritableTrees w.table g (x.of ∷ []) (more x.val none)
  by_cell n [] a i x e = cc
  by_cell n (y ∷ ys) a zero x e =
      subst (λ u. WritableTrees w.table g (u.of ∷ []) (more u.val none)) (same_Some _ _ e)
      (writable_trees w.table g (y.of ∷ []) [] 0 (more y.val none) refl (all_map Node (in_home (cell_home n)) _ (all_left Node _ (cell_nodes w.table (n + 1) ys) a)))
  by_cell n (y ∷ ys) a (suc i) x e = by_cell (n + 1) ys (all_right Node _ (cell_nodes w.table (n + 1) ys) a) i x e

  w_cells : (k : ℕ) (x : Referent) → cell_of_number g k ≡ Some x → WritableTrees w.table g (x.of ∷ []) (more x.val none)
  w_cells zero x e = cc
  w_cells (suc i) x e = by_cell 1 g.cells (all_right Node (root_nodes w g 0 (root_list w) g.roots) (cell_nodes w.table 1 g.cells) nodes) i x e

  cell_typed : (t k : ℕ) (x : Referent) → cell_of_number g k ≡ Some x → x.of ≡ t → WritableTrees w.table g (t ∷ []) (more (cell_at g k) none)
  cell_typed t k x e f =
      subst (λ u. WritableTrees w.table g (t ∷ []) (more u none)) (sym (ap cell_tree e)) (subst (λ u. WritableTrees w.table g (u ∷ []) (more x.val none)) f (w_cells k x e))

  -- a home that is there, with a value that can be written
  pub record Home_good (x : Standing) : Type 0 where
    pub there : HasHome g x.home
    pub no_pipe : IsNoPipe w.table x.of
    pub trees : WritableTrees w.table g (x.of ∷ []) (more x.val none)

  root_by : (i t : ℕ) (l : Label) (ks : Trees) → i < length g.roots → WritableTrees w.table g (t ∷ []) (more (node l ks) none) → (o : Option (ℕ × ℕ))
      → direct (type_at w.table t) (node l ks) ≡ o → IsNoPipe w.table (standing_by g i t (node l ks) o).of → Home_good (standing_by g i t (node l ks) o)
  root_by i t l ks h a None e p = record { there = h; no_pipe = p; trees = a }
  root_by i t l ks h a (Some (b, u)) e p =
      let f : IsFit w.table g t l ks = a.0.fit in
      let (to, ed, el, eu) = direct_is (type_at w.table t) l ks b u e f.no_null in
      let f1 : names_cell g (tree.Ptr (Some b)) ≡ true = subst (λ q. names_cell g q ≡ true) el f.cell in
      let f2 : names_pointee g (Some (def.Pointer Ref to)) (tree.Ptr (Some b)) ≡ true = subst (λ q. names_pointee g q (tree.Ptr (Some b)) ≡ true) ed
      (subst (λ q. names_pointee g (type_at w.table t) q ≡ true) el f.pointee) in
      let (x, ex, et) = pointee_of_cell g Ref to b f1 f2 in
      record { there = cell_within w side g c b x ex; no_pipe = p; trees = cell_typed u b x ex (et ∙ sym eu) }

  root_tree : (i t : ℕ) (v : Tree) → i < length g.roots → WritableTrees w.table g (t ∷ []) (more v none) → IsNoPipe w.table (standing_by g i t v (direct (type_at w.table t) v)).of
      → Home_good (standing_by g i t v (direct (type_at w.table t) v))
  root_tree i t (node l ks) h a p = root_by i t l ks h a (direct (type_at w.table t) (node l ks)) refl p

  root_home : (i : ℕ) (r : Root) → slice_get (root_list w) i ≡ Some r → IsNoPipe w.table (standing_root w g i).of → Home_good (standing_root w g i)
  root_home i r e p =
      let at : i < length (root_list w) = slice_get_within (root_list w) i r e in
      let all : length g.roots ≡ length (root_list w) = c.all_roots in
      let t : ℕ = root_type (slice_get (root_list w) i) in
      root_tree i t (root_at g i) (omega (arith, at, all)) (subst (λ u. WritableTrees w.table g (u ∷ []) (more (root_at g i) none)) (sym (ap root_type e)) (w_roots w side g c i r e)) p

  cell_there : (p : Pending) → PendingGood w (none_inside w side g c) g p → (k : ℕ) → p.cell ≡ Some k → IsNoPipe w.table p.to → Home_good (standing_cell g p k)
  cell_there p s k e n =
      let (x, ex, et) = s.pointee k e in record { there = cell_within w side g c k x ex; no_pipe = n; trees = cell_typed p.to k x ex et }

  abbrev pub D : Due → Type 0
  D = DueGood w (none_inside w side g c) g

  pub steps_good : {done : Placed_cells} {due : List Due} {steps : List Step} → Deferral w g done due steps → AllByRecursion D due → AllByRecursion Home_good (standings w g steps)
  steps_good none_due a = tt
  steps_good (at_root {i = i} {due = due} f d) a =
      let (r, e, p) = a.0 in
      let s : StandsGood w (none_inside w side g c) g (standing_root w g i) = root_good w (none_inside w side g c) g c i r e p in (
        root_home i r e s.no_pipe,
        steps_good d (all_append D (due_of w.table (standing_root w g i)) due (standing_due w (none_inside w side g c) g (standing_root w g i) s) a.1),
      )
  steps_good (at_null e d) a = steps_good d a.1
  steps_good (at_standing k e full h d) a = steps_good d a.1
  steps_good (at_referent {p = p} {due = due} k e n d) a =
      let s : StandsGood w (none_inside w side g c) g (standing_cell g p k) = pending_cell w (none_inside w side g c) g c p a.0 k e in (
        cell_there p a.0 k e s.no_pipe,
        steps_good d (all_append D (due_of w.table (standing_cell g p k)) due (standing_due w (none_inside w side g c) g (standing_cell g p k) s) a.1),
      )

  one_good : (h : Home) (t : ℕ) (v : Tree) → IsNoPipe w.table t → WritableTrees w.table g (t ∷ []) (more v none)
      → AllByRecursion Good (shown w.table (standing_entries w.table (record { home = h; of = t; val = v })))
  one_good h t (node l ks) p a =
      subst (AllByRecursion Good) (sym (shown_whole w.table h t l ks))
      (all_append Good (kinds_pieces w.table (hoisted (hoists w.table t) l (hoisted_max 0 (more (node l ks) none)))) (values_pieces w.table (t ∷ []) (more (node l ks) none))
      (hoisted_good w.table side.operations side.legal (none_inside w side g c) g (hoists w.table t) l (hoisted_max 0 (more (node l ks) none))
      (max_below w.table g (t ∷ []) 0 (more (node l ks) none) a (omega arith)))
      (values_good w.table side.operations side.legal (none_inside w side g c) g (t ∷ []) (more (node l ks) none) (p, tt) a))

  homes_good : (xs : List Standing) → AllByRecursion Home_good xs → AllByRecursion Good (homes_pieces w.table xs)
  homes_good [] a = tt
  homes_good (x ∷ xs) a = all_append Good (shown w.table (standing_entries w.table x)) (homes_pieces w.table xs) (one_good x.home x.of x.val a.0.no_pipe a.0.trees) (homes_good xs a.1)

  -- so many of the elements of a pipe, as far as they are there
  take_good : (e k : ℕ) (ts : Trees) → IsNoPipe w.table e → WritableTrees w.table g (replicate (count ts) e) ts → AllByRecursion Good (values_pieces w.table (replicate k e) (take_trees k ts))
  take_good e zero ts p a = tt
  take_good e (suc k) none p a = tt
  take_good e (suc k) (more (node l ks) ts) p a =
      let one : AllByRecursion Good (values_pieces w.table (e ∷ []) (more (node l ks) none)) =
      values_good w.table side.operations side.legal (none_inside w side g c) g (e ∷ []) (more (node l ks) none) (p, tt) (a.0, a.1, tt) in
      all_middle (kinds_pieces w.table (before_children w.table e (type_at w.table e) l ks)) (values_pieces w.table (child_types (type_at w.table e) l ks) ks)
      (values_pieces w.table (replicate k e) (take_trees k ts)) one (take_good e k ts p a.2)
    where
      all_middle : (xs ys zs : List Piece) → AllByRecursion Good (xs ++ (ys ++ [])) → AllByRecursion Good zs → AllByRecursion Good (xs ++ (ys ++ zs))
      all_middle xs ys zs a b =
          all_append Good xs (ys ++ zs) (all_left Good xs (ys ++ []) a) (all_append Good ys zs (all_left Good ys [] (all_right Good xs (ys ++ []) a)) b)

  drop_w : (e k : ℕ) (ts : Trees) → WritableTrees w.table g (replicate (count ts) e) ts → WritableTrees w.table g (replicate (count (drop_trees k ts)) e) (drop_trees k ts)
  drop_w e zero ts a = a
  drop_w e (suc k) none a = tt
  drop_w e (suc k) (more (node l ks) ts) a = drop_w e k ts a.2

  chunks_good : (e : ℕ) (cut : List ℕ) (ts : Trees) → IsNoPipe w.table e → AllByRecursion (λ k. k < 2 ^ 32) cut → WritableTrees w.table g (replicate (count ts) e) ts
      → AllByRecursion Good (chunks_pieces w.table e cut ts)
  chunks_good e [] ts p b a = ((omega arith, omega arith), ((refl, tt), tt))
  chunks_good e (k ∷ cut) ts p b a = (
    (omega arith, omega arith),
    (
      four_good k b.0,
      all_append Good (values_pieces w.table (replicate k e) (take_trees k ts)) (chunks_pieces w.table e cut (drop_trees k ts)) (take_good e k ts p a)
          (chunks_good e cut (drop_trees k ts) p b.1 (drop_w e k ts a)),
    ),
  )

  -- chunks have at most all elements
  cut_small : (fuel k n : ℕ) → n < 2 ^ 32 → AllByRecursion (λ k. k < 2 ^ 32) (cut_within fuel k n)
  cut_small zero k n h = tt
  cut_small (suc fuel) k zero h = tt
  cut_small (suc fuel) k (suc n) h = go (ltb (suc n) k) refl (cut_small fuel k (suc n - k) (omega (arith, h)))
    where
      go : (b : Bool) → ltb (suc n) k ≡ b → AllByRecursion (λ k. k < 2 ^ 32) (cut_within fuel k (suc n - k))
          → AllByRecursion (λ k. k < 2 ^ 32) (elim b [ true ↦ suc n ∷ [] | false ↦ k ∷ cut_within fuel k (suc n - k) ])
      go true e r = (h, tt)
      go false e r = let l : k ≤ suc n = ltb-false (suc n) k e in (omega (arith, l, h), r)

  pub one_pipe : (k : ℕ) (r : Root) (l : Label) (ks : Trees) → IsPipeRoot w.table r → WritableTrees w.table g (r.of ∷ []) (more (node l ks) none)
      → node_count (more (node l ks) none) < 2 ^ 32 → AllByRecursion Good (pipe_pieces w.table (type_at w.table r.of) (cut_of k (count ks)) (node l ks))
  one_pipe k r l ks q a b =
      let e : l ≡ tree.Pipe = label_is q.elem l ks (subst (λ d. has_shape d l ks ≡ true) q.type_is a.0.fit.shape) in
      let few : count ks ≤ node_count ks = count_few ks in
      let m : WritableTrees w.table g (replicate (count ks) q.elem.0) ks =
      subst (λ d. WritableTrees w.table g (child_types d tree.Pipe ks) ks) q.type_is (subst (λ u. WritableTrees w.table g (child_types (type_at w.table r.of) u ks) ks) e a.1) in
      subst (λ d. AllByRecursion Good (pipe_pieces w.table d (cut_of k (count ks)) (node l ks))) (sym q.type_is)
      (subst (λ u. AllByRecursion Good (pipe_pieces w.table (Some (def.Pipe q.elem)) (cut_of k (count ks)) (node u ks))) (sym e)
      (chunks_good q.elem.0 (cut_of k (count ks)) ks ((none_inside w side g c).element r.of q.elem q.type_is) (cut_small (count ks) k (count ks) (omega (arith, b, few))) m))

  pipes_good : (k : ℕ) (rs : List Root) (vs : List Tree) → AllByRecursion (IsPipeRoot w.table) rs
      → ((j : ℕ) (r : Root) → slice_get rs j ≡ Some r → WritableTrees w.table g (r.of ∷ []) (more (or_unread (slice_get vs j)) none))
      → AllByRecursion (λ t. node_count (more t none) < 2 ^ 32) vs → AllByRecursion Good (pipes_pieces w.table rs vs (pipe_cuts k vs))
  pipes_good k [] vs p f b = tt
  pipes_good k (r ∷ rs) [] p f b = tt
  pipes_good k (r ∷ rs) (node l ks ∷ vs) p f b =
      all_append Good (pipe_pieces w.table (type_at w.table r.of) (cut_of k (count ks)) (node l ks)) (pipes_pieces w.table rs vs (pipe_cuts k vs))
      (one_pipe k r l ks p.0 (f 0 r refl) b.0) (pipes_good k rs vs p.1 (λ j q e. f (suc j) q e) b.1)

  dropped : {X : Type 0} (P : X → Type 0) (k : ℕ) (xs : List X) → AllByRecursion P xs → AllByRecursion P (drop k xs)
  dropped P zero xs a = a
  dropped P (suc k) [] a = tt
  dropped P (suc k) (x ∷ xs) a = dropped P k xs a.1

  -- all pieces of the stream can be written
  pub stream_good : (k : ℕ) (steps : List Step) → Deferral w g [] (due_roots 0 (before_pipes (root_list w))) steps
      → AllByRecursion Good (stream_pieces w g steps (pipe_cuts k (drop (before_pipes (root_list w)) g.roots)))
  stream_good k steps d =
      let n : ℕ = before_pipes (root_list w) in
      all_append Good (homes_pieces w.table (standings w g steps)) (pipes_pieces w.table (drop n (root_list w)) (drop n g.roots) (pipe_cuts k (drop n g.roots)))
      (homes_good (standings w g steps) (steps_good d (dues w side g c)))
      (pipes_good k (drop n (root_list w)) (drop n g.roots) (laid_out w side).pipes
      (λ j r e. subst (λ u. WritableTrees w.table g (r.of ∷ []) (more (or_unread u) none)) (sym (drop_at n g.roots j)) (w_roots w side g c (n + j) r (sym (drop_at n (root_list w) j) ∙ e)))
      (dropped (λ t. node_count (more t none) < 2 ^ 32) n g.roots (all_left (λ t. node_count (more t none) < 2 ^ 32) g.roots (map (λ (x : Referent). x.val) g.cells) c.few_nodes)))

  -- the homes are there
  there_of : (xs : List Standing) → AllByRecursion Home_good xs → AllByRecursion (λ (x : Standing). HasHome g x.home) xs
  there_of [] a = tt
  there_of (x ∷ xs) a = (a.0.there, there_of xs a.1)

  pub homes_there : (steps : List Step) → Deferral w g [] (due_roots 0 (before_pipes (root_list w))) steps → AllByRecursion (λ (x : Standing). HasHome g x.home) (standings w g steps)
  homes_there steps d = there_of (standings w g steps) (steps_good d (dues w side g c))
