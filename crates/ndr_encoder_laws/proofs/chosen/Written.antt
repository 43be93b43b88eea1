-- What the runs of all homes write is the stream.
use Rattle.std.proofs.Common.{◌≡◌, ℕ, ◌+◌, ◌-◌, ◌*◌, ◌^◌, ◌<◌, ◌≤◌, zero, suc, List, [], ◌∷◌, ◌++◌, length, map, drop, get_or, Option, Some, None, refl, ap, ap₂, sym, ◌∙◌, subst, arith, length-drop}
use Rattle.std.specs.List.{AllByRecursion, slice_get}
use mathlib.Core.Path.{fun_ext}
use Rattle.nd_base.specs.declared.octets.Order.{Order}
use Rattle.nd_types.specs.Table.{type_at}
use Rattle.nd_types.specs.Roots.{Root}
use Rattle.nd_value.specs.declared.value.Graph.{Graph}
use Rattle.nd_value.specs.declared.item.Home.{Home}
use Rattle.nd_value.specs.declared.item.Home.TheVariants as home
use Rattle.nd_value.specs.Tree as tree
use Rattle.nd_value.specs.Tree.{Tree, Trees, node, none, more, count, node_count, Referent, flat}
use Rattle.nd_value.specs.Canon.{canonical_number, named_cells}
use Rattle.nd_value.specs.Setting.{Setting, root_list, root_at, or_unread, cell_at, cell_tree}
use Rattle.nd_value.specs.Deferral.{Step, root_stands, referent_stands, stands_already, Deferral, due_roots, before_pipes, Standing, standing_by, direct, root_type}
use Rattle.nd_value.specs.Conforms.{Conforms, FewNodes}
use Rattle.nd_value.proofs.Apart.{all_left, all_right}
use Rattle.nd_grammar.specs.LegalSide.{IsLegalSide}
use Rattle.nd_grammar.specs.Entry.{hoisted_max, whole_value, end_of}
use Rattle.nd_grammar.specs.Stream.{standing_entries, kids_of, representation, Chosen, octets_from, cut_of, pipe_cuts}
use Rattle.nd_grammar.proofs.next.NextStream.{drop_at}
use Rattle.ndr_code.specs.declared.instr.Instr.{Instr}
use Rattle.ndr_code.specs.declared.instr.Instr.TheVariants as op
use Rattle.ndr_code.specs.Code.{whole_at, place_at, pipe_at, code_of, pipe_roots}
use Rattle.ndr_code.specs.Runs.{IsRunAt}
use Rattle.ndr_code.proofs.SideRuns.{pipe_run_at}
use Rattle.ndr_encoder_laws.specs.pieces.Pieces.{pieces_octets, pieces_end}
use Rattle.ndr_encoder_laws.specs.pieces.Shown.{shown, pipe_pieces}
use Rattle.ndr_encoder_laws.specs.pieces.Heads.{standings, homes_pieces, pipes_pieces, stream_pieces}
use Rattle.ndr_encoder_laws.proofs.pieces.Showing.{shown_whole}
use Rattle.ndr_encoder_laws.proofs.pieces.Heads.{stream_octets, stream_end}
use Rattle.ndr_encoder_laws.specs.written.Run.{run}
use Rattle.ndr_encoder_laws.specs.written.Shaped.{Shaped}
use Rattle.ndr_encoder_laws.proofs.written.Runs.{home_written}
use Rattle.ndr_encoder_laws.proofs.written.Pipes.{pipe_written}
use Rattle.ndr_encoder_laws.specs.shaped.ShapedPipes.{IsShapedPipe}
use Rattle.ndr_encoder_laws.proofs.shaped.Homes.{homes_shaped, pipes_shaped}
use Rattle.ndr_encoder_laws.specs.turns.Turned.{STEPS}
use Rattle.ndr_encoder_laws.specs.turns.Roots.{home_turns}
use Rattle.ndr_encoder_laws.specs.chosen.Written.{value_at, turn_pieces, turns_pieces, pipe_turns, all_turns}
use Rattle.std.proofs.lemmas.Grind.{flat_map-append as flat_joined}

pub few_of : (vs : List Tree) (i : ℕ) → FewNodes vs → node_count (more (or_unread (slice_get vs i)) none) < 2 ^ 32
few_of [] i h = omega arith
few_of (v ∷ vs) zero h = h.0
few_of (v ∷ vs) (suc i) h = few_of vs i h.1

pub few_cells : (xs : List Referent) (i : ℕ) → FewNodes (map (λ (c : Referent). c.val) xs) → node_count (more (cell_tree (slice_get xs i)) none) < 2 ^ 32
few_cells [] i h = omega arith
few_cells (x ∷ xs) zero h = h.0
few_cells (x ∷ xs) (suc i) h = few_cells xs i h.1

module _ (w : Setting) (side : IsLegalSide w) (g : Graph) (c : Conforms w g) where
  abbrev C : List Instr
  C = code_of w.table side.operations

  few_root : (i : ℕ) → node_count (more (root_at g i) none) < 2 ^ 32
  few_root i = few_of g.roots i (all_left (λ t. node_count (more t none) < 2 ^ 32) g.roots (map (λ (x : Referent). x.val) g.cells) c.few_nodes)

  few_cell : (i : ℕ) → node_count (more (cell_at g i) none) < 2 ^ 32
  few_cell zero = omega arith
  few_cell (suc i) = few_cells g.cells i (all_right (λ t. node_count (more t none) < 2 ^ 32) g.roots (map (λ (x : Referent). x.val) g.cells) c.few_nodes)

  few_at : (h : Home) → node_count (more (value_at g h) none) < 2 ^ 32
  few_at (home.Root i) = few_root i
  few_at (home.Cell x) = few_cell x.0

  -- the value of a home of the stream is the one that is there
  value_by : (i t : ℕ) (o : Option (ℕ × ℕ)) → value_at g (standing_by g i t (root_at g i) o).home ≡ (standing_by g i t (root_at g i) o).val
  value_by i t None = refl
  value_by i t (Some d) = refl

  values_are : (steps : List Step) → AllByRecursion (λ (x : Standing). value_at g x.home ≡ x.val) (standings w g steps)
  values_are [] = tt
  values_are (root_stands i ∷ steps) =
      (value_by i (root_type (slice_get (root_list w) i)) (direct (type_at w.table (root_type (slice_get (root_list w) i))) (root_at g i)), values_are steps)
  values_are (referent_stands p b ∷ steps) = (refl, values_are steps)
  values_are (stands_already p b ∷ steps) = values_are steps

  module _ (pipes_last : pipe_roots (root_list w) ≡ drop (before_pipes (root_list w)) (root_list w)) (k : ℕ) where
    whole_one : (h : Home) (t : ℕ) (v : Tree) → Shaped 32 w.table (t ∷ []) (more v none) → node_count (more v none) < 2 ^ 32
        → run C (hoisted_max 0 (more v none)) k STEPS (whole_at w.table t) [] (flat (more v none)) ≡ shown w.table (whole_value w.table h t v)
    whole_one h t (node l ks) s few =
        let enough : 8 + 9 * node_count (more (node l ks) none) ≤ STEPS = omega (arith, few) in
        let shallow : suc 31 < 36 = omega arith in
        home_written w.table side.operations (hoisted_max 0 (more (node l ks) none)) k 31 t l ks s shallow STEPS enough ∙ sym (shown_whole w.table h t l ks)

    home_one : (x : Standing) → Shaped 32 w.table (x.of ∷ []) (more x.val none) → value_at g x.home ≡ x.val
        → turn_pieces C k g (x.home, whole_at w.table x.of) ≡ shown w.table (standing_entries w.table x)
    home_one x s e =
        ap (λ v. run C (hoisted_max 0 (more v none)) k STEPS (whole_at w.table x.of) [] (flat (more v none))) e
        ∙ whole_one x.home x.of x.val s (subst (λ v. node_count (more v none) < 2 ^ 32) e (few_at x.home))

    homes_all : (xs : List Standing) → AllByRecursion (λ (x : Standing). Shaped 32 w.table (x.of ∷ []) (more x.val none)) xs
        → AllByRecursion (λ (x : Standing). value_at g x.home ≡ x.val) xs → turns_pieces C k g (home_turns w.table xs) ≡ homes_pieces w.table xs
    homes_all [] a b = refl
    homes_all (x ∷ xs) a b = ap₂ (λ u v. u ++ v) (home_one x a.0 b.0) (homes_all xs a.1 b.1)

    -- a pipe is written by its run
    pipe_one : (h : Home) (t at : ℕ) (v : Tree) → IsShapedPipe w.table t v → IsRunAt C at (op.Call (place_at w.table t) ∷ op.Ret ∷ []) → value_at g h ≡ v → 1 ≤ k
        → turn_pieces C k g (h, at) ≡ pipe_pieces w.table (type_at w.table t) (cut_of k (count (kids_of v))) v
    pipe_one h t at v p s e some =
        let ks : Trees = p.kids in
        let V : Tree = node tree.Pipe ks in
        let small : node_count (more V none) < 2 ^ 32 = subst (λ u. node_count (more u none) < 2 ^ 32) (e ∙ p.value_is) (few_at h) in
        let enough : 8 + 9 * node_count ks ≤ STEPS = omega (arith, small) in
        let room : 32 + 3 ≤ 36 = omega arith in
        ap (λ u. run C (hoisted_max 0 (more u none)) k STEPS at [] (flat (more u none))) (e ∙ p.value_is)
        ∙ pipe_written w.table side.operations (hoisted_max 0 (more V none)) k 32 t at p.elem ks s p.type_is p.shaped room STEPS some enough
        ∙ sym (ap (λ D. pipe_pieces w.table D (cut_of k (count ks)) V) p.type_is)
        ∙ ap (λ u. pipe_pieces w.table (type_at w.table t) (cut_of k (count (kids_of u))) u) (sym p.value_is)

    -- what is known of the a-th pipe
    record PipeAt (at : ℕ → ℕ) (first a : ℕ) (r : Root) (v : Tree) : Type 0 where
      shaped : IsShapedPipe w.table r.of v
      its_run : IsRunAt C (at a) (op.Call (place_at w.table r.of) ∷ op.Ret ∷ [])
      value_is : root_at g (first + a) ≡ v

    pipes_all : (at : ℕ → ℕ) (first : ℕ) (rs : List Root) (vs : List Tree) (j : ℕ) → 1 ≤ k → length vs ≡ length rs
        → ((i a : ℕ) (r : Root) → a ≡ j + i → slice_get rs i ≡ Some r → PipeAt at first a r (or_unread (slice_get vs i)))
        → turns_pieces C k g (pipe_turns at first j (length rs)) ≡ pipes_pieces w.table rs vs (pipe_cuts k vs)
    pipes_all at first [] vs j some same f = refl
    pipes_all at first (r ∷ rs) [] j some same f = absurd (omega (arith, same))
    pipes_all at first (r ∷ rs) (v ∷ vs) j some same f =
        let p : PipeAt at first j r v = f 0 j r (omega arith) refl in
        ap₂ (λ u q. u ++ q) (pipe_one (home.Root (first + j)) r.of (at j) v p.shaped p.its_run p.value_is some)
        (pipes_all at first rs vs (suc j) some (omega (arith, same)) (λ i a q e s. f (suc i) a q (e ∙ omega arith) s))

    pub written : (n : ℕ) → slice_get side.operations n ≡ Some w.op → (steps : List Step) → Deferral w g [] (due_roots 0 (before_pipes (root_list w))) steps → 1 ≤ k
        → turns_pieces C k g (all_turns w side.operations n g steps) ≡ stream_pieces w g steps (pipe_cuts k (drop (before_pipes (root_list w)) g.roots))
    written n is steps d some =
        let first : ℕ = before_pipes (root_list w) in
        let at : ℕ → ℕ = pipe_at w.table side.operations n w.op w.side in
        let A : List (Home × ℕ) = home_turns w.table (standings w g steps) in
        let P : List (Home × ℕ) = pipe_turns at first 0 (length (drop first (root_list w))) in
        let same : length (drop first g.roots) ≡ length (drop first (root_list w)) = length-drop first g.roots ∙ ap (λ m. m - first) c.all_roots ∙ sym (length-drop first (root_list w)) in
        flat_joined (turn_pieces C k g) A P
        ∙ ap₂ (λ u v. u ++ v) (homes_all (standings w g steps) (homes_shaped w side g c steps d) (values_are steps))
        (pipes_all at first (drop first (root_list w)) (drop first g.roots) 0 some same (λ i a r e s.
        let same_place : a ≡ i = e ∙ omega arith in
        let there : slice_get (drop first (root_list w)) a ≡ Some r = ap (slice_get (drop first (root_list w))) same_place ∙ s in
        let value : root_at g (first + a) ≡ or_unread (slice_get (drop first g.roots) i) =
        ap or_unread (sym (drop_at first g.roots a)) ∙ ap (λ m. or_unread (slice_get (drop first g.roots) m)) same_place in
        record {
          shaped = subst (IsShapedPipe w.table r.of) value (pipes_shaped w side g c a r there);
          its_run = pipe_run_at w.table side.operations n w.op is w.side a r (ap (λ l. slice_get l a) pipes_last ∙ there);
          value_is = value;
        }))

    -- with the canonical numbers these are the octets that are chosen
    pub chosen : (n : ℕ) → slice_get side.operations n ≡ Some w.op → (steps : List Step) → Deferral w g [] (due_roots 0 (before_pipes (root_list w))) steps → 1 ≤ k
        → (order : Order) (numbers : List ℕ) → ((b : ℕ) → get_or numbers b 0 ≡ canonical_number (named_cells w g steps) b)
        → Chosen w order k g (pieces_octets order (λ b. get_or numbers b 0) 0 (turns_pieces C k g (all_turns w side.operations n g steps)))
    chosen n is steps d some order numbers are =
        let cuts : List (List ℕ) = pipe_cuts k (drop (before_pipes (root_list w)) g.roots) in
        let number : ℕ → ℕ = λ b. get_or numbers b 0 in
        let same : number ≡ canonical_number (named_cells w g steps) = fun_ext {f = number} {g = canonical_number (named_cells w g steps)} are in
        record {
          steps = steps;
          deferral = d;
          written = ap (pieces_octets order number 0) (written n is steps d some) ∙ sym (stream_octets order number w g steps cuts)
              ∙ ap (λ f. octets_from order f 0 (representation w g steps cuts)) same;
        }

    pub ends : (n : ℕ) → slice_get side.operations n ≡ Some w.op → (steps : List Step) → Deferral w g [] (due_roots 0 (before_pipes (root_list w))) steps → 1 ≤ k
        → pieces_end 0 (turns_pieces C k g (all_turns w side.operations n g steps))
        ≡ end_of 0 (representation w g steps (pipe_cuts k (drop (before_pipes (root_list w)) g.roots)))
    ends n is steps d some =
        ap (pieces_end 0) (written n is steps d some) ∙ sym (stream_end w g steps (pipe_cuts k (drop (before_pipes (root_list w)) g.roots)))
