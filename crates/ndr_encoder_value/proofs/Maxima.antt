-- A maximum count is before a home whose run begins with one, and of the others it says nothing.
use Rattle.std.proofs.Common.{◌≡◌, ℕ, ◌+◌, ◌*◌, ◌^◌, ◌<◌, ◌≤◌, zero, suc, Bool, true, false, List, [], ◌∷◌, ◌++◌, length, map, drop, Option, Some, None, refl, ap, ap₂, sym, ◌∙◌, subst, arith}
use Rattle.std.specs.List.{AllByRecursion, slice_get, flat_map}
use Rattle.nd_types.specs.declared.types.TypeDef.{TypeDef}
use Rattle.nd_types.specs.Table.{Table, type_at}
use Rattle.nd_types.specs.Layout.{hoists}
use Rattle.nd_types.specs.Roots.{Root}
use Rattle.nd_value.specs.declared.value.Graph.{Graph}
use Rattle.nd_value.specs.declared.item.Home.{Home}
use Rattle.nd_value.specs.declared.item.Home.TheVariants as home
use Rattle.nd_value.specs.Tree as tree
use Rattle.nd_value.specs.Tree.{Tree, Trees, node, none, more, node_count, Label, Referent, flat}
use Rattle.nd_value.specs.Setting.{Setting, root_list, root_at, cell_at}
use Rattle.nd_value.specs.Deferral.{Step, root_stands, referent_stands, stands_already, Deferral, due_roots, before_pipes, Standing, standing_by, direct, root_type}
use Rattle.nd_value.specs.Conforms.{Conforms, FewNodes}
use Rattle.nd_value.proofs.Apart.{all_left, all_right}
use Rattle.nd_grammar.specs.LegalSide.{IsLegalSide}
use Rattle.nd_grammar.specs.Entry.{hoisted, hoisted_max}
use Rattle.ndr_code.specs.declared.instr.Instr.{Instr}
use Rattle.ndr_code.specs.declared.instr.Instr.TheVariants as op
use Rattle.ndr_code.specs.Code.{whole_at, place_at, pipe_at, code_of, pipe_roots}
use Rattle.ndr_code.specs.Runs.{IsRunAt}
use Rattle.ndr_code.proofs.Runs.{first_at}
use Rattle.ndr_code.proofs.SideRuns.{pipe_run_at}
use Rattle.ndr_code.proofs.TypeRuns.{hoist_run_at}
use Rattle.ndr_encoder_laws.specs.pieces.Pieces.{Piece}
use Rattle.ndr_encoder_laws.specs.pieces.Shown.{kinds_pieces, values_pieces}
use Rattle.ndr_encoder_laws.specs.pieces.Heads.{standings}
use Rattle.ndr_encoder_laws.specs.written.Run.{run}
use Rattle.ndr_encoder_laws.specs.written.Shaped.{Form, form_num, form_enum, form_struct, form_array, form_text, form_union, form_pointer, form_context, Shaped}
use Rattle.ndr_encoder_laws.proofs.written.Runs.{home_written}
use Rattle.ndr_encoder_laws.proofs.written.Pipes.{pipe_written}
use Rattle.ndr_encoder_laws.specs.shaped.ShapedPipes.{IsShapedPipe}
use Rattle.ndr_encoder_laws.proofs.shaped.Homes.{homes_shaped, pipes_shaped}
use Rattle.ndr_encoder_laws.specs.turns.Turned.{STEPS}
use Rattle.ndr_encoder_laws.specs.turns.Roots.{home_turns}
use Rattle.ndr_encoder_laws.specs.chosen.Written.{value_at, turn_pieces, turns_pieces, pipe_turns, all_turns}
use Rattle.ndr_encoder_value.specs.Turns.{max_by, max_of, written_turn, written_turns}
use Rattle.ndr_encoder_laws.proofs.chosen.Written.{few_cells, few_of}

-- each home has few nodes
pub few_at : (g : Graph) → FewNodes (g.roots ++ map (λ (c : Referent). c.val) g.cells) → (h : Home) → node_count (more (value_at g h) none) < 2 ^ 32
few_at g few (home.Root i) = few_of g.roots i (all_left (λ t. node_count (more t none) < 2 ^ 32) g.roots (map (λ (x : Referent). x.val) g.cells) few)
few_at g few (home.Cell x) = by_number x.0
  where
    by_number : (i : ℕ) → node_count (more (cell_at g i) none) < 2 ^ 32
    by_number zero = omega arith
    by_number (suc i) = few_cells g.cells i (all_right (λ t. node_count (more t none) < 2 ^ 32) g.roots (map (λ (x : Referent). x.val) g.cells) few)

flat_joined : {X Y : Type 0} (f g : X → List Y) (xs : List X) → AllByRecursion (λ x. f x ≡ g x) xs → flat_map f xs ≡ flat_map g xs
flat_joined f g [] a = refl
flat_joined f g (x ∷ xs) a = ap₂ (λ u v. u ++ v) a.0 (flat_joined f g xs a.1)

-- the type of a node that has its form
form_type : (table : Table) (t : ℕ) (l : Label) (ks : Trees) → Form table t l ks → (d : TypeDef) × (type_at table t ≡ Some d)
form_type table t l ks (form_num is e) = (_, is)
form_type table t l ks (form_enum is) = (_, is)
form_type table t l ks (form_struct is) = (_, is)
form_type table t l ks (form_array is) = (_, is)
form_type table t l ks (form_text is) = (_, is)
form_type table t l ks (form_union a is tag chosen) = (_, is)
form_type table t l ks (form_pointer is) = (_, is)
form_type table t l ks (form_context is) = (_, is)

module _ (w : Setting) (side : IsLegalSide w) (g : Graph) (c : Conforms w g) where
  abbrev C : List Instr
  C = code_of w.table side.operations

  -- the value of a home of the stream is the one that is there
  value_by : (i t : ℕ) (o : Option (ℕ × ℕ)) → value_at g (standing_by g i t (root_at g i) o).home ≡ (standing_by g i t (root_at g i) o).val
  value_by i t None = refl
  value_by i t (Some d) = refl

  pub values_are : (steps : List Step) → AllByRecursion (λ (x : Standing). value_at g x.home ≡ x.val) (standings w g steps)
  values_are [] = tt
  values_are (root_stands i ∷ steps) =
      (value_by i (root_type (slice_get (root_list w) i)) (direct (type_at w.table (root_type (slice_get (root_list w) i))) (root_at g i)), values_are steps)
  values_are (referent_stands p b ∷ steps) = (refl, values_are steps)
  values_are (stands_already p b ∷ steps) = values_are steps

  module _ (k : ℕ) where
    -- the pieces of a whole run, by whatever maximum count
    pub by_run : (t : ℕ) (l : Label) (ks : Trees) → Shaped 32 w.table (t ∷ []) (more (node l ks) none) → node_count (more (node l ks) none) < 2 ^ 32 → (m : ℕ)
        → run C m k STEPS (whole_at w.table t) [] (flat (more (node l ks) none))
        ≡ kinds_pieces w.table (hoisted (hoists w.table t) l m) ++ values_pieces w.table (t ∷ []) (more (node l ks) none)
    by_run t l ks s few m =
        let enough : 8 + 9 * node_count (more (node l ks) none) ≤ STEPS = omega (arith, few) in
        let shallow : suc 31 < 36 = omega arith in
        home_written w.table side.operations m k 31 t l ks s shallow STEPS enough

    same_run : (t : ℕ) (v : Tree) → Shaped 32 w.table (t ∷ []) (more v none) → node_count (more v none) < 2 ^ 32 → (b : Bool) → hoists w.table t ≡ b
        → run C (max_by (slice_get C (whole_at w.table t)) (hoisted_max 0 (more v none))) k STEPS (whole_at w.table t) [] (flat (more v none))
        ≡ run C (hoisted_max 0 (more v none)) k STEPS (whole_at w.table t) [] (flat (more v none))
    same_run t (node l ks) s few true e =
        let (D, is) = form_type w.table t l ks s.0 in
        let first : slice_get C (whole_at w.table t) ≡ Some op.Hoist =
        first_at C (whole_at w.table t) op.Hoist (op.Call (place_at w.table t) ∷ op.Ret ∷ []) (hoist_run_at w.table side.operations t D is e) in
        ap (λ i. run C (max_by i (hoisted_max 0 (more (node l ks) none))) k STEPS (whole_at w.table t) [] (flat (more (node l ks) none))) first
    same_run t (node l ks) s few false e =
        let M : ℕ = hoisted_max 0 (more (node l ks) none) in
        let N : ℕ = max_by (slice_get C (whole_at w.table t)) M in
        let V : List Piece = values_pieces w.table (t ∷ []) (more (node l ks) none) in
        by_run t l ks s few N ∙ ap (λ b. kinds_pieces w.table (hoisted b l N) ++ V) e ∙ sym (ap (λ b. kinds_pieces w.table (hoisted b l M) ++ V) e) ∙ sym (by_run t l ks s few M)

    home_same : (x : Standing) → Shaped 32 w.table (x.of ∷ []) (more x.val none) → value_at g x.home ≡ x.val
        → written_turn C k g (x.home, whole_at w.table x.of) ≡ turn_pieces C k g (x.home, whole_at w.table x.of)
    home_same x s e =
        same_run x.of (value_at g x.home) (subst (λ v. Shaped 32 w.table (x.of ∷ []) (more v none)) (sym e) s) (few_at g c.few_nodes x.home) (hoists w.table x.of) refl

    homes_same : (xs : List Standing) → AllByRecursion (λ (x : Standing). Shaped 32 w.table (x.of ∷ []) (more x.val none)) xs
        → AllByRecursion (λ (x : Standing). value_at g x.home ≡ x.val) xs → AllByRecursion (λ u. written_turn C k g u ≡ turn_pieces C k g u) (home_turns w.table xs)
    homes_same [] a b = tt
    homes_same (x ∷ xs) a b = (home_same x a.0 b.0, homes_same xs a.1 b.1)

    -- a pipe has none
    pub pipe_same : (h : Home) (t at : ℕ) (v : Tree) → IsShapedPipe w.table t v → IsRunAt C at (op.Call (place_at w.table t) ∷ op.Ret ∷ []) → value_at g h ≡ v → 1 ≤ k → (m n : ℕ)
        → run C m k STEPS at [] (flat (more (value_at g h) none)) ≡ run C n k STEPS at [] (flat (more (value_at g h) none))
    pipe_same h t at v p s e some m n =
        let ks : Trees = p.kids in
        let V : Tree = node tree.Pipe ks in
        let same : value_at g h ≡ V = e ∙ p.value_is in
        let small : node_count (more V none) < 2 ^ 32 = subst (λ u. node_count (more u none) < 2 ^ 32) same (few_at g c.few_nodes h) in
        let enough : 8 + 9 * node_count ks ≤ STEPS = omega (arith, small) in
        let room : 32 + 3 ≤ 36 = omega arith in
        ap (λ u. run C m k STEPS at [] (flat (more u none))) same
        ∙ pipe_written w.table side.operations m k 32 t at p.elem ks s p.type_is p.shaped room STEPS some enough
        ∙ sym (pipe_written w.table side.operations n k 32 t at p.elem ks s p.type_is p.shaped room STEPS some enough)
        ∙ sym (ap (λ u. run C n k STEPS at [] (flat (more u none))) same)

    pipes_same : (at : ℕ → ℕ) (first : ℕ) (rs : List Root) (j : ℕ) → 1 ≤ k
        → ((i a : ℕ) (r : Root) → a ≡ j + i → slice_get rs i ≡ Some r → IsShapedPipe w.table r.of (root_at g (first + a)) × IsRunAt C (at a) (op.Call (place_at w.table r.of) ∷ op.Ret ∷ []))
        → AllByRecursion (λ u. written_turn C k g u ≡ turn_pieces C k g u) (pipe_turns at first j (length rs))
    pipes_same at first [] j some f = tt
    pipes_same at first (r ∷ rs) j some f =
        let (p, s) = f 0 j r (omega arith) refl in
        let u : Home × ℕ = (home.Root (first + j), at j) in (
          pipe_same (home.Root (first + j)) r.of (at j) (root_at g (first + j)) p s refl some (max_of C g u) (hoisted_max 0 (more (value_at g u.0) none)),
          pipes_same at first rs (suc j) some (λ i a q e z. f (suc i) a q (e ∙ omega arith) z),
        )

  all_both : {X : Type 0} (P : X → Type 0) (xs ys : List X) → AllByRecursion P xs → AllByRecursion P ys → AllByRecursion P (xs ++ ys)
  all_both P [] ys a b = b
  all_both P (x ∷ xs) ys a b = (a.0, all_both P xs ys a.1 b)

  -- where a maximum count is left out, the pieces are the same
  pub maxima_same : pipe_roots (root_list w) ≡ drop (before_pipes (root_list w)) (root_list w) → (k n : ℕ) → slice_get side.operations n ≡ Some w.op → (steps : List Step)
      → Deferral w g [] (due_roots 0 (before_pipes (root_list w))) steps → 1 ≤ k
      → written_turns C k g (all_turns w side.operations n g steps) ≡ turns_pieces C k g (all_turns w side.operations n g steps)
  maxima_same pipes_last k n is steps d some =
      let first : ℕ = before_pipes (root_list w) in
      let at : ℕ → ℕ = pipe_at w.table side.operations n w.op w.side in
      let H : List (Home × ℕ) = home_turns w.table (standings w g steps) in
      let P : List (Home × ℕ) = pipe_turns at first 0 (length (drop first (root_list w))) in
      flat_joined (written_turn C k g) (turn_pieces C k g) (H ++ P)
      (all_both (λ u. written_turn C k g u ≡ turn_pieces C k g u) H P (homes_same k (standings w g steps) (homes_shaped w side g c steps d) (values_are steps))
      (pipes_same k at first (drop first (root_list w)) 0 some (λ i a r e s.
      let same_place : a ≡ i = e ∙ omega arith in
      let there : slice_get (drop first (root_list w)) a ≡ Some r = ap (slice_get (drop first (root_list w))) same_place ∙ s in
      (pipes_shaped w side g c a r there, pipe_run_at w.table side.operations n w.op is w.side a r (ap (λ l. slice_get l a) pipes_last ∙ there)))))
