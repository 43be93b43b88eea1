-- The homes of a graph that conforms have their turns in the order of deferral.
use Rattle.std.proofs.Common.{◌≡◌, inl, inr, ℕ, ◌+◌, ◌<◌, ◌≤◌, ◌^◌, zero, suc, true, false, List, [], ◌∷◌, ◌++◌, length, map, Option, Some, None, refl, ap, sym, ◌∙◌, subst, arith, append_assoc}
use Rattle.std.specs.Prelude.{flat_map}
use Rattle.std.specs.List.{AllByRecursion, slice_get}
use Rattle.std.proofs.lemmas.Option.{slice_get-get_or}
use Rattle.nd_types.specs.declared.types.TypeDef.{TypeDef}
use Rattle.nd_types.specs.declared.types.TypeDef.TheVariants as def
use Rattle.nd_types.specs.declared.types.Class.TheVariants.{Ref, Unique, Full}
use Rattle.nd_types.specs.Table.{Table, type_at}
use Rattle.nd_types.specs.Roots.{Root}
use Rattle.nd_value.specs.declared.value.Graph.{Graph}
use Rattle.nd_value.specs.declared.item.Home.{Home}
use Rattle.nd_value.specs.declared.item.Home.TheVariants as home
use Rattle.nd_value.specs.Tree as tree
use Rattle.nd_value.specs.Tree.{Tree, Trees, node, none, more, node_count, Label, Referent}
use Rattle.nd_value.specs.Setting.{Setting, Among, root_list, root_at, cell_at, cell_home}
use Rattle.nd_value.specs.Misfit.{has_shape, is_no_null_ref}
use Rattle.nd_value.specs.Agreement.{root_agreements}
use Rattle.nd_value.specs.Canon.{named, own_cell, named_cells}
use Rattle.nd_value.specs.Deferral.{Pending, home_pointers, Step, Due, due_root, due_referent, due_roots, before_pipes, Deferral, none_due, at_root, at_null, at_standing, at_referent, Placed_cells}
use Rattle.nd_value.specs.Deferral.{IsPlaced, Standing, standing_root, standing_by, standing_cell, root_type, direct, due_of, root_cell, AreFree}
use Rattle.nd_value.specs.Conforms.{Conforms}
use Rattle.nd_value.proofs.Apart.{all_append, all_left, all_right}
use Rattle.nd_value.proofs.DeferralExists.{direct_is}
use Rattle.nd_value.proofs.DeferralLaws.{full_stands}
use Rattle.nd_value.proofs.FewRoots.{few_before_pipes}
use Rattle.nd_grammar.specs.LegalSide.{IsLegalSide}
use Rattle.nd_grammar.proofs.conforming.GoodTrees.{GoodTrees, good_roots}
use Rattle.nd_grammar.proofs.conforming.GoodStream.{StandsGood, DueGood, standing_due, pending_cell, root_good, roots_due}
use Rattle.nd_grammar.proofs.legal.LegalPipes.{plain_before}
use Rattle.ndr_code.specs.declared.instr.Instr.{Instr}
use Rattle.ndr_code.specs.Code.{whole_at, code_of}
use Rattle.ndr_encoder_laws.specs.pieces.Pieces.{named_cell}
use Rattle.ndr_encoder_laws.specs.pieces.Heads.{standings}
use Rattle.ndr_encoder_laws.proofs.shaped.Homes.{no_pipes, standing_shaped}
use Rattle.ndr_encoder_laws.specs.turns.Turned.{Item, root_due, direct_due, cell_due, Turned, none_left, root_turn, direct_turn, cell_turn, cell_stands, names_of, cells_due, cells_of}
use Rattle.ndr_encoder_laws.specs.turns.Roots.{root_item, root_items, home_turns}
use Rattle.ndr_encoder_laws.proofs.turns.Names.{name_of, names_are, cells_are}
use Rattle.ndr_encoder_laws.proofs.chosen.Written.{few_cells, few_of}

pub due_joined : (xs ys : List (ℕ × ℕ)) → cells_due (xs ++ ys) ≡ cells_due xs ++ cells_due ys
due_joined [] ys = refl
due_joined (x ∷ xs) ys = ap (λ l. cell_due x.0 x.1 ∷ l) (due_joined xs ys)

-- a root that is no reference pointer has its own place, and a reference pointer's is that of its referent
plain_item : (table : Table) (i t : ℕ) (D : Option TypeDef) (l : Label) (ks : Trees) → has_shape D l ks ≡ true → direct D (node l ks) ≡ None → root_item table i t D ≡ root_due i (whole_at table t)
plain_item table i t (Some (def.Pointer Ref to)) (tree.Ptr (Some c)) ks s e = cc
plain_item table i t (Some (def.Pointer Ref to)) (tree.Ptr None) ks s e = cc
plain_item table i t (Some (def.Pointer Ref to)) _ ks s e = cc
plain_item table i t (Some (def.Pointer Unique to)) l ks s e = refl
plain_item table i t (Some (def.Pointer Full to)) l ks s e = refl
plain_item table i t None l ks s e = refl
plain_item table i t (Some _) l ks s e = refl

module _ (w : Setting) (side : IsLegalSide w) (g : Graph) (k : Conforms w g) where
  abbrev C : List Instr
  C = code_of w.table side.operations

  abbrev Good : Standing → Type 0
  Good = StandsGood w (no_pipes w side g k) g

  abbrev GoodDue : Due → Type 0
  GoodDue = DueGood w (no_pipes w side g k) g

  abbrev cells_done : Placed_cells → List ℕ
  cells_done done = map (λ d. d.1) done

  placed_among : (done : Placed_cells) (c : ℕ) → IsPlaced done c → Among (cells_done done) c
  placed_among [] c h = absurd h
  placed_among (d ∷ ds) c (inl e) = inl e
  placed_among (d ∷ ds) c (inr h) = inr (placed_among ds c h)

  among_placed : (done : Placed_cells) (c : ℕ) → Among (cells_done done) c → IsPlaced done c
  among_placed [] c h = absurd h
  among_placed (d ∷ ds) c (inl e) = inl e
  among_placed (d ∷ ds) c (inr h) = inr (among_placed ds c h)

  -- what is pending, as the search has it
  abbrev items : List Due → List Item
  items [] = []
  items (due_root i ∷ ds) = root_item w.table i (root_type (slice_get (root_list w) i)) (type_at w.table (root_type (slice_get (root_list w) i))) ∷ items ds
  items (due_referent p ∷ ds) = cells_due (name_of w.table p) ++ items ds

  items_of : (ps : List Pending) (ds : List Due) → items (map due_referent ps ++ ds) ≡ cells_due (flat_map (name_of w.table) ps) ++ items ds
  items_of [] ds = refl
  items_of (p ∷ ps) ds =
      ap (λ u. cells_due (name_of w.table p) ++ u) (items_of ps ds)
      ∙ sym (append_assoc (cells_due (name_of w.table p)) (cells_due (flat_map (name_of w.table) ps)) (items ds))
      ∙ ap (λ u. u ++ items ds) (sym (due_joined (name_of w.table p) (flat_map (name_of w.table) ps)))

  few_root : (i : ℕ) → node_count (more (root_at g i) none) < 2 ^ 32
  few_root i = few_of g.roots i (all_left (λ t. node_count (more t none) < 2 ^ 32) g.roots (map (λ (c : Referent). c.val) g.cells) k.few_nodes)

  few_cell : (c : ℕ) → node_count (more (cell_at g c) none) < 2 ^ 32
  few_cell zero = omega arith
  few_cell (suc i) = few_cells g.cells i (all_right (λ t. node_count (more t none) < 2 ^ 32) g.roots (map (λ (c : Referent). c.val) g.cells) k.few_nodes)

  -- a value as a whole: what its run names
  module _ (x : Standing) (s : Good x) (few : node_count (more x.val none) < 2 ^ 32) where
    run_names : names_of C (whole_at w.table x.of) x.val ≡ flat_map (name_of w.table) (home_pointers w.table x.home x.of x.val)
    run_names = names_are w.table side.operations x.home x.of x.val (standing_shaped w side g k x s) few

    run_cells : cells_of (names_of C (whole_at w.table x.of) x.val) ≡ named w.table x
    run_cells = ap cells_of run_names ∙ cells_are w.table (home_pointers w.table x.home x.of x.val)

    run_due : (ds : List Due) → items (due_of w.table x ++ ds) ≡ cells_due (names_of C (whole_at w.table x.of) x.val) ++ items ds
    run_due ds = items_of (home_pointers w.table x.home x.of x.val) ds ∙ ap (λ u. cells_due u ++ items ds) (sym run_names)

  abbrev Later : Placed_cells → List Due → List (Home × ℕ) → List ℕ → Standing → Type 0
  Later done due ts ns x = Turned C g (cells_done (root_cell x.home ++ done)) (items (due_of w.table x ++ due)) ts ns

  abbrev Now : Placed_cells → List Due → List (Home × ℕ) → List ℕ → Item → Standing → Type 0
  Now done due ts ns it x = Turned C g (cells_done done) (it ∷ items due) ((x.home, whole_at w.table x.of) ∷ ts) ((own_cell x.home ++ named w.table x) ++ ns)

  -- a root has its turn
  root_by : (done : Placed_cells) (due : List Due) (ts : List (Home × ℕ)) (ns : List ℕ) (i t : ℕ) (l : Label) (ks : Trees) → root_at g i ≡ node l ks
      → has_shape (type_at w.table t) l ks ≡ true → is_no_null_ref (type_at w.table t) l ≡ true
      → (o : Option (ℕ × ℕ)) → direct (type_at w.table t) (node l ks) ≡ o → Good (standing_by g i t (root_at g i) o) → AreFree (root_cell (standing_by g i t (root_at g i) o).home) done
      → Later done due ts ns (standing_by g i t (root_at g i) o) → Now done due ts ns (root_item w.table i t (type_at w.table t)) (standing_by g i t (root_at g i) o)
  root_by done due ts ns i t l ks v shape some None e s free later =
      let x : Standing = standing_by g i t (root_at g i) None in
      let it : root_item w.table i t (type_at w.table t) ≡ root_due i (whole_at w.table t) = plain_item w.table i t (type_at w.table t) l ks shape e in
      subst (λ j. Turned C g (cells_done done) (j ∷ items due) ((x.home, whole_at w.table x.of) ∷ ts) (named w.table x ++ ns)) (sym it)
      (subst (λ u. Turned C g (cells_done done) (root_due i (whole_at w.table t) ∷ items due) ((x.home, whole_at w.table x.of) ∷ ts) (u ++ ns)) (run_cells x s (few_root i))
      (root_turn i (whole_at w.table t) (subst (λ u. Turned C g (cells_done done) u ts ns) (run_due x s (few_root i) due) later)))
  root_by done due ts ns i t l ks v shape some (Some (c, u)) e s free later =
      let x : Standing = standing_by g i t (root_at g i) (Some (c, u)) in
      let (to, type_is, label_is, of_is) = direct_is (type_at w.table t) l ks c u e some in
      let it : root_item w.table i t (type_at w.table t) ≡ direct_due i (whole_at w.table u) =
      ap (root_item w.table i t) type_is ∙ ap (λ q. direct_due i (whole_at w.table q)) (sym of_is) in
      subst (λ j. Turned C g (cells_done done) (j ∷ items due) ((x.home, whole_at w.table x.of) ∷ ts) ((c ∷ named w.table x) ++ ns)) (sym it)
      (subst (λ q. Turned C g (cells_done done) (direct_due i (whole_at w.table u) ∷ items due) ((x.home, whole_at w.table x.of) ∷ ts) (c ∷ (q ++ ns))) (run_cells x s (few_cell c))
      (direct_turn i (whole_at w.table u) c (v ∙ ap (λ q. node q ks) label_is) (λ m. free.0 (among_placed done c m))
      (subst (λ q. Turned C g (c ∷ cells_done done) q ts ns) (run_due x s (few_cell c) due) later)))

  root_value : (done : Placed_cells) (due : List Due) (ts : List (Home × ℕ)) (ns : List ℕ) (i t : ℕ) (r : Root) (v : Tree) → root_at g i ≡ v
      → GoodTrees w.table g (t ∷ []) (root_agreements w g r.vars ∷ []) (more v none) → Good (standing_by g i t (root_at g i) (direct (type_at w.table t) (root_at g i)))
      → AreFree (root_cell (standing_by g i t (root_at g i) (direct (type_at w.table t) (root_at g i))).home) done
      → Later done due ts ns (standing_by g i t (root_at g i) (direct (type_at w.table t) (root_at g i)))
      → Now done due ts ns (root_item w.table i t (type_at w.table t)) (standing_by g i t (root_at g i) (direct (type_at w.table t) (root_at g i)))
  root_value done due ts ns i t r (node l ks) v b s free later =
      root_by done due ts ns i t l ks v b.0.shape b.0.no_null (direct (type_at w.table t) (root_at g i)) (ap (direct (type_at w.table t)) (sym v)) s free later

  root_turned : (done : Placed_cells) (due : List Due) (ts : List (Home × ℕ)) (ns : List ℕ) (i : ℕ) (r : Root) → slice_get (root_list w) i ≡ Some r → Good (standing_root w g i)
      → AreFree (root_cell (standing_root w g i).home) done → Later done due ts ns (standing_root w g i)
      → Now done due ts ns (root_item w.table i (root_type (slice_get (root_list w) i)) (type_at w.table (root_type (slice_get (root_list w) i)))) (standing_root w g i)
  root_turned done due ts ns i r e s free later =
      root_value done due ts ns i (root_type (slice_get (root_list w) i)) r (root_at g i) refl
      (subst (λ t. GoodTrees w.table g (t ∷ []) (root_agreements w g r.vars ∷ []) (more (root_at g i) none)) (sym (ap root_type e)) (good_roots w g k i r e)) s free later

  -- the order of deferral is the order of turns
  turns : {done : Placed_cells} {due : List Due} {steps : List Step} → Deferral w g done due steps → AllByRecursion GoodDue due
      → Turned C g (cells_done done) (items due) (home_turns w.table (standings w g steps)) (named_cells w g steps)
  turns none_due a = none_left
  turns (at_root {done = done} {i = i} {due = due} {steps = steps} free d) a =
      let (r, e, p) = a.0 in
      let s : Good (standing_root w g i) = root_good w (no_pipes w side g k) g k i r e p in
      root_turned done due (home_turns w.table (standings w g steps)) (named_cells w g steps) i r e s free
      (turns d (all_append GoodDue (due_of w.table (standing_root w g i)) due (standing_due w (no_pipes w side g k) g (standing_root w g i) s) a.1))
  turns (at_null {done = done} {p = p} {due = due} {steps = steps} e d) a =
      subst (λ o. Turned C g (cells_done done) (cells_due (named_cell o (whole_at w.table p.to)) ++ items due) (home_turns w.table (standings w g steps)) (named_cells w g steps)) (sym e) (turns d a.1)
  turns (at_standing {done = done} {p = p} {due = due} {steps = steps} c e full there d) a =
      subst (λ o. Turned C g (cells_done done) (cells_due (named_cell o (whole_at w.table p.to)) ++ items due) (home_turns w.table (standings w g steps)) (named_cells w g steps)) (sym e)
      (cell_stands c (whole_at w.table p.to) (placed_among done c (full_stands done c there)) (turns d a.1))
  turns (at_referent {done = done} {p = p} {due = due} {steps = steps} c e free d) a =
      let x : Standing = standing_cell g p c in
      let s : Good x = pending_cell w (no_pipes w side g k) g k p a.0 c e in
      let ts : List (Home × ℕ) = home_turns w.table (standings w g steps) in
      let ns : List ℕ = named_cells w g steps in
      let later : Turned C g (c ∷ cells_done done) (items (due_of w.table x ++ due)) ts ns =
      turns d (all_append GoodDue (due_of w.table x) due (standing_due w (no_pipes w side g k) g x s) a.1) in
      subst (λ o. Turned C g (cells_done done) (cells_due (named_cell o (whole_at w.table p.to)) ++ items due) ((cell_home c, whole_at w.table p.to) ∷ ts) (named w.table x ++ ns)) (sym e)
      (subst (λ u. Turned C g (cells_done done) (cell_due c (whole_at w.table p.to) ∷ items due) ((cell_home c, whole_at w.table p.to) ∷ ts) (u ++ ns)) (run_cells x s (few_cell c))
      (cell_turn c (whole_at w.table p.to) (λ m. free (among_placed done c m)) (subst (λ u. Turned C g (c ∷ cells_done done) u ts ns) (run_due x s (few_cell c) due) later)))

  items_are : (i n : ℕ) → items (due_roots i n) ≡ root_items w i n
  items_are i zero = refl
  items_are i (suc n) =
      ap (λ u. root_item w.table i (root_type (slice_get (root_list w) i)) (type_at w.table (root_type (slice_get (root_list w) i))) ∷ u) (items_are (suc i) n)

  pub turns_are : (steps : List Step) → Deferral w g [] (due_roots 0 (before_pipes (root_list w))) steps
      → Turned C g [] (root_items w 0 (before_pipes (root_list w))) (home_turns w.table (standings w g steps)) (named_cells w g steps)
  turns_are steps d =
      let few : before_pipes (root_list w) ≤ length (root_list w) = few_before_pipes (root_list w) in
      let dues : AllByRecursion GoodDue (due_roots 0 (before_pipes (root_list w))) = roots_due w (no_pipes w side g k) g k 0 (before_pipes (root_list w)) (λ j h. (
      let n : 0 + j < length (root_list w) = omega (arith, few, h) in
      let z : 0 + j < before_pipes (root_list w) = omega (arith, h) in
      let e = slice_get-get_or (root_list w) (0 + j) (record { of = 0; param = None; vars = []; is_pipe = false }) n in
      (_, e, plain_before w side (0 + j) _ e z))) in
      subst (λ u. Turned C g [] u (home_turns w.table (standings w g steps)) (named_cells w g steps)) (items_are 0 (before_pipes (root_list w))) (turns d dues)
