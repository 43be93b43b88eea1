-- The reader's turns at roots, and all its turns over what is due.
use Rattle.std.proofs.Common.{◌≡◌, ℕ, ◌+◌, ◌*◌, ◌<◌, ◌≤◌, zero, suc, Bool, true, false, List, [], ◌∷◌, ◌++◌, length, Option, Some, None, refl, ap, ap₂, sym, ◌∙◌, inl, inr, ◌⊎◌, arith, subst}
use Rattle.std.proofs.Common.{append_assoc, length-append}
use Rattle.std.specs.Prelude.{map, flat_map}
use Rattle.std.specs.List.{AllByRecursion, slice_get}
use Rattle.std.proofs.lemmas.Option.{slice_get-get_or}
use Rattle.nd_base.specs.declared.octets.Order.{Order}
use Rattle.nd_types.specs.declared.types.TypeDef.{TypeDef}
use Rattle.nd_types.specs.declared.types.TypeId.{TypeId}
use Rattle.nd_types.specs.declared.types.TypeDef.TheVariants as def
use Rattle.nd_types.specs.declared.types.Class.TheVariants.{Ref, Unique, Full}
use Rattle.nd_types.specs.Table.{type_at}
use Rattle.nd_types.specs.Roots.{Root}
use Rattle.nd_types.specs.Layout.{hoists}
use Rattle.nd_types.specs.Number.{AreOctets}
use Rattle.nd_value.specs.declared.value.Graph.{Graph}
use Rattle.nd_value.specs.declared.item.Home.TheVariants as home
use Rattle.nd_value.specs.Tree as tree
use Rattle.nd_value.specs.Tree.{Tree, node, none, more, Referent}
use Rattle.nd_value.specs.Setting.{Setting, root_list, root_at, or_unread, unread, cell_home, cell_at, cell_tree}
use Rattle.nd_value.specs.Deferral.{Pending, Due, due_root, due_referent, due_roots, home_pointers, IsPlaced, root_stands, Standing, standing_root, standing_by, direct, root_type}
use Rattle.nd_value.specs.Conforms.{root_pointers, cell_pointers}
use Rattle.nd_value.proofs.Apart.{all_append}
use Rattle.nd_value.proofs.DeferralExists.{direct_pointer}
use Rattle.nd_value.proofs.FewRoots.{few_before_pipes}
use Rattle.nd_grammar.specs.LegalSide.{IsLegalSide}
use Rattle.nd_grammar.specs.declared.reason.Reason.{Reason}
use Rattle.nd_grammar.specs.Entry.{whole_value}
use Rattle.nd_grammar.specs.Stream.{step_entries, standing_entries}
use Rattle.nd_grammar.specs.Reader.{Read, is_stopped, fresh, with_cell, new_cell, read_hoisted, read_if, read_whole}
use Rattle.nd_grammar.specs.StreamReader.{Reading, read_direct, read_placed, read_root, read_first, read_next, read_due}
use Rattle.nd_grammar.proofs.reader.ReaderSteps.{Follows, follows_append}
use Rattle.nd_grammar.proofs.reader.ReaderNames.{cell_kept}
use Rattle.nd_grammar.specs.ReaderState.{cell_in, PointersOk, stopped, paid, CellMade, no_names, State, Usable, UsablePointer}
use Rattle.nd_grammar.proofs.reader.ReaderNamed.{NamedOk, own_cell, linked_cell}
use Rattle.nd_grammar.proofs.reader.ReaderMoves.{new_makes}
use Rattle.nd_grammar.proofs.reader.ReaderCells.{more_pointers, root_more, put_between, blank_made, old_or_blank}
use Rattle.nd_grammar.proofs.reader.EntriesFine.{Fine}
use Rattle.nd_grammar.proofs.reader.ReaderReached.{reached_root}
use Rattle.nd_grammar.proofs.reader.ReaderStates.{Numbered, roots_made_more, WholeRead, read_wholly, referent_state}
use Rattle.nd_grammar.proofs.reader.ReaderTurns.{Settled, Goes, goes_nowhere, goes_twice, Turn, joined_due, one_longer, at_end, root_turn, placed_there, pending_turn, settled_before, value_settled}
use Rattle.nd_grammar.proofs.reader.ReaderTurns.{R_so}
use Rattle.nd_grammar.proofs.reader.MadeTrees.{one_made}
use Rattle.nd_grammar.specs.MadeTrees.{MadeTree, MadeTrees}
use Rattle.nd_grammar.proofs.legal.LegalUsable.{pointee_usable, root_usable}

module _ (w : Setting) (side : IsLegalSide w) (order : Order) (octets : List ℕ) (all : AreOctets octets) where
  abbrev S : Reading → List Pending → List Pending → ℕ → Type 0
  S = State w side order octets all

  module _ (s : Reading) (taken ps : List Pending) (n : ℕ) (state : S s taken ps (suc n)) (r : Root) (there : slice_get (root_list w) (length s.roots) ≡ Some r) (due : List Due)
      (is : due ≡ map due_referent ps ++ due_roots (suc (length s.roots)) n) where
    abbrev i : ℕ
    i = length s.roots

    usable_root : Usable w.table r.of
    usable_root = root_usable w side i r there (omega (arith, state.roots_left))

    root_value : (g : Graph) (v : Tree) (later : List Tree) → g.roots ≡ (s.roots ++ v ∷ []) ++ later → root_at g i ≡ v
    root_value g v later e = ap (λ u. or_unread (slice_get u i)) e ∙ ap or_unread (at_end s.roots v later)

    -- the root stands as itself
    module _ where
      abbrev R : Read
      R = read_whole order octets w.table (home.Root i) r.of s.progress s.names

      abbrev after : Reading
      after = read_placed w order octets i r.of due s

      R_reads : WholeRead w side order octets all (home.Root i) r.of s.progress s.names R
      R_reads = read_wholly w side order octets all (home.Root i) r.of usable_root s.progress s.names

      abbrev new : List Pending
      new = home_pointers w.table (home.Root i) r.of R.tree

      placed_state : S after taken (new ++ ps) n
      placed_state =
          let RP : List Pending = root_pointers w.table 0 (root_list w) s.roots in
          let C : List Pending = cell_pointers w.table 1 s.names.cells in
          let e1 : root_pointers w.table 0 (root_list w) (s.roots ++ R.tree ∷ []) ≡ RP ++ new =
          root_more w.table 0 (root_list w) s.roots r R.tree there ∙ ap (λ k. RP ++ home_pointers w.table (home.Root k) r.of R.tree) (omega arith) in
          let e2 : cell_pointers w.table 1 R.names.cells ≡ C = ap (cell_pointers w.table 1) R_reads.extends.cells ∙ more_pointers w.table 1 s.names.cells R_reads.extends.new R_reads.extends.blank in
          let e3 : RP ++ (new ++ C) ≡ root_pointers w.table 0 (root_list w) (s.roots ++ R.tree ∷ []) ++ cell_pointers w.table 1 R.names.cells =
          sym (append_assoc RP new C) ∙ ap₂ (λ u v. u ++ v) (sym e1) (sym e2) in
          let l : length (s.roots ++ R.tree ∷ []) ≡ suc i = one_longer s.roots R.tree in
          record {
            roots_left = omega (arith, l, state.roots_left);
            linked = R_reads.linked state.linked;
            apart = put_between s.names R.names taken ps new R_reads.extends state.apart (R_reads.pointers state.linked);
            pointers = subst (PointersOk no_names R.names) e3 (put_between s.names R.names RP C new R_reads.extends state.pointers (R_reads.pointers state.linked));
            usable = all_append (UsablePointer w.table) new ps R_reads.usable state.usable;
            named = state.named;
            blank = λ c x e f. blank_then c x f (old_or_blank s.names.cells R_reads.extends.new R_reads.extends.blank c x (subst (λ u. cell_in u c ≡ Some x) R_reads.extends.cells e));
            numbers = R_reads.numbers state.numbers;
            roots_made = roots_made_more w.table (root_list w) s.roots r R.tree there state.roots_made R_reads.made;
            cells_made = subst (AllByRecursion (CellMade w.table)) (sym R_reads.extends.cells)
                (all_append (CellMade w.table) s.names.cells R_reads.extends.new state.cells_made (blank_made w.table R_reads.extends.new R_reads.extends.blank));
            within = R_reads.moves.within state.within;
            few = omega (arith, l, state.few, R_reads.cells, R_reads.cost);
            reached = reached_root w s.roots s.names R.names R_reads.extends.new R_reads.extends.cells R.tree new e1 R_reads.covered state.reached;
          }
        where
          blank_then : (c : ℕ) (x : Referent) → ¬ IsPlaced s.done c → (cell_in s.names.cells c ≡ Some x) ⊎ (x.val ≡ unread) → x.val ≡ unread
          blank_then c x f (inl e) = state.blank c x e f
          blank_then c x f (inr e) = e

      root_settled : (g : Graph) → Settled g after → Settled g s
      root_settled g h = record {
        later = R.tree ∷ h.later;
        roots = h.roots ∙ append_assoc s.roots (R.tree ∷ []) h.later;
        cells = λ c pl. (
            let (x, e, b) = placed_there w side order octets all s taken ps (suc n) state c pl in
            h.cells c pl ∙ ap cell_tree (ap (λ u. cell_in u c) R_reads.extends.cells ∙ cell_kept s.names.cells R_reads.extends.new c x e ∙ sym e));
      }

      placed_turn : direct (type_at w.table r.of) R.tree ≡ None → Turn w side order octets all (due_root i ∷ due) s ps (suc n) after
      placed_turn no_direct =
          let l : length (s.roots ++ R.tree ∷ []) ≡ suc i = one_longer s.roots R.tree in
          let z : length (new ++ ps) ≡ length new + length ps = length-append new ps in
          record {
            taken' = taken;
            ps' = new ++ ps;
            n' = n;
            state = placed_state;
            due_is = ap (λ u. map due_referent new ++ u) (is ∙ ap (λ k. map due_referent ps ++ due_roots k n) (sym l)) ∙ joined_due new ps (due_roots (length (s.roots ++ R.tree ∷ [])) n);
            goes = record {
              settled = root_settled;
              grown = R_reads.grown;
              adds = λ g h steps d. (
                  let x : Standing = record { home = home.Root i; of = r.of; val = R.tree } in
                  let v : root_at g i ≡ R.tree = root_value g R.tree h.later h.roots in
                  let e : standing_root w g i ≡ x =
                  ap₂ (λ t u. standing_by g i t u (direct (type_at w.table t) u)) (ap root_type there) v ∙ ap (standing_by g i r.of R.tree) no_direct in
                  record {
                    steps_now = root_stands i ∷ steps;
                    deferral = root_turn w g i x s.done due steps e tt d;
                    follows = λ nums q a f. subst (λ u. Follows order octets nums s.progress (standing_entries w.table u ++ flat_map (step_entries w g) steps) q) (sym e)
                        (follows_append order octets nums (whole_value w.table (home.Root i) r.of R.tree) (flat_map (step_entries w g) steps) s.progress R.progress q (R_reads.follows nums a) f);
                    fine = λ xs k a. subst (λ u. AllByRecursion (Fine (Numbered xs)) (standing_entries w.table u ++ flat_map (step_entries w g) steps)) (sym e)
                        (all_append (Fine (Numbered xs)) (whole_value w.table (home.Root i) r.of R.tree) (flat_map (step_entries w g) steps) (R_reads.fine state.linked xs k) a);
                  });
            };
            paid_for = omega (arith, z, R_reads.cost);
          }

    -- a top-level reference pointer's referent is in its place
    module _ (to : TypeId) (is_reference : type_at w.table r.of ≡ Some (def.Pointer Ref to)) where
      abbrev c : ℕ
      c = fresh to.0 s.names

      abbrev q : Pending
      q = record { home = home.Root i; node = 0; class = Ref; to = to.0; cell = Some (fresh to.0 s.names); agreements = [] }

      abbrev its_tree : Tree
      its_tree = node (tree.Ptr (Some (fresh to.0 s.names))) none

      -- its cell, before its referent is read
      abbrev named_first : Reading
      named_first = record { roots = s.roots ++ its_tree ∷ []; done = s.done; due = due; progress = s.progress; names = with_cell to.0 s.names }

      root_made : MadeTrees w.table (r.of ∷ []) (more its_tree none)
      root_made = one_made w.table r.of its_tree
          (subst (λ d. MadeTree w.table d its_tree) (sym is_reference) (inr (record { shape = refl; range = refl; no_null = refl; counts = refl; machine = refl }), tt))

      first_state : S named_first taken (q ∷ ps) n
      first_state =
          let RP : List Pending = root_pointers w.table 0 (root_list w) s.roots in
          let C : List Pending = cell_pointers w.table 1 s.names.cells in
          let one : Referent = record { of = to.0; val = unread } in
          let own : NamedOk order octets (home.Root i) 0 to.0 Ref s.progress s.names (new_cell to.0 s.names) = own_cell order octets (home.Root i) 0 to.0 Ref (λ f. cc) s.progress s.names in
          let e1 : root_pointers w.table 0 (root_list w) (s.roots ++ its_tree ∷ []) ≡ RP ++ q ∷ [] =
          root_more w.table 0 (root_list w) s.roots r its_tree there
          ∙ ap (λ k. RP ++ home_pointers w.table (home.Root k) r.of its_tree) (omega arith)
          ∙ ap (λ u. RP ++ u) (direct_pointer w.table (home.Root i) r.of c to none is_reference) in
          let e2 : cell_pointers w.table 1 (s.names.cells ++ one ∷ []) ≡ C = more_pointers w.table 1 s.names.cells (one ∷ []) (refl, tt) in
          let e3 : RP ++ (q ∷ [] ++ C) ≡ root_pointers w.table 0 (root_list w) (s.roots ++ its_tree ∷ []) ++ cell_pointers w.table 1 (s.names.cells ++ one ∷ []) =
          sym (append_assoc RP (q ∷ []) C) ∙ ap₂ (λ u v. u ++ v) (sym e1) (sym e2) in
          let l : length (s.roots ++ its_tree ∷ []) ≡ suc i = one_longer s.roots its_tree in
          let m = new_makes to.0 s.names in
          record {
            roots_left = omega (arith, l, state.roots_left);
            linked = linked_cell order octets (home.Root i) 0 to.0 s.progress s.names state.linked;
            apart = put_between s.names (with_cell to.0 s.names) taken ps (q ∷ []) own.extends state.apart (own.pointer state.linked 0 []);
            pointers = subst (PointersOk no_names (with_cell to.0 s.names)) e3 (put_between s.names (with_cell to.0 s.names) RP C (q ∷ []) own.extends state.pointers (own.pointer state.linked 0 []));
            usable = (pointee_usable w.table side.operations side.legal r.of Ref to is_reference usable_root.no_pipe, state.usable);
            named = state.named;
            blank = λ k x e f. blank_then k x f (old_or_blank s.names.cells (one ∷ []) (refl, tt) k x e);
            numbers = m.numbers state.numbers;
            roots_made = roots_made_more w.table (root_list w) s.roots r its_tree there state.roots_made root_made;
            cells_made = all_append (CellMade w.table) s.names.cells (one ∷ []) state.cells_made (blank_made w.table (one ∷ []) (refl, tt));
            within = state.within;
            few = omega (arith, l, state.few, m.cells);
            reached = reached_root w s.roots s.names (with_cell to.0 s.names) (one ∷ []) refl its_tree (q ∷ []) e1 (λ k a b. (q, inl refl, m.covered k a b)) state.reached;
          }
        where
          blank_then : (k : ℕ) (x : Referent) → ¬ IsPlaced s.done k → (cell_in s.names.cells k ≡ Some x) ⊎ (x.val ≡ unread) → x.val ≡ unread
          blank_then k x f (inl e) = state.blank k x e f
          blank_then k x f (inr e) = e

      free : ¬ IsPlaced s.done c
      free h = let (x, e, b) = placed_there w side order octets all s taken ps (suc n) state c h in absurd (omega arith)

      abbrev behind : Reading
      behind = read_direct w order octets to.0 due s

      abbrev D : Read
      D = read_whole order octets w.table (cell_home c) to.0 s.progress (with_cell to.0 s.names)

      D_so : WholeRead w side order octets all (cell_home c) to.0 s.progress (with_cell to.0 s.names) D
      D_so = R_so w side order octets all named_first taken q ps n first_state due c refl free

      named_settled : (g : Graph) → Settled g behind → Settled g s
      named_settled g h = record {
        later = its_tree ∷ h.later;
        roots = h.roots ∙ append_assoc s.roots (its_tree ∷ []) h.later;
        cells = λ k pl. (
            let (x, e, b) = placed_there w side order octets all s taken ps (suc n) state k pl in
            settled_before w side order octets all named_first taken q ps n first_state due c refl free g (λ j pj. h.cells j (inr pj)) k pl
            ∙ ap cell_tree (cell_kept s.names.cells (record { of = to.0; val = unread } ∷ []) k x e ∙ sym e));
      }

      direct_turn : Turn w side order octets all (due_root i ∷ due) s ps (suc n) behind
      direct_turn =
          let new : List Pending = home_pointers w.table (cell_home c) to.0 D.tree in
          let l : length (s.roots ++ its_tree ∷ []) ≡ suc i = one_longer s.roots its_tree in
          let z : length (new ++ ps) ≡ length new + length ps = length-append new ps in
          record {
            taken' = taken ++ q ∷ [];
            ps' = new ++ ps;
            n' = n;
            state = referent_state w side order octets all named_first taken q ps n c due first_state refl free;
            due_is = ap (λ u. map due_referent new ++ u) (is ∙ ap (λ k. map due_referent ps ++ due_roots k n) (sym l)) ∙ joined_due new ps (due_roots (length (s.roots ++ its_tree ∷ [])) n);
            goes = record {
              settled = named_settled;
              grown = D_so.grown;
              adds = λ g h steps d. (
                  let x : Standing = record { home = cell_home c; of = to.0; val = D.tree } in
                  let v : root_at g i ≡ its_tree = root_value g its_tree h.later h.roots in
                  let y : cell_at g c ≡ D.tree = value_settled w side order octets all named_first taken q ps n first_state due c refl free g (h.cells c (inl refl)) in
                  let e : standing_root w g i ≡ x =
                  ap₂ (λ t u. standing_by g i t u (direct (type_at w.table t) u)) (ap root_type there) v
                  ∙ ap (λ o. standing_by g i r.of its_tree (direct o its_tree)) is_reference
                  ∙ ap (λ u. record { home = cell_home c; of = to.0; val = u }) y in
                  record {
                    steps_now = root_stands i ∷ steps;
                    deferral = root_turn w g i x s.done due steps e (free, tt) d;
                    follows = λ nums q' a f. subst (λ u. Follows order octets nums s.progress (standing_entries w.table u ++ flat_map (step_entries w g) steps) q') (sym e)
                        (follows_append order octets nums (whole_value w.table (cell_home c) to.0 D.tree) (flat_map (step_entries w g) steps) s.progress D.progress q' (D_so.follows nums a) f);
                    fine = λ xs k a. subst (λ u. AllByRecursion (Fine (Numbered xs)) (standing_entries w.table u ++ flat_map (step_entries w g) steps)) (sym e)
                        (all_append (Fine (Numbered xs)) (whole_value w.table (cell_home c) to.0 D.tree) (flat_map (step_entries w g) steps) (D_so.fine first_state.linked xs k) a);
                  });
            };
            paid_for = omega (arith, z, D_so.cost);
          }

    stopped_unread : is_stopped s.progress.stop ≡ true → (read_whole order octets w.table (home.Root i) r.of s.progress s.names).tree ≡ unread
    stopped_unread e = ap (λ b. (read_if b (read_hoisted order octets w.table (home.Root i) (hoists w.table r.of) r.of) s.progress s.names).tree) e

    root_by_type : (d : Option TypeDef) → type_at w.table r.of ≡ d → (b : Bool) → is_stopped s.progress.stop ≡ b
        → Turn w side order octets all (due_root i ∷ due) s ps (suc n) (read_root w order octets d b i r.of due s)
    root_by_type (Some (def.Pointer Ref to)) e false f = direct_turn to e
    root_by_type (Some (def.Pointer Ref to)) e true f = placed_turn (ap (direct (type_at w.table r.of)) (stopped_unread f) ∙ ap (λ o. direct o unread) e)
    root_by_type (Some (def.Pointer Unique to)) e b f = placed_turn (ap (λ o. direct o R.tree) e)
    root_by_type (Some (def.Pointer Full to)) e b f = placed_turn (ap (λ o. direct o R.tree) e)
    root_by_type None e b f = placed_turn (ap (λ o. direct o R.tree) e)
    root_by_type (Some (def.Prim p)) e b f = placed_turn (ap (λ o. direct o R.tree) e)
    root_by_type (Some _) e b f = placed_turn (ap (λ o. direct o R.tree) e)

    -- a root that is due
    pub due_root_turn : Turn w side order octets all (due_root i ∷ due) s ps (suc n) (read_first w order octets (due_root i) due s)
    due_root_turn =
        subst (λ t. Turn w side order octets all (due_root i ∷ due) s ps (suc n) (read_root w order octets (type_at w.table t) (is_stopped s.progress.stop) i t due s)) (sym (ap root_type there))
        (root_by_type (type_at w.table r.of) refl (is_stopped s.progress.stop) refl)

  -- the state at the end of what is due
  pub record Done (due : List Due) (s s' : Reading) : Type 0 where
    pub taken_all : List Pending
    pub state : State w side order octets all s' taken_all [] 0
    pub due_none : s'.due ≡ []
    pub goes : Goes w order octets due s s'

  -- a turn over what is due, if anything is
  turn_of : (s : Reading) (taken ps : List Pending) (n : ℕ) → S s taken ps n → (due : List Due) → due ≡ map due_referent ps ++ due_roots (length s.roots) n
      → ((due ≡ []) × (ps ≡ []) × (n ≡ 0)) ⊎ Turn w side order octets all due s ps n (read_next w order octets due s)
  turn_of s taken [] zero st due e = inl (e, refl, refl)
  turn_of s taken [] (suc n) st due e =
      let b : length s.roots < length (root_list w) = omega (arith, st.roots_left, few_before_pipes (root_list w)) in
      let there = slice_get-get_or (root_list w) (length s.roots) (record { of = 0; param = None; vars = []; is_pipe = false }) b in
      inr (subst (λ u. Turn w side order octets all u s [] (suc n) (read_next w order octets u s)) (sym e)
      (due_root_turn s taken [] n st _ there (due_roots (suc (length s.roots)) n) refl))
  turn_of s taken (p ∷ ps) n st due e =
      inr (subst (λ u. Turn w side order octets all u s (p ∷ ps) n (read_next w order octets u s)) (sym e)
      (pending_turn w side order octets all s taken p ps n st (map due_referent ps ++ due_roots (length s.roots) n) refl p.cell refl))

  pub stopped_few : (o : Option (ℕ × Reason)) → stopped o ≤ 1
  stopped_few None = omega arith
  stopped_few (Some r) = omega arith

  idle : (fuel : ℕ) (s : Reading) → s.due ≡ [] → read_due w order octets fuel s ≡ s
  idle zero s e = refl
  idle (suc fuel) s e = ap (λ d. read_due w order octets fuel (read_next w order octets d s)) e ∙ idle fuel s e

  done_already : (fuel : ℕ) (s : Reading) (taken ps : List Pending) (n : ℕ) → S s taken ps n → s.due ≡ [] → ps ≡ [] → n ≡ 0 → Done s.due s (read_due w order octets fuel s)
  done_already fuel s taken ps n st e f g =
      subst (Done s.due s) (sym (idle fuel s e))
      (record {
        taken_all = taken;
        state = subst (λ k. S s taken [] k) g (subst (λ u. S s taken u n) f st);
        due_none = e;
        goes = goes_nowhere w order octets s;
      })

  abbrev Claim : ℕ → Type 0
  Claim fuel =
      (s : Reading) (taken ps : List Pending) (n : ℕ) → S s taken ps n → s.due ≡ map due_referent ps ++ due_roots (length s.roots) n
      → 4 * (length ps + n) + length octets + 4 ≤ 4 * fuel + paid s.progress → Done s.due s (read_due w order octets fuel s)

  by_turn : (fuel : ℕ) → Claim fuel → (s : Reading) (taken ps : List Pending) (n : ℕ) → S s taken ps n
      → 4 * (length ps + n) + length octets + 4 ≤ 4 * suc fuel + paid s.progress
      → ((s.due ≡ []) × (ps ≡ []) × (n ≡ 0)) ⊎ Turn w side order octets all s.due s ps n (read_next w order octets s.due s)
      → Done s.due s (read_due w order octets (suc fuel) s)
  by_turn fuel claim s taken ps n st h (inl (e, f, g)) = done_already (suc fuel) s taken ps n st e f g
  by_turn fuel claim s taken ps n st h (inr t) =
      let s' : Reading = read_next w order octets s.due s in
      let d : Done s'.due s' (read_due w order octets fuel s') = claim s' t.taken' t.ps' t.n' t.state t.due_is (omega (arith, t.paid_for, h)) in
      record {
        taken_all = d.taken_all;
        state = d.state;
        due_none = d.due_none;
        goes = goes_twice w order octets s.due s s' (read_due w order octets fuel s') t.goes d.goes;
      }

  none_left : (s : Reading) (ps : List Pending) (n : ℕ) → length ps + n ≡ 0 → s.due ≡ map due_referent ps ++ due_roots (length s.roots) n → (s.due ≡ []) × (ps ≡ []) × (n ≡ 0)
  none_left s [] zero z e = (e, refl, refl)
  none_left s [] (suc n) z e = absurd (omega arith)
  none_left s (p ∷ ps) n z e = absurd (omega arith)

  -- All turns over what is due, where there are enough.
  pub due_done : (fuel : ℕ) → Claim fuel
  due_done zero s taken ps n st e h =
      let z : length ps + n ≡ 0 = omega (arith, st.within, stopped_few s.progress.stop) in
      let (a, b, c) = none_left s ps n z e in
      done_already zero s taken ps n st a b c
  due_done (suc fuel) s taken ps n st e h = by_turn fuel (due_done fuel) s taken ps n st h (turn_of s taken ps n st s.due e)
