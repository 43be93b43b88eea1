-- One step of the reader over what is due: the state after it, and the step of deferral that it is.
use Rattle.std.proofs.Common.{◌≡◌, ℕ, ◌+◌, ◌*◌, ◌≤◌, zero, suc, Bool, true, false, List, [], ◌∷◌, ◌++◌, length, Option, Some, None, refl, ap, sym, ◌∙◌, inl, inr, arith, subst, append_assoc}
use Rattle.std.proofs.Common.{length-append}
use Rattle.std.specs.Prelude.{map, flat_map, eqb, ◌||◌}
use Rattle.std.specs.List.{AllByRecursion, slice_get}
use Rattle.std.proofs.lemmas.Bool.{eqb-true, eqb-false}
use Rattle.nd_base.specs.declared.octets.Order.{Order}
use Rattle.nd_types.specs.declared.types.Class.{Class}
use Rattle.nd_types.specs.declared.types.Class.TheVariants.{Ref, Unique, Full}
use Rattle.nd_types.specs.Number.{AreOctets}
use Rattle.nd_value.specs.declared.value.Graph.{Graph}
use Rattle.nd_value.specs.Tree.{Tree, Referent}
use Rattle.nd_value.specs.Setting.{Setting, cell_home, cell_at, cell_tree}
use Rattle.nd_value.specs.Deferral.{Pending, Due, due_root, due_referent, due_roots, due_of, home_pointers, IsPlaced, IsPlacedFull, Placed_cells, Step, root_stands, referent_stands, stands_already}
use Rattle.nd_value.specs.Deferral.{Deferral, at_root, at_null, at_standing, at_referent, Standing, standing_root, standing_cell, root_cell, AreFree}
use Rattle.nd_value.specs.Conforms.{ShareOnlyIfFull}
use Rattle.nd_value.proofs.Apart.{all_append, all_left, all_among, among_left, earlier_meets}
use Rattle.nd_grammar.specs.LegalSide.{IsLegalSide}
use Rattle.nd_grammar.specs.Entry.{Entry, tests, whole_value}
use Rattle.nd_grammar.specs.Stream.{step_entries, standing_entries, step_tests}
use Rattle.nd_grammar.specs.Reader.{Progress, Read, pass_all, read_whole}
use Rattle.nd_grammar.specs.StreamReader.{Reading, graph_of, stands_among, stood, read_referent, read_pending}
use Rattle.nd_grammar.proofs.reader.ReaderSteps.{Follows, follows_append, follows_tests}
use Rattle.nd_grammar.proofs.reader.ReaderNodes.{Agree, Grown, grown_agree, grown_twice}
use Rattle.nd_grammar.proofs.reader.ReaderNames.{cell_kept, linked_all}
use Rattle.nd_grammar.specs.ReaderState.{cell_in, Linked, PointerAt, PointerOk, PointersOk, paid, no_names, State}
use Rattle.nd_grammar.proofs.reader.ReaderMoves.{Moves, stays_there, all_moves}
use Rattle.nd_grammar.proofs.reader.ReaderCells.{set, set_same, set_other}
use Rattle.nd_grammar.proofs.reader.EntriesFine.{Fine, fine_tests}
use Rattle.nd_grammar.proofs.reader.ReaderStates.{Numbered, WholeRead, referent_state, referent_paid, read_so, cell_then}

pub stands_true : (done : Placed_cells) (c : ℕ) → stands_among done c ≡ true → IsPlaced done c
stands_true [] c e = cc
stands_true (d ∷ ds) c e = go (eqb c d.1) refl e (stands_true ds c)
  where
    go : (b : Bool) → eqb c d.1 ≡ b → (b || stands_among ds c) ≡ true → (stands_among ds c ≡ true → IsPlaced ds c) → IsPlaced (d ∷ ds) c
    go true f h r = inl (eqb-true c d.1 f)
    go false f h r = inr (r h)

stands_false : (done : Placed_cells) (c : ℕ) → stands_among done c ≡ false → ¬ IsPlaced done c
stands_false [] c e h = h
stands_false (d ∷ ds) c e h = go (eqb c d.1) refl e (stands_false ds c) h
  where
    go : (b : Bool) → eqb c d.1 ≡ b → (b || stands_among ds c) ≡ false → (stands_among ds c ≡ false → ¬ IsPlaced ds c) → IsPlaced (d ∷ ds) c → ⊥
    go true f k r x = cc
    go false f k r (inl x) = eqb-false c d.1 f x
    go false f k r (inr x) = r k x

pub joined_due : (xs ps : List Pending) (ds : List Due) → map due_referent xs ++ (map due_referent ps ++ ds) ≡ map due_referent (xs ++ ps) ++ ds
joined_due [] ps ds = refl
joined_due (x ∷ xs) ps ds = ap (λ u. due_referent x ∷ u) (joined_due xs ps ds)

pub one_longer : (vs : List Tree) (v : Tree) → length (vs ++ v ∷ []) ≡ suc (length vs)
one_longer [] v = refl
one_longer (u ∷ vs) v = ap suc (one_longer vs v)

pub at_end : (vs : List Tree) (v : Tree) (later : List Tree) → slice_get ((vs ++ v ∷ []) ++ later) (length vs) ≡ Some v
at_end [] v later = refl
at_end (u ∷ vs) v later = at_end vs v later

-- what stands for a root, where it is known
pub root_turn : (w : Setting) (g : Graph) (i : ℕ) (x : Standing) (done : Placed_cells) (due : List Due) (steps : List Step) → standing_root w g i ≡ x
    → AreFree (root_cell x.home) done → Deferral w g (root_cell x.home ++ done) (due_of w.table x ++ due) steps
    → Deferral w g done (due_root i ∷ due) (root_stands i ∷ steps)
root_turn w g i x done due steps e f d =
    let f' : AreFree (root_cell (standing_root w g i).home) done = subst (λ u. AreFree (root_cell u.home) done) (sym e) f in
    let d' : Deferral w g (root_cell (standing_root w g i).home ++ done) (due_of w.table (standing_root w g i) ++ due) steps =
    subst (λ u. Deferral w g (root_cell u.home ++ done) (due_of w.table u ++ due) steps) (sym e) d in
    at_root f' d'

-- the values of a graph are those of a state, as far as they stand
pub record Settled (g : Graph) (s : Reading) : Type 0 where
  pub later : List Tree
  pub roots : g.roots ≡ s.roots ++ later
  pub cells : (c : ℕ) → IsPlaced s.done c → cell_at g c ≡ cell_tree (cell_in s.names.cells c)

module _ (w : Setting) (order : Order) (octets : List ℕ) where
  -- steps of deferral before others
  pub record More (g : Graph) (due : List Due) (s s' : Reading) (steps : List Step) : Type 0 where
    pub steps_now : List Step
    pub deferral : Deferral w g s.done due steps_now
    pub follows : (nums : ℕ → ℕ) (q : Progress) → Agree nums s'.names.numbers → Follows order octets nums s'.progress (flat_map (step_entries w g) steps) q
        → Follows order octets nums s.progress (flat_map (step_entries w g) steps_now) q
    pub fine : (xs : List (ℕ × ℕ)) → Grown s'.names.numbers xs → AllByRecursion (Fine (Numbered xs)) (flat_map (step_entries w g) steps)
        → AllByRecursion (Fine (Numbered xs)) (flat_map (step_entries w g) steps_now)

  -- from one state to a later one, over what is due
  pub record Goes (due : List Due) (s s' : Reading) : Type 0 where
    pub settled : (g : Graph) → Settled g s' → Settled g s
    pub grown : Grown s.names.numbers s'.names.numbers
    pub adds : (g : Graph) → Settled g s' → (steps : List Step) → Deferral w g s'.done s'.due steps → More g due s s' steps

  pub goes_nowhere : (s : Reading) → Goes s.due s s
  goes_nowhere s = record {
    settled = λ g h. h;
    grown = ([], refl);
    adds = λ g h steps d. record { steps_now = steps; deferral = d; follows = λ nums q a f. f; fine = λ xs k a. a };
  }

  pub goes_twice : (due : List Due) (s s' s'' : Reading) → Goes due s s' → Goes s'.due s' s'' → Goes due s s''
  goes_twice due s s' s'' a b = record {
    settled = λ g h. a.settled g (b.settled g h);
    grown = grown_twice s.names.numbers s'.names.numbers s''.names.numbers a.grown b.grown;
    adds = λ g h steps d. (
        let m : More g s'.due s' s'' steps = b.adds g h steps d in
        let k : More g due s s' m.steps_now = a.adds g (b.settled g h) m.steps_now m.deferral in
        record {
          steps_now = k.steps_now;
          deferral = k.deferral;
          follows = λ nums q e f. k.follows nums q (grown_agree nums s'.names.numbers s''.names.numbers b.grown e) (m.follows nums q e f);
          fine = λ xs e f. k.fine xs (grown_twice s'.names.numbers s''.names.numbers xs b.grown e) (m.fine xs e f);
        });
  }

module _ (w : Setting) (side : IsLegalSide w) (order : Order) (octets : List ℕ) (all : AreOctets octets) where
  abbrev S : Reading → List Pending → List Pending → ℕ → Type 0
  S = State w side order octets all

  -- a step: the state after it, what is due then, how it goes, and that each pointer that is due was paid
  pub record Turn (due : List Due) (s : Reading) (ps : List Pending) (n : ℕ) (s' : Reading) : Type 0 where
    pub taken' : List Pending
    pub ps' : List Pending
    pub n' : ℕ
    pub state : State w side order octets all s' taken' ps' n'
    pub due_is : s'.due ≡ map due_referent ps' ++ due_roots (length s'.roots) n'
    pub goes : Goes w order octets due s s'
    pub paid_for : 4 * (length ps' + n') + 4 + paid s.progress ≤ 4 * (length ps + n) + paid s'.progress

  -- cells that stand are there
  pub placed_there : (s : Reading) (taken ps : List Pending) (n : ℕ) → S s taken ps n → (c : ℕ) → IsPlaced s.done c
      → (x : Referent) × (cell_in s.names.cells c ≡ Some x) × (c ≤ length s.names.cells)
  placed_there s taken ps n st c h =
      let (q, m, e, f) = st.named c h in
      let a : PointerAt no_names s.names q c = all_among (PointerOk no_names s.names) taken q m (all_left (PointerOk no_names s.names) taken ps st.apart.each) c e in
      let (x, i, j) = a.there in
      (x, i, a.within)

  -- a pointer is taken
  module _ (s : Reading) (taken : List Pending) (p : Pending) (ps : List Pending) (n : ℕ) (state : S s taken (p ∷ ps) n) (due : List Due) where
    abbrev left : Progress → Reading
    left q = record { roots = s.roots; done = s.done; due = due; progress = q; names = s.names }

    taken_state : (q : Progress) → Moves order octets s.progress q → Linked order octets q s.names → S (left q) (taken ++ p ∷ []) ps n
    taken_state q m l = record {
      roots_left = state.roots_left;
      linked = l;
      apart = subst (PointersOk no_names s.names) (sym (append_assoc taken (p ∷ []) ps)) state.apart;
      pointers = state.pointers;
      usable = state.usable.1;
      named = λ c h. (let (q, a, e, f) = state.named c h in (q, among_left taken (p ∷ []) q a, e, f));
      blank = state.blank;
      numbers = state.numbers;
      roots_made = state.roots_made;
      cells_made = state.cells_made;
      within = m.within state.within;
      few = omega (arith, state.few, m.paid_more);
      reached = state.reached;
    }

    still_settled : (q : Progress) (g : Graph) → Settled g (left q) → Settled g s
    still_settled q g h = record { later = h.later; roots = h.roots; cells = h.cells }

    null_turn : due ≡ map due_referent ps ++ due_roots (length s.roots) n → p.cell ≡ None
        → Turn (due_referent p ∷ due) s (p ∷ ps) n (read_pending w order octets None p due s)
    null_turn is e = record {
      taken' = taken ++ p ∷ [];
      ps' = ps;
      n' = n;
      state = taken_state s.progress (stays_there order octets s.progress) state.linked;
      due_is = is;
      goes = record {
        settled = still_settled s.progress;
        grown = ([], refl);
        adds = λ g h steps d. record { steps_now = steps; deferral = at_null e d; follows = λ nums q a f. f; fine = λ xs k a. a };
      };
      paid_for = omega arith;
    }

    -- a pointer to a cell that stands is full, and so was the one for which it stands
    both_full : (c : ℕ) → p.cell ≡ Some c → IsPlaced s.done c → (p.class ≡ Full) × IsPlacedFull s.done c
    both_full c e h =
        let (q, a, e', f) = state.named c h in
        let m = earlier_meets ShareOnlyIfFull taken p ps q a state.apart.apart c e' e in
        (m.1, f m.0)

    abbrev tested : ℕ → Progress
    tested c = pass_all order octets (tests (cell_home c) 0 (cell_at (graph_of s.roots s.names) c) p.agreements) s.progress

    same_cell : (g : Graph) (c : ℕ) → cell_tree (cell_in s.names.cells c) ≡ cell_at (graph_of s.roots s.names) c
    same_cell g zero = refl
    same_cell g (suc i) = refl

    standing_turn : due ≡ map due_referent ps ++ due_roots (length s.roots) n → (c : ℕ) → p.cell ≡ Some c → IsPlaced s.done c
        → Turn (due_referent p ∷ due) s (p ∷ ps) n (read_referent w order octets true p c due s)
    standing_turn is c e h =
        let (full, k) = both_full c e h in
        let T : List Entry = tests (cell_home c) 0 (cell_at (graph_of s.roots s.names) c) p.agreements in
        let m : Moves order octets s.progress (tested c) = all_moves order octets T s.progress in
        record {
          taken' = taken ++ p ∷ [];
          ps' = ps;
          n' = n;
          state = taken_state (tested c) m (linked_all order octets s.progress s.names T state.linked);
          due_is = is;
          goes = record {
            settled = still_settled (tested c);
            grown = ([], refl);
            adds = λ g z steps d. record {
              steps_now = stands_already p c ∷ steps;
              deferral = at_standing c e full k d;
              follows = λ nums q a f. (
                  let v : cell_at g c ≡ cell_at (graph_of s.roots s.names) c = z.cells c h ∙ same_cell g c in
                  subst (λ u. Follows order octets nums s.progress (tests (cell_home c) 0 u p.agreements ++ flat_map (step_entries w g) steps) q) (sym v)
                  (follows_append order octets nums T (flat_map (step_entries w g) steps) s.progress (tested c) q
                  (follows_tests order octets nums (cell_home c) 0 (cell_at (graph_of s.roots s.names) c) p.agreements s.progress) f));
              fine = λ xs u a. all_append (Fine (Numbered xs)) (tests (cell_home c) 0 (cell_at g c) p.agreements) (flat_map (step_entries w g) steps)
                  (fine_tests (Numbered xs) (cell_home c) 0 (cell_at g c) p.agreements) a;
            };
          };
          paid_for = omega (arith, m.paid_more);
        }

    -- what the referent's cell says of a graph
    module _ (c : ℕ) (is_cell : p.cell ≡ Some c) (free : ¬ IsPlaced s.done c) where
      abbrev R : Read
      R = read_whole order octets w.table (cell_home c) p.to s.progress s.names

      abbrev behind : Reading
      behind = read_referent w order octets false p c due s

      pub R_so : WholeRead w side order octets all (cell_home c) p.to s.progress s.names R
      R_so = read_so w side order octets all s taken p ps n c due state is_cell free

      pub settled_before : (g : Graph) → ((k : ℕ) → IsPlaced s.done k → cell_at g k ≡ cell_tree (cell_in (set c R.tree R.names.cells) k)) → (k : ℕ) → IsPlaced s.done k
          → cell_at g k ≡ cell_tree (cell_in s.names.cells k)
      settled_before g h k pl =
          let (x, i, j) = placed_there s taken (p ∷ ps) n state k pl in
          let e1 : cell_in (set c R.tree R.names.cells) k ≡ cell_in R.names.cells k = set_other c k R.tree R.names.cells (λ z. free (subst (IsPlaced s.done) (sym z) pl)) in
          let e2 : cell_in R.names.cells k ≡ Some x = ap (λ u. cell_in u k) R_so.extends.cells ∙ cell_kept s.names.cells R_so.extends.new k x i in
          h k pl ∙ ap cell_tree (e1 ∙ e2 ∙ sym i)

      pub value_settled : (g : Graph) → cell_at g c ≡ cell_tree (cell_in (set c R.tree R.names.cells) c) → cell_at g c ≡ R.tree
      value_settled g h = h ∙ ap cell_tree (set_same c R.tree R.names.cells _ (cell_then w side order octets all s taken p ps n c due state is_cell free))

      pub its_entries : (g : Graph) → cell_at g c ≡ R.tree → (nums : ℕ → ℕ) → Agree nums R.names.numbers
          → Follows order octets nums s.progress (standing_entries w.table (standing_cell g p c) ++ step_tests g p c) behind.progress
      its_entries g v nums a =
          subst (λ u. Follows order octets nums s.progress (whole_value w.table (cell_home c) p.to u ++ tests (cell_home c) 0 u p.agreements) behind.progress) (sym v)
          (follows_append order octets nums (whole_value w.table (cell_home c) p.to R.tree) (tests (cell_home c) 0 R.tree p.agreements) s.progress R.progress behind.progress
          (R_so.follows nums a) (follows_tests order octets nums (cell_home c) 0 R.tree p.agreements R.progress))

      pub entries_fine : (g : Graph) → cell_at g c ≡ R.tree → (xs : List (ℕ × ℕ)) → Grown R.names.numbers xs → AllByRecursion (Fine (Numbered xs)) (standing_entries w.table (standing_cell g p c))
      entries_fine g v xs k = subst (λ u. AllByRecursion (Fine (Numbered xs)) (whole_value w.table (cell_home c) p.to u)) (sym v) (R_so.fine state.linked xs k)

      referent_turn : due ≡ map due_referent ps ++ due_roots (length s.roots) n → Turn (due_referent p ∷ due) s (p ∷ ps) n behind
      referent_turn is =
          let new : List Pending = home_pointers w.table (cell_home c) p.to R.tree in
          let z : length (new ++ ps) ≡ length new + length ps = length-append new ps in
          record {
            taken' = taken ++ p ∷ [];
            ps' = new ++ ps;
            n' = n;
            state = referent_state w side order octets all s taken p ps n c due state is_cell free;
            due_is = ap (λ u. map due_referent new ++ u) is ∙ joined_due new ps (due_roots (length s.roots) n);
            goes = record {
              settled = λ g h. record { later = h.later; roots = h.roots; cells = settled_before g (λ k pl. h.cells k (inr pl)) };
              grown = R_so.grown;
              adds = λ g h steps d. (
                  let v : cell_at g c ≡ R.tree = value_settled g (h.cells c (inl refl)) in
                  let d' : Deferral w g ((p.class, c) ∷ s.done) (due_of w.table (standing_cell g p c) ++ due) steps =
                  subst (λ u. Deferral w g ((p.class, c) ∷ s.done) (map due_referent (home_pointers w.table (cell_home c) p.to u) ++ due) steps) (sym v) d in
                  record {
                    steps_now = referent_stands p c ∷ steps;
                    deferral = at_referent c is_cell free d';
                    follows = λ nums q a f.
                        follows_append order octets nums (standing_entries w.table (standing_cell g p c) ++ step_tests g p c) (flat_map (step_entries w g) steps) s.progress behind.progress q
                        (its_entries g v nums a) f;
                    fine = λ xs k a.
                        all_append (Fine (Numbered xs)) (standing_entries w.table (standing_cell g p c) ++ step_tests g p c) (flat_map (step_entries w g) steps)
                        (all_append (Fine (Numbered xs)) (standing_entries w.table (standing_cell g p c)) (step_tests g p c) (entries_fine g v xs k)
                        (fine_tests (Numbered xs) (cell_home c) 0 (cell_at g c) p.agreements)) a;
                  });
            };
            paid_for = omega (arith, z, referent_paid w side order octets all s taken p ps n c due state is_cell free);
          }

    -- a pointer that is due
    pub pending_turn : due ≡ map due_referent ps ++ due_roots (length s.roots) n → (o : Option ℕ) → p.cell ≡ o
        → Turn (due_referent p ∷ due) s (p ∷ ps) n (read_pending w order octets o p due s)
    pending_turn is None e = null_turn is e
    pending_turn is (Some c) e = go (stands_among s.done c) refl p.class refl
      where
        stood_by : (k : Class) → stood k s.done c ≡ true → stands_among s.done c ≡ true
        stood_by Full h = h
        stood_by Ref h = cc
        stood_by Unique h = cc

        free_by : (b : Bool) → stands_among s.done c ≡ b → (k : Class) → p.class ≡ k → stood k s.done c ≡ false → ¬ IsPlaced s.done c
        free_by false h k i j = stands_false s.done c h
        free_by true h Full i j = cc
        free_by true h Ref i j = λ z. (let m : p.class ≡ Full = (both_full c e z).0 in cc)
        free_by true h Unique i j = λ z. (let m : p.class ≡ Full = (both_full c e z).0 in cc)

        by_stood : (t : Bool) → stood p.class s.done c ≡ t → Turn (due_referent p ∷ due) s (p ∷ ps) n (read_referent w order octets t p c due s)
        by_stood true h = standing_turn is c e (stands_true s.done c (stood_by p.class h))
        by_stood false h = referent_turn c e (free_by (stands_among s.done c) refl p.class refl h) is

        go : (b : Bool) → stands_among s.done c ≡ b → (k : Class) → p.class ≡ k → Turn (due_referent p ∷ due) s (p ∷ ps) n (read_pending w order octets (Some c) p due s)
        go b h k i = by_stood (stood p.class s.done c) refl
