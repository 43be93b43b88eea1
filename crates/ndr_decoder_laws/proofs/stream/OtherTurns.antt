-- The turns at which nothing is read: at a null pointer, and at a full pointer whose referent was read.
use Rattle.std.proofs.Common.{◌≡◌, ℕ, Bool, true, false, List, [], ◌∷◌, ◌++◌, length, Some, None, refl, ap, sym, ◌∙◌, inl, inr, subst, arith, map}
use Rattle.std.specs.Prelude.{◌||◌, eqb}
use Rattle.std.proofs.lemmas.Bool.{eq-eqb}
use Rattle.std.proofs.lemmas.List.{append-nil}
use Rattle.std.proofs.lemmas.Option.{same_Some}
use Rattle.nd_base.specs.declared.octets.Order.{Order}
use Rattle.nd_types.specs.declared.types.Class.TheVariants.{Full}
use Rattle.nd_types.specs.Number.{AreOctets}
use Rattle.nd_value.specs.declared.item.Home.TheVariants as home
use Rattle.nd_value.specs.declared.item.Item.{Item}
use Rattle.nd_value.specs.Agreement.{Agreement}
use Rattle.nd_value.specs.Setting.{Setting, cell_home, cell_at}
use Rattle.nd_value.specs.Deferral.{Pending, Due, due_referent, due_roots, IsPlaced, Placed_cells}
use Rattle.nd_value.specs.Tree.{Tree}
use Rattle.nd_grammar.specs.declared.reason.Reason.{Reason}
use Rattle.nd_grammar.specs.Entry.{EntryAt, tests}
use Rattle.nd_grammar.specs.LegalSide.{IsLegalSide}
use Rattle.nd_grammar.specs.Reader.{Progress, pass_all}
use Rattle.nd_grammar.specs.StreamReader.{Reading, graph_of, stands_among, stood, read_referent, read_pending, read_first, read_next}
use Rattle.ndr_decoder_laws.specs.reader.Around.{going, stopped}
use Rattle.ndr_decoder_laws.specs.worklist.Reached.{Reached}
use Rattle.ndr_decoder_laws.proofs.worklist.Turns.{turns}
use Rattle.ndr_decoder_laws.specs.stream.Parameters.{head_read}
use Rattle.ndr_decoder_laws.specs.stream.Between.{Between, Keeps, Agrees, IsKeptOf, kept_at, taken}
use Rattle.ndr_decoder_laws.specs.stream.Report.{IsRefusedAfter}
use Rattle.ndr_decoder_laws.specs.stream.Tests.{disagreement, AllAgree, all_at}
use Rattle.ndr_decoder_laws.specs.declared.kept.Kept.{Kept}
use Rattle.ndr_decoder_laws.proofs.stream.Heads.{next_refused}
use Rattle.ndr_decoder_laws.proofs.stream.Due.{pending_state}
use Rattle.nd_grammar.proofs.reader.ReaderTurns.{stands_true as among_placed}
use Rattle.ndr_decoder_laws.proofs.stream.Taken.{kept_taken}
use Rattle.ndr_decoder_laws.proofs.stream.Tested.{tests_pass, tests_stop, keeps_tests}

pub is_among : (done : Placed_cells) (c : ℕ) → IsPlaced done c → stands_among done c ≡ true
is_among [] c p = absurd p
is_among (d ∷ ds) c (inl e) = ap (λ b. b || stands_among ds c) (eq-eqb c d.1 e)
is_among (d ∷ ds) c (inr q) = go (eqb c d.1) (is_among ds c q)
  where
    go : (b : Bool) → stands_among ds c ≡ true → (b || stands_among ds c) ≡ true
    go true e = refl
    go false e = e

module _ (w : Setting) (side : IsLegalSide w) (order : Order) (fetched : List ℕ) (noted : List Item) (direct : ℕ) (b : Between) (s : Reading) (seen : List EntryAt) (p : Pending) (ps : List Pending)
    (n : ℕ)
    (ag : Agrees w side order fetched noted direct b s seen (p ∷ ps) n) where
  abbrev later_due : List Due
  later_due = map due_referent ps ++ due_roots (length s.roots) n

  abbrev pub passed_by : Progress → Reading
  passed_by q = record { roots = s.roots; done = s.done; due = map due_referent ps ++ due_roots (length s.roots) n; progress = q; names = s.names }

  due_is : s.due ≡ due_referent p ∷ later_due
  due_is = ag.due

  same_end : (xs : List ℕ) → (fetched ++ []) ++ xs ≡ fetched ++ xs
  same_end xs = ap (λ u. u ++ xs) (append-nil fetched)

  reached_by : (s' : Reading) → ((later : List ℕ) → read_next w order (fetched ++ later) s.due s ≡ s') → Reached w order fetched s'
  reached_by s' law =
      subst (λ u. Reached w order u s') (append-nil fetched)
      (turns w side order fetched [] ag.octets tt s s' (due_referent p) later_due ag.reached due_is
      (λ later a. subst (λ u. read_next w order u s.due s ≡ s') (sym (same_end later)) (law later)))

  -- the state after a turn at which nothing was read
  turned : (seen' : List EntryAt) → ((later : List ℕ) → read_first w order (fetched ++ later) (due_referent p) later_due s ≡ passed_by (going b.at seen'))
      → Keeps w order fetched noted direct (taken b) s seen' ps → Agrees w side order fetched noted direct (taken b) (passed_by (going b.at seen')) seen' ps n
  turned seen' law keeps = record {
    octets = ag.octets;
    reached = reached_by (passed_by (going b.at seen')) (λ later. ap (λ u. read_next w order (fetched ++ later) u s) due_is ∙ law later);
    progress = refl;
    due = refl;
    state = λ later all. pending_state w side order (fetched ++ later) all s (passed_by (going b.at seen')) p ps ps n (ag.state later) (law later) refl;
    needed = ag.needed;
    direct_are = ag.direct_are;
    keeps = record { at = keeps.at; pending = keeps.pending; told = keeps.told; roots = keeps.roots; read = keeps.read; not_read = keeps.not_read; graph = keeps.graph };
  }

  -- a null pointer makes nothing due
  pub null_ends : p.cell ≡ None → Agrees w side order fetched noted direct (taken b) (passed_by (going b.at seen)) seen ps n
  null_ends e =
      turned seen
      (λ later. ap (λ o. read_pending w order (fetched ++ later) o p later_due s) e ∙ ap passed_by ag.progress)
      (kept_taken w order fetched noted direct b s seen p ps ag.keeps)

  pub passes_null : p.cell ≡ None → (then : Reading) × Agrees w side order fetched noted direct (taken b) then seen ps n
  passes_null e = (passed_by (going b.at seen), null_ends e)

  module _ (c : ℕ) (is_cell : p.cell ≡ Some c) (full : p.class ≡ Full) (k : Kept) (known : kept_at b.read c ≡ Some k) where
    abbrev its_tree : Tree
    its_tree = cell_at (graph_of s.roots s.names) c

    -- the cell was read, and this is what is kept of it
    placed : IsPlaced s.done c
    placed = go (stands_among s.done c) refl
      where
        go : (t : Bool) → stands_among s.done c ≡ t → IsPlaced s.done c
        go true e = among_placed s.done c e
        go false e = (let f : None ≡ Some k = sym (ag.keeps.not_read c (λ q. (let g : true ≡ false = sym (is_among s.done c q) ∙ e in cc))) ∙ known in cc)

    kept_it : IsKeptOf seen (cell_home c) its_tree k
    kept_it =
        let (y, e, z) = ag.keeps.read c placed in
        let same : Some y ≡ Some k = sym e ∙ known in
        subst (IsKeptOf seen (cell_home c) its_tree) (same_Some y k same) z

    its_stood : stood p.class s.done c ≡ true
    its_stood = ap (λ u. stood u s.done c) full ∙ is_among s.done c placed

    first_is : (octets : List ℕ) → read_first w order octets (due_referent p) later_due s ≡ passed_by (pass_all order octets (tests (cell_home c) 0 its_tree p.agreements) (going b.at seen))
    first_is octets =
        ap (λ o. read_pending w order octets o p later_due s) is_cell
        ∙ ap (λ t. read_referent w order octets t p c later_due s) its_stood
        ∙ ap (λ q. passed_by (pass_all order octets (tests (cell_home c) 0 its_tree p.agreements) q)) ag.progress

    -- its agreements hold
    pub stood_ends : AllAgree k p.agreements
        → Agrees w side order fetched noted direct (taken b) (passed_by (going b.at (seen ++ all_at b.at (tests (cell_home c) 0 its_tree p.agreements))))
        (seen ++ all_at b.at (tests (cell_home c) 0 its_tree p.agreements)) ps n
    stood_ends agree =
        turned (seen ++ all_at b.at (tests (cell_home c) 0 its_tree p.agreements))
        (λ later. first_is (fetched ++ later) ∙ ap passed_by (tests_pass order fetched w.table (cell_home c) b.at ag.keeps.at its_tree k p.agreements seen kept_it agree later))
        (keeps_tests order fetched w.table (cell_home c) b.at ag.keeps.at its_tree k w noted direct (taken b) s seen ps p.agreements (kept_taken w order fetched noted direct b s seen p ps ag.keeps))

    -- one of them does not
    pub stood_refused : (ws : List Agreement) (a : Agreement) (others : List Agreement) (why : ℕ × Reason) → p.agreements ≡ ws ++ a ∷ others → AllAgree k ws
        → disagreement a k.first k.max_at ≡ Some why → (later : List ℕ) → AreOctets later
        → head_read w order (fetched ++ later) ≡ stopped b.at (seen ++ all_at b.at (tests (cell_home c) 0 its_tree ws)) why
    stood_refused ws a others why split agree e later al =
        next_refused w side order fetched ag.octets s (due_referent p) later_due ag.reached due_is later al b.at (seen ++ all_at b.at (tests (cell_home c) 0 its_tree ws)) why
        (ap (λ u. (read_next w order (fetched ++ later) u s).progress) due_is
        ∙ ap (λ (u : Reading). u.progress) (first_is (fetched ++ later))
        ∙ ap (λ u. pass_all order (fetched ++ later) (tests (cell_home c) 0 its_tree u) (going b.at seen)) split
        ∙ tests_stop order fetched w.table (cell_home c) b.at ag.keeps.at its_tree k ws a others why seen kept_it agree e later)

    pub passes_read : AllAgree k p.agreements → (then : Reading) × (so : List EntryAt) × Agrees w side order fetched noted direct (taken b) then so ps n
    passes_read agree =
        let so : List EntryAt = seen ++ all_at b.at (tests (cell_home c) 0 its_tree p.agreements) in
        (passed_by (going b.at so), so, stood_ends agree)

    pub disagrees : (ws : List Agreement) (a : Agreement) (others : List Agreement) (why : ℕ × Reason) → p.agreements ≡ ws ++ a ∷ others → AllAgree k ws
        → disagreement a k.first k.max_at ≡ Some why → IsRefusedAfter w order fetched noted (length b.cells) direct b.at why
    disagrees ws a others why split agree e =
        let so : List EntryAt = seen ++ all_at b.at (tests (cell_home c) 0 its_tree ws) in
        let keeps : Keeps w order fetched noted direct b s so (p ∷ ps) = keeps_tests order fetched w.table (cell_home c) b.at ag.keeps.at its_tree k w noted direct b s seen (p ∷ ps) ws ag.keeps in
        record {
          seen = so;
          stops = stood_refused ws a others why split agree e;
          items_are = (keeps.told (home.Root (length s.roots)) (omega arith)).noted_are;
          cells_named = (keeps.told (home.Root (length s.roots)) (omega arith)).cells_named.named;
          needed = ag.needed;
        }
