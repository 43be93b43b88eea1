-- The end of the referent of a pointer, and its agreements.
use Rattle.std.proofs.Common.{◌≡◌, ◌≤◌, ◌<◌, ℕ, Bool, true, false, List, [], ◌∷◌, ◌++◌, length, Option, Some, None, refl, ap, sym, ◌∙◌, subst, append_assoc, arith, map}
use Rattle.nd_base.specs.declared.octets.Order.{Order}
use Rattle.nd_types.specs.declared.types.Class.{Class}
use Rattle.nd_types.specs.declared.types.Class.TheVariants.{Ref, Unique, Full}
use Rattle.nd_types.specs.Number.{AreOctets}
use Rattle.nd_value.specs.declared.item.Item.{Item}
use Rattle.nd_value.specs.declared.value.Graph.{Graph}
use Rattle.nd_value.specs.Agreement.{Agreement}
use Rattle.nd_value.specs.Conforms.{ShareOnlyIfFull}
use Rattle.nd_value.specs.Setting.{Setting, cell_home}
use Rattle.nd_value.specs.Deferral.{Pending, Due, due_referent, due_roots, IsPlaced, Placed_cells, home_pointers}
use Rattle.nd_value.proofs.Apart.{all_append, all_left, earlier_meets}
use Rattle.nd_grammar.specs.declared.reason.Reason.{Reason}
use Rattle.nd_grammar.specs.declared.reason.Reason.TheVariants as reason
use Rattle.nd_grammar.specs.Entry.{Entry, EntryAt, tests}
use Rattle.nd_grammar.specs.LegalSide.{IsLegalSide}
use Rattle.nd_grammar.specs.Reader.{Progress, Read, pass_all, read_whole}
use Rattle.nd_grammar.specs.StreamReader.{Reading, stands_among, stood, with_value, read_referent, read_pending, read_first, read_next}
use Rattle.nd_grammar.specs.ReaderState.{Usable, no_names, PointerAt}
use Rattle.nd_grammar.proofs.reader.ReaderNames.{longer}
use Rattle.nd_grammar.proofs.reader.ReaderStates.{WholeRead, read_wholly, at_cell}
use Rattle.nd_grammar.proofs.reader.ReaderTurns.{joined_due, stands_true as among_placed}
use Rattle.ndr_decoder_laws.specs.reader.Around.{going, stopped}
use Rattle.ndr_decoder_laws.proofs.reader.Continuing.{all_stay}
use Rattle.ndr_decoder_laws.specs.steps.Good.{Told, Whole}
use Rattle.ndr_decoder_laws.specs.steps.Steps.{State}
use Rattle.ndr_decoder_laws.proofs.worklist.Turns.{turns}
use Rattle.ndr_decoder_laws.specs.stream.Parameters.{head_read}
use Rattle.ndr_decoder_laws.specs.stream.Between.{AreNeeded, Between, Keeps, Agrees, IsKeptOf, IsKeptHome, CellKept, CellFilled, cell_read, kept_at, taken}
use Rattle.ndr_decoder_laws.specs.stream.Report.{IsRefusedAfter, the_head}
use Rattle.ndr_decoder_laws.specs.stream.Tests.{disagreement, AllAgree, all_at}
use Rattle.ndr_decoder_laws.specs.declared.kept.Kept.{Kept}
use Rattle.ndr_decoder_laws.proofs.stream.Heads.{next_refused, stream_stays}
use Rattle.ndr_decoder_laws.proofs.stream.CellEnds.{keeps_cell}
use Rattle.ndr_decoder_laws.proofs.stream.Due.{same_octets, pending_state}
use Rattle.ndr_decoder_laws.proofs.stream.Homes.{own_then, roots_then}
use Rattle.ndr_decoder_laws.proofs.stream.Needing.{NeededAfter, needed_more}
use Rattle.ndr_decoder_laws.proofs.stream.StreamGrows.{all_go, goes_twice, next_then_head}
use Rattle.ndr_decoder_laws.specs.stream.Added.{Goes}
use Rattle.ndr_decoder_laws.proofs.stream.Taken.{kept_taken}
use Rattle.ndr_decoder_laws.proofs.stream.Tested.{tests_pass, tests_stop, told_tests, keeps_tests}
use Rattle.ndr_decoder_laws.specs.stream.Calls.{RefusesWith, GoesWith}
use Rattle.nd_grammar.proofs.reader.ReaderCells.{cell_positive as positive}

pub not_stood : (k : Class) (done : Placed_cells) (c : ℕ) → ¬ IsPlaced done c → stood k done c ≡ false
not_stood Ref done c n = refl
not_stood Unique done c n = refl
not_stood Full done c n = go (stands_among done c) refl
  where
    go : (b : Bool) → stands_among done c ≡ b → stands_among done c ≡ false
    go true e = absurd (n (among_placed done c e))
    go false e = e

module _ (w : Setting) (side : IsLegalSide w) (order : Order) (fetched : List ℕ) (noted : List Item) (direct : ℕ) (b : Between) (s : Reading) (seen : List EntryAt) (p : Pending) (ps : List Pending)
    (n : ℕ)
    (ag : Agrees w side order fetched noted direct b s seen (p ∷ ps) n) (c : ℕ) (is_cell : p.cell ≡ Some c) where
  abbrev later_due : List Due
  later_due = map due_referent ps ++ due_roots (length s.roots) n

  all_now : AreOctets (fetched ++ [])
  all_now = all_append (λ b. b < 256) fetched [] ag.octets tt

  due_is : s.due ≡ due_referent p ∷ later_due
  due_is = ag.due

  kept_now : Keeps w order fetched noted direct (taken b) s seen ps
  kept_now = kept_taken w order fetched noted direct b s seen p ps ag.keeps

  -- a pointer to a cell that was read is full
  placed_full : IsPlaced s.done c → p.class ≡ Full
  placed_full h =
      let (passed, st) = ag.state [] all_now in
      let (q, m, e, f) = st.named c h in
      let both = earlier_meets ShareOnlyIfFull passed p ps q m st.apart.apart c e is_cell in
      both.1

  module _ (new : p.class ≡ Full → kept_at b.read c ≡ None) where
    pub free : ¬ IsPlaced s.done c
    free h =
        let (k, e, z) = ag.keeps.read c h in
        let f : None ≡ Some k = sym (new (placed_full h)) ∙ e in
        cc

    abbrev pub target : List ℕ → Read
    target octets = read_whole order octets w.table (cell_home c) p.to (going b.at seen) s.names

    abbrev with_read : List ℕ → Read → Reading
    with_read octets u = record {
      roots = s.roots;
      done = (p.class, c) ∷ s.done;
      due = map due_referent (home_pointers w.table (cell_home c) p.to u.tree) ++ later_due;
      progress = pass_all order octets (tests (cell_home c) 0 u.tree p.agreements) u.progress;
      names = with_value c u.tree u.names;
    }

    first_is : (octets : List ℕ) → read_first w order octets (due_referent p) later_due s ≡ with_read octets (target octets)
    first_is octets =
        ap (λ o. read_pending w order octets o p later_due s) is_cell
        ∙ ap (λ t. read_referent w order octets t p c later_due s) (not_stood p.class s.done c free)
        ∙ ap (λ q. with_read octets (read_whole order octets w.table (cell_home c) p.to q s.names)) ag.progress

    next_is : (octets : List ℕ) → read_next w order octets s.due s ≡ with_read octets (target octets)
    next_is octets = ap (λ u. read_next w order octets u s) due_is ∙ first_is octets

    -- where the referent is refused, so is the head
    pub referent_refused : RefusesWith the_head w order fetched target
    referent_refused more a at seen' why e =
        let octets : List ℕ = fetched ++ more in
        let ms : List Entry = tests (cell_home c) 0 (target octets).tree p.agreements in
        next_refused w side order fetched ag.octets s (due_referent p) later_due ag.reached due_is more a at seen' why
        (ap (λ (u : Reading). u.progress) (next_is octets) ∙ ap (pass_all order octets ms) e ∙ all_stay order octets ms at seen' why)

    -- what is passed of the referent is passed of the head
    pub referent_goes : GoesWith the_head w order fetched target
    referent_goes added a =
        let octets : List ℕ = fetched ++ added in
        let ms : List Entry = tests (cell_home c) 0 (target octets).tree p.agreements in
        goes_twice (target octets).progress (pass_all order octets ms (target octets).progress) (head_read w order octets)
        (all_go order octets ms (target octets).progress)
        (subst (λ (u : Reading). Goes u.progress (head_read w order octets)) (next_is octets)
        (next_then_head w side order fetched ag.octets s (due_referent p) later_due due_is ag.reached added a))

    module _ (more : List ℕ) (all_more : AreOctets more) (noted' : List Item) (x : State) (is : Whole order (fetched ++ more) w.table (cell_home c) p.to noted' direct target x)
        (needs : AreNeeded target fetched more) where
      abbrev pub made : List Pending
      made = home_pointers w.table (cell_home c) p.to is.v

      abbrev pub all_tests : List Entry
      all_tests = tests (cell_home c) 0 is.v p.agreements

      abbrev its : Read
      its = record { tree = is.v; progress = going x.at is.seen; names = is.names }

      abbrev pub after : Progress → Reading
      after q = record {
        roots = s.roots;
        done = (p.class, c) ∷ s.done;
        due = map due_referent (home_pointers w.table (cell_home c) p.to is.v) ++ (map due_referent ps ++ due_roots (length s.roots) n);
        progress = q;
        names = with_value c is.v is.names;
      }

      octets : AreOctets (fetched ++ more)
      octets = all_append (λ b. b < 256) fetched more ag.octets all_more

      all_there : AreOctets ((fetched ++ more) ++ [])
      all_there = all_append (λ b. b < 256) (fetched ++ more) [] octets tt

      its_usable : Usable w.table p.to
      its_usable = let (passed, st) = ag.state [] all_now in st.usable.0

      wholly : WholeRead w side order ((fetched ++ more) ++ []) all_there (cell_home c) p.to (going b.at seen) s.names its
      wholly =
          subst (WholeRead w side order ((fetched ++ more) ++ []) all_there (cell_home c) p.to (going b.at seen) s.names) (sym (is.is []))
          (read_wholly w side order ((fetched ++ more) ++ []) all_there (cell_home c) p.to its_usable (going b.at seen) s.names)

      at_it : PointerAt no_names s.names p c
      at_it = let (passed, st) = ag.state [] all_now in at_cell w side order (fetched ++ []) all_now s passed p ps n c later_due st is_cell free

      above : 0 < c
      above = positive s.names.cells c at_it.there.0 at_it.there.1

      there : c ≤ length is.names.cells
      there = let l : length s.names.cells ≤ length is.names.cells = longer s.names is.names wholly.extends in let m : c ≤ length s.names.cells = at_it.within in omega (arith, l, m)

      needed_then : NeededAfter w order fetched more
      needed_then part last e =
          let (at, seen', stop) = needs part last e in
          let a : AreOctets part = all_left (λ b. b < 256) part (last ∷ []) (subst AreOctets e all_more) in
          ap (λ (u : Progress). u.stop)
          (stream_stays w order (fetched ++ part) at seen' (length (fetched ++ part), reason.Truncated) (referent_refused part a at seen' (length (fetched ++ part), reason.Truncated) stop))

      -- after the value the agreements are tried
      next_then : (later : List ℕ) → read_next w order ((fetched ++ more) ++ later) s.due s ≡ after (pass_all order ((fetched ++ more) ++ later) all_tests (going x.at is.seen))
      next_then later = next_is ((fetched ++ more) ++ later) ∙ ap (with_read ((fetched ++ more) ++ later)) (sym (is.is later))

      first_then : (later : List ℕ) → read_first w order ((fetched ++ more) ++ later) (due_referent p) later_due s ≡ after (pass_all order ((fetched ++ more) ++ later) all_tests (going x.at is.seen))
      first_then later = first_is ((fetched ++ more) ++ later) ∙ ap (with_read ((fetched ++ more) ++ later)) (sym (is.is later))

      due_then : (q : Progress) → (after q).due ≡ map due_referent (made ++ ps) ++ due_roots (length s.roots) n
      due_then q = joined_due made ps (due_roots (length s.roots) n)

      module _ (k : Kept) (own : IsKeptHome x k) where
        kept_it : IsKeptOf is.seen (cell_home c) is.v k
        kept_it = own_then w order fetched more noted noted' direct direct (taken b) s seen ps kept_now (cell_home c) free p.to s.names x is k own.first own.max_at

        -- one of the agreements is refused
        pub agreement_refused : (ws : List Agreement) (a : Agreement) (others : List Agreement) (why : ℕ × Reason) → p.agreements ≡ ws ++ a ∷ others → AllAgree k ws
            → disagreement a k.first k.max_at ≡ Some why → (later : List ℕ) → AreOctets later
            → head_read w order ((fetched ++ more) ++ later) ≡ stopped x.at (is.seen ++ all_at x.at (tests (cell_home c) 0 is.v ws)) why
        agreement_refused ws a others why split agree e later al =
            let O : List ℕ = fetched ++ (more ++ later) in
            let same : (fetched ++ more) ++ later ≡ O = append_assoc fetched more later in
            let so : List EntryAt = is.seen ++ all_at x.at (tests (cell_home c) 0 is.v ws) in
            let stop : (read_next w order ((fetched ++ more) ++ later) s.due s).progress ≡ stopped x.at so why =
            ap (λ (u : Reading). u.progress) (next_then later)
            ∙ ap (λ u. pass_all order ((fetched ++ more) ++ later) (tests (cell_home c) 0 is.v u) (going x.at is.seen)) split
            ∙ tests_stop order (fetched ++ more) w.table (cell_home c) x.at is.reached is.v k ws a others why is.seen kept_it agree e later in
            subst (λ u. head_read w order u ≡ stopped x.at so why) (sym same)
            (next_refused w side order fetched ag.octets s (due_referent p) later_due ag.reached due_is (more ++ later) (all_append (λ b. b < 256) more later all_more al) x.at so why
            (subst (λ u. (read_next w order u s.due s).progress ≡ stopped x.at so why) same stop))

        pub disagrees : (ws : List Agreement) (a : Agreement) (others : List Agreement) (why : ℕ × Reason) → p.agreements ≡ ws ++ a ∷ others → AllAgree k ws
            → disagreement a k.first k.max_at ≡ Some why → IsRefusedAfter w order (fetched ++ more) noted' (length x.cells) direct x.at why
        disagrees ws a others why split agree e =
            let told_then : Told noted' direct order (fetched ++ more) (cell_home c) (is.seen ++ all_at x.at (tests (cell_home c) 0 is.v ws)) is.names x.cells x.numbers x.max_at (length x.nodes) [] =
            told_tests order (fetched ++ more) w.table (cell_home c) x.at is.reached is.v k ws (cell_home c) is.seen is.names x.cells x.numbers x.max_at (length x.nodes) [] is.told in record {
              seen = is.seen ++ all_at x.at (tests (cell_home c) 0 is.v ws);
              stops = agreement_refused ws a others why split agree e;
              items_are = told_then.noted_are;
              cells_named = told_then.cells_named.named;
              needed = needed_more w order fetched more ag.needed needed_then;
            }

        module _ (agree : AllAgree k p.agreements) where
          abbrev pub seen_then : List EntryAt
          seen_then = is.seen ++ all_at x.at (tests (cell_home c) 0 is.v p.agreements)

          passes : (later : List ℕ) → pass_all order ((fetched ++ more) ++ later) all_tests (going x.at is.seen) ≡ going x.at seen_then
          passes later = tests_pass order (fetched ++ more) w.table (cell_home c) x.at is.reached is.v k p.agreements is.seen kept_it agree later

          pub referent_ends : (read : List (Option Kept)) → CellKept c k b.read read → (g : Graph) → CellFilled s.roots c is.v x.cells b.graph g
              → Agrees w side order (fetched ++ more) noted' direct (cell_read (taken b) x b.roots read g) (after (going x.at seen_then)) seen_then (made ++ ps) n
          referent_ends read is_read g filled = record {
            octets = octets;
            reached =
                turns w side order fetched more ag.octets all_more s (after (going x.at seen_then)) (due_referent p) later_due ag.reached due_is (λ later a. next_then later ∙ ap after (passes later));
            progress = refl;
            due = due_then (going x.at seen_then);
            state = λ later all.
                pending_state w side order ((fetched ++ more) ++ later) all s (after (going x.at seen_then)) p ps (made ++ ps) n
                (same_octets w side order (fetched ++ (more ++ later)) ((fetched ++ more) ++ later) (sym (append_assoc fetched more later)) s (p ∷ ps) n (ag.state (more ++ later)))
                (first_then later ∙ ap after (passes later)) (due_then (going x.at seen_then));
            needed = needed_more w order fetched more ag.needed needed_then;
            direct_are = ag.direct_are;
            keeps = keeps_tests order (fetched ++ more) w.table (cell_home c) x.at is.reached is.v k w noted' direct (cell_read (taken b) x b.roots read g) (after (going x.at seen_then)) is.seen
                (made ++ ps) p.agreements
                (keeps_cell w order fetched more noted noted' direct direct (taken b) s seen ps kept_now c free p.to s.names x is wholly.extends above there s.roots b.roots (omega arith)
                (roots_then w order fetched more noted noted' direct direct (taken b) s seen ps kept_now (cell_home c) free p.to s.names x is)
                p.class (after (going x.at seen_then)).due (going x.at seen_then) k own read is_read g filled);
          }

          -- the same, as the law says it
          pub ends : (read : List (Option Kept)) → CellKept c k b.read read → (g : Graph) → CellFilled s.roots c is.v x.cells b.graph g
              → (then : Reading) × (so : List EntryAt) × (qs : List Pending) × Agrees w side order (fetched ++ more) noted' direct (cell_read (taken b) x b.roots read g) then so qs n
          ends read is_read g filled = (after (going x.at seen_then), seen_then, made ++ ps, referent_ends read is_read g filled)
