-- The end of a root that is read in its place.
use Rattle.std.proofs.Common.{◌≡◌, ◌<◌, ℕ, ◌+◌, zero, suc, false, List, [], ◌∷◌, ◌++◌, length, Some, refl, ap, sym, ◌∙◌, subst, append_assoc, arith, map}
use Rattle.std.specs.Prelude.{filter, take}
use Rattle.std.specs.List.{slice_get}
use Rattle.std.proofs.lemmas.List.{append-nil}
use Rattle.nd_base.specs.declared.octets.Order.{Order}
use Rattle.nd_types.specs.Number.{AreOctets}
use Rattle.nd_types.specs.Roots.{Root}
use Rattle.nd_types.specs.Table.{type_at}
use Rattle.nd_value.specs.declared.item.Home.{Home}
use Rattle.nd_value.specs.declared.item.Home.TheVariants as home
use Rattle.nd_value.specs.declared.item.Item.{Item}
use Rattle.nd_value.specs.declared.value.Graph.{Graph}
use Rattle.nd_value.specs.Setting.{Setting, root_list, cell_home, cell_at}
use Rattle.nd_value.specs.Deferral.{Pending, Due, due_root, due_referent, due_roots, home_pointers, root_type, before_pipes}
use Rattle.nd_value.proofs.Apart.{all_append, all_left}
use Rattle.nd_grammar.specs.declared.reason.Reason.TheVariants as reason
use Rattle.nd_grammar.specs.Entry.{EntryAt}
use Rattle.nd_grammar.specs.LegalSide.{IsLegalSide}
use Rattle.nd_grammar.specs.Reader.{Progress, Read, read_whole, is_stopped}
use Rattle.nd_grammar.specs.StreamReader.{Reading, graph_of, read_root, read_first, read_next}
use Rattle.nd_grammar.proofs.legal.LegalUsable.{root_usable}
use Rattle.nd_grammar.proofs.reader.ReaderStates.{WholeRead, read_wholly}
use Rattle.nd_grammar.specs.ReaderState.{State as IsReading}
use Rattle.nd_grammar.proofs.reader.ReaderTurns.{one_longer}
use Rattle.ndr_decoder_laws.specs.reader.Around.{going}
use Rattle.ndr_decoder_laws.specs.steps.Good.{Whole, owed}
use Rattle.ndr_decoder_laws.specs.steps.Steps.{State}
use Rattle.nd_grammar.specs.decoded.Verdict.{is_direct}
use Rattle.ndr_decoder_laws.proofs.worklist.Turns.{turns}
use Rattle.ndr_decoder_laws.specs.stream.Parameters.{head_read}
use Rattle.ndr_decoder_laws.specs.stream.Between.{AreNeeded, Between, Agrees, IsUnread, IsKeptOf, IsKeptRoot, RootAdded, named_by, root_read}
use Rattle.ndr_decoder_laws.specs.declared.kept.KeptRoot.{KeptRoot}
use Rattle.ndr_decoder_laws.proofs.stream.Heads.{next_refused, stream_stays}
use Rattle.ndr_decoder_laws.proofs.stream.Due.{same_octets, in_its_place, root_state}
use Rattle.ndr_decoder_laws.proofs.stream.Graphs.{values_stay, graph_is, value_at}
use Rattle.ndr_decoder_laws.proofs.stream.Homes.{told_then, roots_then, cell_then, own_then}
use Rattle.ndr_decoder_laws.proofs.stream.KeptRoots.{cell_named}
use Rattle.ndr_decoder_laws.proofs.stream.Needing.{NeededAfter, needed_more}
use Rattle.ndr_decoder_laws.proofs.stream.Others.{root_more}
use Rattle.ndr_decoder_laws.proofs.stream.StreamGrows.{next_then_head}
use Rattle.ndr_decoder_laws.specs.stream.Added.{Goes}
use Rattle.ndr_decoder_laws.proofs.stream.References.{one_if, count_more}
use Rattle.ndr_decoder_laws.proofs.stream.DirectEnds.{zero_plus}
use Rattle.ndr_decoder_laws.specs.stream.Calls.{RefusesWith, GoesWith}
use Rattle.ndr_decoder_laws.specs.stream.Report.{the_head}

module _ (w : Setting) (side : IsLegalSide w) (order : Order) (fetched : List ℕ) (noted : List Item) (direct : ℕ) (b : Between) (s : Reading) (seen : List EntryAt) (n : ℕ)
    (ag : Agrees w side order fetched noted direct b s seen [] (suc n)) (r : Root) (there : slice_get (root_list w) (length s.roots) ≡ Some r) (plain : is_direct (type_at w.table r.of) ≡ false) where
  abbrev i : ℕ
  i = length s.roots

  abbrev h : Home
  h = home.Root i

  abbrev pub target : List ℕ → Read
  target octets = read_whole order octets w.table (home.Root (length s.roots)) r.of (going b.at seen) s.names

  abbrev later_due : List Due
  later_due = due_roots (suc i) n

  -- the root is the next of what is due
  due_is : s.due ≡ due_root i ∷ later_due
  due_is = ag.due

  abbrev with_read : Read → Reading
  with_read u = record {
    roots = s.roots ++ u.tree ∷ [];
    done = s.done;
    due = map due_referent (home_pointers w.table h r.of u.tree) ++ later_due;
    progress = u.progress;
    names = u.names;
  }

  first_is : (octets : List ℕ) → read_first w order octets (due_root i) later_due s ≡ with_read (target octets)
  first_is octets =
      ap (λ o. read_root w order octets (type_at w.table (root_type o)) (is_stopped s.progress.stop) i (root_type o) later_due s) there
      ∙ in_its_place w side order octets (type_at w.table r.of) (is_stopped s.progress.stop) plain i r.of later_due s
      ∙ ap (λ p. with_read (read_whole order octets w.table h r.of p s.names)) ag.progress

  next_is : (octets : List ℕ) → read_next w order octets s.due s ≡ with_read (target octets)
  next_is octets = ap (λ u. read_next w order octets u s) due_is ∙ first_is octets

  -- where the root is refused, so is the head
  pub root_refused : RefusesWith the_head w order fetched target
  root_refused more a at seen' why e =
      next_refused w side order fetched ag.octets s (due_root i) later_due ag.reached due_is more a at seen' why (ap (λ (u : Reading). u.progress) (next_is (fetched ++ more)) ∙ e)

  -- what is passed of the root is passed of the head
  pub root_goes : GoesWith the_head w order fetched target
  root_goes added a =
      subst (λ (u : Reading). Goes u.progress (head_read w order (fetched ++ added))) (next_is (fetched ++ added))
      (next_then_head w side order fetched ag.octets s (due_root i) later_due due_is ag.reached added a)

  module _ (more : List ℕ) (all_more : AreOctets more) (noted' : List Item) (x : State) (is : Whole order (fetched ++ more) w.table (home.Root (length s.roots)) r.of noted' direct target x)
      (needs : AreNeeded target fetched more) where
    abbrev pub new : List Pending
    new = home_pointers w.table (home.Root (length s.roots)) r.of is.v

    abbrev its : Read
    its = record { tree = is.v; progress = going x.at is.seen; names = is.names }

    abbrev pub after : Reading
    after = record {
      roots = s.roots ++ is.v ∷ [];
      done = s.done;
      due = map due_referent (home_pointers w.table (home.Root (length s.roots)) r.of is.v) ++ due_roots (suc (length s.roots)) n;
      progress = going x.at is.seen;
      names = is.names;
    }

    octets : AreOctets (fetched ++ more)
    octets = all_append (λ b. b < 256) fetched more ag.octets all_more

    all_there : AreOctets ((fetched ++ more) ++ [])
    all_there = all_append (λ b. b < 256) (fetched ++ more) [] octets tt

    first_then : (later : List ℕ) → read_first w order ((fetched ++ more) ++ later) (due_root i) later_due s ≡ after
    first_then later = first_is ((fetched ++ more) ++ later) ∙ ap with_read (sym (is.is later))

    next_then : (later : List ℕ) → AreOctets later → read_next w order ((fetched ++ more) ++ later) s.due s ≡ after
    next_then later a = ap (λ u. read_next w order ((fetched ++ more) ++ later) u s) due_is ∙ first_then later

    longer : length (s.roots ++ is.v ∷ []) ≡ suc i
    longer = one_longer s.roots is.v

    due_then : after.due ≡ map due_referent new ++ due_roots (length after.roots) n
    due_then = ap (λ k. map due_referent new ++ due_roots k n) (sym longer)

    state_then : (later : List ℕ) (all : AreOctets ((fetched ++ more) ++ later)) → (taken : List Pending) × IsReading w side order ((fetched ++ more) ++ later) all after taken new n
    state_then later all =
        root_state w side order ((fetched ++ more) ++ later) all s after n new
        (same_octets w side order (fetched ++ (more ++ later)) ((fetched ++ more) ++ later) (sym (append_assoc fetched more later)) s [] (suc n) (ag.state (more ++ later)))
        r there (first_then later) due_then

    few : i < before_pipes (root_list w)
    few =
        let (taken, st) = ag.state [] (all_append (λ b. b < 256) fetched [] ag.octets tt) in
        let e : length s.roots + suc n ≡ before_pipes (root_list w) = st.roots_left in
        omega (arith, e)

    wholly : WholeRead w side order ((fetched ++ more) ++ []) all_there h r.of (going b.at seen) s.names its
    wholly =
        subst (WholeRead w side order ((fetched ++ more) ++ []) all_there h r.of (going b.at seen) s.names) (sym (is.is []))
        (read_wholly w side order ((fetched ++ more) ++ []) all_there h r.of (root_usable w side i r there few) (going b.at seen) s.names)

    unread_root : IsUnread s h
    unread_root = omega arith

    unread_before : (k : Home) → IsUnread after k → IsUnread s k × (k ≡ h → ⊥)
    unread_before (home.Root j) u = (omega (arith, u, longer), λ e. (let f : j ≡ i = cc in absurd (omega (arith, f, u, longer))))
    unread_before (home.Cell c) u = (u, λ e. cc)

    cell_stays : (c : ℕ) → cell_at (graph_of after.roots is.names) c ≡ cell_at (graph_of s.roots s.names) c
    cell_stays zero = refl
    cell_stays (suc j) = values_stay s.names is.names wholly.extends j

    graph_then : (g : Graph) → RootAdded is.v x.cells b.graph g → g ≡ graph_of after.roots is.names
    graph_then g a =
        graph_is g (s.roots ++ is.v ∷ []) is.names (a.roots ∙ ap (λ (u : Graph). u.roots ++ is.v ∷ []) ag.keeps.graph) (a.types_are ∙ is.told.cells_are)
        (λ j. a.values (suc j) ∙ ap (λ (u : Graph). value_at u.cells j) ag.keeps.graph ∙ sym (values_stay s.names is.names wholly.extends j))

    direct_then : direct ≡ length (filter (λ z. is_direct (type_at w.table z.of)) (take (length (s.roots ++ is.v ∷ [])) (root_list w)))
    direct_then =
        let e : length (filter (λ z. is_direct (type_at w.table z.of)) (take (suc i) (root_list w)))
        ≡ length (filter (λ z. is_direct (type_at w.table z.of)) (take i (root_list w))) + one_if (is_direct (type_at w.table r.of)) =
        count_more (λ z. is_direct (type_at w.table z.of)) (root_list w) i r there in
        let f : one_if (is_direct (type_at w.table r.of)) ≡ 0 = ap (λ t. one_if t) plain in
        let g : direct ≡ length (filter (λ z. is_direct (type_at w.table z.of)) (take i (root_list w))) = ag.direct_are in
        let h : direct ≡ length (filter (λ z. is_direct (type_at w.table z.of)) (take (suc i) (root_list w))) = omega (arith, e, f, g) in
        h ∙ ap (λ n. length (filter (λ z. is_direct (type_at w.table z.of)) (take n (root_list w)))) (sym longer)

    needed_then : NeededAfter w order fetched more
    needed_then part last e =
        let (at, seen', stop) = needs part last e in
        let a : AreOctets part = all_left (λ b. b < 256) part (last ∷ []) (subst AreOctets e all_more) in
        ap (λ (u : Progress). u.stop)
        (stream_stays w order (fetched ++ part) at seen' (length (fetched ++ part), reason.Truncated) (root_refused part a at seen' (length (fetched ++ part), reason.Truncated) stop))

    pub root_ends : (g : Graph) → RootAdded is.v x.cells b.graph g → (k : KeptRoot) → IsKeptRoot x k
        → Agrees w side order (fetched ++ more) noted' direct (root_read b x k g) after is.seen new n
    root_ends g a k kept =
        let own : IsKeptOf is.seen h is.v k.own = own_then w order fetched more noted noted' direct direct b s seen [] ag.keeps h unread_root r.of s.names x is k.own kept.own.first kept.own.max_at in
        record {
          octets = octets;
          reached = turns w side order fetched more ag.octets all_more s after (due_root i) later_due ag.reached due_is next_then;
          progress = refl;
          due = due_then;
          state = state_then;
          needed = needed_more w order fetched more ag.needed needed_then;
          direct_are = direct_then;
          keeps = record {
            at = is.reached;
            pending = ap (λ u. u ++ b.pending) is.pending ∙ ap (λ u. map (owed w.table) new ++ u) ag.keeps.pending ∙ append-nil (map (owed w.table) new);
            told = λ k u. (let (v, f) = unread_before k u in told_then w order fetched more noted noted' direct direct b s seen [] ag.keeps h unread_root r.of s.names x is k v f);
            roots = root_more is.seen 0 s.roots b.roots is.v k
                (roots_then w order fetched more noted noted' direct direct b s seen [] ag.keeps h unread_root r.of s.names x is)
                (subst (λ j. IsKeptOf is.seen (home.Root j) is.v k.own) (zero_plus i) own)
                (kept.cell ∙ ap (named_by k.own.first) is.pending ∙ cell_named w.table h r.of is.seen k.own.max_at is.v k.own.first wholly.made own);
            read = λ c p. (
                let (y, e, z) = ag.keeps.read c p in (
                  y,
                  e,
                  subst (λ u. IsKeptOf is.seen (cell_home c) u y) (sym (cell_stays c))
                      (cell_then w order fetched more noted noted' direct direct b s seen [] ag.keeps h unread_root r.of s.names x is c p (cell_at (graph_of s.roots s.names) c) y z),
                ));
            not_read = ag.keeps.not_read;
            graph = graph_then g a;
          };
        }
