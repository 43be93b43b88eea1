-- The end of a root that is a reference pointer: its referent is in its place, in a cell without a number.
use Rattle.std.proofs.Common.{◌≡◌, ◌≤◌, ◌<◌, ℕ, ◌+◌, suc, List, [], ◌∷◌, ◌++◌, length, Option, Some, None, refl, ap, sym, ◌∙◌, subst, append_assoc, length-append, arith, map}
use Rattle.std.specs.Prelude.{filter, take}
use Rattle.std.specs.List.{slice_get}
use Rattle.std.proofs.lemmas.List.{append-nil}
use Rattle.nd_base.specs.declared.octets.Order.{Order}
use Rattle.nd_types.specs.declared.types.Class.TheVariants.{Ref}
use Rattle.nd_types.specs.declared.types.TypeDef.TheVariants as def
use Rattle.nd_types.specs.declared.types.TypeId.{TypeId}
use Rattle.nd_types.specs.Number.{AreOctets}
use Rattle.nd_types.specs.Roots.{Root}
use Rattle.nd_types.specs.Table.{type_at}
use Rattle.nd_value.specs.declared.item.Home.TheVariants as home
use Rattle.nd_value.specs.declared.item.Item.{Item}
use Rattle.nd_value.specs.declared.value.Graph.{Graph}
use Rattle.nd_value.specs.Seen.{cell_number}
use Rattle.nd_value.specs.Setting.{Setting, root_list, cell_home, unread}
use Rattle.nd_value.specs.Deferral.{Pending, Due, due_root, due_referent, due_roots, IsPlaced, home_pointers, root_type, before_pipes}
use Rattle.nd_value.specs.Tree as tree
use Rattle.nd_value.specs.Tree.{Tree, node, none}
use Rattle.nd_value.proofs.Apart.{all_append, all_left}
use Rattle.nd_grammar.specs.declared.reason.Reason.TheVariants as reason
use Rattle.nd_grammar.specs.Entry.{EntryAt}
use Rattle.nd_grammar.specs.LegalSide.{IsLegalSide}
use Rattle.nd_grammar.specs.Reader.{Names, Progress, Read, read_whole, is_stopped, with_cell}
use Rattle.nd_grammar.specs.StreamReader.{Reading, with_value, read_root, read_first, read_next}
use Rattle.nd_grammar.proofs.legal.LegalUsable.{root_usable, pointee_usable}
use Rattle.nd_grammar.specs.ReaderState.{Usable}
use Rattle.nd_grammar.proofs.reader.ReaderNames.{Extends, extends_twice, longer}
use Rattle.nd_grammar.proofs.reader.ReaderStates.{WholeRead, read_wholly}
use Rattle.nd_grammar.proofs.reader.ReaderTurns.{one_longer, placed_there}
use Rattle.ndr_decoder_laws.specs.reader.Around.{going}
use Rattle.ndr_decoder_laws.specs.declared.first.First.TheVariants as first
use Rattle.ndr_decoder_laws.specs.steps.Good.{Told, Whole}
use Rattle.ndr_decoder_laws.specs.steps.Steps.{State}
use Rattle.nd_grammar.specs.decoded.Verdict.{is_direct}
use Rattle.ndr_decoder_laws.proofs.worklist.Turns.{turns}
use Rattle.ndr_decoder_laws.specs.stream.Parameters.{head_read}
use Rattle.ndr_decoder_laws.specs.stream.Between.{AreNeeded, Between, Keeps, Agrees, IsKeptOf, IsKeptHome, CellKept, CellFilled, cell_read}
use Rattle.ndr_decoder_laws.specs.declared.kept.Kept.{Kept}
use Rattle.ndr_decoder_laws.specs.declared.kept.KeptRoot.{KeptRoot}
use Rattle.ndr_decoder_laws.proofs.stream.Heads.{next_refused, stream_stays}
use Rattle.ndr_decoder_laws.proofs.stream.CellEnds.{keeps_cell}
use Rattle.ndr_decoder_laws.proofs.stream.Due.{same_octets, root_state}
use Rattle.ndr_decoder_laws.proofs.stream.Homes.{told_then, roots_then}
use Rattle.ndr_decoder_laws.proofs.stream.Needing.{NeededAfter, needed_more}
use Rattle.ndr_decoder_laws.proofs.stream.Others.{root_more}
use Rattle.ndr_decoder_laws.proofs.stream.StreamGrows.{next_then_head}
use Rattle.ndr_decoder_laws.specs.stream.Added.{Goes}
use Rattle.ndr_decoder_laws.proofs.stream.References.{one_if, count_more}
use Rattle.ndr_decoder_laws.specs.stream.Calls.{RefusesWith, GoesWith}
use Rattle.ndr_decoder_laws.specs.stream.Report.{the_head}

one_cell : (to : ℕ) (s : Names) → Extends s (with_cell to s)
one_cell to s = record { new = record { of = to; val = unread } ∷ []; cells = refl; blank = (refl, tt); more_numbers = []; numbers = refl; of_new = tt }

pub zero_plus : (i : ℕ) → i ≡ 0 + i
zero_plus i = omega arith

module _ (w : Setting) (side : IsLegalSide w) (order : Order) (fetched : List ℕ) (noted : List Item) (direct : ℕ) (b : Between) (s : Reading) (seen : List EntryAt) (n : ℕ)
    (ag : Agrees w side order fetched noted direct b s seen [] (suc n)) (r : Root) (there : slice_get (root_list w) (length s.roots) ≡ Some r) (to : TypeId)
    (refers : type_at w.table r.of ≡ Some (def.Pointer Ref to)) where
  abbrev i : ℕ
  i = length s.roots

  abbrev pub c : ℕ
  c = length s.names.cells + 1

  abbrev pub names : Names
  names = with_cell to.0 s.names

  abbrev pub target : List ℕ → Read
  target octets = read_whole order octets w.table (cell_home (length s.names.cells + 1)) to.0 (going b.at seen) (with_cell to.0 s.names)

  abbrev later_due : List Due
  later_due = due_roots (suc i) n

  abbrev pub its_tree : Tree
  its_tree = node (tree.Ptr (Some (length s.names.cells + 1))) none

  due_is : s.due ≡ due_root i ∷ later_due
  due_is = ag.due

  all_now : AreOctets (fetched ++ [])
  all_now = all_append (λ b. b < 256) fetched [] ag.octets tt

  few : i < before_pipes (root_list w)
  few =
      let (taken, st) = ag.state [] all_now in
      let e : length s.roots + suc n ≡ before_pipes (root_list w) = st.roots_left in
      omega (arith, e)

  pub its_usable : Usable w.table to.0
  its_usable = pointee_usable w.table side.operations side.legal r.of Ref to refers (root_usable w side i r there few).no_pipe

  pub free : ¬ IsPlaced s.done c
  free h =
      let (taken, st) = ag.state [] all_now in
      let (y, e, l) = placed_there w side order (fetched ++ []) all_now s taken [] (suc n) st c h in
      absurd (omega (arith, l))

  abbrev with_read : Read → Reading
  with_read u = record {
    roots = s.roots ++ node (tree.Ptr (Some (length s.names.cells + 1))) none ∷ [];
    done = (Ref, length s.names.cells + 1) ∷ s.done;
    due = map due_referent (home_pointers w.table (cell_home (length s.names.cells + 1)) to.0 u.tree) ++ later_due;
    progress = u.progress;
    names = with_value (length s.names.cells + 1) u.tree u.names;
  }

  first_is : (octets : List ℕ) → read_first w order octets (due_root i) later_due s ≡ with_read (target octets)
  first_is octets =
      ap (λ o. read_root w order octets (type_at w.table (root_type o)) (is_stopped s.progress.stop) i (root_type o) later_due s) there
      ∙ ap (λ d. read_root w order octets d (is_stopped s.progress.stop) i r.of later_due s) refers
      ∙ ap (λ q. read_root w order octets (Some (def.Pointer Ref to)) (is_stopped q.stop) i r.of later_due s) ag.progress
      ∙ ap (λ q. with_read (read_whole order octets w.table (cell_home c) to.0 q (with_cell to.0 s.names))) ag.progress

  next_is : (octets : List ℕ) → read_next w order octets s.due s ≡ with_read (target octets)
  next_is octets = ap (λ u. read_next w order octets u s) due_is ∙ first_is octets

  -- where the referent is refused, so is the head
  pub direct_refused : RefusesWith the_head w order fetched target
  direct_refused more a at seen' why e =
      next_refused w side order fetched ag.octets s (due_root i) later_due ag.reached due_is more a at seen' why (ap (λ (u : Reading). u.progress) (next_is (fetched ++ more)) ∙ e)

  -- what is passed of the referent is passed of the head
  pub direct_goes : GoesWith the_head w order fetched target
  direct_goes added a =
      subst (λ (u : Reading). Goes u.progress (head_read w order (fetched ++ added))) (next_is (fetched ++ added))
      (next_then_head w side order fetched ag.octets s (due_root i) later_due due_is ag.reached added a)

  module _ (more : List ℕ) (all_more : AreOctets more) (noted' : List Item) (x : State)
      (is : Whole order (fetched ++ more) w.table (cell_home (length s.names.cells + 1)) to.0 noted' (direct + 1) target x)
      (needs : AreNeeded target fetched more) where
    abbrev pub made : List Pending
    made = home_pointers w.table (cell_home (length s.names.cells + 1)) to.0 is.v

    abbrev its : Read
    its = record { tree = is.v; progress = going x.at is.seen; names = is.names }

    abbrev pub after : Reading
    after = record {
      roots = s.roots ++ node (tree.Ptr (Some (length s.names.cells + 1))) none ∷ [];
      done = (Ref, length s.names.cells + 1) ∷ s.done;
      due = map due_referent (home_pointers w.table (cell_home (length s.names.cells + 1)) to.0 is.v) ++ due_roots (suc (length s.roots)) n;
      progress = going x.at is.seen;
      names = with_value (length s.names.cells + 1) is.v is.names;
    }

    octets : AreOctets (fetched ++ more)
    octets = all_append (λ b. b < 256) fetched more ag.octets all_more

    all_there : AreOctets ((fetched ++ more) ++ [])
    all_there = all_append (λ b. b < 256) (fetched ++ more) [] octets tt

    first_then : (later : List ℕ) → read_first w order ((fetched ++ more) ++ later) (due_root i) later_due s ≡ after
    first_then later = first_is ((fetched ++ more) ++ later) ∙ ap with_read (sym (is.is later))

    next_then : (later : List ℕ) → AreOctets later → read_next w order ((fetched ++ more) ++ later) s.due s ≡ after
    next_then later a = ap (λ u. read_next w order ((fetched ++ more) ++ later) u s) due_is ∙ first_then later

    more_roots : length (s.roots ++ its_tree ∷ []) ≡ suc i
    more_roots = one_longer s.roots its_tree

    due_then : after.due ≡ map due_referent made ++ due_roots (length after.roots) n
    due_then = ap (λ k. map due_referent made ++ due_roots k n) (sym more_roots)

    wholly : WholeRead w side order ((fetched ++ more) ++ []) all_there (cell_home c) to.0 (going b.at seen) names its
    wholly =
        subst (WholeRead w side order ((fetched ++ more) ++ []) all_there (cell_home c) to.0 (going b.at seen) names) (sym (is.is []))
        (read_wholly w side order ((fetched ++ more) ++ []) all_there (cell_home c) to.0 its_usable (going b.at seen) names)

    ext : Extends s.names is.names
    ext = extends_twice s.names names is.names (one_cell to.0 s.names) wholly.extends

    cell_there : c ≤ length is.names.cells
    cell_there =
        let l : length names.cells ≤ length is.names.cells = longer names is.names wholly.extends in
        let m : length names.cells ≡ length s.names.cells + 1 = length-append s.names.cells (record { of = to.0; val = unread } ∷ []) in
        omega (arith, l, m)

    direct_then : direct + 1 ≡ length (filter (λ z. is_direct (type_at w.table z.of)) (take (length (s.roots ++ its_tree ∷ [])) (root_list w)))
    direct_then =
        let e : length (filter (λ z. is_direct (type_at w.table z.of)) (take (suc i) (root_list w)))
        ≡ length (filter (λ z. is_direct (type_at w.table z.of)) (take i (root_list w))) + one_if (is_direct (type_at w.table r.of)) =
        count_more (λ z. is_direct (type_at w.table z.of)) (root_list w) i r there in
        let f : one_if (is_direct (type_at w.table r.of)) ≡ 1 = ap (λ d. one_if (is_direct d)) refers in
        let g : direct ≡ length (filter (λ z. is_direct (type_at w.table z.of)) (take i (root_list w))) = ag.direct_are in
        let h : direct + 1 ≡ length (filter (λ z. is_direct (type_at w.table z.of)) (take (suc i) (root_list w))) = omega (arith, e, f, g) in
        h ∙ ap (λ n. length (filter (λ z. is_direct (type_at w.table z.of)) (take n (root_list w)))) (sym more_roots)

    needed_then : NeededAfter w order fetched more
    needed_then part last e =
        let (at, seen', stop) = needs part last e in
        let a : AreOctets part = all_left (λ b. b < 256) part (last ∷ []) (subst AreOctets e all_more) in
        ap (λ (u : Progress). u.stop)
        (stream_stays w order (fetched ++ part) at seen' (length (fetched ++ part), reason.Truncated) (direct_refused part a at seen' (length (fetched ++ part), reason.Truncated) stop))

    -- the root itself is a pointer, of which nothing is in the stream
    own_root : (k : KeptRoot) → k.own ≡ record { first = first.Pointer; max_at = None } → IsKeptOf is.seen (home.Root i) its_tree k.own
    own_root k e =
        let t : Told noted' (direct + 1) order (fetched ++ more) (home.Root i) is.seen is.names x.cells x.numbers None 0 [] =
        told_then w order fetched more noted noted' direct (direct + 1) b s seen [] ag.keeps (cell_home c) free to.0 names x is (home.Root i) (omega arith) (λ z. cc) in
        subst (λ o. IsKeptOf is.seen (home.Root i) its_tree o) (sym e)
        (record { is = (tree.Ptr (Some c), 0); place = None; there = refl; kept = refl; found = λ a. t.ahead a 0 })

    pub direct_ends : (root : KeptRoot) → root.own ≡ record { first = first.Pointer; max_at = None } → cell_number root.cell ≡ Some (length s.names.cells + 1) → (k : Kept) → IsKeptHome x k
        → (read : List (Option Kept)) → CellKept (length s.names.cells + 1) k b.read read
        → (g : Graph) → CellFilled (s.roots ++ node (tree.Ptr (Some (length s.names.cells + 1))) none ∷ []) (length s.names.cells + 1) is.v x.cells b.graph g
        → Agrees w side order (fetched ++ more) noted' (direct + 1) (cell_read b x (b.roots ++ root ∷ []) read g) after is.seen made n
    direct_ends root own its_cell k kept read is_read g filled =
        let keeps : Keeps w order (fetched ++ more) noted' (direct + 1) (cell_read b x (b.roots ++ root ∷ []) read g) after is.seen (made ++ []) =
        keeps_cell w order fetched more noted noted' direct (direct + 1) b s seen [] ag.keeps c free to.0 names x is ext (omega arith) cell_there (s.roots ++ its_tree ∷ []) (b.roots ++ root ∷ [])
        (omega (arith, more_roots))
        (root_more is.seen 0 s.roots b.roots its_tree root (roots_then w order fetched more noted noted' direct (direct + 1) b s seen [] ag.keeps (cell_home c) free to.0 names x is)
        (subst (λ j. IsKeptOf is.seen (home.Root j) its_tree root.own) (zero_plus i) (own_root root own)) its_cell)
        Ref after.due (going x.at is.seen) k kept read is_read g filled in
        record {
          octets = octets;
          reached = turns w side order fetched more ag.octets all_more s after (due_root i) later_due ag.reached due_is next_then;
          progress = refl;
          due = due_then;
          state = λ later all.
              root_state w side order ((fetched ++ more) ++ later) all s after n made
              (same_octets w side order (fetched ++ (more ++ later)) ((fetched ++ more) ++ later) (sym (append_assoc fetched more later)) s [] (suc n) (ag.state (more ++ later)))
              r there (first_then later) due_then;
          needed = needed_more w order fetched more ag.needed needed_then;
          direct_are = direct_then;
          keeps = subst (Keeps w order (fetched ++ more) noted' (direct + 1) (cell_read b x (b.roots ++ root ∷ []) read g) after is.seen) (append-nil made) keeps;
        }
