-- The agreements of a parameter: what the reader finds of them is what is found in what is kept.
use Rattle.std.proofs.Common.{◌≡◌, ◌≤◌, ◌<◌, ℕ, ◌+◌, zero, suc, Bool, true, false, List, [], ◌∷◌, ◌++◌, length, Option, Some, None, refl, ap, sym, ◌∙◌, inl, inr, ◌⊎◌, subst, append_assoc, arith}
use Rattle.std.specs.Prelude.{cond, if◌then◌else◌, option_map, replicate}
use Rattle.std.specs.List.{slice_get}
use Rattle.std.specs.Ordering.{int_eq}
use Rattle.std.proofs.lemmas.List.{append-nil}
use Rattle.std.proofs.lemmas.Option.{same_Some}
use Rattle.nd_base.specs.declared.octets.Order.{Order}
use Rattle.nd_types.specs.declared.types.Attr.{Attr}
use Rattle.nd_types.specs.declared.types.Attr.TheVariants as attr
use Rattle.nd_value.specs.declared.item.Home.{Home}
use Rattle.nd_value.specs.declared.item.Home.TheVariants as home
use Rattle.nd_value.specs.declared.item.Item.{Item}
use Rattle.nd_value.specs.declared.value.Graph.{Graph}
use Rattle.nd_value.specs.Agreement.{Agreement, number_of, found_in, starred}
use Rattle.nd_value.specs.Seen.{cell_number}
use Rattle.nd_value.specs.Setting.{Setting, unread, or_unread, root_at, cell_home, cell_at, cell_tree}
use Rattle.nd_value.specs.Tree as tree
use Rattle.nd_value.specs.Tree.{Tree, Referent, node, count}
use Rattle.nd_value.specs.Deferral.{IsPlaced}
use Rattle.nd_value.proofs.Apart.{all_append}
use Rattle.nd_grammar.specs.declared.reason.Reason.{Reason}
use Rattle.nd_grammar.specs.declared.reason.Reason.TheVariants as reason
use Rattle.nd_grammar.specs.Entry.{Entry, EntryAt, Test, tests}
use Rattle.nd_grammar.specs.LegalSide.{IsLegalSide}
use Rattle.nd_grammar.specs.Refusal.{refusal, tested_at}
use Rattle.nd_grammar.specs.Reader.{pass_all}
use Rattle.nd_grammar.specs.Stream.{root_test}
use Rattle.nd_grammar.specs.StreamReader.{Reading, graph_of, stands_among}
use Rattle.nd_grammar.proofs.reader.ReaderNames.{get_left}
use Rattle.ndr_decoder_laws.specs.reader.Around.{going}
use Rattle.ndr_decoder_laws.specs.reader.ChildNodes.{top, flat_number}
use Rattle.ndr_decoder_laws.proofs.reader.ChildPlaces.{same_number}
use Rattle.ndr_decoder_laws.proofs.reader.FromPoint.{test_passed}
use Rattle.ndr_decoder_laws.specs.declared.first.First.TheVariants as first
use Rattle.ndr_decoder_laws.specs.steps.Good.{place_at}
use Rattle.ndr_decoder_laws.specs.steps.Steps.{first_number, first_of, is_owing, place_of}
use Rattle.ndr_decoder_laws.proofs.steps.MemberChecks.{first_number_is, owing_is}
use Rattle.ndr_decoder_laws.proofs.steps.Passing.{judged, silent}
use Rattle.ndr_decoder_laws.specs.stream.Between.{Between, Agrees, Keeps, IsUnread, IsKeptOf, AreKept, kept_at, pointer_cell}
use Rattle.ndr_decoder_laws.specs.stream.Parameters.{TestsPass, TestsStop, kept_number, kept_named, root_number, root_subject}
use Rattle.ndr_decoder_laws.specs.stream.Tests.{disagreement, AllAgree, all_at}
use Rattle.ndr_decoder_laws.specs.declared.kept.Kept.{Kept}
use Rattle.ndr_decoder_laws.specs.declared.kept.KeptRoot.{KeptRoot}
use Rattle.ndr_decoder_laws.proofs.stream.Others.{tested_later}
use Rattle.ndr_decoder_laws.proofs.stream.OtherTurns.{is_among}
use Rattle.nd_grammar.proofs.reader.ReaderTurns.{stands_true as among_placed}
use Rattle.ndr_decoder_laws.proofs.stream.Tested.{top_is, tests_pass, tests_stop, keeps_tests}

-- ## What is kept of a home

kept_is_number : (seen : List EntryAt) (h : Home) (v : Tree) (k : Kept) → IsKeptOf seen h v k → first_number (Some k.first) ≡ number_of v
kept_is_number seen h v k x =
    ap (λ u. first_number (Some u)) x.kept ∙ first_number_is x.is x.place ∙ ap flat_number (top_is v x.is x.there) ∙ same_number v

kept_is_pointer : (seen : List EntryAt) (h : Home) (v : Tree) (k : Kept) → IsKeptOf seen h v k → is_owing k.first ≡ is_owing (first_of (top v) None)
kept_is_pointer seen h v k x = ap is_owing x.kept ∙ ap (λ u. is_owing (first_of u x.place)) (top_is v x.is x.there) ∙ by_label v x.place
  where
    by_label : (v : Tree) (p : Option ℕ) → is_owing (first_of (top v) p) ≡ is_owing (first_of (top v) None)
    by_label (node l ks) p = owing_is l (count ks) p ∙ sym (owing_is l (count ks) None)

-- what a root's number is, by what it names
starred_is : (g : Graph) (v : Tree) (c : Option ℕ) → pointer_cell v ≡ c → starred g true v ≡ elim c [ None ↦ None | Some d ↦ number_of (cell_at g d) ]
starred_is g (node (tree.Ptr (Some d)) ks) c e = subst (λ u. number_of (cell_at g d) ≡ elim u [ None ↦ None | Some d ↦ number_of (cell_at g d) ]) e refl
starred_is g (node (tree.Ptr None) ks) c e = subst (λ u. None ≡ elim u [ None ↦ None | Some d ↦ number_of (cell_at g d) ]) e refl
starred_is g (node (tree.Num z) ks) c e = subst (λ u. None ≡ elim u [ None ↦ None | Some d ↦ number_of (cell_at g d) ]) e refl
starred_is g (node tree.Rec ks) c e = subst (λ u. None ≡ elim u [ None ↦ None | Some d ↦ number_of (cell_at g d) ]) e refl
starred_is g (node (tree.Arr max offset) ks) c e = subst (λ u. None ≡ elim u [ None ↦ None | Some d ↦ number_of (cell_at g d) ]) e refl
starred_is g (node (tree.Text max octets) ks) c e = subst (λ u. None ≡ elim u [ None ↦ None | Some d ↦ number_of (cell_at g d) ]) e refl
starred_is g (node (tree.Union tag) ks) c e = subst (λ u. None ≡ elim u [ None ↦ None | Some d ↦ number_of (cell_at g d) ]) e refl
starred_is g (node (tree.Context a id) ks) c e = subst (λ u. None ≡ elim u [ None ↦ None | Some d ↦ number_of (cell_at g d) ]) e refl
starred_is g (node tree.Pipe ks) c e = subst (λ u. None ≡ elim u [ None ↦ None | Some d ↦ number_of (cell_at g d) ]) e refl
starred_is g (node tree.Unread ks) c e = subst (λ u. None ≡ elim u [ None ↦ None | Some d ↦ number_of (cell_at g d) ]) e refl

starred_plain : (g : Graph) (v : Tree) → starred g false v ≡ number_of v
starred_plain g v = refl

-- the tests of a root: of a null pointer none, of a pointer those of its cell, of any other its own
abbrev tests_named : Graph → Option ℕ → List Agreement → List Entry
tests_named g None ws = []
tests_named g (Some c) ws = tests (cell_home c) 0 (cell_at g c) ws

root_test_is : (g : Graph) (i : ℕ) (v : Tree) (ws : List Agreement)
    → root_test g i v ws ≡ (if is_owing (first_of (top v) None) then tests_named g (pointer_cell v) ws else tests (home.Root i) 0 v ws)
root_test_is g i (node (tree.Ptr (Some c)) ks) ws = refl
root_test_is g i (node (tree.Ptr None) ks) ws = refl
root_test_is g i (node (tree.Num z) ks) ws = refl
root_test_is g i (node tree.Rec ks) ws = refl
root_test_is g i (node (tree.Arr max offset) ks) ws = refl
root_test_is g i (node (tree.Text max octets) ks) ws = refl
root_test_is g i (node (tree.Union tag) ks) ws = refl
root_test_is g i (node (tree.Context a id) ks) ws = refl
root_test_is g i (node tree.Pipe ks) ws = refl
root_test_is g i (node tree.Unread ks) ws = refl

-- what is kept of a root by its number, if it was read
pub record RootAt (seen : List EntryAt) (i : ℕ) (v : Tree) (k : KeptRoot) : Type 0 where
  pub own : IsKeptOf seen (home.Root i) v k.own
  pub cell : cell_number k.cell ≡ pointer_cell v

abbrev Found : List EntryAt → ℕ → List Tree → List KeptRoot → ℕ → Type 0
Found seen i vs ks j =
    ((slice_get vs j ≡ None) × (slice_get ks j ≡ None)) ⊎ ((v : Tree) × (k : KeptRoot) × (slice_get vs j ≡ Some v) × (slice_get ks j ≡ Some k) × RootAt seen (i + j) v k)

no_more : (i : ℕ) → i ≡ i + 0
no_more i = omega arith

one_later : (i j : ℕ) → suc i + j ≡ i + suc j
one_later i j = omega arith

root_found : (seen : List EntryAt) (i : ℕ) (vs : List Tree) (ks : List KeptRoot) (j : ℕ) → AreKept seen i vs ks → Found seen i vs ks j
root_found seen i [] [] j a = inl (refl, refl)
root_found seen i [] (k ∷ ks) j a = absurd a
root_found seen i (v ∷ vs) [] j a = absurd a
root_found seen i (v ∷ vs) (k ∷ ks) zero (x, c, rest) = inr (v, k, refl, refl, subst (λ u. RootAt seen u v k) (no_more i) (record { own = x; cell = c }))
root_found seen i (v ∷ vs) (k ∷ ks) (suc j) (x, c, rest) = go (root_found seen (suc i) vs ks j rest)
  where
    go : Found seen (suc i) vs ks j → Found seen i (v ∷ vs) (k ∷ ks) (suc j)
    go (inl e) = inl e
    go (inr (u, y, e, f, r)) = inr (u, y, e, f, subst (λ z. RootAt seen z u y) (one_later i j) r)

none_there : (n j : ℕ) → or_unread (slice_get (replicate n unread) j) ≡ unread
none_there zero j = refl
none_there (suc n) zero = refl
none_there (suc n) (suc j) = none_there n j

past_roots : (vs : List Tree) (n j : ℕ) → slice_get vs j ≡ None → or_unread (slice_get (vs ++ replicate n unread) j) ≡ unread
past_roots [] n j e = none_there n j
past_roots (v ∷ vs) n zero e = cc
past_roots (v ∷ vs) n (suc j) e = past_roots vs n j e

get_past : (vs : List Tree) (j : ℕ) → slice_get vs j ≡ None → length vs ≤ j
get_past [] j e = omega arith
get_past (v ∷ vs) zero e = cc
get_past (v ∷ vs) (suc j) e = let l = get_past vs j e in omega (arith, l)

module _ (w : Setting) (side : IsLegalSide w) (order : Order) (fetched : List ℕ) (noted : List Item) (direct : ℕ) (b : Between) (s : Reading) (seen0 : List EntryAt) (n unread_roots : ℕ)
    (ag : Agrees w side order fetched noted direct b s seen0 [] n) (seen : List EntryAt) (kp : Keeps w order fetched noted direct b s seen []) where
  abbrev pub g : Graph
  g = graph_of (s.roots ++ replicate unread_roots unread) s.names

  same_cell : (c : ℕ) → cell_at (graph_of s.roots s.names) c ≡ cell_at g c
  same_cell zero = refl
  same_cell (suc i) = refl

  placed_or_not : (c : ℕ) → IsPlaced s.done c ⊎ (IsPlaced s.done c → ⊥)
  placed_or_not c = go (stands_among s.done c) refl
    where
      go : (t : Bool) → stands_among s.done c ≡ t → IsPlaced s.done c ⊎ (IsPlaced s.done c → ⊥)
      go true e = inl (among_placed s.done c e)
      go false e = inr (λ q. (let f : true ≡ false = sym (is_among s.done c q) ∙ e in cc))

  -- what is not read has no value
  blank_cell : (c : ℕ) → (IsPlaced s.done c → ⊥) → cell_at g c ≡ unread
  blank_cell zero f = refl
  blank_cell (suc i) f = go (slice_get s.names.cells i) refl
    where
      go : (o : Option Referent) → slice_get s.names.cells i ≡ o → cell_tree (slice_get s.names.cells i) ≡ unread
      go None e = ap cell_tree e
      go (Some x) e =
          let (passed, st) = ag.state [] (all_append (λ b. b < 256) fetched [] ag.octets tt) in
          ap cell_tree e ∙ st.blank (suc i) x e f

  -- a home of which nothing was read, or whose first node is kept
  pub data Known (h : Home) (v : Tree) : Option Kept → Type 0 where
    not_known : ((a : Attr) → tested_at seen a h 0 ≡ None) → v ≡ unread → Known h v None
    is_known : (k : Kept) → IsKeptOf seen h v k → Known h v (Some k)

  unread_known : (h : Home) → IsUnread s h → (a : Attr) → tested_at seen a h 0 ≡ None
  unread_known h u a = (kp.told h u).ahead a 0 ∙ none_of a
    where
      none_of : (a : Attr) → place_of a None (place_at [] 0) ≡ None
      none_of attr.Size = refl
      none_of attr.Max = refl
      none_of attr.First = refl
      none_of attr.Length = refl
      none_of attr.Last = refl
      none_of attr.Switch = refl

  cell_known : (c : ℕ) → Known (cell_home c) (cell_at g c) (kept_at b.read c)
  cell_known c = go (placed_or_not c)
    where
      go : IsPlaced s.done c ⊎ (IsPlaced s.done c → ⊥) → Known (cell_home c) (cell_at g c) (kept_at b.read c)
      go (inl p) =
          let (k, e, x) = kp.read c p in
          subst (Known (cell_home c) (cell_at g c)) (sym e) (is_known k (subst (λ u. IsKeptOf seen (cell_home c) u k) (same_cell c) x))
      go (inr f) = subst (Known (cell_home c) (cell_at g c)) (sym (kp.not_read c f)) (not_known (unread_known (cell_home c) f) (blank_cell c f))

  -- the number of a home
  number_known : (h : Home) (v : Tree) (o : Option Kept) → Known h v o → kept_number o ≡ number_of v
  number_known h v None (not_known f e) = ap number_of (sym e)
  number_known h v (Some _) (is_known k x) = kept_is_number seen h v k x

  named_number : (c : Option ℕ) → kept_number (kept_named b.read c) ≡ elim c [ None ↦ None | Some d ↦ number_of (cell_at g d) ]
  named_number None = refl
  named_number (Some c) = number_known (cell_home c) (cell_at g c) (kept_at b.read c) (cell_known c)

  found : (i : ℕ) → Found seen 0 s.roots b.roots i
  found i = root_found seen 0 s.roots b.roots i kp.roots

  -- the number of a variable is the one that is kept
  pub variable_is : (v : ℕ) (star : Bool) → root_number b.read star (slice_get b.roots v) ≡ starred g star (root_at g v)
  variable_is v star = go (found v)
    where
      unread_number : (star : Bool) → None ≡ starred g star unread
      unread_number true = refl
      unread_number false = refl

      by_star : (star : Bool) (u : Tree) (k : KeptRoot) → RootAt seen (0 + v) u k → root_number b.read star (Some k) ≡ starred g star u
      by_star false u k r = kept_is_number seen (home.Root (0 + v)) u k.own r.own ∙ sym (starred_plain g u)
      by_star true u k r = named_number (cell_number k.cell) ∙ sym (starred_is g u (cell_number k.cell) (sym r.cell))

      go : Found seen 0 s.roots b.roots v → root_number b.read star (slice_get b.roots v) ≡ starred g star (root_at g v)
      go (inl (e, f)) = ap (root_number b.read star) f ∙ unread_number star ∙ ap (starred g star) (sym (past_roots s.roots unread_roots v e))
      go (inr (u, k, e, f, r)) =
          ap (root_number b.read star) f ∙ by_star star u k r ∙ ap (λ o. starred g star (or_unread o)) (sym (get_left s.roots (replicate unread_roots unread) v u e))

  -- ## The tests of a root

  abbrev Passes : List Entry → Type 0
  Passes ms = TestsPass w order fetched noted direct b s seen ms

  abbrev Stops : List Entry → ℕ × Reason → Type 0
  Stops ms why = TestsStop w order fetched noted direct b s seen ms why

  nothing_passes : Passes []
  nothing_passes = record { after = seen; goes = λ later. refl; keeps = kp }

  -- of a home of which nothing was read no agreement is refused
  silent_pass : (h : Home) (v : Tree) → ((a : Attr) → tested_at seen a h 0 ≡ None) → (ws : List Agreement) (so : List EntryAt) → ((a : Attr) → tested_at so a h 0 ≡ None) → (later : List ℕ)
      → pass_all order (fetched ++ later) (tests h 0 v ws) (going b.at so) ≡ going b.at (so ++ all_at b.at (tests h 0 v ws))
  silent_pass h v f [] so e later = ap (going b.at) (sym (append-nil so))
  silent_pass h v f (a ∷ ws) so e later =
      let t : EntryAt = record { at = b.at; entry = record { home = h; node = 0; kind = Test a.attr a.wanted (found_in a.attr v) } } in
      let none_found : refusal order (fetched ++ later) so t ≡ None =
      ap (λ os. refusal order (os ++ later) so t) (sym (append-nil fetched))
      ∙ judged order fetched [] later b.at kp.at t.entry so refl refl
      ∙ ap (λ o. cond (int_eq a.wanted (found_in a.attr v)) None (option_map (λ n. (n, reason.Disagrees a.wanted (found_in a.attr v))) o)) (e a.attr)
      ∙ none_by (int_eq a.wanted (found_in a.attr v)) None refl in
      ap (pass_all order (fetched ++ later) (tests h 0 v ws)) (test_passed order (fetched ++ later) w.table h h 0 b.at a.attr a.wanted (found_in a.attr v) so none_found)
      ∙ silent_pass h v f ws (so ++ t ∷ []) (λ q. tested_later h so (t ∷ []) ((λ r m. silent r h m t tt), tt) q 0 ∙ e q) later
      ∙ ap (going b.at) (append_assoc so (t ∷ []) (all_at b.at (tests h 0 v ws)))
    where
      none_by : (t : Bool) (o : Option (ℕ × Reason)) → o ≡ None → cond t None o ≡ None
      none_by true o q = refl
      none_by false o q = q

  -- what is kept serves for no test where nothing is known
  any_kept : Kept
  any_kept = record { first = first.Other; max_at = None }

  home_passes : (h : Home) (v : Tree) (o : Option Kept) → Known h v o → (ws : List Agreement) → ((k : Kept) → o ≡ Some k → AllAgree k ws) → Passes (tests h 0 v ws)
  home_passes h v None (not_known f e) ws agree = record {
    after = seen ++ all_at b.at (tests h 0 v ws);
    goes = λ later. silent_pass h v f ws seen f later;
    keeps = keeps_tests order fetched w.table h b.at kp.at v any_kept w noted direct b s seen [] ws kp;
  }
  home_passes h v (Some _) (is_known k x) ws agree = record {
    after = seen ++ all_at b.at (tests h 0 v ws);
    goes = λ later. tests_pass order fetched w.table h b.at kp.at v k ws seen x (agree k refl) later;
    keeps = keeps_tests order fetched w.table h b.at kp.at v k w noted direct b s seen [] ws kp;
  }

  home_stops : (h : Home) (v : Tree) (o : Option Kept) → Known h v o → (a : Agreement) (k : Kept) → o ≡ Some k → (why : ℕ × Reason) → disagreement a k.first k.max_at ≡ Some why
      → Stops (tests h 0 v (a ∷ [])) why
  home_stops h v None (not_known f e) a k is why d = cc
  home_stops h v (Some _) (is_known y x) a k is why d =
      let same : y ≡ k = same_Some y k is in
      let z : IsKeptOf seen h v k = subst (IsKeptOf seen h v) same x in
      record {
        after = seen ++ [];
        stops = λ later. tests_stop order fetched w.table h b.at kp.at v k [] a [] why seen z tt d later;
        keeps = subst (λ u. Keeps w order fetched noted direct b s u []) (sym (append-nil seen)) kp;
      }

  -- what is tried of a root
  abbrev pub tried_of : ℕ → List Agreement → List Entry
  tried_of i ws = root_test g i (root_at g i) ws

  -- the home that the agreements of a root are about, with its value; none of a null pointer
  pub record Subject (i : ℕ) (ws : List Agreement) (o : Option Kept) : Type 0 where
    pub h : Home
    pub v : Tree
    pub known : Known h v o
    pub is : tried_of i ws ≡ tests h 0 v ws

  root_is_at : (i : ℕ) (u : Tree) → slice_get s.roots i ≡ Some u → root_at g i ≡ u
  root_is_at i u e = ap or_unread (get_left s.roots (replicate unread_roots unread) i u e)

  zero_plus : (i : ℕ) → 0 + i ≡ i
  zero_plus i = omega arith

  subject : (i : ℕ) (ws : List Agreement) → ((tried_of i ws ≡ []) × (root_subject b.read (slice_get b.roots i) ≡ None)) ⊎ Subject i ws (root_subject b.read (slice_get b.roots i))
  subject i ws = go (found i)
    where
      by_cell : (u : Tree) (k : KeptRoot) (c : Option ℕ) → tried_of i ws ≡ tests_named g c ws
          → ((tried_of i ws ≡ []) × (kept_named b.read c ≡ None)) ⊎ Subject i ws (kept_named b.read c)
      by_cell u k None e = inl (e, refl)
      by_cell u k (Some c) e = inr (record { h = cell_home c; v = cell_at g c; known = cell_known c; is = e })

      by_kind : (u : Tree) (k : KeptRoot) → RootAt seen (0 + i) u k → root_at g i ≡ u → (t : Bool) → is_owing k.own.first ≡ t
          → ((tried_of i ws ≡ []) × ((if t then kept_named b.read (cell_number k.cell) else Some k.own) ≡ None)) ⊎ Subject i ws (if t then kept_named b.read (cell_number k.cell) else Some k.own)
      by_kind u k r e true p =
          let q : is_owing (first_of (top u) None) ≡ true = sym (kept_is_pointer seen (home.Root (0 + i)) u k.own r.own) ∙ p in
          by_cell u k (cell_number k.cell)
          (ap (λ z. root_test g i z ws) e ∙ root_test_is g i u ws ∙ ap (λ z. if z then tests_named g (pointer_cell u) ws else tests (home.Root i) 0 u ws) q ∙ ap (λ z. tests_named g z ws) (sym r.cell))
      by_kind u k r e false p =
          let q : is_owing (first_of (top u) None) ≡ false = sym (kept_is_pointer seen (home.Root (0 + i)) u k.own r.own) ∙ p in
          inr
          (record {
            h = home.Root i;
            v = u;
            known = is_known k.own (subst (λ z. IsKeptOf seen (home.Root z) u k.own) (zero_plus i) r.own);
            is = ap (λ z. root_test g i z ws) e ∙ root_test_is g i u ws ∙ ap (λ z. if z then tests_named g (pointer_cell u) ws else tests (home.Root i) 0 u ws) q;
          })

      go : Found seen 0 s.roots b.roots i → ((tried_of i ws ≡ []) × (root_subject b.read (slice_get b.roots i) ≡ None)) ⊎ Subject i ws (root_subject b.read (slice_get b.roots i))
      go (inl (e, f)) =
          let u : root_at g i ≡ unread = past_roots s.roots unread_roots i e in
          subst (λ o. ((tried_of i ws ≡ []) × (root_subject b.read o ≡ None)) ⊎ Subject i ws (root_subject b.read o)) (sym f)
          (inr
          (record {
            h = home.Root i;
            v = root_at g i;
            known = not_known (unread_known (home.Root i) (get_past s.roots i e)) u;
            is = ap (λ z. root_test g i z ws) u ∙ ap (λ z. tests (home.Root i) 0 z ws) (sym u);
          }))
      go (inr (u, k, e, f, r)) =
          subst (λ o. ((tried_of i ws ≡ []) × (root_subject b.read o ≡ None)) ⊎ Subject i ws (root_subject b.read o)) (sym f)
          (by_kind u k r (root_is_at i u e) (is_owing k.own.first) refl)

  -- the agreement of a root holds, or there is nothing that it is about
  pub root_passes : (i : ℕ) (ws : List Agreement) → ((k : Kept) → root_subject b.read (slice_get b.roots i) ≡ Some k → AllAgree k ws)
      → TestsPass w order fetched noted direct b s seen (root_test g i (root_at g i) ws)
  root_passes i ws agree = go (subject i ws)
    where
      go : ((tried_of i ws ≡ []) × (root_subject b.read (slice_get b.roots i) ≡ None)) ⊎ Subject i ws (root_subject b.read (slice_get b.roots i)) → Passes (tried_of i ws)
      go (inl (e, f)) = subst Passes (sym e) nothing_passes
      go (inr x) = subst Passes (sym x.is) (home_passes x.h x.v (root_subject b.read (slice_get b.roots i)) x.known ws agree)

  -- it does not
  pub root_stops : (i : ℕ) (a : Agreement) (k : Kept) → root_subject b.read (slice_get b.roots i) ≡ Some k → (why : ℕ × Reason) → disagreement a k.first k.max_at ≡ Some why
      → TestsStop w order fetched noted direct b s seen (root_test g i (root_at g i) (a ∷ [])) why
  root_stops i a k is why d = go (subject i (a ∷ []))
    where
      go : ((tried_of i (a ∷ []) ≡ []) × (root_subject b.read (slice_get b.roots i) ≡ None)) ⊎ Subject i (a ∷ []) (root_subject b.read (slice_get b.roots i)) → Stops (tried_of i (a ∷ [])) why
      go (inl (e, f)) = (let z : None ≡ Some k = sym f ∙ is in cc)
      go (inr x) = subst (λ u. Stops u why) (sym x.is) (home_stops x.h x.v (root_subject b.read (slice_get b.roots i)) x.known a k is why d)
