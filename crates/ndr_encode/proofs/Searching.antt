-- One home more of a search.
-- `xs` is what is pending, the next first, `u` is the turn of a home.
use Rattle.std.proofs.Common.{◌≡◌, ℕ, ◌+◌, ◌*◌, ◌^◌, ◌<◌, ◌≤◌, zero, suc, Bool, true, false, List, [], ◌∷◌, ◌++◌, length, Option, Some, None, refl, ap, ap₂, sym, ◌∙◌, subst, arith, append_assoc}
use Rattle.std.proofs.Common.{append-nil}
use Rattle.std.specs.Prelude.{eqb, cond, get_or, set, take, drop, reverse}
use Rattle.std.specs.List.{AllByRecursion, slice_get}
use Rattle.std.proofs.lemmas.Option.{same_Some}
use Rattle.std.proofs.lemmas.List.{reverse-append, reverse-reverse, length-append}
use Rattle.std.proofs.lemmas.Grind.{flat_map-append}
use Rattle.std.proofs.lemmas.Bool.{eqb-true, eqb-false}
use Rattle.nd_value.specs.declared.value.Graph.{Graph}
use Rattle.nd_value.specs.declared.value.CellId.{CellId}
use Rattle.nd_value.specs.declared.item.Home.{Home}
use Rattle.nd_value.specs.declared.item.Home.TheVariants as home
use Rattle.nd_value.specs.Canon.{has}
use Rattle.nd_value.specs.Seen.{cell_number}
use Rattle.nd_value.specs.Setting.{Among, root_at, or_unread, cell_at, cell_home}
use Rattle.nd_value.specs.Tree as tree
use Rattle.nd_value.specs.Tree.{Tree, Trees, node}
use Rattle.nd_value.proofs.Apart.{all_append, all_left, all_right}
use Rattle.ndr_code.specs.declared.instr.Instr.{Instr}
use Rattle.ndr_code.specs.declared.instr.Instr.TheVariants as op
use Rattle.ndr_encoder_laws.specs.pieces.Pieces.{Piece, pieces_end, pieces_names}
use Rattle.ndr_encoder_laws.proofs.pieces.Showing.{end_joined}
use Rattle.ndr_encoder_output.specs.declared.count.Named.{Named}
use Rattle.ndr_encoder_output.specs.Counting.{names_of, count_whole, CountCan}
use Rattle.ndr_encoder_output.specs.Filling.{FitsPiece}
use Rattle.ndr_encoder_laws.specs.turns.Turned.{Item, root_due, direct_due, cell_due, Turned, root_turn, direct_turn, cell_turn, cell_stands, cells_due, cells_of, names_of as run_names}
use Rattle.ndr_encoder_laws.specs.chosen.Written.{value_at}
use Rattle.ndr_encoder_value.specs.declared.turn.Turn.{Turn}
use Rattle.ndr_encoder_value.specs.Turns.{turn_pair, turn_pairs}
use Rattle.ndr_encoder_value.specs.Counted.{counted_turn, counted_turns, AreCells, IsCounted}
use Rattle.ndr_encode.specs.declared.search.Search.{Search}
use Rattle.ndr_encoder_output.specs.Structs.{AreKnown}
use Rattle.ndr_encode.specs.Search.{AreWithin, IsNumbered, unmarked, unplaced, pending_names, Stream, IsSearchable, IsSearched, IsTaken, CanTake, first_cell, root_by, called_run, direct_run}
use Rattle.nd_grammar.proofs.written.CanonNumbers.{among_has, has_among}
use Rattle.nd_lemmas.proofs.Lists.{marked_elsewhere as get_other, marked_here as get_set, marks_length as set_room, same_first as first_of, same_rest as others_of}
use Rattle.ndr_encoder_laws.proofs.turns.Turns.{due_joined}

-- ## What is pending

-- the last that was kept is the next
pub pend_popped : (old new : List Named) (d : Named) → old ≡ new ++ d ∷ [] → pending_names old ≡ (d.cell.0, d.run) ∷ pending_names new
pend_popped old new d e = ap pending_names e ∙ ap names_of (reverse-append new (d ∷ []))

names_joined : (xs ys : List Named) → names_of (xs ++ ys) ≡ names_of xs ++ names_of ys
names_joined [] ys = refl
names_joined (x ∷ xs) ys = ap (λ u. (x.cell.0, x.run) ∷ u) (names_joined xs ys)

-- what was added is pending before the others
pub pend_more : (old new added : List Named) → new ≡ old ++ reverse added → pending_names new ≡ names_of added ++ pending_names old
pend_more old new added e =
    ap pending_names e ∙ ap names_of (reverse-append old (reverse added)) ∙ names_joined (reverse (reverse added)) (reverse old) ∙ ap (λ u. names_of u ++ pending_names old) (reverse-reverse added)

pub cells_within : (g : Graph) (xs : List (ℕ × ℕ)) → AreCells g xs → AreWithin (length g.cells) (cells_of xs)
cells_within g [] a = tt
cells_within g (x ∷ xs) a = (a.0, cells_within g xs a.1)

pub in_marks : (n : ℕ) (g : Graph) (xs : List (ℕ × ℕ)) → n ≡ length g.cells + 1 → AreCells g xs → AllByRecursion (λ x. x.0 < n) xs
in_marks n g [] e a = tt
in_marks n g (x ∷ xs) e a = (let h = a.0.1 in omega (arith, e, h), in_marks n g xs e a.1)

-- ## Marks

pub marks_more : (bs : List Bool) (stands : List ℕ) (c : ℕ) → c < length bs → ((d : ℕ) → get_or bs d false ≡ has stands d) → (d : ℕ) → get_or (set bs c true) d false ≡ has (c ∷ stands) d
marks_more bs stands c l m d = go (eqb d c) refl
  where
    go : (b : Bool) → eqb d c ≡ b → get_or (set bs c true) d false ≡ cond b true (has stands d)
    go true e = ap (λ i. get_or (set bs c true) i false) (eqb-true d c e) ∙ get_set bs c l
    go false e = get_other bs c d (eqb-false d c e) ∙ m d

pub fewer_unmarked : (bs : List Bool) (c : ℕ) → c < length bs → get_or bs c false ≡ false → suc (unmarked (set bs c true)) ≡ unmarked bs
fewer_unmarked [] c l e = absurd (omega (arith, l))
fewer_unmarked (true ∷ bs) zero l e = cc
fewer_unmarked (false ∷ bs) zero l e = refl
fewer_unmarked (true ∷ bs) (suc c) l e = fewer_unmarked bs c (omega (arith, l)) e
fewer_unmarked (false ∷ bs) (suc c) l e = ap suc (fewer_unmarked bs c (omega (arith, l)) e)

-- ## Counts

pub pairs_joined : (ts : List Turn) (t : Turn) → turn_pairs (ts ++ t ∷ []) ≡ turn_pairs ts ++ turn_pair t ∷ []
pairs_joined [] t = refl
pairs_joined (x ∷ xs) t = ap (λ u. turn_pair x ∷ u) (pairs_joined xs t)

module _ (code : List Instr) (k : ℕ) (g : Graph) where
  -- one home more is counted
  pub count_more : (old new : List Turn) (t : Turn) → new ≡ old ++ t ∷ []
      → pieces_end 0 (counted_turns code k g (turn_pairs new)) ≡ pieces_end (pieces_end 0 (counted_turns code k g (turn_pairs old))) (counted_turn code k g (turn_pair t))
  count_more old new t e =
      let P : List Piece = counted_turn code k g (turn_pair t) in
      ap (λ ts. pieces_end 0 (counted_turns code k g (turn_pairs ts))) e ∙ ap (λ u. pieces_end 0 (counted_turns code k g u)) (pairs_joined old t)
      ∙ ap (pieces_end 0) (flat_map-append (counted_turn code k g) (turn_pairs old) (turn_pair t ∷ []) ∙ ap (λ u. counted_turns code k g (turn_pairs old) ++ u) (append-nil P))
      ∙ end_joined 0 (counted_turns code k g (turn_pairs old)) P

  -- the homes so far are not too many octets
  short_so_far : (at : ℕ) (us : List (Home × ℕ)) → AllByRecursion (IsCounted code k g) us → pieces_end at (counted_turns code k g us) ≤ at + length us * 2 ^ 67
  short_so_far at [] a = omega arith
  short_so_far at (u ∷ us) a =
      let e : pieces_end at (counted_turns code k g (u ∷ us)) ≡ pieces_end (pieces_end at (counted_turn code k g u)) (counted_turns code k g us) =
      end_joined at (counted_turn code k g u) (counted_turns code k g us) in
      let one : pieces_end at (counted_turn code k g u) ≤ at + 2 ^ 67 = a.0.short at in
      let rest : pieces_end (pieces_end at (counted_turn code k g u)) (counted_turns code k g us) ≤ pieces_end at (counted_turn code k g u) + length us * 2 ^ 67 =
      short_so_far (pieces_end at (counted_turn code k g u)) us a.1 in
      omega (arith, e, one, rest)

  pairs_length : (ts : List Turn) → length (turn_pairs ts) ≡ length ts
  pairs_length [] = refl
  pairs_length (t ∷ ts) = ap suc (pairs_length ts)

  pub room_left : (us rest all : List (Home × ℕ)) (ts : List Turn) (at : ℕ) → turn_pairs ts ≡ us → us ++ rest ≡ all → AllByRecursion (IsCounted code k g) all
      → at ≡ pieces_end 0 (counted_turns code k g (turn_pairs ts)) → length ts < 2 ^ 34 → at + 2 ^ 67 < 2 ^ 128
  room_left us rest all ts at same parts a e few =
      let h : AllByRecursion (IsCounted code k g) us = all_left (IsCounted code k g) us rest (subst (AllByRecursion (IsCounted code k g)) (sym parts) a) in
      let s : pieces_end 0 (counted_turns code k g us) ≤ 0 + length us * 2 ^ 67 = short_so_far 0 us h in
      let l : length us ≡ length ts = ap length (sym same) ∙ pairs_length ts in
      let same_end : pieces_end 0 (counted_turns code k g (turn_pairs ts)) ≡ pieces_end 0 (counted_turns code k g us) = ap (λ u. pieces_end 0 (counted_turns code k g u)) same in
      omega (arith, s, l, same_end, e, few)

-- ## The next cell

module _ (code : List Instr) (g : Graph) where
  -- a cell that has its turn is passed over
  past : (stands : List ℕ) (c a : ℕ) (rest : List Item) (ts : List (Home × ℕ)) (ns : List ℕ) → has stands c ≡ true → Turned code g stands (cell_due c a ∷ rest) ts ns
      → Turned code g stands rest ts ns
  past stands c a rest ts ns e (cell_turn _ _ not d) = absurd (not (has_among stands c e))
  past stands c a rest ts ns e (cell_stands _ _ among d) = d

  -- cells that have their turn are passed over
  pub passed_over : (marks : List Bool) (stands : List ℕ) → ((c : ℕ) → get_or marks c false ≡ has stands c) → (xs : List (ℕ × ℕ)) (due : List Item) (ts : List (Home × ℕ)) (ns : List ℕ)
      → Turned code g stands (cells_due xs ++ due) ts ns → Turned code g stands (cells_due (unplaced marks xs) ++ due) ts ns
  passed_over marks stands m [] due ts ns h = h
  passed_over marks stands m (x ∷ xs) due ts ns h = go (get_or marks x.0 false) refl (passed_over marks stands m xs due ts ns)
    where
      go : (b : Bool) → get_or marks x.0 false ≡ b → (Turned code g stands (cells_due xs ++ due) ts ns → Turned code g stands (cells_due (unplaced marks xs) ++ due) ts ns)
          → Turned code g stands (cells_due (elim b [ true ↦ unplaced marks xs | false ↦ x ∷ xs ]) ++ due) ts ns
      go true e r = r (past stands x.0 x.1 (cells_due xs ++ due) ts ns (sym (m x.0) ∙ e) h)
      go false e r = h

  -- the first that is left has no turn yet
  pub first_unplaced : (marks : List Bool) (xs ys : List (ℕ × ℕ)) (y : ℕ × ℕ) → unplaced marks xs ≡ y ∷ ys → get_or marks y.0 false ≡ false
  first_unplaced marks [] ys y e = cc
  first_unplaced marks (x ∷ xs) ys y e = go (get_or marks x.0 false) refl e (first_unplaced marks xs ys y)
    where
      go : (b : Bool) → get_or marks x.0 false ≡ b → elim b [ true ↦ unplaced marks xs | false ↦ x ∷ xs ] ≡ y ∷ ys → (unplaced marks xs ≡ y ∷ ys → get_or marks y.0 false ≡ false)
          → get_or marks y.0 false ≡ false
      go true f h r = r h
      go false f h r = subst (λ z. get_or marks z.0 false ≡ false) (first_is x y xs ys h) f
        where
          first_is : (x y : ℕ × ℕ) (xs ys : List (ℕ × ℕ)) → x ∷ xs ≡ y ∷ ys → x ≡ y
          first_is x y xs ys h = ap (λ l. head_or x l) h
            where
              head_or : ℕ × ℕ → List (ℕ × ℕ) → ℕ × ℕ
              head_or d [] = d
              head_or d (z ∷ zs) = z

  -- cells of the graph are left
  pub cells_left : (marks : List Bool) (xs : List (ℕ × ℕ)) → AreCells g xs → AreCells g (unplaced marks xs)
  cells_left marks [] a = tt
  cells_left marks (x ∷ xs) a = go (get_or marks x.0 false) (cells_left marks xs a.1)
    where
      go : (b : Bool) → AreCells g (unplaced marks xs) → AreCells g (elim b [ true ↦ unplaced marks xs | false ↦ x ∷ xs ])
      go true r = r
      go false r = a

  -- what follows a cell's turn
  pub record CellTurn (stands : List ℕ) (c a : ℕ) (rest : List Item) (ts : List (Home × ℕ)) (ns : List ℕ) : Type 0 where
    pub later : List (Home × ℕ)
    pub names : List ℕ
    pub turns : ts ≡ (cell_home c, a) ∷ later
    pub named : ns ≡ cells_of (run_names code a (cell_at g c)) ++ names
    pub turned : Turned code g (c ∷ stands) (cells_due (run_names code a (cell_at g c)) ++ rest) later names

  pub cell_next : (stands : List ℕ) (c a : ℕ) (rest : List Item) (ts : List (Home × ℕ)) (ns : List ℕ) → has stands c ≡ false → Turned code g stands (cell_due c a ∷ rest) ts ns
      → CellTurn stands c a rest ts ns
  cell_next stands c a rest ts ns e (cell_turn {ns = names} {ts = later} _ _ not d) = record { later = later; names = names; turns = refl; named = refl; turned = d }
  cell_next stands c a rest ts ns e (cell_stands _ _ among d) = let h : has stands c ≡ true = among_has stands c among in cc

  -- and a root's
  pub record RootTurn (stands : List ℕ) (i a : ℕ) (rest : List Item) (ts : List (Home × ℕ)) (ns : List ℕ) : Type 0 where
    pub later : List (Home × ℕ)
    pub names : List ℕ
    pub turns : ts ≡ (home.Root i, a) ∷ later
    pub named : ns ≡ cells_of (run_names code a (root_at g i)) ++ names
    pub turned : Turned code g stands (cells_due (run_names code a (root_at g i)) ++ rest) later names

  pub root_next : (stands : List ℕ) (i a : ℕ) (rest : List Item) (ts : List (Home × ℕ)) (ns : List ℕ) → Turned code g stands (root_due i a ∷ rest) ts ns → RootTurn stands i a rest ts ns
  root_next stands i a rest ts ns (root_turn {ns = names} {ts = later} _ _ d) = record { later = later; names = names; turns = refl; named = refl; turned = d }

  pub record DirectTurn (stands : List ℕ) (i a : ℕ) (rest : List Item) (ts : List (Home × ℕ)) (ns : List ℕ) : Type 0 where
    pub cell : ℕ
    pub kids : Trees
    pub value_is : root_at g i ≡ node (tree.Ptr (Some cell)) kids
    pub free : has stands cell ≡ false
    pub later : List (Home × ℕ)
    pub names : List ℕ
    pub turns : ts ≡ (cell_home cell, a) ∷ later
    pub named : ns ≡ cell ∷ (cells_of (run_names code a (cell_at g cell)) ++ names)
    pub turned : Turned code g (cell ∷ stands) (cells_due (run_names code a (cell_at g cell)) ++ rest) later names

  not_had : (stands : List ℕ) (c : ℕ) → (Among stands c → ⊥) → has stands c ≡ false
  not_had stands c n = go (has stands c) refl
    where
      go : (b : Bool) → has stands c ≡ b → has stands c ≡ false
      go true e = absurd (n (has_among stands c e))
      go false e = e

  pub direct_next : (stands : List ℕ) (i a : ℕ) (rest : List Item) (ts : List (Home × ℕ)) (ns : List ℕ) → Turned code g stands (direct_due i a ∷ rest) ts ns → DirectTurn stands i a rest ts ns
  direct_next stands i a rest ts ns (direct_turn {ns = names} {ts = later} {ks = kids} _ _ c value not d) =
      record { cell = c; kids = kids; value_is = value; free = not_had stands c not; later = later; names = names; turns = refl; named = refl; turned = d }

-- ## A home that takes its turn

module _ (code : List Instr) (k : ℕ) (g : Graph) (x : Stream) (y : IsSearchable code k g x) where
  -- a home is ready to take its turn; `due` is due after all that is pending
  pub record Ready (due : List Item) (u : Turn) (s : Search) : Type 0 where
    pub later : List (Home × ℕ)
    pub later_names : List ℕ
    pub stands : List ℕ
    pub names : List ℕ
    pub turned : Turned code g stands (cells_due (run_names code u.start (value_at g u.home)) ++ (cells_due (pending_names s.count.names.items) ++ due)) later later_names
    pub turns : turn_pairs s.turns.items ++ (turn_pair u ∷ later) ≡ x.homes
    pub named : names ++ (cells_of (run_names code u.start (value_at g u.home)) ++ later_names) ≡ x.names
    pub numbers : IsNumbered (length g.cells) names s.numbers.items s.named
    pub marks : (c : ℕ) → get_or s.placed.items c false ≡ has stands c
    pub pending : AreCells g (pending_names s.count.names.items)
    pub at : s.count.at ≡ pieces_end 0 (counted_turns code k g (turn_pairs s.turns.items))
    pub few : suc (length s.turns.items) + unmarked s.placed.items + (length due + length x.pipes) ≤ length g.roots + length g.cells + 1
    pub room : length s.placed.items ≡ length g.cells + 1
    pub known : AreKnown code s.known

  module _ (due : List Item) (u : Turn) (s : Search) (r : Ready due u s) where
    its_count : IsCounted code k g (turn_pair u)
    its_count = (all_right (IsCounted code k g) (turn_pairs s.turns.items) (turn_pair u ∷ r.later) (subst (AllByRecursion (IsCounted code k g)) (sym r.turns) y.homes)).0

    abbrev IsNamedBy : Home × ℕ → Type 0
    IsNamedBy v = pieces_names (counted_turn code k g v) ≡ run_names code v.1 (value_at g v.0)

    its_names : pieces_names (counted_turn code k g (turn_pair u)) ≡ run_names code u.start (value_at g u.home)
    its_names = (all_right IsNamedBy (turn_pairs s.turns.items) (turn_pair u ∷ r.later) (subst (AllByRecursion IsNamedBy) (sym r.turns) y.names)).0

    pub ready_can : CanTake code k g u s
    ready_can =
        let a = r.few in
        let b = y.few_cells in
        let d = y.few_roots in
        record {
          few_cells = y.few_cells;
          counted = its_count;
          room = room_left code k g (turn_pairs s.turns.items) (turn_pair u ∷ r.later) x.homes s.turns.items s.count.at refl r.turns y.homes r.at (omega (arith, a, b, d));
          known = r.known;
          names = r.names;
          numbers = r.numbers;
        }

    pub ready_after : (new : Search) → IsTaken code k g u s new → IsSearched code k g x due new
    ready_after new t =
        let P : List (ℕ × ℕ) = pieces_names (counted_turn code k g (turn_pair u)) in
        let Q : List (ℕ × ℕ) = pending_names s.count.names.items in
        let R : List (ℕ × ℕ) = run_names code u.start (value_at g u.home) in
        let same : P ≡ R = its_names in
        let items : cells_due (pending_names new.count.names.items) ++ due ≡ cells_due R ++ (cells_due Q ++ due) =
        ap (λ l. cells_due l ++ due) (t.pending ∙ ap (λ l. l ++ Q) same) ∙ ap (λ l. l ++ due) (due_joined R Q) ∙ append_assoc (cells_due R) (cells_due Q) due in
        let one_more : length new.turns.items ≡ suc (length s.turns.items) = ap length t.turns ∙ length-append s.turns.items (u ∷ []) ∙ omega arith in
        let unmarked_same : unmarked new.placed.items ≡ unmarked s.placed.items = ap unmarked t.placed in
        let a = r.few in
        record {
          rest = r.later;
          rest_names = r.later_names;
          stands = r.stands;
          names = r.names ++ cells_of P;
          turned = subst (λ l. Turned code g r.stands l r.later r.later_names) (sym items) r.turned;
          turns = ap (λ ts. turn_pairs ts ++ r.later) t.turns ∙ ap (λ l. l ++ r.later) (pairs_joined s.turns.items u) ∙ append_assoc (turn_pairs s.turns.items) (turn_pair u ∷ []) r.later ∙ r.turns;
          named = append_assoc r.names (cells_of P) r.later_names ∙ ap (λ l. r.names ++ (cells_of l ++ r.later_names)) same ∙ r.named;
          numbers = t.numbers r.names r.numbers;
          marks = λ c. ap (λ bs. get_or bs c false) t.placed ∙ r.marks c;
          pending = subst (AreCells g) (sym t.pending) (all_append (λ n. (0 < n.0) × (n.0 ≤ length g.cells)) P Q its_count.cells r.pending);
          counted = record {
            at = t.at ∙ ap (λ n. pieces_end n (counted_turn code k g (turn_pair u))) r.at ∙ sym (count_more code k g s.turns.items new.turns.items u t.turns);
            few = omega (arith, one_more, unmarked_same, a);
            room = ap length t.placed ∙ r.room;
            known = t.known;
          };
        }

  -- the next pending cell that has no turn yet is ready
  module _ (due : List Item) (old mid : Search) (s : IsSearched code k g x due old) (d : Named)
      (left : unplaced old.placed.items (pending_names old.count.names.items) ≡ (d.cell.0, d.run) ∷ pending_names mid.count.names.items)
      (placed_is : mid.placed.items ≡ set old.placed.items d.cell.0 true) (turns_same : mid.turns.items ≡ old.turns.items)
      (numbers_same : mid.numbers.items ≡ old.numbers.items) (named_same : mid.named ≡ old.named) (at_same : mid.count.at ≡ old.count.at)
      (known : AreKnown code mid.known) where
    abbrev c : ℕ
    c = d.cell.0

    Q : List (ℕ × ℕ)
    Q = pending_names mid.count.names.items

    no_mark : get_or old.placed.items c false ≡ false
    no_mark = first_unplaced code g old.placed.items (pending_names old.count.names.items) (pending_names mid.count.names.items) (c, d.run) left

    cells : AreCells g ((c, d.run) ∷ pending_names mid.count.names.items)
    cells = subst (AreCells g) left (cells_left code g old.placed.items (pending_names old.count.names.items) s.pending)

    next : CellTurn code g s.stands c d.run (cells_due (pending_names mid.count.names.items) ++ due) s.rest s.rest_names
    next =
        cell_next code g s.stands c d.run (cells_due (pending_names mid.count.names.items) ++ due) s.rest s.rest_names (sym (s.marks c) ∙ no_mark)
        (subst (λ l. Turned code g s.stands (cells_due l ++ due) s.rest s.rest_names) left
        (passed_over code g old.placed.items s.stands s.marks (pending_names old.count.names.items) due s.rest s.rest_names s.turned))

    in_room : c < length old.placed.items
    in_room = let a = cells.0.1 in let b : length old.placed.items ≡ length g.cells + 1 = s.counted.room in omega (arith, a, b)

    pub cell_ready : Ready due (record { home = home.Cell d.cell; start = d.run }) mid
    cell_ready =
        let fewer : suc (unmarked (set old.placed.items c true)) ≡ unmarked old.placed.items = fewer_unmarked old.placed.items c in_room no_mark in
        let marked : unmarked mid.placed.items ≡ unmarked (set old.placed.items c true) = ap unmarked placed_is in
        let l : length mid.turns.items ≡ length old.turns.items = ap length turns_same in
        let a = s.counted.few in
        record {
          later = next.later;
          later_names = next.names;
          stands = c ∷ s.stands;
          names = s.names;
          turned = next.turned;
          turns = ap (λ ts. turn_pairs ts ++ ((cell_home c, d.run) ∷ next.later)) turns_same ∙ ap (λ l. turn_pairs old.turns.items ++ l) (sym next.turns) ∙ s.turns;
          named = ap (λ l. s.names ++ l) (sym next.named) ∙ s.named;
          numbers = subst (λ v. IsNumbered (length g.cells) s.names mid.numbers.items v) (sym named_same) (subst (λ v. IsNumbered (length g.cells) s.names v old.named) (sym numbers_same) s.numbers);
          marks = λ b. ap (λ bs. get_or bs b false) placed_is ∙ marks_more old.placed.items s.stands c in_room s.marks b;
          pending = cells.1;
          at = at_same ∙ s.counted.at ∙ sym (ap (λ ts. pieces_end 0 (counted_turns code k g (turn_pairs ts))) turns_same);
          few = omega (arith, fewer, marked, l, a);
          room = ap length placed_is ∙ set_room old.placed.items c ∙ s.counted.room;
          known = known;
        }

  -- nothing that is pending is left to take a turn
  pub none_left_pending : (due : List Item) (old new : Search) → IsSearched code k g x due old → unplaced old.placed.items (pending_names old.count.names.items) ≡ [] → new.count.names.items ≡ []
      → new.turns ≡ old.turns → new.numbers ≡ old.numbers → new.named ≡ old.named → new.placed ≡ old.placed → new.count.at ≡ old.count.at → AreKnown code new.known → IsSearched code k g x due new
  none_left_pending due old new s none empty turns_same numbers_same named_same placed_same at_same known =
      let no_names : pending_names new.count.names.items ≡ [] = ap pending_names empty in
      record {
        rest = s.rest;
        rest_names = s.rest_names;
        stands = s.stands;
        names = s.names;
        turned =
            subst (λ l. Turned code g s.stands (cells_due l ++ due) s.rest s.rest_names) (none ∙ sym no_names)
            (passed_over code g old.placed.items s.stands s.marks (pending_names old.count.names.items) due s.rest s.rest_names s.turned);
        turns = ap (λ ts. turn_pairs ts.items ++ s.rest) turns_same ∙ s.turns;
        named = s.named;
        numbers =
            subst (λ v. IsNumbered (length g.cells) s.names new.numbers.items v) (sym named_same) (subst (λ v. IsNumbered (length g.cells) s.names v.items old.named) (sym numbers_same) s.numbers);
        marks = λ c. ap (λ bs. get_or bs.items c false) placed_same ∙ s.marks c;
        pending = subst (AreCells g) (sym no_names) tt;
        counted =
            let few = s.counted.few in
            let a : length new.turns.items ≡ length old.turns.items = ap (λ ts. length ts.items) turns_same in
            let b : unmarked new.placed.items ≡ unmarked old.placed.items = ap (λ bs. unmarked bs.items) placed_same in
            record {
              at = at_same ∙ s.counted.at ∙ sym (ap (λ ts. pieces_end 0 (counted_turns code k g (turn_pairs ts.items))) turns_same);
              few = omega (arith, few, a, b);
              room = ap (λ bs. length bs.items) placed_same ∙ s.counted.room;
              known = known;
            };
      }

  -- a root is ready
  pub root_ready : (i a : ℕ) (due : List Item) (old : Search) → IsSearched code k g x (root_due i a ∷ due) old → old.count.names.items ≡ []
      → Ready due (record { home = home.Root i; start = a }) old
  root_ready i a due old s none =
      let empty : pending_names old.count.names.items ≡ [] = ap pending_names none in
      let next : RootTurn code g s.stands i a due s.rest s.rest_names =
      root_next code g s.stands i a due s.rest s.rest_names (subst (λ l. Turned code g s.stands (cells_due l ++ (root_due i a ∷ due)) s.rest s.rest_names) empty s.turned) in
      let b = s.counted.few in
      record {
        later = next.later;
        later_names = next.names;
        stands = s.stands;
        names = s.names;
        turned = subst (λ l. Turned code g s.stands (cells_due (run_names code a (root_at g i)) ++ (cells_due l ++ due)) next.later next.names) (sym empty) next.turned;
        turns = ap (λ l. turn_pairs old.turns.items ++ l) (sym next.turns) ∙ s.turns;
        named = ap (λ l. s.names ++ l) (sym next.named) ∙ s.named;
        numbers = s.numbers;
        marks = s.marks;
        pending = s.pending;
        at = s.counted.at;
        few = omega (arith, b);
        room = s.counted.room;
        known = s.counted.known;
      }

  -- the referent of a root in its place is ready
  module _ (i a : ℕ) (due : List Item) (old : Search) (s : IsSearched code k g x (direct_due i a ∷ due) old) (none : old.count.names.items ≡ []) where
    pub no_names : pending_names old.count.names.items ≡ []
    no_names = ap pending_names none

    abbrev pub direct : DirectTurn code g s.stands i a due s.rest s.rest_names
    direct = direct_next code g s.stands i a due s.rest s.rest_names (subst (λ l. Turned code g s.stands (cells_due l ++ (direct_due i a ∷ due)) s.rest s.rest_names) no_names s.turned)

    -- the root names it
    pub direct_named : first_cell (root_at g i) ≡ Some direct.cell
    direct_named = ap first_cell direct.value_is

    abbrev D : Home × ℕ
    D = (cell_home direct.cell, a)

    direct_here : turn_pairs old.turns.items ++ (D ∷ direct.later) ≡ x.homes
    direct_here = ap (λ l. turn_pairs old.turns.items ++ l) (sym direct.turns) ∙ s.turns

    pub direct_within : (0 < direct.cell) × (direct.cell ≤ length g.cells)
    direct_within = (all_right (IsCounted code k g) (turn_pairs old.turns.items) (D ∷ direct.later) (subst (AllByRecursion (IsCounted code k g)) (sym direct_here) y.homes)).0.there

    pub direct_ready : (mid : Search) (cell : CellId) → cell.0 ≡ direct.cell → mid.placed.items ≡ set old.placed.items cell.0 true → mid.turns.items ≡ old.turns.items
        → mid.count.names.items ≡ old.count.names.items
        → mid.count.at ≡ old.count.at → AreKnown code mid.known
        → ((names : List ℕ) → IsNumbered (length g.cells) names old.numbers.items old.named → IsNumbered (length g.cells) (names ++ cell.0 ∷ []) mid.numbers.items mid.named)
        → Ready due (record { home = home.Cell cell; start = a }) mid
    direct_ready mid cell is placed_is turns_same pending_same at_same known numbers =
        let c : ℕ = cell.0 in
        let room : length old.placed.items ≡ length g.cells + 1 = s.counted.room in
        let within = direct_within.1 in
        let in_room : c < length old.placed.items = omega (arith, is, room, within) in
        let free : has s.stands c ≡ false = ap (has s.stands) is ∙ direct.free in
        let no_mark : get_or old.placed.items c false ≡ false = s.marks c ∙ free in
        let fewer : suc (unmarked (set old.placed.items c true)) ≡ unmarked old.placed.items = fewer_unmarked old.placed.items c in_room no_mark in
        let marked : unmarked mid.placed.items ≡ unmarked (set old.placed.items c true) = ap unmarked placed_is in
        let l : length mid.turns.items ≡ length old.turns.items = ap length turns_same in
        let b = s.counted.few in
        let empty : pending_names mid.count.names.items ≡ [] = ap pending_names pending_same ∙ no_names in
        record {
          later = direct.later;
          later_names = direct.names;
          stands = c ∷ s.stands;
          names = s.names ++ c ∷ [];
          turned =
              subst (λ l. Turned code g (c ∷ s.stands) (cells_due (run_names code a (cell_at g c)) ++ (cells_due l ++ due)) direct.later direct.names) (sym empty)
              (subst (λ q. Turned code g (q ∷ s.stands) (cells_due (run_names code a (cell_at g q)) ++ due) direct.later direct.names) (sym is) direct.turned);
          turns =
              ap (λ ts. turn_pairs ts ++ ((cell_home c, a) ∷ direct.later)) turns_same
              ∙ ap (λ q. turn_pairs old.turns.items ++ ((cell_home q, a) ∷ direct.later)) is ∙ direct_here;
          named =
              append_assoc s.names (c ∷ []) (cells_of (run_names code a (cell_at g c)) ++ direct.names)
              ∙ ap (λ q. s.names ++ (q ∷ (cells_of (run_names code a (cell_at g q)) ++ direct.names))) is ∙ ap (λ l. s.names ++ l) (sym direct.named) ∙ s.named;
          numbers = numbers s.names s.numbers;
          marks = λ q. ap (λ bs. get_or bs q false) placed_is ∙ marks_more old.placed.items s.stands c in_room s.marks q;
          pending = subst (AreCells g) (sym empty) tt;
          at = at_same ∙ s.counted.at ∙ sym (ap (λ ts. pieces_end 0 (counted_turns code k g (turn_pairs ts))) turns_same);
          few = omega (arith, fewer, marked, l, b);
          room = ap length placed_is ∙ set_room old.placed.items c ∙ room;
          known = known;
        }

-- ## A search for the next cell

-- one is passed over
pub skip_one : (marks : List Bool) (xs ys : List (ℕ × ℕ)) (y : ℕ × ℕ) → xs ≡ y ∷ ys → get_or marks y.0 false ≡ true → unplaced marks xs ≡ unplaced marks ys
skip_one marks xs ys y e h = ap (unplaced marks) e ∙ ap (λ b. elim b as (λ _. List (ℕ × ℕ)) [ true ↦ unplaced marks ys | false ↦ y ∷ ys ]) h

-- one is found
pub stop_at : (marks : List Bool) (xs ys : List (ℕ × ℕ)) (y : ℕ × ℕ) → xs ≡ y ∷ ys → get_or marks y.0 false ≡ false → unplaced marks xs ≡ y ∷ ys
stop_at marks xs ys y e h = ap (unplaced marks) e ∙ ap (λ b. elim b as (λ _. List (ℕ × ℕ)) [ true ↦ unplaced marks ys | false ↦ y ∷ ys ]) h

pub first_within : (n : ℕ) (xs ys : List (ℕ × ℕ)) (y : ℕ × ℕ) → xs ≡ y ∷ ys → AllByRecursion (λ x. x.0 < n) xs → y.0 < n
first_within n xs ys y e a = (subst (AllByRecursion (λ x. x.0 < n)) e a).0

pub rest_within : (n : ℕ) (xs ys : List (ℕ × ℕ)) (y : ℕ × ℕ) → xs ≡ y ∷ ys → AllByRecursion (λ x. x.0 < n) xs → AllByRecursion (λ x. x.0 < n) ys
rest_within n xs ys y e a = (subst (AllByRecursion (λ x. x.0 < n)) e a).1

-- the first that is left has a place for its mark
pub unplaced_room : (code : List Instr) (g : Graph) (marks : List Bool) (xs ys : List (ℕ × ℕ)) (y : ℕ × ℕ) → length marks ≡ length g.cells + 1 → AreCells g xs → unplaced marks xs ≡ y ∷ ys
    → y.0 < length marks
unplaced_room code g marks xs ys y e a h = first_within (length marks) (unplaced marks xs) ys y h (in_marks (length marks) g (unplaced marks xs) e (cells_left code g marks xs a))

-- ## What was counted

pub counted_names : (at end : ℕ) (old new : List Named) (ps : List Piece) → count_whole end (names_of new) [] ≡ count_whole at (names_of old) (ps ++ [])
    → names_of new ≡ names_of old ++ pieces_names ps
counted_names at end old new ps e = sym (append-nil (names_of new)) ∙ ap (λ w. w.names) e ∙ ap (λ l. names_of old ++ pieces_names l) (append-nil ps)

-- those that were named before, n of them, and those that were added
named_before : (old new : List Named) (added : List (ℕ × ℕ)) → names_of new ≡ names_of old ++ added → names_of (take (length old) new) ≡ names_of old
named_before [] new added e = refl
named_before (x ∷ xs) [] added e = cc
named_before (x ∷ xs) (y ∷ ys) added e = ap₂ (λ u us. u ∷ us) (first_of _ _ _ _ e) (named_before xs ys added (others_of _ _ _ _ e))

named_after : (old new : List Named) (added : List (ℕ × ℕ)) → names_of new ≡ names_of old ++ added → names_of (drop (length old) new) ≡ added
named_after [] new added e = e
named_after (x ∷ xs) [] added e = cc
named_after (x ∷ xs) (y ∷ ys) added e = named_after xs ys added (others_of _ _ _ _ e)

not_fewer : (old new : List Named) (added : List (ℕ × ℕ)) → names_of new ≡ names_of old ++ added → length old ≤ length new
not_fewer [] new added e = omega arith
not_fewer (x ∷ xs) [] added e = cc
not_fewer (x ∷ xs) (y ∷ ys) added e = let h = not_fewer xs ys added (others_of _ _ _ _ e) in omega (arith, h)

pub named_added : (n : ℕ) (old new : List Named) (added : List (ℕ × ℕ)) → n ≡ length old → names_of new ≡ names_of old ++ added → names_of (drop n new) ≡ added
named_added n old new added l e = ap (λ m. names_of (drop m new)) l ∙ named_after old new added e

pub named_room : (n : ℕ) (old new : List Named) (added : List (ℕ × ℕ)) → n ≡ length old → names_of new ≡ names_of old ++ added → n ≤ length new
named_room n old new added l e = let h = not_fewer old new added e in omega (arith, l, h)

same_pending : (xs ys : List Named) → names_of xs ≡ names_of ys → pending_names xs ≡ pending_names ys
same_pending [] [] e = refl
same_pending [] (y ∷ ys) e = cc
same_pending (x ∷ xs) [] e = cc
same_pending (x ∷ xs) (y ∷ ys) e =
    ap names_of (reverse-append (x ∷ []) xs) ∙ names_joined (reverse xs) (x ∷ []) ∙ ap₂ (λ us u. us ++ u ∷ []) (same_pending xs ys (others_of _ _ _ _ e)) (first_of _ _ _ _ e)
    ∙ sym (ap names_of (reverse-append (y ∷ []) ys) ∙ names_joined (reverse ys) (y ∷ []))

-- what was added is pending before the others, the first one last
pub pend_turned : (n : ℕ) (old mid new : List Named) (added : List (ℕ × ℕ)) → n ≡ length old → names_of mid ≡ names_of old ++ added → new ≡ take n mid ++ reverse (drop n mid)
    → pending_names new ≡ added ++ pending_names old
pend_turned n old mid new added l e h =
    pend_more (take n mid) new (drop n mid) h
    ∙ ap₂ (λ us vs. us ++ vs) (named_added n old mid added l e) (ap (λ m. pending_names (take m mid)) l ∙ same_pending (take (length old) mid) old (named_before old mid added e))

pub counted_end : (at end : ℕ) (old new : List Named) (ps : List Piece) → count_whole end (names_of new) [] ≡ count_whole at (names_of old) (ps ++ []) → end ≡ pieces_end at ps
counted_end at end old new ps e = ap (λ w. w.end) e ∙ ap (pieces_end at) (append-nil ps)

pub can_count : (at : ℕ) (ps : List Piece) → pieces_end at ps ≤ at + 2 ^ 67 → at + 2 ^ 67 < 2 ^ 128 → AllByRecursion FitsPiece ps → CountCan at (ps ++ [])
can_count at ps short room fits = subst (CountCan at) (sym (append-nil ps)) (omega (arith, short, room), fits)

-- whether there is one turn more
abbrev pub once_more : Bool → ℕ
once_more true = 1
once_more false = 0

-- one turn more, or none
pub smaller_turn : (more before : Bool) (u v : ℕ) → before ≡ true → (more ≡ true → u < v) → (more ≡ false → u ≤ v) → u + once_more more < v + once_more before
smaller_turn true true u v e f g = let h = f refl in omega (arith, h)
smaller_turn false true u v e f g = let h = g refl in omega (arith, h)
smaller_turn more false u v e f g = cc

-- ## Roots

same_item : (a b : Item) → a ∷ [] ≡ b ∷ [] → a ≡ b
same_item a b e = ap (λ l. elim l as (λ _. Item) [ [] ↦ a | ◌∷◌ x (xs → h) ↦ x ]) e

pub call_item : (i run : ℕ) (first : Option Instr) (item : Item) → called_run first ≡ Some run → root_by i first ≡ item ∷ [] → item ≡ root_due i run
call_item i run (Some (op.Call q)) item e h = sym (same_item (root_due i q) item h) ∙ ap (root_due i) (same_Some q run e)
call_item i run None item e h = cc
call_item i run (Some _) item e h = cc

pub direct_item : (i run : ℕ) (first : Option Instr) (item : Item) → direct_run first ≡ Some run → root_by i first ≡ item ∷ [] → item ≡ direct_due i run
direct_item i run (Some (op.Direct to q)) item e h = sym (same_item (direct_due i q) item h) ∙ ap (direct_due i) (same_Some q run e)
direct_item i run None item e h = cc
direct_item i run (Some _) item e h = cc

-- one cell less has no mark
pub fewer_turn : (code : List Instr) (g : Graph) (marks new : List Bool) (xs ys : List (ℕ × ℕ)) (y : ℕ × ℕ) → length marks ≡ length g.cells + 1 → AreCells g xs → unplaced marks xs ≡ y ∷ ys
    → new ≡ set marks y.0 true → unmarked new < unmarked marks
fewer_turn code g marks new xs ys y e a h is =
    let fewer : suc (unmarked (set marks y.0 true)) ≡ unmarked marks = fewer_unmarked marks y.0 (unplaced_room code g marks xs ys y e a h) (first_unplaced code g marks xs ys y h) in
    let same : unmarked new ≡ unmarked (set marks y.0 true) = ap unmarked is in
    omega (arith, fewer, same)

-- a root that names a cell is there
named_there : (vs : List Tree) (i c : ℕ) (ks : Trees) → or_unread (slice_get vs i) ≡ node (tree.Ptr (Some c)) ks → i < length vs
named_there [] i c ks e = cc
named_there (v ∷ vs) zero c ks e = omega arith
named_there (v ∷ vs) (suc i) c ks e = let h = named_there vs i c ks e in omega (arith, h)

pub root_there : (g : Graph) (i c : ℕ) (ks : Trees) → root_at g i ≡ node (tree.Ptr (Some c)) ks → i < length g.roots
root_there g i c ks e = named_there g.roots i c ks e

-- the cell that was found is the one that the root names
pub cell_found : (o : Option CellId) (cell : CellId) (v : Option ℕ) (c : ℕ) → o ≡ Some cell → cell_number o ≡ v → v ≡ Some c → cell.0 ≡ c
cell_found o cell v c e h f = same_Some cell.0 c (sym (ap cell_number e) ∙ h ∙ f)

pub none_found : (o : Option CellId) (v : Option ℕ) (c : ℕ) → o ≡ None → cell_number o ≡ v → v ≡ Some c → ⊥
none_found o v c e h f = let z : None ≡ Some c = sym (ap cell_number e) ∙ h ∙ f in cc

-- there is no other first instruction of a root
pub no_root : (i : ℕ) (first : Option Instr) (item : Item) → root_by i first ≡ item ∷ [] → called_run first ≡ None → direct_run first ≡ None → ⊥
no_root i (Some (op.Call run)) item h f g = cc
no_root i (Some (op.Direct to run)) item h f g = cc
no_root i None item h f g = cc
no_root i (Some _) item h f g = cc
