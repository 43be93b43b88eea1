-- The state of reading a stream: what holds of the roots, cells and names so far, and of the pointers that are due.
use Rattle.std.proofs.Common.{◌≡◌, ℕ, ◌+◌, ◌*◌, ◌<◌, ◌≤◌, zero, suc, false, List, [], ◌∷◌, ◌++◌, length, Some, refl, ap, sym, ◌∙◌, inl, inr, ◌⊎◌, arith, subst, append_assoc}
use Rattle.std.specs.List.{AllByRecursion, slice_get}
use Rattle.std.proofs.lemmas.Option.{same_Some}
use Rattle.nd_base.specs.declared.octets.Order.{Order}
use Rattle.nd_types.specs.Table.{Table, type_at}
use Rattle.nd_types.specs.Roots.{Root}
use Rattle.nd_types.specs.Number.{AreOctets}
use Rattle.nd_value.specs.declared.item.Home.{Home}
use Rattle.nd_value.specs.Tree.{Tree, none, more, Referent}
use Rattle.nd_value.specs.Setting.{Setting, Among, root_list, unread, cell_home}
use Rattle.nd_value.specs.Deferral.{Pending, Due, home_pointers, IsPlaced, Placed_cells}
use Rattle.nd_value.specs.Conforms.{root_pointers, cell_pointers, all_pointers}
use Rattle.nd_value.proofs.Apart.{all_append, among_left, among_right}
use Rattle.nd_grammar.specs.LegalSide.{IsLegalSide}
use Rattle.nd_grammar.specs.Entry.{tests, whole_value}
use Rattle.nd_grammar.specs.Reader.{Progress, Names, Read, read_whole}
use Rattle.nd_grammar.specs.StreamReader.{Reading, graph_of, with_value, read_referent}
use Rattle.nd_grammar.proofs.next.HoistedMaxes.{HoistsLast}
use Rattle.nd_grammar.proofs.LegalSides.{laid_out}
use Rattle.nd_grammar.proofs.reader.ReaderSteps.{Follows}
use Rattle.nd_grammar.proofs.reader.ReaderNodes.{Agree, Grown}
use Rattle.nd_grammar.proofs.reader.ReaderInPlace.{Readable, whole_read}
use Rattle.nd_grammar.proofs.reader.EntriesFine.{Fine, FullOk, fine_whole}
use Rattle.nd_grammar.proofs.reader.ReaderNames.{numbers_among, Extends, linked_all}
use Rattle.nd_grammar.specs.ReaderState.{cell_in, numbered_cells, Linked, PointerAt, PointerOk, PointersOk, paid, NumbersOk, CellMade, no_names, Usable, UsablePointer, RootsMade, Named, State}
use Rattle.nd_grammar.proofs.reader.ReaderLeaves.{value_pointers}
use Rattle.nd_grammar.proofs.reader.ReaderWhole.{whole_leaves}
use Rattle.nd_grammar.proofs.reader.ReaderMoves.{Moves, all_moves}
use Rattle.nd_grammar.proofs.reader.ReaderMakes.{Costs, whole_makes}
use Rattle.nd_grammar.proofs.reader.ReaderReached.{reached_set}
use Rattle.nd_grammar.proofs.reader.ReaderCells.{cell_positive, Inserted, value_is, more_pointers, put_between, pointers_kept, numbers_kept, linked_kept, value_length, set, set_other, set_made}
use Rattle.nd_grammar.proofs.reader.ReaderCells.{set_pointers, blank_made, old_or_blank}
use Rattle.nd_grammar.proofs.reader.MadeTrees.{one_made}
use Rattle.nd_grammar.specs.MadeTrees.{MadeTrees}
use Rattle.nd_grammar.proofs.legal.LegalUsable.{small_bounds, usable_readable, pointers_usable}

pub roots_made_more : (table : Table) (rs : List Root) (vs : List Tree) (r : Root) (v : Tree) → slice_get rs (length vs) ≡ Some r → RootsMade table rs vs
    → MadeTrees table (r.of ∷ []) (more v none) → RootsMade table rs (vs ++ v ∷ [])
roots_made_more table [] [] r v e a m = cc
roots_made_more table (q ∷ rs) [] r v e a m = (subst (λ u. MadeTrees table (u.of ∷ []) (more v none)) (sym (same_Some _ _ e)) m, tt)
roots_made_more table [] (u ∷ vs) r v e a m = absurd a
roots_made_more table (q ∷ rs) (u ∷ vs) r v e a m = (a.0, roots_made_more table rs vs r v e a.1 m)

-- a cell that has one of these numbers
abbrev pub Numbered : List (ℕ × ℕ) → ℕ → Type 0
Numbered xs c = Among (numbered_cells xs) c

full_ok : (s s' : Names) (xs : List (ℕ × ℕ)) → Grown s'.numbers xs → (ps : List Pending) → AllByRecursion (PointerOk s s') ps → AllByRecursion (FullOk (Numbered xs)) ps
full_ok s s' xs g [] a = tt
full_ok s s' xs g (p ∷ ps) a = (
  (λ c f e. subst (λ u. Among (numbered_cells u) c) (sym g.1) (numbers_among g.0 s'.numbers c ((a.0 c e).full f))),
  full_ok s s' xs g ps a.1,
)

module _ (w : Setting) (side : IsLegalSide w) (order : Order) (octets : List ℕ) (all : AreOctets octets) where
  -- what a whole value that is read says
  pub record WholeRead (h : Home) (t : ℕ) (p : Progress) (s : Names) (r : Read) : Type 0 where
    pub made : MadeTrees w.table (t ∷ []) (more r.tree none)
    pub grown : Grown s.numbers r.names.numbers
    pub follows : (nums : ℕ → ℕ) → Agree nums r.names.numbers → Follows order octets nums p (whole_value w.table h t r.tree) r.progress
    pub extends : Extends s r.names
    pub linked : Linked order octets p s → Linked order octets r.progress r.names
    pub pointers : Linked order octets p s → PointersOk s r.names (home_pointers w.table h t r.tree)
    pub moves : Moves order octets p r.progress
    pub numbers : NumbersOk s → NumbersOk r.names
    pub cost : 4 * length (home_pointers w.table h t r.tree) + paid p ≤ paid r.progress
    pub cells : length r.names.cells ≤ length s.cells + length (home_pointers w.table h t r.tree)
    pub covered : (c : ℕ) → length s.cells < c → c ≤ length r.names.cells → (x : Pending) × Among (home_pointers w.table h t r.tree) x × (x.cell ≡ Some c)
    pub usable : AllByRecursion (UsablePointer w.table) (home_pointers w.table h t r.tree)
    pub fine : Linked order octets p s → (xs : List (ℕ × ℕ)) → Grown r.names.numbers xs → AllByRecursion (Fine (Numbered xs)) (whole_value w.table h t r.tree)

  hoisting : HoistsLast w.table
  hoisting = (laid_out w side).hoisting

  pub read_wholly : (h : Home) (t : ℕ) → Usable w.table t → (p : Progress) (s : Names) → WholeRead h t p s (read_whole order octets w.table h t p s)
  read_wholly h t u p s =
      let r : Read = read_whole order octets w.table h t p s in
      let readable : Readable w.table 32 t = usable_readable w.table side.operations side.legal t u in
      let a = whole_read order octets w.table h hoisting t readable p s in
      let b = whole_leaves order octets w.table h t readable p s in
      let c = whole_makes order octets all w.table h (small_bounds w.table side.operations side.legal) hoisting t readable p s in
      let e : home_pointers w.table h t r.tree ≡ value_pointers w.table h (type_at w.table t) 0 [] r.tree = value_is w.table h t r.tree in
      let k : Costs order octets all w.table h (small_bounds w.table side.operations side.legal) hoisting p s r.progress r.names (home_pointers w.table h t r.tree) =
      subst (Costs order octets all w.table h (small_bounds w.table side.operations side.legal) hoisting p s r.progress r.names) (sym e) (c.costs 0 []) in
      record {
        made = one_made w.table t r.tree c.made;
        grown = a.grown;
        follows = a.follows;
        extends = b.extends;
        linked = b.linked;
        pointers = λ l. subst (PointersOk s r.names) (sym e) (b.pointers l 0 []);
        moves = c.moves;
        numbers = c.numbers;
        cost = k.cost;
        cells = k.cells;
        covered = k.covered;
        usable = pointers_usable w.table side.operations side.legal h t r.tree u;
        fine = λ l xs g. fine_whole (Numbered xs) w.table h t r.tree (full_ok s r.names xs g (home_pointers w.table h t r.tree) (subst (PointersOk s r.names) (sym e) (b.pointers l 0 [])).each);
      }

  named_cell : (done : Placed_cells) (taken : List Pending) (p : Pending) (c : ℕ) → Named w side order octets all done taken → p.cell ≡ Some c
      → Named w side order octets all ((p.class, c) ∷ done) (taken ++ p ∷ [])
  named_cell done taken p c named e b (inl h) = (p, among_right taken (p ∷ []) p (inl refl), e ∙ ap Some (sym h), λ f. inl (f, h))
  named_cell done taken p c named e b (inr h) = let (q, a, e', f) = named b h in (q, among_left taken (p ∷ []) q a, e', λ k. inr (f k))

  -- the referent of a pointer is read
  module _ (s : Reading) (taken : List Pending) (p : Pending) (ps : List Pending) (n c : ℕ) (due : List Due) (state : State w side order octets all s taken (p ∷ ps) n) (is : p.cell ≡ Some c)
      (free : ¬ IsPlaced s.done c) where
    abbrev referent : Read
    referent = read_whole order octets w.table (cell_home c) p.to s.progress s.names

    abbrev new : List Pending
    new = home_pointers w.table (cell_home c) p.to referent.tree

    abbrev after : Reading
    after = read_referent w order octets false p c due s

    pub read_so : WholeRead (cell_home c) p.to s.progress s.names referent
    read_so = read_wholly (cell_home c) p.to state.usable.0 s.progress s.names

    pub at_cell : PointerAt no_names s.names p c
    at_cell = at_first taken state.apart.each
      where
        at_first : (taken : List Pending) → AllByRecursion (PointerOk no_names s.names) (taken ++ p ∷ ps) → PointerAt no_names s.names p c
        at_first [] a = a.0 c is
        at_first (t ∷ taken) a = at_first taken a.1

    abbrev the_cell : Referent
    the_cell = at_cell.there.0

    blank_then : the_cell.val ≡ unread
    blank_then = state.blank c the_cell at_cell.there.1 free

    pub cell_then : cell_in referent.names.cells c ≡ Some the_cell
    cell_then = subst (λ u. cell_in u c ≡ Some the_cell) (sym read_so.extends.cells) (kept s.names.cells read_so.extends.new c at_cell.there.1)
      where
        kept : (cells new : List Referent) (k : ℕ) → cell_in cells k ≡ Some the_cell → cell_in (cells ++ new) k ≡ Some the_cell
        kept cells new zero e = cc
        kept [] new (suc i) e = cc
        kept (y ∷ cells) new (suc zero) e = e
        kept (y ∷ cells) new (suc (suc i)) e = kept cells new (suc i) e

    inserted : Inserted w.table 1 c p.to referent.tree referent.names.cells (set c referent.tree referent.names.cells)
    inserted = by_number c cell_then
      where
        by_number : (k : ℕ) → cell_in referent.names.cells k ≡ Some the_cell → Inserted w.table 1 k p.to referent.tree referent.names.cells (set k referent.tree referent.names.cells)
        by_number zero e = cc
        by_number (suc i) e =
            let a : Inserted w.table 1 (1 + i) the_cell.of referent.tree referent.names.cells (set (suc i) referent.tree referent.names.cells) =
            set_pointers w.table 1 i referent.tree referent.names.cells the_cell e blank_then in
            let z : 1 + i ≡ suc i = omega arith in
            subst (λ k. Inserted w.table 1 k p.to referent.tree referent.names.cells (set (suc i) referent.tree referent.names.cells)) z
            (subst (λ t. Inserted w.table 1 (1 + i) t referent.tree referent.names.cells (set (suc i) referent.tree referent.names.cells)) at_cell.there.2 a)

    pointers_then : PointersOk no_names (with_value c referent.tree referent.names) (all_pointers w (graph_of s.roots (with_value c referent.tree referent.names)))
    pointers_then =
        let R : List Pending = root_pointers w.table 0 (root_list w) s.roots in
        let A : List Pending = inserted.before in
        let B : List Pending = inserted.behind in
        let e1 : cell_pointers w.table 1 s.names.cells ≡ A ++ B =
        sym (more_pointers w.table 1 s.names.cells read_so.extends.new read_so.extends.blank) ∙ ap (cell_pointers w.table 1) (sym read_so.extends.cells) ∙ inserted.was in
        let e2 : R ++ cell_pointers w.table 1 s.names.cells ≡ (R ++ A) ++ B = ap (λ u. R ++ u) e1 ∙ sym (append_assoc R A B) in
        let e3 : (R ++ A) ++ (new ++ B) ≡ R ++ cell_pointers w.table 1 (set c referent.tree referent.names.cells) = append_assoc R A (new ++ B) ∙ ap (λ u. R ++ u) (sym inserted.is) in
        let a : PointersOk no_names referent.names ((R ++ A) ++ (new ++ B)) =
        put_between s.names referent.names (R ++ A) B new read_so.extends (subst (PointersOk no_names s.names) e2 state.pointers) (read_so.pointers state.linked) in
        pointers_kept c referent.tree referent.names no_names (R ++ cell_pointers w.table 1 (set c referent.tree referent.names.cells)) (subst (PointersOk no_names referent.names) e3 a)

    blank_after : (k : ℕ) (x : Referent) → cell_in (set c referent.tree referent.names.cells) k ≡ Some x → ¬ IsPlaced ((p.class, c) ∷ s.done) k → x.val ≡ unread
    blank_after k x e f =
        let e1 : cell_in referent.names.cells k ≡ Some x = sym (set_other c k referent.tree referent.names.cells (λ g. f (inl (sym g)))) ∙ e in
        go (old_or_blank s.names.cells read_so.extends.new read_so.extends.blank k x (subst (λ u. cell_in u k ≡ Some x) read_so.extends.cells e1))
      where
        go : (cell_in s.names.cells k ≡ Some x) ⊎ (x.val ≡ unread) → x.val ≡ unread
        go (inl g) = state.blank k x g (λ h. f (inr h))
        go (inr g) = g

    cells_then : AllByRecursion (CellMade w.table) (set c referent.tree referent.names.cells)
    cells_then =
        set_made w.table c referent.tree referent.names.cells the_cell cell_then (subst (λ t. MadeTrees w.table (t ∷ []) (more referent.tree none)) (sym at_cell.there.2) read_so.made)
        (subst (AllByRecursion (CellMade w.table)) (sym read_so.extends.cells)
        (all_append (CellMade w.table) s.names.cells read_so.extends.new state.cells_made (blank_made w.table read_so.extends.new read_so.extends.blank)))

    moves_then : Moves order octets referent.progress after.progress
    moves_then = all_moves order octets (tests (cell_home c) 0 referent.tree p.agreements) referent.progress

    pub referent_state : State w side order octets all after (taken ++ p ∷ []) (new ++ ps) n
    referent_state = record {
      roots_left = state.roots_left;
      linked = linked_kept c referent.tree referent.names order octets after.progress
          (linked_all order octets referent.progress referent.names (tests (cell_home c) 0 referent.tree p.agreements) (read_so.linked state.linked));
      apart = pointers_kept c referent.tree referent.names no_names ((taken ++ p ∷ []) ++ (new ++ ps))
          (put_between s.names referent.names (taken ++ p ∷ []) ps new read_so.extends
          (subst (PointersOk no_names s.names) (sym (append_assoc taken (p ∷ []) ps)) state.apart) (read_so.pointers state.linked));
      pointers = pointers_then;
      usable = all_append (UsablePointer w.table) new ps read_so.usable state.usable.1;
      named = named_cell s.done taken p c state.named is;
      blank = blank_after;
      numbers = numbers_kept c referent.tree referent.names (read_so.numbers state.numbers);
      roots_made = state.roots_made;
      cells_made = cells_then;
      within = moves_then.within (read_so.moves.within state.within);
      few = omega (arith, state.few, read_so.cells, read_so.cost, moves_then.paid_more, value_length c referent.tree referent.names);
      reached =
          reached_set w s.roots s.names referent.names read_so.extends.new read_so.extends.cells c the_cell (cell_positive s.names.cells c the_cell at_cell.there.1) at_cell.within at_cell.there.1
          blank_then p.to at_cell.there.2 referent.tree read_so.covered state.reached;
    }

    -- what was paid for the new pointers
    pub referent_paid : 4 * length new + paid s.progress ≤ paid after.progress
    referent_paid = omega (arith, read_so.cost, moves_then.paid_more)
