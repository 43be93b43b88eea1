-- Cells with the value of one of them.
use Rattle.std.proofs.Common.{◌≡◌, ◌≤◌, ◌<◌, ℕ, ◌+◌, zero, suc, Bool, true, false, List, [], ◌∷◌, ◌++◌, length, Option, refl, ap, sym, ◌∙◌, subst, arith, map, length-append}
use Rattle.std.specs.Prelude.{eqb}
use Rattle.std.proofs.lemmas.Bool.{eqb-true}
use Rattle.std.proofs.lemmas.List.{map-append}
use Rattle.std.proofs.lemmas.Bool.Decides.{nat_tests}
use Rattle.nd_base.specs.declared.octets.Order.{Order}
use Rattle.nd_value.specs.declared.item.Home.{Home}
use Rattle.nd_value.specs.declared.item.Item.{Item}
use Rattle.nd_value.specs.declared.value.Graph.{Graph}
use Rattle.nd_value.specs.Tree.{Tree, Referent}
use Rattle.nd_value.specs.Setting.{unread, set_nth, set_cell, cell_at}
use Rattle.nd_grammar.specs.Entry.{EntryAt}
use Rattle.nd_grammar.specs.Reader.{Names, with_cell}
use Rattle.nd_grammar.specs.StreamReader.{graph_of, with_value}
use Rattle.ndr_refs.specs.declared.referents.Known.{Known}
use Rattle.ndr_decoder_laws.specs.steps.Good.{HasCells, Told}
use Rattle.ndr_decoder_laws.proofs.verdict.CellsSeen.{direct_seen}
use Rattle.nd_value.proofs.Apart.{all_weaker}
use Rattle.ndr_decoder_laws.specs.steps.Steps.{Place}
use Rattle.ndr_decoder_laws.specs.stream.Between.{CellFilled}
use Rattle.ndr_decoder_laws.proofs.stream.Graphs.{value_at, graph_is}

nth_types : (i : ℕ) (v : Tree) (xs : List Referent) → map (λ c. c.of) (set_nth i v xs) ≡ map (λ c. c.of) xs
nth_types i v [] = refl
nth_types zero v (x ∷ xs) = refl
nth_types (suc i) v (x ∷ xs) = ap (λ u. x.of ∷ u) (nth_types i v xs)

-- the cells keep their types
pub same_types : (c : ℕ) (v : Tree) (xs : List Referent) → map (λ c. c.of) (set_cell c v xs) ≡ map (λ c. c.of) xs
same_types zero v xs = refl
same_types (suc i) v xs = nth_types i v xs

nth_same : (i : ℕ) (v : Tree) (xs : List Referent) → i < length xs → value_at (set_nth i v xs) i ≡ v
nth_same i v [] l = absurd (omega (arith, l))
nth_same zero v (x ∷ xs) l = refl
nth_same (suc i) v (x ∷ xs) l = nth_same i v xs (omega (arith, l))

nth_other : (i j : ℕ) (v : Tree) (xs : List Referent) → (j ≡ i → ⊥) → value_at (set_nth i v xs) j ≡ value_at xs j
nth_other i j v [] n = refl
nth_other zero zero v (x ∷ xs) n = absurd (n refl)
nth_other zero (suc j) v (x ∷ xs) n = refl
nth_other (suc i) zero v (x ∷ xs) n = refl
nth_other (suc i) (suc j) v (x ∷ xs) n = nth_other i j v xs (λ e. n (ap suc e))

-- the cell has the value
pub value_same : (roots : List Tree) (c : ℕ) (v : Tree) (s : Names) → 0 < c → c ≤ length s.cells → cell_at (graph_of roots (with_value c v s)) c ≡ v
value_same roots zero v s p l = absurd (omega (arith, p))
value_same roots (suc i) v s p l = nth_same i v s.cells (omega (arith, l))

-- and the others have theirs
pub value_other : (roots old : List Tree) (c d : ℕ) (v : Tree) (s : Names) → (d ≡ c → ⊥) → cell_at (graph_of roots (with_value c v s)) d ≡ cell_at (graph_of old s) d
value_other roots old c zero v s n = refl
value_other roots old zero (suc j) v s n = refl
value_other roots old (suc i) (suc j) v s n = nth_other i j v s.cells (λ e. n (ap suc e))

pub told_valued : {noted : List Item} {direct : ℕ} (order : Order) (fetched : List ℕ) (h : Home) (seen : List EntryAt) (names : Names) (cells : List ℕ) (numbers : List (ℕ × Known))
    (max_at : Option ℕ) (n : ℕ) (half : List Place)
    (c : ℕ) (v : Tree) → Told noted direct order fetched h seen names cells numbers max_at n half → Told noted direct order fetched h seen (with_value c v names) cells numbers max_at n half
told_valued order fetched h seen names cells numbers max_at n half c v t = record {
  cells_are = t.cells_are ∙ sym (same_types c v names.cells);
  cells_named = t.cells_named;
  numbers_are = t.numbers_are;
  ahead = t.ahead;
  noted_are = t.noted_are;
  lie_within = t.lie_within;
}

-- the graph in which a cell was filled
pub graph_filled : (g g' : Graph) (roots old : List Tree) (c : ℕ) (v : Tree) (types : List ℕ) (s : Names) → CellFilled roots c v types g g' → types ≡ map (λ x. x.of) s.cells
    → ((d : ℕ) → cell_at g d ≡ cell_at (graph_of old s) d) → 0 < c → c ≤ length s.cells → g' ≡ graph_of roots (with_value c v s)
graph_filled g g' roots old c v types s f t same p l =
    graph_is g' roots (with_value c v s) f.roots_are (f.types_are ∙ t ∙ sym (same_types c v s.cells)) each
  where
    by_test : (j : ℕ) (b : Bool) → eqb (suc j) c ≡ b → cell_at g' (suc j) ≡ cell_at (graph_of roots (with_value c v s)) (suc j)
    by_test j true e =
        let z : suc j ≡ c = eqb-true (suc j) c e in
        subst (λ u. cell_at g' u ≡ cell_at (graph_of roots (with_value c v s)) u) (sym z) (f.value ∙ sym (value_same roots c v s p l))
    by_test j false e =
        let n : suc j ≡ c → ⊥ = λ z. differs (suc j) c e z in
        f.others (suc j) n ∙ same (suc j) ∙ sym (value_other roots old c (suc j) v s n)
      where
        differs : (a b : ℕ) → eqb a b ≡ false → a ≡ b → ⊥
        differs a b e z = grind (arith, nat_tests)

    each : (j : ℕ) → value_at g'.cells j ≡ value_at (with_value c v s).cells j
    each j = by_test j (eqb (suc j) c) refl

-- a cell more, of a root that is a reference pointer
pub told_reference : {noted : List Item} {direct : ℕ} (order : Order) (fetched : List ℕ) (h : Home) (seen : List EntryAt) (names : Names) (cells : List ℕ) (numbers : List (ℕ × Known))
    (max_at : Option ℕ) (n : ℕ) (half : List Place)
    (to : ℕ) → Told noted direct order fetched h seen names cells numbers max_at n half → Told noted (direct + 1) order fetched h seen (with_cell to names) (cells ++ to ∷ []) numbers max_at n half
told_reference {direct = direct} order fetched h seen names cells numbers max_at n half to t = record {
  cells_are = ap (λ xs. xs ++ to ∷ []) t.cells_are ∙ sym (map-append (λ (c : Referent). c.of) names.cells (record { of = to; val = unread } ∷ []));
  cells_named = subst (λ k. HasCells seen numbers k (direct + 1)) (sym (length-append cells (to ∷ [])))
      (record {
        named = direct_seen seen (length cells) direct t.cells_named.named;
        there = all_weaker (λ (x : ℕ × Known). x.1.cell.0 ≤ length cells) (λ (x : ℕ × Known). x.1.cell.0 ≤ length cells + 1) (λ x l. omega (arith, l)) numbers t.cells_named.there;
      });
  numbers_are = t.numbers_are;
  ahead = t.ahead;
  noted_are = t.noted_are;
  lie_within = t.lie_within;
}
