-- Octets represent one conforming graph alone, up to the numbers of its cells.
use Rattle.std.proofs.Common.{◌≡◌, ℕ, ◌<◌, ◌≤◌, List, [], ◌++◌, length, sym, ◌∙◌, arith, length-append}
use Rattle.std.specs.List.{AllByRecursion}
use Rattle.nd_base.specs.declared.octets.Order.{Order}
use Rattle.nd_value.specs.declared.value.Graph.{Graph}
use Rattle.nd_value.specs.Setting.{Setting}
use Rattle.nd_value.specs.Conforms.{Conforms, Reached}
use Rattle.nd_value.specs.Canon.{Same}
use Rattle.nd_value.proofs.NodeFacts.{IsSound, sound_conforming}
use Rattle.nd_grammar.specs.Entry.{Entry, end_to_end, end_of, full_cells}
use Rattle.nd_grammar.specs.Stream.{Stream, Represents, IsRendered, IsNumbering}
use Rattle.nd_grammar.specs.LegalSide.{IsLegalSide}
use Rattle.nd_grammar.proofs.next.Next.{Readings}
use Rattle.nd_grammar.proofs.next.Standings.{IsMap}
use Rattle.nd_grammar.proofs.next.NextStream.{IsLaidOut, AreMapped, streams_next}
use Rattle.nd_grammar.proofs.LegalSides.{laid_out}
use Rattle.nd_grammar.proofs.next.Spelt.{carried_on, carried_low, carried_one, cells_in, all_spelt_carried, spelt_whole, spelt_in_more}
use Rattle.nd_grammar.proofs.next.SameByMap.{same_by_map}
use Rattle.nd_lemmas.proofs.Lists.{none_of_none as none_longer}

-- two readings of the same octets, their numberings carried on to all cells
abbrev pub readings : Order → List ℕ → (nums : ℕ → ℕ) (cells : List ℕ) → IsNumbering nums cells → (nums' : ℕ → ℕ) (cells' : List ℕ) → IsNumbering nums' cells' → Readings
readings order octets nums cells is nums' cells' is' = record {
  order = order;
  octets = octets;
  left = carried_on nums cells;
  right = carried_on nums' cells';
  left_low = carried_low nums cells is;
  right_low = carried_low nums' cells' is';
  left_one = carried_one nums cells is;
  right_one = carried_one nums' cells' is';
}

reached_cell : (w : Setting) (g : Graph) → Conforms w g → (c : ℕ) → 0 < c → c ≤ length g.cells → Reached w g c
reached_cell w g k c a b = k.reached c a (omega arith)

-- octets are a stream of a graph, within the limit of a stream or past it
pub record IsSpelled (w : Setting) (order : Order) (octets : List ℕ) (g : Graph) : Type 0 where
  pub entries : List Entry
  pub stream : Stream w g entries
  pub numbering : ℕ → ℕ
  pub is_numbering : IsNumbering numbering (full_cells entries)
  pub rendered : AllByRecursion (IsRendered order numbering octets) (end_to_end 0 entries)
  pub whole : end_of 0 entries ≡ length octets

spelled : (w : Setting) (order : Order) (octets : List ℕ) (g : Graph) → Represents w order octets g → IsSpelled w order octets g
spelled w order octets g r =
    record { entries = r.entries; stream = r.stream; numbering = r.numbering; is_numbering = r.is_numbering; rendered = r.rendered; whole = r.whole }

-- Where octets are a stream of a conforming graph and a first part of them is one of another, the part is the whole, and the two graphs
-- are the same.
pub one_spelled : (w : Setting) → IsLegalSide w → (order : Order) (octets rest : List ℕ) (g h : Graph) → Conforms w g → Conforms w h
    → IsSpelled w order (octets ++ rest) g → IsSpelled w order octets h → (rest ≡ []) × Same g h
one_spelled w side order octets rest g h c c' r r' =
    let laid : IsLaidOut w = laid_out w side in
    let s : IsSound w g = sound_conforming w g c in
    let s' : IsSound w h = sound_conforming w h c' in
    let cells : List ℕ = full_cells r.entries in
    let cells' : List ℕ = full_cells r'.entries in
    let two : Readings = readings order (octets ++ rest) r.numbering cells r.is_numbering r'.numbering cells' r'.is_numbering in
    let a : AllByRecursion (IsRendered order (carried_on r.numbering cells) (octets ++ rest)) (end_to_end 0 r.entries) =
    all_spelt_carried order (octets ++ rest) r.numbering cells (end_to_end 0 r.entries) (cells_in 0 r.entries cells (λ d m. m)) r.rendered in
    let b : AllByRecursion (IsRendered order (carried_on r'.numbering cells') (octets ++ rest)) (end_to_end 0 r'.entries) =
    all_spelt_carried order (octets ++ rest) r'.numbering cells' (end_to_end 0 r'.entries) (cells_in 0 r'.entries cells' (λ d m. m))
    (spelt_in_more order r'.numbering octets rest (end_to_end 0 r'.entries) r'.rendered) in
    let (ys, one, mapped, e) = spelt_whole two (IsMap two w g h) (AreMapped two w g h) [] 0 r.entries r'.entries
    (streams_next two w g h s s' laid r.entries r'.entries r.stream r'.stream) a b in
    let l : length (octets ++ rest) ≡ length octets = sym r.whole ∙ e ∙ r'.whole in
    let z : length rest ≡ 0 = omega (arith, length-append octets rest) in
    (none_longer rest z, same_by_map two w g h laid s s' ys mapped (reached_cell w g c) (reached_cell w h c'))

pub one_graph : (w : Setting) → IsLegalSide w → (order : Order) (octets rest : List ℕ) (g h : Graph) → Conforms w g → Conforms w h
    → Represents w order (octets ++ rest) g → Represents w order octets h → (rest ≡ []) × Same g h
one_graph w side order octets rest g h c c' r r' = one_spelled w side order octets rest g h c c' (spelled w order (octets ++ rest) g r) (spelled w order octets h r')
