-- Chunks, one after the other, are spelt by their octets; and no entry of them names a cell.
use Rattle.std.proofs.Common.{◌≡◌, ◌∙◌, ap, ap₂, sym, subst, refl, ℕ, ◌+◌, List, [], ◌∷◌, ◌++◌, length, length-append, append_assoc, Some, None, arith}
use Rattle.std.specs.List.{AllByRecursion}
use Rattle.nd_base.specs.declared.octets.Order.{Order}
use Rattle.nd_types.specs.declared.types.Class.TheVariants.{Ref, Unique, Full}
use Rattle.nd_value.specs.Setting.{Setting}
use Rattle.nd_value.specs.Tree.{Tree}
use Rattle.nd_value.proofs.Apart.{all_append}
use Rattle.nd_grammar.specs.Entry.{Kind, Entry, EntryAt, Number, size_at, end_to_end, end_of, full_cell, full_cells}
use Rattle.nd_grammar.specs.Stream.{IsRendered, Spells, piece}
use Rattle.nd_grammar.proofs.next.Spelt.{spelt_in_more}
use Rattle.ndr_drain_laws.specs.parts.Parts.{Part, Spot, AreParts, after, octets_of, part_entries, spot_after}
use Rattle.ndr_drain_laws.proofs.parts.Chunks.{parts_entries}

pub end_append : (at : ℕ) (ms ns : List Entry) → end_of at (ms ++ ns) ≡ end_of (end_of at ms) ns
end_append at [] ns = refl
end_append at (m ∷ ms) ns = end_append (at + size_at at m.kind) ms ns

pub ends_append : (at : ℕ) (ms ns : List Entry) → end_to_end at (ms ++ ns) ≡ end_to_end at ms ++ end_to_end (end_of at ms) ns
ends_append at [] ns = refl
ends_append at (m ∷ ms) ns = ap (λ u. record { at = at; entry = m } ∷ u) (ends_append (at + size_at at m.kind) ms ns)

pub full_append : (ms ns : List Entry) → full_cells (ms ++ ns) ≡ full_cells ms ++ full_cells ns
full_append [] ns = refl
full_append (m ∷ ms) ns = ap (λ u. full_cell m.kind ++ u) (full_append ms ns) ∙ sym (append_assoc (full_cell m.kind) (full_cells ms) (full_cells ns))

-- an entry that is spelt however full pointers are numbered names no cell
no_cell : (order : Order) (k : Kind) (os : List ℕ) → Spells order (λ c. 0) k os → Spells order (λ c. 1) k os → full_cell k ≡ []
no_cell order (Number Full to (Some c)) os a b = let e : 0 ≡ 1 = sym a ∙ b in absurd (omega (arith, e))
no_cell order (Number Full to None) os a b = refl
no_cell order (Number Ref to c) os a b = refl
no_cell order (Number Unique to c) os a b = refl
no_cell order _ os a b = refl

pub no_cells : (order : Order) (octets : List ℕ) (at : ℕ) (ms : List Entry) → AllByRecursion (IsRendered order (λ c. 0) octets) (end_to_end at ms)
    → AllByRecursion (IsRendered order (λ c. 1) octets) (end_to_end at ms) → full_cells ms ≡ []
no_cells order octets at [] a b = refl
no_cells order octets at (m ∷ ms) a b =
    ap₂ (λ x y. x ++ y) (no_cell order m.kind (piece octets at m.kind) a.0.1 b.0.1) (no_cells order octets (at + size_at at m.kind) ms a.1 b.1)

pub place_after : (s : Spot) (n : ℕ) (els : List Tree) → (spot_after s n els).place ≡ s.place + n
place_after s n [] = refl
place_after s n (u ∷ us) = refl

-- What is spelt of entries, and then of others, is spelt of all.
pub both_spelt : (order : Order) (numbering : ℕ → ℕ) (octets rest : List ℕ) (at next : ℕ) (ms ns : List Entry) → end_of at ms ≡ next
    → AllByRecursion (IsRendered order numbering octets) (end_to_end at ms) → AllByRecursion (IsRendered order numbering (octets ++ rest)) (end_to_end next ns)
    → AllByRecursion (IsRendered order numbering (octets ++ rest)) (end_to_end at (ms ++ ns))
both_spelt order numbering octets rest at next ms ns e a b =
    let R : EntryAt → Type 0 = IsRendered order numbering (octets ++ rest) in
    subst (AllByRecursion R) (sym (ends_append at ms ns))
    (all_append R (end_to_end at ms) (end_to_end (end_of at ms) ns) (spelt_in_more order numbering octets rest (end_to_end at ms) a)
    (subst (λ k. AllByRecursion R (end_to_end k ns)) (sym e) b))

pub record AreAllSpelt (w : Setting) (order : Order) (s : Spot) (ps : List Part) : Type 0 where
  pub rendered : (before : List ℕ) (numbering : ℕ → ℕ) → length before ≡ s.place
      → AllByRecursion (IsRendered order numbering (before ++ octets_of ps)) (end_to_end s.place (parts_entries w s ps))
  pub whole : end_of s.place (parts_entries w s ps) ≡ s.place + length (octets_of ps)

pub all_spelt : (w : Setting) (order : Order) (ps : List Part) (s : Spot) → AreParts w order s ps → AreAllSpelt w order s ps
all_spelt w order [] s a = record { rendered = λ before numbering e. tt; whole = omega arith }
all_spelt w order (p ∷ ps) s a =
    let A : List Entry = part_entries w s (length p.elements) p.elements in
    let B : List Entry = parts_entries w (after s p) ps in
    let t : AreAllSpelt w order (after s p) ps = all_spelt w order ps (after s p) a.1 in
    let z : (after s p).place ≡ s.place + length p.octets = place_after s (length p.octets) p.elements in
    let y : end_of s.place A ≡ (after s p).place = a.0.spelt.whole ∙ sym z in
    let l : length (p.octets ++ octets_of ps) ≡ length p.octets + length (octets_of ps) = length-append p.octets (octets_of ps) in
    record {
      rendered = λ before numbering e.
          (let k : length (before ++ p.octets) ≡ (after s p).place = length-append before p.octets ∙ ap (λ n. n + length p.octets) e ∙ sym z in
          subst (λ os. AllByRecursion (IsRendered order numbering os) (end_to_end s.place (A ++ B))) (append_assoc before p.octets (octets_of ps))
          (both_spelt order numbering (before ++ p.octets) (octets_of ps) s.place (after s p).place A B y (a.0.spelt.rendered before numbering e) (t.rendered (before ++ p.octets) numbering k)));
      whole = end_append s.place A B ∙ ap (λ k. end_of k B) y ∙ t.whole ∙ omega (arith, z, l);
    }
