-- The law of the next entry, index by index.
use Rattle.std.proofs.Common.{◌≡◌, ℕ, ◌+◌, ◌≤◌, zero, suc, List, [], ◌∷◌, ◌++◌, length, refl, ap, sym, inl, inr, arith, subst, take, append_assoc}
use Rattle.std.specs.List.{AllByRecursion, slice_get}
use Rattle.nd_base.specs.declared.octets.Order.{Order}
use Rattle.nd_value.specs.declared.value.Graph.{Graph}
use Rattle.nd_value.specs.Setting.{Setting}
use Rattle.nd_value.specs.Conforms.{all_pointers}
use Rattle.nd_value.proofs.NodeFacts.{IsSound}
use Rattle.nd_grammar.specs.Entry.{Entry, EntryAt, size_at, end_to_end, full_cells}
use Rattle.nd_grammar.specs.LegalSide.{IsLegalSide}
use Rattle.nd_grammar.specs.NextMark.{NextAlike, IsOneToOne, AllCorrespond, AllNameAlike, IsReadTo}
use Rattle.nd_grammar.specs.Stream.{IsRendered, Stream}
use Rattle.nd_grammar.proofs.next.Next.{Pair, HomesMeet, homes_grown, Readings, Next}
use Rattle.nd_grammar.proofs.next.Spelt.{CellsIn, cells_in, all_spelt_carried, not_spelt, same_size}
use Rattle.nd_grammar.proofs.next.StreamPointers.{HasPointer, have_stream}
use Rattle.nd_grammar.proofs.next.NamedAlike.{one_map_of_all}
use Rattle.nd_grammar.proofs.next.NextStream.{IsLaidOut, AreMapped, streams_next}
use Rattle.nd_grammar.proofs.next.RefusedAlike.{SeenAlike, AllSeenAlike}
use Rattle.nd_grammar.proofs.next.Standings.{IsMap, no_pairs}
use Rattle.nd_grammar.proofs.LegalSides.{laid_out}
use Rattle.nd_grammar.proofs.OneGraph.{readings}

module _ (two : Readings) (W X : List Pair → Type 0) where
  abbrev Left : EntryAt → Type 0
  Left = IsRendered two.order two.left two.octets

  abbrev Right : EntryAt → Type 0
  Right = IsRendered two.order two.right two.octets

  -- what is known of the first i entries, whatever the map grew by, and of the next ones
  abbrev Follows : List Pair → ℕ → List Entry → List Entry → ℕ → Type 0
  Follows xs at ms ns i =
      (new : List Pair) × W (new ++ xs) × AllSeenAlike (new ++ xs) (take i (end_to_end at ms)) (take i (end_to_end at ns))
      × NextAlike (slice_get (end_to_end at ms) i) (slice_get (end_to_end at ns) i)

  pub follows : (xs : List Pair) → W xs → (at : ℕ) (ms ns : List Entry) (i : ℕ) → i ≤ length ms → i ≤ length ns → Next two W X xs at ms ns
      → AllByRecursion Left (take i (end_to_end at ms)) → AllByRecursion Right (take i (end_to_end at ns)) → Follows xs at ms ns i
  follows xs o at [] [] zero h h' k a b = ([], o, tt, tt)
  follows xs o at [] (n ∷ ns) zero h h' u a b = ([], o, tt, u)
  follows xs o at (m ∷ ms) [] zero h h' u a b = ([], o, tt, u)
  follows xs o at (m ∷ ms) (n ∷ ns) zero h h' (inl u) a b = ([], o, tt, inl u)
  follows xs o at (m ∷ ms) (n ∷ ns) zero h h' (inr (inl u)) a b = ([], o, tt, inr (inl u))
  follows xs o at (m ∷ ms) (n ∷ ns) zero h h' (inr (inr (new, one, meet, alike, k))) a b = (
    new,
    one,
    tt,
    inr (inr (record { at = refl; size = same_size at m.kind n.kind alike.1; node = alike.0; kind = alike.1 })),
  )
  follows xs o at [] ns (suc i) h h' k a b = absurd (omega arith)
  follows xs o at (m ∷ ms) [] (suc i) h h' k a b = absurd (omega arith)
  follows xs o at (m ∷ ms) (n ∷ ns) (suc i) h h' (inl u) a b = absurd (not_spelt two.order two.left two.octets at m u a.0)
  follows xs o at (m ∷ ms) (n ∷ ns) (suc i) h h' (inr (inl u)) a b = absurd (not_spelt two.order two.right two.octets at n u b.0)
  follows xs o at (m ∷ ms) (n ∷ ns) (suc i) h h' (inr (inr (new, one, meet, alike, k))) a b =
      let z : at + size_at at m.kind ≡ at + size_at at n.kind = ap (λ u. at + u) (same_size at m.kind n.kind alike.1) in
      let b' : AllByRecursion Right (take i (end_to_end (at + size_at at m.kind) ns)) = subst (λ u. AllByRecursion Right (take i (end_to_end u ns))) (sym z) b.1 in
      let (new', one', all, next) = follows (new ++ xs) one (at + size_at at m.kind) ms ns i (omega arith) (omega arith) (k a.0 b.0) a.1 b' in
      let e : new' ++ (new ++ xs) ≡ (new' ++ new) ++ xs = sym (append_assoc new' new xs) in
      let F : ℕ → Type 0 = λ u.
      W ((new' ++ new) ++ xs)
      × (SeenAlike ((new' ++ new) ++ xs) (record { at = at; entry = m }) (record { at = at; entry = n })
      × AllSeenAlike ((new' ++ new) ++ xs) (take i (end_to_end (at + size_at at m.kind) ms)) (take i (end_to_end u ns)))
      × NextAlike (slice_get (end_to_end (at + size_at at m.kind) ms) i) (slice_get (end_to_end u ns) i) in
      let f : F (at + size_at at n.kind) = subst F z (
        subst W e one',
        (
          record { at = refl; alike = alike; homes = subst (λ u. HomesMeet u m.home n.home) e (homes_grown new' (new ++ xs) m.home n.home meet) },
          subst (λ u. AllSeenAlike u (take i (end_to_end (at + size_at at m.kind) ms)) (take i (end_to_end (at + size_at at m.kind) ns))) e all,
        ),
        next,
      ) in
      (new' ++ new, f.0, f.1, f.2)

all_take : {X : Type 0} (P : X → Type 0) (n : ℕ) (xs : List X) → AllByRecursion P xs → AllByRecursion P (take n xs)
all_take P zero xs a = tt
all_take P (suc n) [] a = tt
all_take P (suc n) (x ∷ xs) a = (a.0, all_take P n xs a.1)

all_at : (P : Entry → Type 0) (at : ℕ) (ms : List Entry) → AllByRecursion P ms → AllByRecursion (λ x. P x.entry) (end_to_end at ms)
all_at P at [] a = tt
all_at P at (m ∷ ms) a = (a.0, all_at P (at + size_at at m.kind) ms a.1)

-- Two streams of sound graphs of a legal side, each spelt by the same octets for i entries: their next entries agree, and a one-to-one
-- map of cells carries the homes of the i entries of one, and the cells that their numbers name, to those of the other.
pub next_mark : (w : Setting) → IsLegalSide w → (order : Order) (octets : List ℕ) (g h : Graph) → IsSound w g → IsSound w h
    → (ms ns : List Entry) → Stream w g ms → Stream w h ns → (i : ℕ) → IsReadTo order octets ms i → IsReadTo order octets ns i
    → NextAlike (slice_get (end_to_end 0 ms) i) (slice_get (end_to_end 0 ns) i)
    × ((cells : List (ℕ × ℕ)) × IsOneToOne cells × AllCorrespond cells (take i (end_to_end 0 ms)) (take i (end_to_end 0 ns))
    × AllNameAlike cells (take i (end_to_end 0 ms)) (take i (end_to_end 0 ns)))
next_mark w side order octets g h s s' ms ns a b i r r' =
    let laid : IsLaidOut w = laid_out w side in
    let two : Readings = readings order octets r.numbering (full_cells ms) r.is_numbering r'.numbering (full_cells ns) r'.is_numbering in
    let left = all_spelt_carried order octets r.numbering (full_cells ms) (take i (end_to_end 0 ms))
    (all_take (CellsIn (full_cells ms)) i (end_to_end 0 ms) (cells_in 0 ms (full_cells ms) (λ d m. m))) r.rendered in
    let right = all_spelt_carried order octets r'.numbering (full_cells ns) (take i (end_to_end 0 ns))
    (all_take (CellsIn (full_cells ns)) i (end_to_end 0 ns) (cells_in 0 ns (full_cells ns) (λ d m. m))) r'.rendered in
    let (new, one, all, next) = follows two (IsMap two w g h) (AreMapped two w g h) [] (no_pairs two w g h) 0 ms ns i r.there r'.there
    (streams_next two w g h s s' laid ms ns a b) left right in (
      next,
      one_map_of_all two w g h s s' (new ++ []) one (take i (end_to_end 0 ms)) (take i (end_to_end 0 ns)) all left right
          (all_take (λ x. HasPointer (all_pointers w g) x.entry) i (end_to_end 0 ms) (all_at (HasPointer (all_pointers w g)) 0 ms (have_stream w g s laid ms a)))
          (all_take (λ x. HasPointer (all_pointers w h) x.entry) i (end_to_end 0 ns) (all_at (HasPointer (all_pointers w h)) 0 ns (have_stream w h s' laid ns b))),
    )
