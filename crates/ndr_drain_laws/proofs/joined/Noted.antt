-- The items of a head and of chunks, in the octets of each and in those of the whole stream.
use Rattle.std.proofs.Common.{◌≡◌, ◌≤◌, ◌∙◌, ap, ap₂, sym, subst, refl, ℕ, ◌+◌, Bool, true, false, List, [], ◌∷◌, ◌++◌, length, length-append, append_assoc, arith}
use Rattle.std.specs.Prelude.{flat_map, if◌then◌else◌}
use Rattle.std.specs.List.{AllByRecursion}
use Rattle.std.proofs.lemmas.Grind.{flat_map-append}
use Rattle.std.proofs.lemmas.List.{append-nil}
use Rattle.nd_base.specs.declared.octets.Order.{Order}
use Rattle.nd_value.specs.declared.item.Item.{Item}
use Rattle.nd_value.specs.declared.value.Graph.{Graph}
use Rattle.nd_value.specs.Canon.{target}
use Rattle.nd_value.specs.Setting.{Setting}
use Rattle.nd_grammar.specs.Entry.{EntryAt, size_at, end_to_end}
use Rattle.nd_grammar.specs.Items.{item_at, item_of, items}
use Rattle.nd_grammar.specs.NextMark.{named_cell}
use Rattle.nd_grammar.specs.Stream.{IsRendered, piece, head_entries}
use Rattle.nd_grammar.proofs.next.Spelt.{piece_left}
use Rattle.nd_grammar.specs.decoded.Verdict.{cells_named, once}
use Rattle.ndr_drain_laws.specs.parts.Parts.{AreParts, AreReadTo, Part, Spot, after, first_spot, octets_of, part_entries}
use Rattle.ndr_drain_laws.proofs.parts.Spelt.{place_after}
use Rattle.ndr_drain_laws.specs.joined.Entries.{entries_to, parts_at, parts_items}
use Rattle.ndr_decoder_laws.proofs.verdict.CellsSeen.{once_longer as once_more}

-- ## Items

both_items : (order : Order) (octets : List ℕ) (xs ys : List EntryAt) → items order octets (xs ++ ys) ≡ items order octets xs ++ items order octets ys
both_items order octets [] ys = refl
both_items order octets (x ∷ xs) ys =
    let k : List Item = item_at x (item_of order x.entry.kind (piece octets x.at x.entry.kind)) in
    ap (λ u. k ++ u) (both_items order octets xs ys) ∙ sym (append_assoc k (items order octets xs) (items order octets ys))

-- entries that are whole in a first part of the octets have the same items in it
first_items : (order : Order) (octets rest : List ℕ) (numbering : ℕ → ℕ) (xs : List EntryAt) → AllByRecursion (IsRendered order numbering octets) xs
    → items order (octets ++ rest) xs ≡ items order octets xs
first_items order octets rest numbering [] a = refl
first_items order octets rest numbering (x ∷ xs) a =
    ap₂ (λ u v. item_at x (item_of order x.entry.kind u) ++ v) (piece_left x.at (size_at x.at x.entry.kind) octets rest a.0.0) (first_items order octets rest numbering xs a.1)

module _ (w : Setting) (order : Order) where
  chunk_items : (ps : List Part) (s : Spot) (before rest : List ℕ) → length before ≡ s.place → AreParts w order s ps
      → items order ((before ++ octets_of ps) ++ rest) (parts_at w s ps) ≡ parts_items w order before s ps
  chunk_items [] s before rest e a = refl
  chunk_items (p ∷ ps) s before rest e a =
      let F : List EntryAt = end_to_end s.place (part_entries w s (length p.elements) p.elements) in
      let X : List EntryAt = parts_at w (after s p) ps in
      let next : List ℕ = before ++ p.octets in
      let z : length next ≡ (after s p).place = length-append before p.octets ∙ ap (λ n. n + length p.octets) e ∙ sym (place_after s (length p.octets) p.elements) in
      let whole : (before ++ octets_of (p ∷ ps)) ++ rest ≡ (next ++ octets_of ps) ++ rest = ap (λ u. u ++ rest) (sym (append_assoc before p.octets (octets_of ps))) in
      ap (λ os. items order os (F ++ X)) whole ∙ both_items order ((next ++ octets_of ps) ++ rest) F X
      ∙ ap₂ (λ u v. u ++ v)
      (ap (λ os. items order os F) (append_assoc next (octets_of ps) rest) ∙ first_items order next (octets_of ps ++ rest) (λ c. 0) F (a.0.spelt.rendered before (λ c. 0) e))
      (chunk_items ps (after s p) next rest z a.1)

-- the items of a head and chunks, whatever octets follow
pub items_to : (w : Setting) (order : Order) (head : List ℕ) (g : Graph) (parts : List Part) → (it : AreReadTo w order head g parts) → (octets : List ℕ)
    → items order ((head ++ octets_of parts) ++ octets) (entries_to w g it.is_head.steps head parts)
    ≡ items order head (end_to_end 0 (head_entries w g it.is_head.steps)) ++ parts_items w order head (first_spot w head) parts
items_to w order head g parts it octets =
    let H : List EntryAt = end_to_end 0 (head_entries w g it.is_head.steps) in
    let whole : List ℕ = (head ++ octets_of parts) ++ octets in
    both_items order whole H (parts_at w (first_spot w head) parts)
    ∙ ap₂ (λ u v. u ++ v)
    (ap (λ os. items order os H) (append_assoc head (octets_of parts) octets) ∙ first_items order head (octets_of parts ++ octets) it.is_head.numbering H it.is_head.rendered)
    (chunk_items w order parts (first_spot w head) head octets refl it.are_parts)

-- and with entries that follow
pub items_through : (w : Setting) (order : Order) (head : List ℕ) (g : Graph) (parts : List Part) → (it : AreReadTo w order head g parts) → (octets : List ℕ) (earlier : List EntryAt)
    → items order ((head ++ octets_of parts) ++ octets) (entries_to w g it.is_head.steps head parts ++ earlier)
    ≡ (items order head (end_to_end 0 (head_entries w g it.is_head.steps)) ++ parts_items w order head (first_spot w head) parts)
    ++ items order ((head ++ octets_of parts) ++ octets) earlier
items_through w order head g parts it octets earlier =
    let whole : List ℕ = (head ++ octets_of parts) ++ octets in
    both_items order whole (entries_to w g it.is_head.steps head parts) earlier ∙ ap (λ u. u ++ items order whole earlier) (items_to w order head g parts it octets)

-- or with nothing that follows
pub items_of_all : (w : Setting) (order : Order) (head : List ℕ) (g : Graph) (parts : List Part) → (it : AreReadTo w order head g parts)
    → items order (head ++ octets_of parts) (entries_to w g it.is_head.steps head parts)
    ≡ items order head (end_to_end 0 (head_entries w g it.is_head.steps)) ++ parts_items w order head (first_spot w head) parts
items_of_all w order head g parts it =
    ap (λ os. items order os (entries_to w g it.is_head.steps head parts)) (sym (append-nil (head ++ octets_of parts))) ∙ items_to w order head g parts it []

-- ## Cells that are named

longer : (b : Bool) (c : ℕ) (xs ys xs' ys' : List ℕ) → length xs ≤ length xs' → length ys ≤ length ys'
    → length (if b then xs else c ∷ ys) ≤ length (if b then xs' else c ∷ ys')
longer true c xs ys xs' ys' h k = h
longer false c xs ys xs' ys' h k = omega (arith, k)

-- later entries name no fewer cells
pub named_more : (xs ys : List EntryAt) → length (cells_named xs) ≤ length (cells_named (xs ++ ys))
named_more xs ys =
    let f : EntryAt → List ℕ = λ x. target (named_cell x.entry.kind) in
    subst (λ u. length (once [] (flat_map f xs)) ≤ length (once [] u)) (sym (flat_map-append f xs ys)) (once_more [] (flat_map f xs) (flat_map f ys))
