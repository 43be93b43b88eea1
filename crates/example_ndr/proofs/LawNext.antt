-- The law of the next entry, and that of few items, at a ring of two nodes: their premises can be met.
use Rattle.std.proofs.Common.{◌≡◌, ℕ, ◌+◌, ◌-◌, ◌≤◌, suc, List, [], ◌∷◌, ◌++◌, length, take, refl, ap, sym, ◌∙◌, arith, subst, length-append}
use Rattle.std.specs.Prelude.{pos}
use Rattle.std.specs.List.{AllByRecursion, slice_get}
use Rattle.nd_base.specs.declared.octets.Order.{Order}
use Rattle.nd_base.specs.declared.octets.Order.TheVariants.{Little}
use Rattle.nd_types.specs.Layout.{align_of, hoists}
use Rattle.nd_types.specs.Roots.{roots_of}
use Rattle.nd_value.specs.declared.value.Graph.{Graph}
use Rattle.nd_value.specs.Conforms.{IsPartial}
use Rattle.nd_value.specs.Setting.{Setting, Among}
use Rattle.nd_value.proofs.NodeFacts.{sound_partial}
use Rattle.nd_grammar.specs.Refusal.{Bad, Accepts}
use Rattle.nd_grammar.specs.Entry.{Entry, size_at, end_to_end}
use Rattle.nd_grammar.specs.Stream.{IsRendered, Stream, representation}
use Rattle.nd_grammar.specs.Items.{item_count}
use Rattle.nd_grammar.specs.NextMark.{NextAlike, IsOneToOne, IsReadTo}
use Rattle.nd_grammar.specs.declared.reason.Reason.{Reason}
use Rattle.nd_grammar.specs.declared.reason.Reason.TheVariants as reason
use Rattle.nd_grammar.specs.ExampleParts.{pointer_to}
use Rattle.example_ndr.proofs.Check.{upto, steps_of, partial_so, stream_so, read_so}
use Rattle.example_ndr.proofs.LawRing.{ring, ring_node, ring_2, ring_2_octets, ring_conforms, ring_represented, ring_cut}
use Rattle.example_ndr.proofs.LawExamples.{ring_side}
use Rattle.nd_grammar.proofs.next.NextIndex.{next_mark}
use Rattle.nd_grammar.proofs.FewItemsLaw.{few_items}

first_of : {X : Type 0} (xs ys : List X) → take (length xs) (xs ++ ys) ≡ xs
first_of [] ys = refl
first_of (x ∷ xs) ys = ap (λ u. x ∷ u) (first_of xs ys)

as_long : (at : ℕ) (ms : List Entry) → length (end_to_end at ms) ≡ length ms
as_long at [] = refl
as_long at (m ∷ ms) = ap suc (as_long (at + size_at at m.kind) ms)

-- where octets are refused, they are read up to there
pub bad_read : (w : Setting) (order : Order) (octets : List ℕ) (place : ℕ) (why : Reason) (b : Bad w order octets place why)
    → IsReadTo order octets b.entries (length b.earlier)
bad_read w order octets place why b =
    let same : take (length b.earlier) (end_to_end 0 b.entries) ≡ b.earlier = ap (λ u. take (length b.earlier) u) b.split ∙ first_of b.earlier (b.here ∷ b.later) in
    record {
      there = omega (arith, as_long 0 b.entries, ap length b.split, length-append b.earlier (b.here ∷ b.later));
      numbering = b.numbering;
      is_numbering = b.is_numbering;
      rendered = subst (λ u. AllByRecursion (IsRendered order b.numbering octets) u) (sym same) b.rendered;
      accepted = subst (λ u. Accepts order octets [] u) (sym same) b.accepted;
    }

-- what is refused in one partial graph of the cut ring has the same next entry in each other
pub ring_next : (other : Bad ring Little (upto 6 ring_2_octets) 6 reason.Truncated)
    → length other.earlier ≡ length ring_cut.earlier
    → NextAlike (slice_get (end_to_end 0 ring_cut.entries) (length ring_cut.earlier)) (slice_get (end_to_end 0 other.entries) (length ring_cut.earlier))
ring_next other e =
    (next_mark ring ring_side Little (upto 6 ring_2_octets) ring_cut.partial other.partial (sound_partial ring ring_cut.partial ring_cut.is_partial)
    (sound_partial ring other.partial other.is_partial) ring_cut.entries other.entries ring_cut.stream other.stream (length ring_cut.earlier)
    (bad_read ring Little (upto 6 ring_2_octets) 6 reason.Truncated ring_cut)
    (subst (λ n. IsReadTo Little (upto 6 ring_2_octets) other.entries n) e (bad_read ring Little (upto 6 ring_2_octets) 6 reason.Truncated other))).0

pub ring_next_itself : NextAlike (slice_get (end_to_end 0 ring_cut.entries) (length ring_cut.earlier)) (slice_get (end_to_end 0 ring_cut.entries) (length ring_cut.earlier))
ring_next_itself = ring_next ring_cut refl

-- The ring with its cells the other way round: the first node is cell 2. Its stream has the same octets.
abbrev turned_ring : Graph
turned_ring = record { roots = pointer_to 2 ∷ []; cells = ring_node (pos 8) 2 ∷ ring_node (pos 7) 1 ∷ [] }

ring_partial : IsPartial ring ring_2
unfolding align_of hoists roots_of
ring_partial = partial_so ring ring_2 refl refl refl refl

turned_partial : IsPartial ring turned_ring
unfolding align_of hoists roots_of
turned_partial = partial_so ring turned_ring refl refl refl refl

abbrev ring_entries : List Entry
ring_entries = representation ring ring_2 (steps_of 10 ring ring_2) []

abbrev turned_entries : List Entry
turned_entries = representation ring turned_ring (steps_of 10 ring turned_ring) []

ring_stream : Stream ring ring_2 ring_entries
unfolding align_of hoists roots_of
ring_stream = stream_so ring ring_2 [] 10 refl tt

turned_stream : Stream ring turned_ring turned_entries
unfolding align_of hoists roots_of
turned_stream = stream_so ring turned_ring [] 10 refl tt

-- the entries up to the number by which the first node names the second one
ring_read : IsReadTo Little ring_2_octets ring_entries 7
unfolding align_of hoists roots_of
ring_read = read_so (λ c. c) Little ring_2_octets ring_entries 7 refl refl refl refl refl

turned_read : IsReadTo Little ring_2_octets turned_entries 7
unfolding align_of hoists roots_of
turned_read = read_so (λ c. 3 - c) Little ring_2_octets turned_entries 7 refl refl refl refl refl

-- Read up to there, the second node is named, and has not come yet: one map carries each node to the other number that it has.
pub ring_map : (cells : List (ℕ × ℕ)) × IsOneToOne cells × Among cells (1, 2) × Among cells (2, 1)
unfolding align_of hoists roots_of
ring_map =
    let (cells, one, homes, names) = (next_mark ring ring_side Little ring_2_octets ring_2 turned_ring (sound_partial ring ring_2 ring_partial)
    (sound_partial ring turned_ring turned_partial) ring_entries turned_entries ring_stream turned_stream 7 ring_read turned_read).1 in
    (cells, one, names.1.0, names.1.1.1.1.1.1.0)

-- the ring has few items
pub ring_few : item_count Little ring_2_octets ring_represented.entries + length ring_2.cells ≤ length ring_2_octets + length ring_2.roots
ring_few = few_items ring ring_side Little ring_2_octets ring_2 ring_conforms ring_represented
