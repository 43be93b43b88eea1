-- The laws on refusals and on agreements at a struct that ends with a conformant array whose count disagrees, and the law on the order
-- of cells at the ring.
use Rattle.std.proofs.Common.{◌≡◌, ℕ, List, [], ◌∷◌, ◌++◌, refl, inl, Some, None}
use Rattle.std.specs.Prelude.{pos}
use Rattle.nd_base.specs.declared.octets.Order.TheVariants.{Little}
use Rattle.nd_types.specs.declared.types.Attr.TheVariants as attr
use Rattle.nd_types.specs.declared.types.Side.TheVariants as side
use Rattle.nd_types.specs.declared.types.Way.TheVariants as way
use Rattle.nd_types.specs.Layout.{align_of, hoists}
use Rattle.nd_types.specs.Roots.{roots_of}
use Rattle.nd_types.proofs.LegalExamples.{sums, sums_are_legal, operation, param, taking}
use Rattle.nd_value.specs.declared.value.Graph.{Graph}
use Rattle.nd_value.specs.Canon.{canonical_number, named_cells}
use Rattle.nd_value.specs.Conforms.{Conforms, IsPartial}
use Rattle.nd_value.specs.Setting.{Setting, Among, cell_home}
use Rattle.nd_value.proofs.NodeFacts.{sound_conforming, sound_partial}
use Rattle.nd_grammar.specs.declared.reason.Reason.TheVariants as reason
use Rattle.nd_grammar.specs.Refusal.{Bad, tested_at}
use Rattle.nd_grammar.specs.Entry.{Entry, EntryAt, end_to_end}
use Rattle.nd_grammar.specs.LegalSide.{IsLegalSide}
use Rattle.nd_grammar.specs.NextMark.{cells_met}
use Rattle.nd_grammar.specs.Stream.{Represents, Stream, representation}
use Rattle.nd_grammar.specs.Tested.{IsSpokenOf}
use Rattle.nd_grammar.proofs.agreements.TestedAt.{test_finds}
use Rattle.nd_grammar.proofs.NamedOrder.{named_in_order}
use Rattle.nd_grammar.proofs.StaysBad.{stays_bad, none_begins_so}
use Rattle.example_ndr.specs.ExamplesArrays.{sized_graph, sized_octets}
use Rattle.example_ndr.proofs.Check.{bad_so, from, partial_so, steps_of, stream_so, upto}
use Rattle.example_ndr.proofs.LawExamples.{ring_side}
use Rattle.example_ndr.proofs.LawRing.{ring, ring_2, ring_conforms, ring_represented}

-- struct s { short n; [size_is(n)] hyper a[*]; }, by a reference pointer, under a legal table
abbrev sized : Setting
sized = record { table = sums; op = operation (param way.In 14 [] ∷ []) None; side = side.In; given = None }

sized_side : IsLegalSide sized
sized_side = record { operations = taking way.In 14 []; legal = sums_are_legal; operation = inl refl }

-- three are stated of two elements
abbrev three_stated : Graph
three_stated = sized_graph (pos 3)

abbrev entries : List Entry
entries = representation sized three_stated (steps_of 20 sized three_stated) []

three_partial : IsPartial sized three_stated
unfolding align_of hoists roots_of
three_partial = partial_so sized three_stated refl refl refl refl

three_stream : Stream sized three_stated entries
unfolding align_of hoists roots_of
three_stream = stream_so sized three_stated [] 20 refl tt

three_refused : Bad sized Little (sized_octets 3) 0 (reason.Disagrees (pos 3) (pos 2))
unfolding align_of hoists roots_of
three_refused = bad_so sized Little (sized_octets 3) 0 (reason.Disagrees (pos 3) (pos 2)) three_stated [] 20 9 _ _ three_partial refl tt refl refl refl refl refl

-- the agreement finds the maximum count, which is the second of the nine entries before it
pub size_found : (x : EntryAt) × Among (upto 9 (end_to_end 0 entries)) x × IsSpokenOf attr.Size (cell_home 1) 2 (pos 2) x
    × (tested_at (upto 9 (end_to_end 0 entries)) attr.Size (cell_home 1) 2 ≡ Some x.at)
unfolding align_of hoists roots_of
size_found =
    test_finds sized sized_side three_stated (sound_partial sized three_stated three_partial) entries three_stream (upto 9 (end_to_end 0 entries)) _ (from 10 (end_to_end 0 entries)) refl
    ((λ e. cc), ((λ e. cc), ((λ e. cc), ((λ e. cc), ((λ e. cc), ((λ e. cc), ((λ e. cc), ((λ e. cc), ((λ e. cc), tt))))))))) attr.Size (pos 3) (pos 2) refl

not_cut : reason.Disagrees (pos 3) (pos 2) ≡ reason.Truncated → ⊥
not_cut e = cc

-- what follows changes nothing
pub size_refused_again : (more : List ℕ) → Bad sized Little (sized_octets 3 ++ more) 0 (reason.Disagrees (pos 3) (pos 2))
size_refused_again more = stays_bad sized Little (sized_octets 3) more 0 (reason.Disagrees (pos 3) (pos 2)) three_refused not_cut

pub size_never_right : (more : List ℕ) (g : Graph) → Conforms sized g → Represents sized Little (sized_octets 3 ++ more) g → ⊥
size_never_right more g c r = none_begins_so sized sized_side Little (sized_octets 3) more 0 (reason.Disagrees (pos 3) (pos 2)) three_refused not_cut g c r

-- the nodes of the ring have one number by both orders
pub ring_numbered : (c : ℕ) → canonical_number (named_cells ring ring_2 ring_represented.stream.steps) c ≡ canonical_number (cells_met ring_represented.entries) c
ring_numbered c = named_in_order ring ring_side ring_2 (sound_conforming ring ring_2 ring_conforms) ring_represented.entries ring_represented.stream c
