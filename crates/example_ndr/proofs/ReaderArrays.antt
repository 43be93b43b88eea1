-- The worked examples of arrays by the reader: it finds the graph of each stream, and the place and reason of each refusal.
use Rattle.std.proofs.Common.{ℕ, [], ◌∷◌, refl}
use Rattle.std.specs.Prelude.{pos, take, drop, length}
use Rattle.nd_base.specs.declared.octets.Order.TheVariants.{Little}
use Rattle.nd_types.specs.Layout.{align_of, hoists}
use Rattle.nd_types.specs.Roots.{roots_of}
use Rattle.nd_grammar.specs.declared.reason.Reason.TheVariants as reason
use Rattle.nd_grammar.specs.ExampleParts.{four}
use Rattle.example_ndr.specs.ExamplesArrays.{sized, sized_graph, sized_octets, nested, nested_graph, nested_octets}
use Rattle.nd_grammar.specs.StreamReader.{read_stream}
use Rattle.example_ndr.proofs.ReaderFinds.{IsFound, IsStopped}
use Rattle.example_ndr.proofs.WorkedArrays.{sliced, text, text_graph, text_octets, varying, varying_graph, varying_octets}

pub read_count_in_front : IsFound (read_stream sized Little (sized_octets 2)) (sized_graph (pos 2)) (length {A = ℕ} (sized_octets 2))
unfolding align_of hoists roots_of
read_count_in_front = (refl, (refl, refl))

pub read_size_disagrees : IsStopped (read_stream sized Little (sized_octets 3)) 0 (reason.Disagrees (pos 3) (pos 2))
unfolding align_of hoists roots_of
read_size_disagrees = refl

pub read_cut_behind_first : IsStopped (read_stream sized Little (5 ∷ take 23 (drop 1 (sized_octets 2)))) 24 reason.Truncated
unfolding align_of hoists roots_of
read_cut_behind_first = refl

pub read_count_through_structs : IsFound (read_stream nested Little nested_octets) nested_graph (length nested_octets)
unfolding align_of hoists roots_of
read_count_through_structs = (refl, (refl, refl))

pub read_actual_count : IsFound (read_stream varying Little (varying_octets 2 2)) (varying_graph (pos 2)) (length {A = ℕ} (varying_octets 2 2))
unfolding align_of hoists roots_of
read_actual_count = (refl, (refl, refl))

pub read_past_bound : IsStopped (read_stream varying Little (varying_octets 2 5)) 8 reason.PastBound
unfolding align_of hoists roots_of
read_past_bound = refl

pub read_length_disagrees : IsStopped (read_stream varying Little (varying_octets 3 2)) 8 (reason.Disagrees (pos 3) (pos 2))
unfolding align_of hoists roots_of
read_length_disagrees = refl

pub read_offset_past_maximum : IsStopped (read_stream sliced Little (four 5 (0xFF ∷ 0xFF ∷ 0xFF ∷ 0xFF ∷ four 1 []))) 8 reason.PastBound
unfolding align_of hoists roots_of
read_offset_past_maximum = refl

pub read_text_hi : IsFound (read_stream text Little (text_octets 0 3 (104 ∷ 105 ∷ 0 ∷ []))) (text_graph 3 (104 ∷ 105 ∷ [])) (length {A = ℕ} (text_octets 0 3 (104 ∷ 105 ∷ 0 ∷ [])))
unfolding align_of hoists roots_of
read_text_hi = (refl, (refl, refl))

pub read_text_unended : IsStopped (read_stream text Little (text_octets 0 2 (104 ∷ 105 ∷ []))) 13 reason.TextUnended
unfolding align_of hoists roots_of
read_text_unended = refl

pub read_text_empty : IsStopped (read_stream text Little (text_octets 0 0 [])) 8 reason.TextEmpty
unfolding align_of hoists roots_of
read_text_empty = refl

pub read_text_offset : IsStopped (read_stream text Little (four 3 (four 1 []))) 4 reason.TextOffset
unfolding align_of hoists roots_of
read_text_offset = refl

pub read_text_zero : IsStopped (read_stream text Little (text_octets 0 3 (104 ∷ 0 ∷ 0 ∷ []))) 13 reason.TextZero
unfolding align_of hoists roots_of
read_text_zero = refl

pub read_text_past_bound : IsStopped (read_stream text Little (four 1 (four 0 (0xFF ∷ 0xFF ∷ 0xFF ∷ 0xFF ∷ [])))) 8 reason.PastBound
unfolding align_of hoists roots_of
read_text_past_bound = refl
