-- The worked examples of pointers by the reader: it finds the graph of each stream, and the place and reason of each refusal.
use Rattle.std.proofs.Common.{ℕ, [], ◌∷◌, refl}
use Rattle.std.specs.Prelude.{pos, length}
use Rattle.nd_base.specs.declared.octets.Order.TheVariants.{Little}
use Rattle.nd_types.specs.Layout.{align_of, hoists}
use Rattle.nd_types.specs.Roots.{roots_of}
use Rattle.nd_grammar.specs.declared.reason.Reason.TheVariants as reason
use Rattle.example_ndr.specs.Examples.{ring, ring_of_one, ring_of_two}
use Rattle.nd_grammar.specs.ExampleParts.{four}
use Rattle.example_ndr.specs.ExamplesPointers.{pairs, shared_leaf, shared_leaf_octets, null_y, null_y_octets, unique_longs, two_fives, shared_five, full_longs, long_and_short, one_five_one}
use Rattle.nd_grammar.specs.StreamReader.{read_stream}
use Rattle.example_ndr.proofs.ReaderFinds.{IsFound, IsStopped}
use Rattle.example_ndr.proofs.WorkedPointers.{open_chain, other_octets, ring_octets, sized_twice}

pub read_ring_to_itself : IsFound (read_stream ring Little (four 1 (four 7 (four 1 [])))) ring_of_one (length {A = ℕ} (four 1 (four 7 (four 1 []))))
unfolding align_of hoists roots_of
read_ring_to_itself = (refl, (refl, refl))

pub read_ring_of_two_nodes : IsFound (read_stream ring Little ring_octets) ring_of_two (length ring_octets)
unfolding align_of hoists roots_of
read_ring_of_two_nodes = (refl, (refl, refl))

pub read_ring_by_other_numbers : IsFound (read_stream ring Little other_octets) ring_of_two (length other_octets)
unfolding align_of hoists roots_of
read_ring_by_other_numbers = (refl, (refl, refl))

pub read_chain_of_two : IsFound (read_stream ring Little (four 1 (four 7 (four 2 (four 8 (four 0 [])))))) open_chain (length {A = ℕ} (four 1 (four 7 (four 2 (four 8 (four 0 []))))))
unfolding align_of hoists roots_of
read_chain_of_two = (refl, (refl, refl))

pub read_ring_cut_6 : IsStopped (read_stream ring Little (four 1 (7 ∷ 0 ∷ []))) 6 reason.Truncated
unfolding align_of hoists roots_of
read_ring_cut_6 = refl

pub read_ring_cut_12 : IsStopped (read_stream ring Little (four 1 (four 7 (four 2 [])))) 12 reason.Truncated
unfolding align_of hoists roots_of
read_ring_cut_12 = refl

pub read_first_of_deferral : IsFound (read_stream pairs Little shared_leaf_octets) shared_leaf (length shared_leaf_octets)
unfolding align_of hoists roots_of
read_first_of_deferral = (refl, (refl, refl))

pub read_null_before : IsFound (read_stream pairs Little null_y_octets) null_y (length null_y_octets)
unfolding align_of hoists roots_of
read_null_before = (refl, (refl, refl))

pub read_unique_apart : IsFound (read_stream unique_longs Little (four 1 (four 5 (four 1 (four 5 []))))) two_fives (length {A = ℕ} (four 1 (four 5 (four 1 (four 5 [])))))
unfolding align_of hoists roots_of
read_unique_apart = (refl, (refl, refl))

pub read_full_shared : IsFound (read_stream full_longs Little one_five_one) shared_five (length one_five_one)
unfolding align_of hoists roots_of
read_full_shared = (refl, (refl, refl))

pub read_other_referent_type : IsStopped (read_stream long_and_short Little one_five_one) 8 reason.OtherType
unfolding align_of hoists roots_of
read_other_referent_type = refl

pub read_later_disagrees : IsStopped (read_stream sized_twice Little (four 1 (four 1 (four 2 (four 1 (four 1 (four 5 []))))))) 16 (reason.Disagrees (pos 2) (pos 1))
unfolding align_of hoists roots_of
read_later_disagrees = refl
