-- The worked examples of plain by the reader: it finds the graph of each stream, and the place and reason of each refusal.
use Rattle.std.proofs.Common.{ℕ, [], ◌∷◌, refl}
use Rattle.nd_base.specs.declared.octets.Order.TheVariants.{Big, Little}
use Rattle.nd_types.specs.Layout.{align_of, hoists}
use Rattle.nd_types.specs.Roots.{roots_of}
use Rattle.nd_grammar.specs.declared.reason.Reason.TheVariants as reason
use Rattle.nd_grammar.specs.ExampleParts.{request}
use Rattle.example_ndr.specs.ExamplesPlain.{integers, one_two_three, integers_little, integers_big, cut_in_hyper, cut_in_gap, flag, true_flag, colour, colour_4, handle, a_handle, handle_little}
use Rattle.example_ndr.specs.ExamplesPlain.{handle_big}
use Rattle.std.specs.Prelude.{length}
use Rattle.nd_grammar.specs.StreamReader.{read_stream}
use Rattle.example_ndr.proofs.ReaderFinds.{IsFound, IsStopped}
use Rattle.example_ndr.proofs.WorkedPlain.{nothing}

pub read_three_integers : IsFound (read_stream integers Little integers_little) one_two_three (length integers_little)
unfolding align_of hoists roots_of
read_three_integers = (refl, (refl, refl))

pub read_three_integers_big : IsFound (read_stream integers Big integers_big) one_two_three (length integers_big)
unfolding align_of hoists roots_of
read_three_integers_big = (refl, (refl, refl))

pub read_no_parameters : IsFound (read_stream (request [] []) Little []) nothing 0
unfolding align_of hoists roots_of
read_no_parameters = (refl, (refl, refl))

pub read_cut_number : IsStopped (read_stream integers Little cut_in_hyper) 9 reason.Truncated
unfolding align_of hoists roots_of
read_cut_number = refl

pub read_cut_gap : IsStopped (read_stream integers Little cut_in_gap) 7 reason.Truncated
unfolding align_of hoists roots_of
read_cut_gap = refl

pub read_cut_first : IsStopped (read_stream integers Little (1 ∷ 0 ∷ 0 ∷ [])) 3 reason.Truncated
unfolding align_of hoists roots_of
read_cut_first = refl

pub read_any_truth : IsFound (read_stream flag Little (0xFF ∷ [])) true_flag (length {A = ℕ} (0xFF ∷ []))
unfolding align_of hoists roots_of
read_any_truth = (refl, (refl, refl))

pub read_enumerated : IsFound (read_stream colour Little (4 ∷ 0 ∷ [])) colour_4 (length {A = ℕ} (4 ∷ 0 ∷ []))
unfolding align_of hoists roots_of
read_enumerated = (refl, (refl, refl))

pub read_no_enumerator : IsStopped (read_stream colour Little (1 ∷ 0 ∷ [])) 0 reason.EnumValue
unfolding align_of hoists roots_of
read_no_enumerator = refl

pub read_handle_in_little : IsFound (read_stream handle Little handle_little) a_handle (length handle_little)
unfolding align_of hoists roots_of
read_handle_in_little = (refl, (refl, refl))

pub read_handle_in_big : IsFound (read_stream handle Big handle_big) a_handle (length handle_big)
unfolding align_of hoists roots_of
read_handle_in_big = (refl, (refl, refl))
