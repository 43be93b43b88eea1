-- The worked examples of unions by the reader: it finds the graph of each stream, and the place and reason of each refusal.
use Rattle.std.proofs.Common.{ℕ, [], ◌∷◌, None, refl}
use Rattle.std.specs.Prelude.{pos, length}
use Rattle.nd_base.specs.declared.octets.Order.TheVariants.{Little}
use Rattle.nd_types.specs.Layout.{align_of, hoists}
use Rattle.nd_types.specs.Roots.{roots_of}
use Rattle.nd_value.specs.Tree as tree
use Rattle.nd_value.specs.Tree.{node}
use Rattle.nd_grammar.specs.declared.reason.Reason.TheVariants as reason
use Rattle.nd_grammar.specs.ExampleParts.{num, one, four}
use Rattle.example_ndr.specs.ExamplesUnions.{choice, choice_of_hyper, default_chosen, choice_octets, pipe_of_longs, three_piped, chunks_of_two, first_chunk}
use Rattle.nd_grammar.specs.StreamReader.{read_stream}
use Rattle.example_ndr.proofs.ReaderFinds.{IsFound, IsStopped}
use Rattle.example_ndr.proofs.WorkedUnions.{pipe_of_colours, pipe_of_unions, switched, switched_element, switched_graph}

pub read_default_arm : IsFound (read_stream choice_of_hyper Little choice_octets) (default_chosen (one (num (pos 1)))) (length choice_octets)
unfolding align_of hoists roots_of
read_default_arm = (refl, (refl, refl))

pub read_no_arm : IsStopped (read_stream (choice None) Little (4 ∷ 0 ∷ [])) 0 reason.NoArm
unfolding align_of hoists roots_of
read_no_arm = refl

pub read_tag_agrees : IsFound (read_stream switched Little (1 ∷ 0 ∷ 1 ∷ 0 ∷ four 5 [])) (switched_graph (pos 1) (node (tree.Union (pos 1)) (one (num (pos 5)))))
    (length {A = ℕ} (1 ∷ 0 ∷ 1 ∷ 0 ∷ four 5 []))
unfolding align_of hoists roots_of
read_tag_agrees = (refl, (refl, refl))

pub read_tag_disagrees : IsStopped (read_stream switched Little (1 ∷ 0 ∷ 2 ∷ 0 ∷ [])) 2 (reason.Disagrees (pos 1) (pos 2))
unfolding align_of hoists roots_of
read_tag_disagrees = refl

pub read_tag_missing : IsStopped (read_stream switched Little (1 ∷ 0 ∷ [])) 2 reason.Truncated
unfolding align_of hoists roots_of
read_tag_missing = refl

pub read_pipe_in_chunks : IsFound (read_stream pipe_of_longs Little chunks_of_two) three_piped (length chunks_of_two)
unfolding align_of hoists roots_of
read_pipe_in_chunks = (refl, (refl, refl))

pub read_pipe_cut : IsStopped (read_stream pipe_of_longs Little first_chunk) 16 reason.Truncated
unfolding align_of hoists roots_of
read_pipe_cut = refl

pub read_pipe_cut_at_once : IsStopped (read_stream pipe_of_longs Little (four 2 [])) 4 reason.Truncated
unfolding align_of hoists roots_of
read_pipe_cut_at_once = refl

pub read_chunk_cut : IsStopped (read_stream pipe_of_longs Little (four 2 (four 1 (four 2 (four 5 (four 3 [])))))) 20 reason.Truncated
unfolding align_of hoists roots_of
read_chunk_cut = refl

pub read_no_colour : IsStopped (read_stream pipe_of_colours Little (four 1 (1 ∷ 0 ∷ 0 ∷ 0 ∷ four 0 []))) 4 reason.EnumValue
unfolding align_of hoists roots_of
read_no_colour = refl

pub read_element_agrees : IsFound (read_stream pipe_of_unions Little (four 1 (0 ∷ 0 ∷ 9 ∷ 0 ∷ four 0 []))) (switched_element (pos 0)) (length {A = ℕ} (four 1 (0 ∷ 0 ∷ 9 ∷ 0 ∷ four 0 [])))
unfolding align_of hoists roots_of
read_element_agrees = (refl, (refl, refl))

pub read_element_disagrees : IsStopped (read_stream pipe_of_unions Little (four 1 (1 ∷ 0 ∷ 9 ∷ 0 ∷ four 0 []))) 5 (reason.Disagrees (pos 1) (pos 0))
unfolding align_of hoists roots_of
read_element_disagrees = refl
