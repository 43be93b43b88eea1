-- The worked examples of responses by the reader: it finds the graph of each stream, and the place and reason of each refusal.
use Rattle.std.proofs.Common.{ℕ, [], ◌∷◌, Some, None, refl}
use Rattle.std.specs.Prelude.{pos, length}
use Rattle.nd_base.specs.declared.octets.Order.TheVariants.{Little}
use Rattle.nd_types.specs.Layout.{align_of, hoists}
use Rattle.nd_types.specs.Roots.{roots_of}
use Rattle.nd_grammar.specs.declared.reason.Reason.TheVariants as reason
use Rattle.nd_grammar.specs.ExampleParts.{four}
use Rattle.nd_grammar.specs.StreamReader.{read_stream}
use Rattle.example_ndr.proofs.ReaderFinds.{IsFound, IsStopped}
use Rattle.example_ndr.proofs.WorkedResponses.{asked, asked_5, one_back, sized_back, sized_by_own, two_back}

pub read_size_free : IsFound (read_stream (sized_back None) Little (four 2 (0xAB ∷ 0xCD ∷ []))) two_back (length {A = ℕ} (four 2 (0xAB ∷ 0xCD ∷ [])))
unfolding align_of hoists roots_of
read_size_free = (refl, (refl, refl))

pub read_size_given : IsFound (read_stream (sized_back (Some (asked (pos 2)))) Little (four 2 (0xAB ∷ 0xCD ∷ []))) two_back (length {A = ℕ} (four 2 (0xAB ∷ 0xCD ∷ [])))
unfolding align_of hoists roots_of
read_size_given = (refl, (refl, refl))

pub read_size_not_given : IsStopped (read_stream (sized_back (Some (asked (pos 3)))) Little (four 2 (0xAB ∷ 0xCD ∷ []))) 0 (reason.Disagrees (pos 3) (pos 2))
unfolding align_of hoists roots_of
read_size_not_given = refl

pub read_own_number_counts : IsFound (read_stream (sized_by_own (Some asked_5)) Little (four 1 (four 1 (7 ∷ [])))) one_back (length {A = ℕ} (four 1 (four 1 (7 ∷ []))))
unfolding align_of hoists roots_of
read_own_number_counts = (refl, (refl, refl))
