use Rattle.std.proofs.Common.{refl, [], ◌∷◌}
use Rattle.nd_base.specs.declared.octets.Order.TheVariants.{Little}
use Rattle.nd_types.specs.Layout.{align_of, hoists}
use Rattle.nd_types.specs.Roots.{roots_of}
use Rattle.example_ndr.specs.Examples.{ring, ring_of_two}
use Rattle.example_ndr.proofs.Check.{represents_so}
use Rattle.example_ndr.proofs.examples.ring_of_two_nodes.Goals as goal

pub returns : goal.returns
unfolding align_of hoists roots_of
returns c =
    represents_so ring Little (1 ∷ 0 ∷ 0 ∷ 0 ∷ 7 ∷ 0 ∷ 0 ∷ 0 ∷ 2 ∷ 0 ∷ 0 ∷ 0 ∷ 8 ∷ 0 ∷ 0 ∷ 0 ∷ 1 ∷ 0 ∷ 0 ∷ 0 ∷ []) ring_of_two [] 20 refl tt refl refl refl refl
