use Rattle.std.proofs.Common.{refl}
use Rattle.nd_value.specs.Seen.{tree_of}
use Rattle.nd_fit.proofs.Packing.{numbers_on}
use Rattle.nd_fit.proofs.numbers.are_numbers_of.Goals as goal

pub loop-at-preserved : goal.loop-at-preserved
loop-at-preserved c =
    numbers_on c.args.prim c.args.vals.now c.loop-at.at (tree_of c.in-Some.val.now) c.in-Some.ensures.some c.loop-at.invariant (c.if-not-is_number_of.ensures refl)
