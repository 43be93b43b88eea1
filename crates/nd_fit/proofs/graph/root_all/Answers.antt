use Rattle.nd_value.specs.Seen.{tree_of}
use Rattle.nd_fit.proofs.Flattening.{keepable_at}
use Rattle.nd_fit.proofs.Homes.{roots_on}
use Rattle.nd_fit.proofs.graph.root_all.Goals as goal

pub root_one-requires-clause-keepable : goal.root_one-requires-clause-keepable
root_one-requires-clause-keepable c = keepable_at c.args.vals.now c.loop-at.at (tree_of c.in-Some.val.now) c.in-Some.ensures.some c.requires.keepable

pub loop-at-preserved : goal.loop-at-preserved
loop-at-preserved c =
    roots_on c.args.vals.now c.loop-at.at (tree_of c.in-Some.val.now) c.args.builder.now c.loop-at.builder c.root_one.new.builder c.in-Some.ensures.some
    c.loop-at.invariant c.in_ok-root_one.ensures
