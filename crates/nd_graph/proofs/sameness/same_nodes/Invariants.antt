use Rattle.std.proofs.Common.{length}
use Rattle.nd_value.specs.Tree.{flat}
use Rattle.nd_graph.specs.Alike.{number_by}
use Rattle.nd_graph.proofs.Compared.{SameNodes}
use Rattle.nd_graph.proofs.sameness.same_nodes.Given as goal

abbrev pub invariant-loop-node : goal.invariant-loop-node
invariant-loop-node l = record {
  onward : SameNodes (number_by l.left.numbers.items) (number_by l.right.numbers.items) (flat l.a) (flat l.b)
      → SameNodes (number_by l.initial.left.numbers.items) (number_by l.initial.right.numbers.items) (flat l.initial.a) (flat l.initial.b);
  back : SameNodes (number_by l.initial.left.numbers.items) (number_by l.initial.right.numbers.items) (flat l.initial.a) (flat l.initial.b)
      → SameNodes (number_by l.left.numbers.items) (number_by l.right.numbers.items) (flat l.a) (flat l.b);
}

abbrev pub decreases-loop-node : goal.decreases-loop-node
decreases-loop-node l = length (flat l.a)
