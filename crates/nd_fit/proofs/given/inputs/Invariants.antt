use Rattle.std.proofs.Common.{◌≡◌, ◌++◌, Some, length, drop, slice_get}
use Rattle.nd_types.specs.declared.types.Operation.{Operation}
use Rattle.nd_types.specs.declared.types.Side.TheVariants as side
use Rattle.nd_types.specs.Roots.{named_roots}
use Rattle.nd_misfits.specs.Numbers.{numbers_of}
use Rattle.nd_fit.proofs.given.inputs.Given as goal

abbrev pub invariant-loop-root : goal.invariant-loop-root
invariant-loop-root l = record {
  counted : l.at ≡ length l.yielded;
  left : (o : Operation) → slice_get l.interface.operations l.op ≡ Some o
      → l.numbers.items ++ numbers_of l.graph (drop l.at (named_roots l.interface.types side.In o)) (drop l.at l.graph.roots)
      ≡ numbers_of l.graph (named_roots l.interface.types side.In o) l.graph.roots;
}
