use Rattle.std.proofs.Common.{◌≡◌, Some, length, drop, slice_get}
use Rattle.nd_types.specs.declared.types.Operation.{Operation}
use Rattle.nd_types.specs.Roots.{named_roots}
use Rattle.nd_value.specs.Tree.{trees}
use Rattle.nd_value.specs.Passes.{first_in_roots}
use Rattle.nd_misfits.specs.Searched.{have_machine_values}
use Rattle.nd_misfits.proofs.local.roots.Given as goal

abbrev pub invariant-loop-root : goal.invariant-loop-root
invariant-loop-root l = record {
  counted : l.at ≡ length l.yielded;
  left : (o : Operation) → slice_get l.interface.operations l.op ≡ Some o
      → first_in_roots l.interface.types l.graph 0 (named_roots l.interface.types l.fn.side o) l.graph.roots
      ≡ first_in_roots l.interface.types l.graph l.at (drop l.at (named_roots l.interface.types l.fn.side o)) (drop l.at l.graph.roots);
  machine : have_machine_values (trees l.graph.roots) ≡ have_machine_values (trees (drop l.at l.graph.roots));
}
