use Rattle.std.proofs.Common.{◌≡◌, ◌++◌, Some, length, drop, map, slice_get}
use Rattle.nd_types.specs.declared.types.Operation.{Operation}
use Rattle.nd_types.specs.Roots.{named_roots}
use Rattle.nd_misfits.specs.HomeList.{home_tree, root_homes}
use Rattle.nd_misfits.proofs.homes.roots.Given as goal

abbrev pub invariant-loop-root : goal.invariant-loop-root
invariant-loop-root l = record {
  counted : l.at ≡ length l.yielded;
  left : (o : Operation) → slice_get l.interface.operations l.op ≡ Some o
      → map home_tree l.homes.items ++ root_homes l.at (drop l.at (named_roots l.interface.types l.fn.side o)) (drop l.at l.graph.roots)
      ≡ root_homes 0 (named_roots l.interface.types l.fn.side o) l.graph.roots;
}
