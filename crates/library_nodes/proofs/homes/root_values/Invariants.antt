use Rattle.std.proofs.Common.{◌≡◌, Some, length, map}
use Rattle.std.specs.List.{slice_get}
use Rattle.nd_types.specs.declared.types.Operation.{Operation}
use Rattle.nd_types.specs.Roots.{named_roots}
use Rattle.library_nodes.proofs.Lists.{Came}
use Rattle.library_nodes.proofs.homes.root_values.Given as goal

abbrev pub invariant-loop-root : goal.invariant-loop-root
invariant-loop-root l =
    (o : Operation) → slice_get l.interface.operations l.op ≡ Some o
    → Came l.interface.types (map (λ r. r.of) (named_roots l.interface.types l.fn.side o)) (length l.yielded) l.fn.reader l.vals l.reader
