use Rattle.std.proofs.Common.{◌≡◌, Some, length, take}
use Rattle.std.specs.List.{slice_get}
use Rattle.nd_types.specs.declared.types.Operation.{Operation}
use Rattle.nd_types.specs.Roots.{named_roots}
use Rattle.text_parser.specs.Lines.{AreRoots}
use Rattle.text_parser.proofs.texts.roots.Given as goal

abbrev pub invariant-loop-root : goal.invariant-loop-root
invariant-loop-root l =
    (o : Operation) → slice_get l.interface.operations l.op ≡ Some o
    → AreRoots l.fn.under.version l.fn.under.types.now (take (length l.yielded) (named_roots l.interface.types l.fn.side o)) l.fn.names l.text l.vals l.names l.rest
