use Rattle.std.proofs.Common.{◌≡◌, Some, drop, length}
use Rattle.std.specs.List.{slice_get}
use Rattle.nd_types.specs.declared.types.Operation.{Operation}
use Rattle.nd_types.specs.Roots.{named_roots}
use Rattle.text_printer.specs.Texts.{roots_text}
use Rattle.text_printer.specs.Walks.{RootsBegin}
use Rattle.text_printer.proofs.Listing.{Comes}
use Rattle.text_printer.proofs.graphs.append_roots.Given as goal

abbrev pub invariant-loop-root : goal.invariant-loop-root
invariant-loop-root l = record {
  counted : l.at ≡ length l.yielded;
  written : (o : Operation) → slice_get l.interface.operations l.op ≡ Some o → RootsBegin l.interface.types (named_roots l.interface.types l.fn.side o) l.graph.roots
      → Comes l.text (roots_text l.interface.types (drop l.at (named_roots l.interface.types l.fn.side o)) (drop l.at l.graph.roots)) l.initial.text
      (roots_text l.interface.types (named_roots l.interface.types l.fn.side o) l.graph.roots);
}
