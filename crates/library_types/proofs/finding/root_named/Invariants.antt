use Rattle.std.proofs.Common.{◌≡◌, Some, length}
use Rattle.std.specs.List.{slice_get}
use Rattle.nd_types.specs.declared.types.Operation.{Operation}
use Rattle.nd_types.specs.Roots.{NamedRoot, named_roots}
use Rattle.library_types.proofs.Searching.{NoneBefore}
use Rattle.library_types.proofs.finding.root_named.Given as goal

abbrev pub invariant-loop-root : goal.invariant-loop-root
invariant-loop-root l = record {
  counted : l.at ≡ length l.yielded;
  others : (o : Operation) → slice_get l.interface.operations l.fn.op ≡ Some o → NoneBefore NamedRoot (λ r. r.name) (named_roots l.interface.types l.fn.side o) l.name l.at;
}
