use Rattle.std.proofs.Common.{◌≡◌, map}
use Rattle.nd_types.specs.Roots.{root_value}
use Rattle.ndr_drain.specs.Drained.{pipe_elements}
use Rattle.ndr_drain.proofs.elements.element_types.Given as goal

-- the pipes among the roots that were seen have given their types
abbrev pub invariant-loop-root : goal.invariant-loop-root
invariant-loop-root l = map (λ t. t.0) l.types.items ≡ pipe_elements l.interface.types (map root_value l.yielded)
