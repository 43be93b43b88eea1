use Rattle.std.proofs.Common.{◌≡◌, length}
use Rattle.ndr_trace.specs.Homes.{IsPart}
use Rattle.ndr_trace.specs.Sides.{IsAtRoot, IsSide}
use Rattle.ndr_trace_value.specs.Tracing.{IsGround, Known}
use Rattle.ndr_trace.proofs.sides.walk_side.Given as goal

abbrev pub invariant-loop-root : goal.invariant-loop-root
invariant-loop-root l = record {
  counted : l.at ≡ length l.yielded;
  here : (k : Known) → IsGround k l.fn.ground → IsPart k → IsSide k l.fn.ground → IsAtRoot k l.initial.walker 0 → IsAtRoot k l.walker l.at;
}
