-- The first line of a side of a plan.
-- `plan` is a plan, `op` the number of an operation, `s` a side of it, `k` the number of the side.
use Rattle.std.proofs.Common.{◌≡◌, ◌<◌, ℕ, ◌+◌, ◌*◌, List, length, Some, ap, ◌∙◌, arith}
use Rattle.std.specs.List.{slice_get}
use Rattle.std.proofs.lemmas.Option.{slice_get_within}
use Rattle.nd_types.specs.declared.types.Operation.{Operation}
use Rattle.nd_types.specs.declared.types.Side.{Side}
use Rattle.nd_lemmas.proofs.Lists.{item_at}
use Rattle.ndr_code.specs.declared.plan.Plan.{Plan}
use Rattle.ndr_code.specs.Code.{line_at, side_number, sides_of}
use Rattle.ndr_code.proofs.SideLines.{start_at}

pub side_start : (plan : Plan) (op : ℕ) (s : Side) (k : ℕ) → k ≡ side_number s → (o : Operation) → slice_get plan.tie.operations op ≡ Some o
    → slice_get plan.sides (op * 2 + k) ≡ Some (line_at plan.tie.types plan.tie.operations op o s)
side_start plan op s k e o there =
    let at : op * 2 + k ≡ 2 * op + side_number s = omega (arith, e) in
    ap (λ (ss : List ℕ). slice_get ss (op * 2 + k)) plan.planned.sides_are
    ∙ ap (slice_get (sides_of plan.tie.types plan.tie.operations)) at
    ∙ start_at plan.tie.types plan.tie.operations op o there s

pub side_within : (plan : Plan) (op : ℕ) (s : Side) (k : ℕ) → k ≡ side_number s → op < length plan.tie.operations → op * 2 + k < length plan.sides
side_within plan op s k e known =
    let (o, there) = item_at plan.tie.operations op known in
    slice_get_within plan.sides (op * 2 + k) (line_at plan.tie.types plan.tie.operations op o s) (side_start plan op s k e o there)
