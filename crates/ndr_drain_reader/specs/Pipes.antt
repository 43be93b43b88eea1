-- Where the pipes of a side are among the lines of a plan.
use Rattle.std.specs.Prelude.{◌≡◌, ℕ, ◌+◌, Bool, true, false, length}
use Rattle.nd_types.specs.declared.types.Operation.{Operation}
use Rattle.nd_types.specs.declared.types.Side.{Side}
use Rattle.nd_types.specs.Roots.{roots_of}
use Rattle.nd_value.specs.Deferral.{before_pipes}
use Rattle.ndr_code.specs.Code.{line_at}
use Rattle.ndr_code.specs.declared.lists.PlanLine.{PlanLine}
use Rattle.ndr_code.specs.declared.lists.PlanLine.TheVariants as line
use Rattle.ndr_code.specs.declared.plan.Plan.{Plan}
use Rattle.ndr_drain_reader.specs.declared.pipes.Pipes as code

pub record ArePipes (plan : Plan) (op : ℕ) (o : Operation) (side : Side) (p : code.Pipes) : Type 0 where
  pub values : p.values ≡ before_pipes (roots_of plan.tie.types side o)
  pub all : p.values + p.pipes ≡ length (roots_of plan.tie.types side o)
  pub line : p.line ≡ line_at plan.tie.types plan.tie.operations op o side + p.values + 1

-- whether a line is one of agreements
abbrev pub IsChecksBy : PlanLine → Bool → Type 0
IsChecksBy (line.Checks n s at) b = b ≡ true
IsChecksBy (line.Entry n s name at) b = b ≡ false
