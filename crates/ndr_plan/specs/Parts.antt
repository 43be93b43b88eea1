-- What the runs of roots, and one more side, add to the parts of a plan.
-- `p` and `q` are the parts before and after, `r` is a root, `n` an operation's number, `o` the operation, `s` a side, `at` an address.
use Rattle.std.specs.Prelude.{◌≡◌, ℕ, ◌+◌, true, false, List, [], ◌∷◌, ◌++◌, length, Option, Some, None, slice_get, codes}
use Rattle.std.specs.List.{flat_map}
use Rattle.nd_types.specs.declared.types.Param.{Param}
use Rattle.nd_types.specs.declared.types.Operation.{Operation}
use Rattle.nd_types.specs.declared.types.Side.{Side}
use Rattle.nd_types.specs.declared.types.Side.TheVariants as side
use Rattle.nd_types.specs.Table.{Table, type_at}
use Rattle.nd_types.specs.Roots.{NamedRoot}
use Rattle.ndr_code.specs.declared.instr.Instr.{Instr}
use Rattle.ndr_code.specs.declared.instr.Instr.TheVariants as op
use Rattle.ndr_code.specs.declared.lists.PlanLine.{PlanLine}
use Rattle.ndr_code.specs.declared.lists.PlanLine.TheVariants as line
use Rattle.ndr_code.specs.Code.{side_code, operation_code, root_by, place_at, side_lines, operation_lines}
use Rattle.ndr_plan.specs.declared.side_code.Parts.{Parts}

-- the name of a parameter, or `return`
abbrev pub name_by : Option Param → List ℕ
name_by (Some p) = p.field.name
name_by None = codes "return"

-- the name of a root that is a parameter, or the result
abbrev pub own_name : Operation → Option ℕ → List ℕ
own_name o (Some i) = name_by (slice_get o.params i)
own_name o None = codes "return"

-- the run of a root that is no pipe, and its line; a pipe has neither
abbrev pub value_run : Table → NamedRoot → List Instr
value_run table r = elim r.is_pipe [ true ↦ [] | false ↦ root_by table r.of (type_at table r.of) ∷ op.Defer ∷ op.Ret ∷ [] ]

abbrev pub value_line : ℕ → Operation → Side → ℕ → NamedRoot → List PlanLine
value_line n o s at r = elim r.is_pipe [ true ↦ [] | false ↦ line.Entry n s (own_name o r.param) at ∷ [] ]

-- the run of a pipe, and its line; any other root has neither
abbrev pub pipe_run : Table → NamedRoot → List Instr
pipe_run table r = elim r.is_pipe [ true ↦ op.Call (place_at table r.of) ∷ op.Ret ∷ [] | false ↦ [] ]

abbrev pub pipe_line : ℕ → Operation → Side → ℕ → NamedRoot → List PlanLine
pipe_line n o s at r = elim r.is_pipe [ true ↦ line.Entry n s (own_name o r.param) at ∷ [] | false ↦ [] ]

-- the lines of roots whose runs begin at an address
abbrev pub lines_from : (NamedRoot → List Instr) → (ℕ → NamedRoot → List PlanLine) → ℕ → List NamedRoot → List PlanLine
lines_from run line at [] = []
lines_from run line at (r ∷ rs) = line at r ++ lines_from run line (at + length (run r)) rs

-- the runs of these roots were added, and their lines
pub record HasRuns (p q : Parts) (run : NamedRoot → List Instr) (line : ℕ → NamedRoot → List PlanLine) (rs : List NamedRoot) : Type 0 where
  pub code_is : q.code ≡ p.code ++ flat_map run rs
  pub entries_are : q.entries ≡ p.entries ++ lines_from run line (length p.code) rs
  pub sides_are : q.sides ≡ p.sides

-- a side was added, and where its lines begin
pub record HasSide (p q : Parts) (table : Table) (operations : List Operation) (n : ℕ) (o : Operation) (s : Side) : Type 0 where
  pub code_is : q.code ≡ p.code ++ side_code table o s
  pub entries_are : q.entries ≡ p.entries ++ side_lines table operations n o s
  pub sides_are : q.sides ≡ p.sides ++ (length p.entries ∷ [])

-- an operation was added: its request, then its response
pub record HasOperation (p q : Parts) (table : Table) (operations : List Operation) (n : ℕ) (o : Operation) : Type 0 where
  pub code_is : q.code ≡ p.code ++ operation_code table o
  pub entries_are : q.entries ≡ p.entries ++ operation_lines table operations (n, o)
  pub sides_are : q.sides ≡ p.sides ++ (length p.entries ∷ length (p.entries ++ side_lines table operations n o side.In) ∷ [])
