-- The code of a plan: one list of instructions for a table of types and its operations, the address of each run in it, and the lines beside it.
use Rattle.std.specs.Prelude.{ℕ, ◌+◌, ◌*◌, suc, ℤ, Bool, true, false, ◌==◌, not, if◌then◌else◌, List, [], ◌∷◌, ◌++◌, length, map, flat_map}
use Rattle.std.specs.Prelude.{filter, take, Option, Some, None}
use Rattle.std.specs.List.{enumerate_from}
use Rattle.nd_types.specs.declared.types.TypeId.{TypeId}
use Rattle.nd_types.specs.declared.types.TypeDef.{TypeDef}
use Rattle.nd_types.specs.declared.types.TypeDef.TheVariants as def
use Rattle.nd_types.specs.declared.types.Arm.{Arm}
use Rattle.nd_types.specs.declared.types.AttrVar.{AttrVar}
use Rattle.nd_types.specs.declared.types.Class.TheVariants.{Ref}
use Rattle.nd_types.specs.declared.types.Field.{Field}
use Rattle.nd_types.specs.declared.types.Operation.{Operation}
use Rattle.nd_types.specs.declared.types.Side.{Side}
use Rattle.nd_types.specs.declared.types.Side.TheVariants as side
use Rattle.nd_types.specs.Table.{Table, type_at}
use Rattle.nd_types.specs.Layout.{align_of, hoists}
use Rattle.nd_types.specs.Roots.{Root, roots_of, root_index, root_name}
use Rattle.ndr_code.specs.declared.instr.Instr.{Instr}
use Rattle.ndr_code.specs.declared.instr.Instr.TheVariants as op
use Rattle.ndr_code.specs.declared.lists.PlanLine.{PlanLine}
use Rattle.ndr_code.specs.declared.lists.PlanLine.TheVariants as line
use Rattle.ndr_code.specs.declared.lists.EnumList.{EnumList}

-- ## The code

-- Each type has a place run, which is what a value of it has in its place, and a whole run, which begins with the maximum count of what hoists.
-- `t` is a type's number, `d` what it is, `place` and `whole` are the addresses of the place run and the whole run of each type, `r` is a root,
-- `i` its number, `o` an operation, `n` its number, `s` a side, `a` an attribute with its variable.

-- a number as the name of a type
abbrev pub id : ℕ → TypeId
id t = record { 0 = t }

-- a gap, left out for 1
abbrev pub gap_run : ℕ → List Instr
gap_run n = elim (n == 1) [ true ↦ [] | false ↦ op.Align n ∷ [] ]

-- the run of an arm; address 0 where the arm is empty
abbrev pub arm_run : (ℕ → ℕ) → Option TypeId → ℕ
arm_run place None = 0
arm_run place (Some t) = place t.0

-- an instruction for each label
abbrev pub arms_code : (ℕ → ℕ) → List Arm → List Instr
arms_code place arms = map (λ a. op.Arm a.label (arm_run place a.of)) arms

-- the default, or that there is none
abbrev pub default_code : (ℕ → ℕ) → Option Arm → List Instr
default_code place None = op.Noarm ∷ []
default_code place (Some a) = op.Other (arm_run place a.of) ∷ []

-- the agreements of the i-th member
abbrev pub field_checks : ℕ → List AttrVar → List Instr
field_checks i vars = map (λ a. op.Check a.attr i a.var a.star) vars

-- the agreements of members, in their order, from the i-th on
abbrev pub member_checks : ℕ → List Field → List Instr
member_checks i [] = []
member_checks i (f ∷ fs) = field_checks i f.vars ++ member_checks (suc i) fs

-- the place run of each member
abbrev pub member_calls : (ℕ → ℕ) → List Field → List Instr
member_calls place members = map (λ f. op.Call (place f.of.0)) members

-- an array: its elements, and before them its counts where it varies
abbrev pub array_run : ℕ → Option ℕ → Bool → List Instr
array_run run (Some n) false = op.Fixed n run ∷ op.Ret ∷ []
array_run run None false = op.Conf run ∷ op.Ret ∷ []
array_run run (Some n) true = op.Align 4 ∷ op.Vary n run ∷ op.Ret ∷ []
array_run run None true = op.Align 4 ∷ op.Confvary run ∷ op.Ret ∷ []

-- the bound of a string; 0 where it is conformant
abbrev pub text_bound : Option ℕ → ℕ
text_bound None = 0
text_bound (Some n) = n

-- a struct, after its gap
abbrev pub struct_run : (ℕ → ℕ) → List Field → List Instr
struct_run place members = op.Record (length members) ∷ (member_calls place members ++ (member_checks 0 members ++ (op.Close ∷ op.Ret ∷ [])))

-- a union, after its gap
abbrev pub union_run : (ℕ → ℕ) → TypeId → List Arm → Option Arm → List Instr
union_run place tag arms default = op.Tag tag ∷ (arms_code place arms ++ default_code place default)

-- The place run of a type.
abbrev pub place_run : (ℕ → ℕ) → (ℕ → ℕ) → Table → ℕ → TypeDef → List Instr
place_run place whole table t (def.Prim p) = gap_run (align_of table t) ++ (op.Num (id t) ∷ op.Ret ∷ [])
place_run place whole table t (def.Enum values) = op.Align 2 ∷ op.Enum (id t) ∷ op.Ret ∷ []
place_run place whole table t (def.Struct members) = gap_run (align_of table t) ++ struct_run place members
place_run place whole table t (def.Array elem bound varying) = array_run (place elem.0) bound varying
place_run place whole table t (def.Text elem bound) = op.Align 4 ∷ op.Text (text_bound bound) ∷ op.Ret ∷ []
place_run place whole table t (def.Union tag encapsulated arms default) = gap_run (align_of table tag.0) ++ union_run place tag arms default
place_run place whole table t (def.Pointer class to) = op.Align 4 ∷ op.Pointer class to (whole to.0) ∷ op.Ret ∷ []
place_run place whole table t def.Context = op.Align 4 ∷ op.Context ∷ op.Ret ∷ []
place_run place whole table t (def.Pipe elem) = op.Pipe (place elem.0) ∷ op.Ret ∷ []

-- A type that hoists has a whole run of its own before its place run. The whole run of any other is its place run.
abbrev pub whole_run : Bool → ℕ → List Instr
whole_run false run = []
whole_run true run = op.Hoist ∷ op.Call run ∷ op.Ret ∷ []

-- all runs of a type
abbrev pub type_run : (ℕ → ℕ) → (ℕ → ℕ) → Table → ℕ → TypeDef → List Instr
type_run place whole table t d = whole_run (hoists table t) (place t) ++ place_run place whole table t d

-- the runs of these types, from number t on
abbrev pub type_runs : (ℕ → ℕ) → (ℕ → ℕ) → Table → ℕ → List TypeDef → List Instr
type_runs place whole table t [] = []
type_runs place whole table t (d ∷ ds) = type_run place whole table t d ++ type_runs place whole table (suc t) ds

-- How long a run is does not depend on the addresses in it: so lengths are taken with the address 0 everywhere, and addresses are lengths.
abbrev pub no_address : ℕ → ℕ
no_address t = 0

-- the length of the runs of these types, from number t on
abbrev pub types_length : Table → ℕ → List TypeDef → ℕ
types_length table t ds = length (type_runs no_address no_address table t ds)

-- the addresses of the whole run and of the place run of a type: address 0 is `void`, address 1 `ret`
unfoldable pub whole_at : Table → ℕ → ℕ
whole_at table t = 2 + types_length table 0 (take t table)

unfoldable pub place_at : Table → ℕ → ℕ
place_at table t = 2 + types_length table 0 (take t table) + length (whole_run (hoists table t) 0)

-- the runs of all types
abbrev pub table_code : Table → List Instr
table_code table = op.Void ∷ op.Ret ∷ type_runs (place_at table) (whole_at table) table 0 table

-- a root that is no pipe: the referent of a reference pointer, in the pointer's place; or the whole run of its type
abbrev pub root_by : Table → ℕ → Option TypeDef → Instr
root_by table t (Some (def.Pointer Ref to)) = op.Direct to (whole_at table to.0)
root_by table t _ = op.Call (whole_at table t)

-- the run of a root that is no pipe: its value, then the pending referents
abbrev pub root_run : Table → Root → List Instr
root_run table r = root_by table r.of (type_at table r.of) ∷ op.Defer ∷ op.Ret ∷ []

-- the run of a pipe
abbrev pub pipe_run : Table → Root → List Instr
pipe_run table r = op.Call (place_at table r.of) ∷ op.Ret ∷ []

-- an attribute of the i-th root of a response whose variable is a root of the request alone; a request has no such one
abbrev pub given_check : Side → ℕ → AttrVar → Option ℕ → List Instr
given_check side.Out i a (Some v) = op.Given a.attr i v a.star ∷ []
given_check _ i a _ = []

-- an attribute of the i-th root, by the number of its variable among the roots of this side; where it has none, among those of the request
abbrev pub root_check : Side → List Root → ℕ → AttrVar → Option ℕ → List Instr
root_check s asked i a (Some v) = op.Check a.attr i v a.star ∷ []
root_check s asked i a None = given_check s i a (root_index asked a.var 0)

-- the attributes of the i-th root, in their order
abbrev pub vars_checks : Side → List Root → List Root → ℕ → List AttrVar → List Instr
vars_checks s here asked i vars = flat_map (λ a. root_check s asked i a (root_index here a.var 0)) vars

-- the agreements of roots, from the i-th on: `here` are all roots of the side, `asked` those of the request
abbrev pub root_checks : Side → List Root → List Root → ℕ → List Root → List Instr
root_checks s here asked i [] = []
root_checks s here asked i (r ∷ rs) = vars_checks s here asked i r.vars ++ root_checks s here asked (suc i) rs

-- the run of the agreements of a side
abbrev pub checks_run : Table → Operation → Side → List Instr
checks_run table o s = root_checks s (roots_of table s o) (roots_of table side.In o) 0 (roots_of table s o) ++ (op.Ret ∷ [])

-- the roots that are one value each
abbrev pub value_roots : List Root → List Root
value_roots rs = filter (λ r. not r.is_pipe) rs

-- the roots that are pipes
abbrev pub pipe_roots : List Root → List Root
pipe_roots rs = filter (λ r. r.is_pipe) rs

-- a side of an operation: its roots that are no pipes, its agreements, its pipes
abbrev pub side_code : Table → Operation → Side → List Instr
side_code table o s =
    flat_map (root_run table) (value_roots (roots_of table s o))
    ++ (checks_run table o s ++ flat_map (pipe_run table) (pipe_roots (roots_of table s o)))

-- an operation: its request, then its response
abbrev pub operation_code : Table → Operation → List Instr
operation_code table o = side_code table o side.In ++ side_code table o side.Out

abbrev pub operations_code : Table → List Operation → List Instr
operations_code table operations = flat_map (operation_code table) operations

-- The whole code.
abbrev pub code_of : Table → List Operation → List Instr
code_of table operations = table_code table ++ operations_code table operations

-- how many instructions an operation has before a side
abbrev pub before_side : Table → Operation → Side → ℕ
before_side table o side.In = 0
before_side table o side.Out = length (side_code table o side.In)

-- the address of a side
unfoldable pub side_at : Table → List Operation → ℕ → Operation → Side → ℕ
side_at table operations n o s = length (table_code table ++ operations_code table (take n operations)) + before_side table o s

-- the address of the i-th root that is no pipe: each has three instructions
abbrev pub root_at : Table → List Operation → ℕ → Operation → Side → ℕ → ℕ
root_at table operations n o s i = side_at table operations n o s + 3 * i

-- the address of the agreements
abbrev pub checks_at : Table → List Operation → ℕ → Operation → Side → ℕ
checks_at table operations n o s = side_at table operations n o s + 3 * length (value_roots (roots_of table s o))

-- the address of the i-th pipe: each has two instructions
abbrev pub pipe_at : Table → List Operation → ℕ → Operation → Side → ℕ → ℕ
pipe_at table operations n o s i = checks_at table operations n o s + length (checks_run table o s) + 2 * i

-- ## The lines beside the code: where the runs of each side of each operation are, and the values of the enumerated types

-- `t` is a type's number, `d` what it is, `n` an operation's number, `o` the operation, `s` a side, `i` a root's number among those of its kind, `e`
-- is an item of a list with its number.

-- the entries of roots of a kind: each has its name and the address of its run
abbrev pub entry_lines : ℕ → Operation → Side → (ℕ → ℕ) → List Root → List PlanLine
entry_lines n o s at rs = map (λ e. line.Entry n s (root_name o e.1.param) (at e.0)) (enumerate_from 0 rs)

-- the lines of a side: its roots that are no pipes, its agreements, its pipes
abbrev pub side_lines : Table → List Operation → ℕ → Operation → Side → List PlanLine
side_lines table operations n o s =
    entry_lines n o s (root_at table operations n o s) (value_roots (roots_of table s o))
    ++ (line.Checks n s (checks_at table operations n o s) ∷ entry_lines n o s (pipe_at table operations n o s) (pipe_roots (roots_of table s o)))

-- the lines of an operation: those of its request, then those of its response
abbrev pub operation_lines : Table → List Operation → ℕ × Operation → List PlanLine
operation_lines table operations e = side_lines table operations e.0 e.1 side.In ++ side_lines table operations e.0 e.1 side.Out

abbrev pub entries_of : Table → List Operation → List PlanLine
entries_of table operations = flat_map (operation_lines table operations) (enumerate_from 0 operations)

-- how many lines an operation's request has before a side
abbrev pub lines_before : Table → List Operation → ℕ → Operation → Side → ℕ
lines_before table operations n o side.In = 0
lines_before table operations n o side.Out = length (side_lines table operations n o side.In)

-- the number of the first line of a side
unfoldable pub line_at : Table → List Operation → ℕ → Operation → Side → ℕ
line_at table operations n o s =
    length (flat_map (operation_lines table operations) (take n (enumerate_from 0 operations))) + lines_before table operations n o s

abbrev pub sides_of : Table → List Operation → List ℕ
sides_of table operations =
    flat_map (λ e. line_at table operations e.0 e.1 side.In ∷ line_at table operations e.0 e.1 side.Out ∷ []) (enumerate_from 0 operations)

-- the list of a type, if it is an enumerated one
abbrev pub enum_list_by : ℕ → TypeDef → List EnumList
enum_list_by t (def.Enum values) = record { of = id t; values = values } ∷ []
enum_list_by t _ = []

abbrev pub enum_list : ℕ × TypeDef → List EnumList
enum_list e = enum_list_by e.0 e.1

abbrev pub values_of : Table → List EnumList
values_of table = flat_map enum_list (enumerate_from 0 table)

-- the number of a side among those of its operation
abbrev pub side_number : Side → ℕ
side_number side.In = 0
side_number side.Out = 1

-- the values of the first list that is of this type
abbrev pub enumerators : List EnumList → ℕ → Option (List ℤ)
enumerators [] t = None
enumerators (e ∷ es) t = if e.of.0 == t then Some e.values else enumerators es t
