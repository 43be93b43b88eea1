-- What each instruction of a plan does to the state of the decoder, as functions on lists. A step handles one gap, one item or none: `wants` says
-- which, and
-- `step` gets the octets of it, all fetched. Where they are not all there, or would end past the limit of a stream, no step is taken.
-- `s` is a state, `i` an instruction, `os` the octets of the step, `z` a value, `o` an offset, `c` a count, `v` a pointer's number.
use Rattle.std.specs.Prelude.{◌≡◌, ◌⊎◌, ℕ, ◌+◌, ◌-◌, ◌-ℤ◌, zero, suc, ℤ, pos, Bool, true, false, ◌==◌, nat_lt, if◌then◌else◌, List, [], ◌∷◌, ◌++◌}
use Rattle.std.specs.Prelude.{length}
use Rattle.std.specs.Prelude.{take, drop, Option, Some, None}
use Rattle.std.specs.List.{slice_get}
use Rattle.std.specs.Ordering.{int_eq}
use Rattle.nd_base.specs.declared.octets.Order.{Order}
use Rattle.nd_types.specs.declared.types.Attr.{Attr}
use Rattle.nd_types.specs.declared.types.Attr.TheVariants as attr
use Rattle.nd_types.specs.declared.types.Class.{Class}
use Rattle.nd_types.specs.declared.types.Class.TheVariants.{Ref, Unique, Full}
use Rattle.nd_types.specs.declared.types.Primitive.{Primitive}
use Rattle.ndr_code.specs.Fields.{prim_of}
use Rattle.nd_types.specs.declared.types.Primitive.TheVariants.{Short}
use Rattle.nd_types.specs.declared.types.TypeId.{TypeId}
use Rattle.nd_types.specs.Number.{unsigned, value_of_octets}
use Rattle.nd_types.specs.Table.{width}
use Rattle.nd_value.specs.Agreement.{Agreement, agreement}
use Rattle.nd_value.specs.Tree as tree
use Rattle.nd_value.specs.Tree.{Flat}
use Rattle.nd_grammar.specs.declared.reason.Reason.{Reason}
use Rattle.nd_grammar.specs.declared.reason.Reason.TheVariants as reason
use Rattle.nd_grammar.specs.Entry.{gap}
use Rattle.nd_grammar.specs.Reader.{identifier}
use Rattle.nd_grammar.specs.Refusal.{is_enumerator, text_refusal}
use Rattle.ndr_code.specs.declared.instr.Instr.{Instr}
use Rattle.ndr_code.specs.declared.instr.Instr.TheVariants as op
use Rattle.ndr_code.specs.declared.lists.EnumList.{EnumList}
use Rattle.ndr_code.specs.Code.{enumerators}
use Rattle.ndr_refs.specs.declared.referents.Known.{Known}
use Rattle.ndr_refs.specs.Known.{known, first_met}
use Rattle.ndr_decoder_laws.specs.reader.Points.{TagForm}
use Rattle.ndr_decoder_laws.specs.declared.frame.Frame.{Frame}
use Rattle.ndr_decoder_laws.specs.declared.frame.Frame.TheVariants as frame
use Rattle.ndr_decoder_laws.specs.declared.first.First.{First}
use Rattle.ndr_decoder_laws.specs.declared.first.First.TheVariants as first
use Rattle.ndr_decoder_laws.specs.declared.first.Member.{Member}

-- ## The state

-- which item of an instruction comes next: its first one; the maximum count, after its gap; the actual count, after this offset; the octets of a
-- text, of this length without the terminator
pub data Phase : Type 0 where
  begun : Phase
  gap_read : Phase
  offset_read : (o : ℕ) → Phase
  count_read : (c : ℕ) → Phase

-- Where the counts or the tag of a node are in the stream: nowhere; the place of the actual count, which comes right after the offset, where the
-- offset alone was read, and where both were; the place of a union's tag.
pub data Place : Type 0 where
  no_place : Place
  offset_before : (place : ℕ) → Place
  counts_at : (place : ℕ) → Place
  tag_at : (place : ℕ) → Place

-- a pending referent: its type, its whole run, the cell that the pointer names, and the agreements of the pointer
pub record Owed : Type 0 where
  pub class : Class
  pub to : ℕ
  pub run : ℕ
  pub cell : Option ℕ
  pub agreements : List Agreement

-- what is kept of a node for the agreements that speak of it, and the place of its actual count or tag, if it has one
abbrev pub first_of : Flat → Option ℕ → First
first_of (tree.Num z, k) place = first.Number z
first_of (tree.Ptr cell, k) place = first.Pointer
first_of (tree.Arr max offset, k) place = first.Counted max offset k place
first_of (tree.Text max octets, k) place = first.Counted max 0 (length octets + 1) place
first_of (tree.Union tag, k) place = first.Tag tag place
first_of (l, k) place = first.Other

pub record State : Type 0 where
  -- the address of the instruction, which item of it is next, and the place in the stream
  pub pc : ℕ
  pub phase : Phase
  pub at : ℕ
  -- the maximum count before the home's value, 0 where none was read, and its place
  pub max : ℕ
  pub max_at : Option ℕ
  -- the tag that was read last, and the primitive that carries it; its entry is not passed yet
  pub tag : ℤ
  pub carrier : Primitive
  -- what is around the value that is being read, from the innermost on
  pub top : Frame
  pub stack : List Frame
  -- the home's nodes so far, and what is kept of the first
  pub nodes : List Flat
  pub own : Option First
  -- of the structs that are open the members that were read and those that are being read, and what is kept of the first node of each, as it comes
  pub members : List Member
  pub firsts : List First
  -- the home's pending referents so far
  pub fresh : List Owed
  -- the types of all cells, and the numbers of full pointers
  pub cells : List ℕ
  pub numbers : List (ℕ × Known)

-- what a step comes to: it goes on, the octets are refused, or the home's value is whole
pub data Outcome : Type 0 where
  goes : (s : State) → Outcome
  refused : (place : ℕ) (why : Reason) → Outcome
  whole : (s : State) → Outcome

-- ## What a step wants

-- how a tag of a type is carried: an enumerated one as a short
abbrev pub form_by : ℕ → Option (List ℤ) → TagForm
form_by t None = record { prim = prim_of t; values = None }
form_by t (Some values) = record { prim = Short; values = Some values }

-- nothing, a gap of so many octets, or an item of so many
pub data Want : Type 0 where
  no_octets : Want
  gap_of : (n : ℕ) → Want
  item_of : (n : ℕ) → Want

module _ (values : List EnumList) where
  abbrev pub tag_form : TypeId → TagForm
  tag_form of = form_by of.0 (enumerators values of.0)

  abbrev pub text_want : Phase → Want
  text_want (count_read c) = item_of (c + 1)
  text_want _ = item_of 4

  abbrev pub hoist_want : Phase → ℕ → Want
  hoist_want gap_read at = item_of 4
  hoist_want _ at = gap_of (gap at 4)

  abbrev pub wants : Instr → State → Want
  wants (op.Align n) s = gap_of (gap s.at n)
  wants (op.Num of) s = item_of (width (prim_of of.0))
  wants (op.Enum of) s = item_of 2
  wants (op.Vary bound run) s = item_of 4
  wants (op.Confvary run) s = item_of 4
  wants (op.Text bound) s = text_want s.phase
  wants op.Hoist s = hoist_want s.phase s.at
  wants (op.Tag of) s = item_of (width (tag_form of).prim)
  wants (op.Pointer class to run) s = item_of 4
  wants op.Context s = item_of 20
  wants _ s = no_octets

-- ## Changes of the state

abbrev pub jumped : ℕ → State → State
jumped a s = record {
  pc = a;
  phase = begun;
  at = s.at;
  max = s.max;
  max_at = s.max_at;
  tag = s.tag;
  carrier = s.carrier;
  top = s.top;
  stack = s.stack;
  nodes = s.nodes;
  own = s.own;
  members = s.members;
  firsts = s.firsts;
  fresh = s.fresh;
  cells = s.cells;
  numbers = s.numbers;
}

-- the next instruction, where nothing is read
abbrev pub next : State → State
next s = jumped (s.pc + 1) s

-- past so many octets, at the same instruction in this phase
abbrev pub past : ℕ → Phase → State → State
past n phase s = record {
  pc = s.pc;
  phase = phase;
  at = s.at + n;
  max = s.max;
  max_at = s.max_at;
  tag = s.tag;
  carrier = s.carrier;
  top = s.top;
  stack = s.stack;
  nodes = s.nodes;
  own = s.own;
  members = s.members;
  firsts = s.firsts;
  fresh = s.fresh;
  cells = s.cells;
  numbers = s.numbers;
}

-- what is kept of a node that is added: it is the first one of the home, or of a member, or none of these
abbrev pub own_by : Frame → First → Option First → Option First
own_by frame.Home x own = Some x
own_by _ x own = own

abbrev pub firsts_by : Frame → First → List First → List First
firsts_by (frame.Record back first) x xs = xs ++ x ∷ []
firsts_by _ x xs = xs

-- a node more, and the place of its actual count or tag
abbrev pub with_node : Flat → Option ℕ → State → State
with_node x place s = record {
  pc = s.pc;
  phase = s.phase;
  at = s.at;
  max = s.max;
  max_at = s.max_at;
  tag = s.tag;
  carrier = s.carrier;
  top = s.top;
  stack = s.stack;
  nodes = s.nodes ++ x ∷ [];
  own = own_by s.top (first_of x place) s.own;
  members = s.members;
  firsts = firsts_by s.top (first_of x place) s.firsts;
  fresh = s.fresh;
  cells = s.cells;
  numbers = s.numbers;
}

abbrev pub with_frames : Frame → List Frame → State → State
with_frames top stack s = record {
  pc = s.pc;
  phase = s.phase;
  at = s.at;
  max = s.max;
  max_at = s.max_at;
  tag = s.tag;
  carrier = s.carrier;
  top = top;
  stack = stack;
  nodes = s.nodes;
  own = s.own;
  members = s.members;
  firsts = s.firsts;
  fresh = s.fresh;
  cells = s.cells;
  numbers = s.numbers;
}

abbrev pub pushed : Frame → State → State
pushed f s = with_frames f (s.top ∷ s.stack) s

abbrev pub popped_to : List Frame → State → State
popped_to [] s = with_frames frame.Home [] s
popped_to (f ∷ fs) s = with_frames f fs s

abbrev pub popped : State → State
popped s = popped_to s.stack s

abbrev pub with_members : List Member → List First → State → State
with_members ms xs s = record {
  pc = s.pc;
  phase = s.phase;
  at = s.at;
  max = s.max;
  max_at = s.max_at;
  tag = s.tag;
  carrier = s.carrier;
  top = s.top;
  stack = s.stack;
  nodes = s.nodes;
  own = s.own;
  members = ms;
  firsts = xs;
  fresh = s.fresh;
  cells = s.cells;
  numbers = s.numbers;
}

abbrev pub with_fresh : List Owed → State → State
with_fresh owed s = record {
  pc = s.pc;
  phase = s.phase;
  at = s.at;
  max = s.max;
  max_at = s.max_at;
  tag = s.tag;
  carrier = s.carrier;
  top = s.top;
  stack = s.stack;
  nodes = s.nodes;
  own = s.own;
  members = s.members;
  firsts = s.firsts;
  fresh = owed;
  cells = s.cells;
  numbers = s.numbers;
}

abbrev pub with_names : List ℕ → List (ℕ × Known) → State → State
with_names cells numbers s = record {
  pc = s.pc;
  phase = s.phase;
  at = s.at;
  max = s.max;
  max_at = s.max_at;
  tag = s.tag;
  carrier = s.carrier;
  top = s.top;
  stack = s.stack;
  nodes = s.nodes;
  own = s.own;
  members = s.members;
  firsts = s.firsts;
  fresh = s.fresh;
  cells = cells;
  numbers = numbers;
}

abbrev pub with_max : ℕ → State → State
with_max m s = record {
  pc = s.pc;
  phase = s.phase;
  at = s.at;
  max = m;
  max_at = Some s.at;
  tag = s.tag;
  carrier = s.carrier;
  top = s.top;
  stack = s.stack;
  nodes = s.nodes;
  own = s.own;
  members = s.members;
  firsts = s.firsts;
  fresh = s.fresh;
  cells = s.cells;
  numbers = s.numbers;
}

abbrev pub with_tag : ℤ → Primitive → State → State
with_tag z p s = record {
  pc = s.pc;
  phase = s.phase;
  at = s.at;
  max = s.max;
  max_at = s.max_at;
  tag = z;
  carrier = p;
  top = s.top;
  stack = s.stack;
  nodes = s.nodes;
  own = s.own;
  members = s.members;
  firsts = s.firsts;
  fresh = s.fresh;
  cells = s.cells;
  numbers = s.numbers;
}

-- an item that is the last of its instruction: past its octets, and the next instruction
abbrev pub done_after : ℕ → State → State
done_after n s = next (past n begun s)

-- ## Elements, arms, calls and ends

-- so many elements by the run; where there is none, the next instruction
abbrev pub elements : ℕ → ℕ → State → State
elements zero run s = next s
elements (suc n) run s = jumped run (pushed (frame.Elements n run (s.pc + 1)) s)

-- the arm of a run, of which address 0 is the empty one; after an arm comes address 1, a `ret`
abbrev pub arm_taken : Bool → ℕ → State → State
arm_taken true run s = jumped 0 (with_node (tree.Union s.tag, 0) (Some s.at) (past (width s.carrier) begun s))
arm_taken false run s = jumped run (pushed (frame.Elements 0 run 1) (with_node (tree.Union s.tag, 1) (Some s.at) (past (width s.carrier) begun s)))

-- in a struct a call is of the next member, and comes back; else what is called ends as its caller does
abbrev pub call_from : Frame → ℕ → State → State
call_from (frame.Record back first) run s =
    jumped run
    (with_frames (frame.Record (s.pc + 1) first) s.stack
    (with_members (s.members ++ record { node = length s.nodes; pending = length s.fresh } ∷ []) s.firsts s))
call_from _ run s = jumped run s

abbrev pub back_to : Frame → State → Outcome
back_to frame.Home s = whole s
back_to (frame.Record back first) s = goes (jumped back s)
back_to (frame.Elements zero run back) s = goes (jumped back (popped s))
back_to (frame.Elements (suc left) run back) s = goes (jumped run (with_frames (frame.Elements left run back) s.stack s))

-- a struct ends: its members are forgotten
abbrev pub close_of : Frame → State → State
close_of (frame.Record back first) s = next (popped (with_members (take first s.members) (take first s.firsts) s))
close_of _ s = next (popped s)

-- ## Pointers

-- the pointer names this cell, or none; its referent is pending
abbrev pub owing : Class → TypeId → ℕ → Option ℕ → State → State
owing class to run c s =
    with_fresh (s.fresh ++ record { class = class; to = to.0; run = run; cell = c; agreements = [] } ∷ []) (with_node (tree.Ptr c, 0) None s)

abbrev pub new_cell : Class → TypeId → ℕ → State → State
new_cell class to run s = owing class to run (Some (length s.cells + 1)) (with_names (s.cells ++ to.0 ∷ []) s.numbers s)

abbrev pub full_by : Option Known → ℕ → TypeId → ℕ → State → Outcome
full_by None v to run s =
    goes (done_after 4
    (owing Full to run (Some (length s.cells + 1))
    (with_names (s.cells ++ to.0 ∷ []) (s.numbers ++ (v, first_met to (record { 0 = length s.cells + 1 })) ∷ []) s)))
full_by (Some k) v to run s = if k.of.0 == to.0 then goes (done_after 4 (owing Full to run (Some k.cell.0) s)) else refused s.at reason.OtherType

-- an embedded reference pointer has a cell of its own, whatever its number; 0 is null; a unique pointer has a cell of its own
abbrev pub pointer_step : Class → TypeId → ℕ → ℕ → State → Outcome
pointer_step Ref to run v s = goes (done_after 4 (new_cell Ref to run s))
pointer_step Unique to run v s = goes (done_after 4 (if v == 0 then owing Unique to run None s else new_cell Unique to run s))
pointer_step Full to run v s = if v == 0 then goes (done_after 4 (owing Full to run None s)) else full_by (known v s.numbers) v to run s

-- ## Agreements

-- the place of the count or tag that an attribute of a node speaks of, if there is one: the maximum count is that of the home
abbrev pub place_of : Attr → Option ℕ → Place → Option ℕ
place_of attr.Size max_at place = max_at
place_of attr.Max max_at place = max_at
place_of attr.First max_at (offset_before n) = Some (n - 4)
place_of attr.First max_at (counts_at n) = Some (n - 4)
place_of attr.Length max_at (counts_at n) = Some n
place_of attr.Last max_at (counts_at n) = Some n
place_of attr.Switch max_at (tag_at n) = Some n
place_of _ max_at place = None

-- agreements join a pending referent
abbrev pub joined_by : List Agreement → List Owed → ℕ → List Owed
joined_by ws [] n = []
joined_by ws (o ∷ os) zero = record { class = o.class; to = o.to; run = o.run; cell = o.cell; agreements = o.agreements ++ ws } ∷ os
joined_by ws (o ∷ os) (suc n) = o ∷ joined_by ws os n

-- what an attribute finds in the first node of a member, and the number that this is
abbrev pub first_number : Option First → Option ℤ
first_number (Some (first.Number z)) = Some z
first_number _ = None

abbrev pub max_in : First → ℕ
max_in (first.Counted max offset actual place) = max
max_in _ = 0

abbrev pub offset_in : First → ℕ
offset_in (first.Counted max offset actual place) = offset
offset_in _ = 0

abbrev pub actual_in : First → ℕ
actual_in (first.Counted max offset actual place) = actual
actual_in _ = 0

abbrev pub tag_in : First → ℤ
tag_in (first.Tag tag place) = tag
tag_in _ = pos 0

abbrev pub first_found : Attr → First → ℤ
first_found attr.Size x = pos (max_in x)
first_found attr.Max x = pos (max_in x)
first_found attr.First x = pos (offset_in x)
first_found attr.Length x = pos (actual_in x)
first_found attr.Last x = pos (offset_in x + actual_in x) -ℤ pos 1
first_found attr.Switch x = tag_in x

abbrev pub place_in : First → Place
place_in (first.Counted max offset actual (Some place)) = counts_at place
place_in (first.Tag tag (Some place)) = tag_at place
place_in _ = no_place

abbrev pub is_owing : First → Bool
is_owing first.Pointer = true
is_owing _ = false

-- an agreement that does not hold is refused at that place; what comes later, where there is none
abbrev pub disagreed : Option ℕ → ℤ → ℤ → Outcome → Outcome
disagreed None wanted found later = later
disagreed (Some place) wanted found later = refused place (reason.Disagrees wanted found)

abbrev pub try_all : List Agreement → First → State → Outcome
try_all [] x s = goes (next s)
try_all (w ∷ ws) x s =
    let later : Outcome = try_all ws x s in
    if int_eq w.wanted (first_found w.attr x) then later else disagreed (place_of w.attr s.max_at (place_in x)) w.wanted (first_found w.attr x) later

-- the agreements of a member: those of a pointer join its pending referent, those of any other are tried in its first node
abbrev pub checked : List Agreement → Option Member → Option First → State → Outcome
checked ws (Some m) (Some x) s = if is_owing x then goes (next (with_fresh (joined_by ws s.fresh m.pending) s)) else try_all ws x s
checked ws _ _ s = goes (next s)

abbrev pub check_in : Frame → Attr → ℕ → ℕ → State → Outcome
check_in (frame.Record back first) a f v s =
    checked (agreement a (first_number (slice_get s.firsts (first + v)))) (slice_get s.members (first + f)) (slice_get s.firsts (first + f)) s
check_in _ a f v s = goes (next s)

-- ## The steps

-- a text's octets with its terminator
abbrev pub text_done : Option (ℕ × Reason) → ℕ → List ℕ → State → Outcome
text_done None limit os s = goes (done_after (length os) (with_node (tree.Text limit (take (length os - 1) os), 0) (Some (s.at - 4)) s))
text_done (Some r) limit os s = refused r.0 r.1

-- a bound of 0 means the maximum count
abbrev pub limit_of : ℕ → State → ℕ
limit_of zero s = s.max
limit_of (suc n) s = suc n

-- an alignment: 1, 2, 4 or 8
abbrev pub IsAlignment : ℕ → Type 0
IsAlignment n = (n ≡ 1) ⊎ ((n ≡ 2) ⊎ ((n ≡ 4) ⊎ (n ≡ 8)))

-- an instruction of a home's value; those of roots, pipes and parameters are not among them
abbrev pub IsInner : Instr → Type 0
IsInner (op.Align n) = IsAlignment n
IsInner (op.Direct to run) = ⊥
IsInner (op.Given a f v star) = ⊥
IsInner (op.Pipe run) = ⊥
IsInner op.Defer = ⊥
IsInner _ = Unit {0}

module _ (values : List EnumList) (order : Order) (os : List ℕ) where
  abbrev pub number_step : Primitive → Option (List ℤ) → State → Outcome
  number_step p enums s =
      let z : ℤ = value_of_octets order p os in
      if is_enumerator enums z then goes (done_after (width p) (with_node (tree.Num z, 0) None s)) else refused s.at reason.EnumValue

  abbrev pub vary_by : Phase → ℕ → ℕ → State → Outcome
  vary_by (offset_read o) limit run s =
      let c : ℕ = unsigned order os in
      if nat_lt limit (o + c) then refused s.at reason.PastBound else goes
      (elements c run (with_node (tree.Arr limit o, c) (Some s.at) (past 4 begun s)))
  vary_by _ limit run s = goes (past 4 (offset_read (unsigned order os)) s)

  abbrev pub text_by : Phase → ℕ → State → Outcome
  text_by (count_read c) limit s = text_done (text_refusal s.at os) limit os s
  text_by (offset_read o) limit s =
      let c : ℕ = unsigned order os in
      if c == 0 then refused s.at reason.TextEmpty else if nat_lt limit c then refused s.at reason.PastBound else goes (past 4 (count_read (c - 1)) s)
  text_by _ limit s = if unsigned order os == 0 then goes (past 4 (offset_read 0) s) else refused s.at reason.TextOffset

  abbrev pub hoist_by : Phase → State → Outcome
  hoist_by gap_read s = goes (done_after 4 (with_max (unsigned order os) s))
  hoist_by _ s = goes (past (length os) gap_read s)

  abbrev pub tag_step : TagForm → State → Outcome
  tag_step form s =
      let z : ℤ = value_of_octets order form.prim os in
      if is_enumerator form.values z then goes (next (with_tag z form.prim s)) else refused s.at reason.EnumValue

  -- what an instruction of a home's value does
  abbrev pub step : Instr → State → Outcome
  step op.Void s = goes (next s)
  step op.Ret s = back_to s.top s
  step (op.Align n) s = goes (done_after (length os) s)
  step (op.Num of) s = number_step (prim_of of.0) None s
  step (op.Enum of) s = number_step Short (enumerators values of.0) s
  step (op.Record n) s = goes (next (pushed (frame.Record 0 (length s.members)) (with_node (tree.Rec, n) None s)))
  step op.Close s = goes (close_of s.top s)
  step (op.Fixed n run) s = goes (elements n run (with_node (tree.Arr n 0, n) None s))
  step (op.Conf run) s = goes (elements s.max run (with_node (tree.Arr s.max 0, s.max) None s))
  step (op.Vary bound run) s = vary_by s.phase bound run s
  step (op.Confvary run) s = vary_by s.phase s.max run s
  step (op.Text bound) s = text_by s.phase (limit_of bound s) s
  step op.Hoist s = hoist_by s.phase s
  step (op.Tag of) s = tag_step (tag_form values of) s
  step (op.Arm label run) s = goes (if int_eq label s.tag then arm_taken (run == 0) run s else next s)
  step (op.Other run) s = goes (arm_taken (run == 0) run s)
  step op.Noarm s = refused s.at reason.NoArm
  step (op.Pointer class to run) s = pointer_step class to run (unsigned order os) s
  step op.Context s =
      goes (done_after 20 (with_node (tree.Context (unsigned order (take 4 os)) (identifier order os (drop 4 os)), 0) None s))
  step (op.Check a f v star) s = check_in s.top a f v s
  step (op.Call run) s = goes (call_from s.top run s)
  step _ s = whole s
