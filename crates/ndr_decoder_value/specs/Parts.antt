-- Parts of steps, as the code has functions for them.
-- `s` is a state, `x` what is kept of a node, `n` an offset or a pointer's number, `c` a count.
use Rattle.std.specs.Prelude.{◌≡◌, ℕ, ◌+◌, ◌-◌, ℤ, Bool, true, false, ◌==◌, nat_lt, if◌then◌else◌, List, [], ◌∷◌, ◌++◌, length, take, drop, slice_get}
use Rattle.std.specs.Prelude.{Option, Some, None, Result, Ok, Err, option_map}
use Rattle.std.specs.Ordering.{int_eq}
use Rattle.nd_base.specs.declared.octets.Order.{Order}
use Rattle.nd_types.specs.declared.types.Attr.{Attr}
use Rattle.nd_types.specs.declared.types.Class.{Class}
use Rattle.nd_types.specs.declared.types.Class.TheVariants.{Full}
use Rattle.nd_types.specs.declared.types.TypeId.{TypeId}
use Rattle.nd_types.specs.Number.{unsigned}
use Rattle.nd_value.specs.Agreement.{Agreement, agreement}
use Rattle.nd_value.specs.Tree as tree
use Rattle.nd_grammar.specs.declared.reason.Reason.{Reason}
use Rattle.nd_grammar.specs.declared.reason.Reason.TheVariants as reason
use Rattle.nd_grammar.specs.Entry.{gap}
use Rattle.nd_grammar.specs.Reader.{identifier}
use Rattle.ndr_code.specs.declared.instr.Instr.{Instr}
use Rattle.ndr_code.specs.declared.lists.EnumList.{EnumList}
use Rattle.nd_value.specs.declared.item.Home.{Home}
use Rattle.ndr_decoder_laws.specs.steps.StepItems.{step_items}
use Rattle.ndr_decoder_state.specs.declared.fault.Progress.{Progress}
use Rattle.ndr_decoder_state.specs.Seen.{Comes, Does}
use Rattle.ndr_decoder_state.specs.Notes.{Noted, NotesSeen}
use Rattle.ndr_code.specs.declared.instr.Instr.TheVariants as op
use Rattle.ndr_refs.specs.Known.{known}
use Rattle.ndr_decoder_laws.specs.declared.first.First.{First}
use Rattle.ndr_decoder_laws.specs.declared.first.First.TheVariants as first
use Rattle.ndr_decoder_state.specs.declared.fault.DecodeFault.{DecodeFault}
use Rattle.ndr_decoder_state.specs.declared.fault.DecodeFault.TheVariants as fault
use Rattle.ndr_decoder_laws.specs.declared.frame.Frame.TheVariants as frame
use Rattle.ndr_decoder_laws.specs.steps.Steps.{State, Outcome, Owed, goes, refused, next, jumped, past, pushed, with_node, checked, first_number}
use Rattle.ndr_decoder_laws.specs.steps.Steps.{first_found, place_of, place_in, done_after, elements, arm_taken, Want, no_octets, gap_of, item_of}
use Rattle.ndr_decoder_laws.specs.steps.Steps.{owing, new_cell, full_by, Phase, begun, gap_read, offset_read, count_read, step}

-- ## Octets and instructions

-- the octets of a step
abbrev pub HasWanted : Want → List ℕ → Type 0
HasWanted no_octets os = os ≡ []
HasWanted (gap_of n) os = length os ≡ n
HasWanted (item_of n) os = length os ≡ n

-- whether an instruction reads octets
abbrev pub reads : Instr → Bool
reads (op.Align n) = true
reads (op.Num of) = true
reads (op.Enum of) = true
reads (op.Vary bound run) = true
reads (op.Confvary run) = true
reads (op.Text bound) = true
reads op.Hoist = true
reads (op.Tag of) = true
reads (op.Pointer class to run) = true
reads op.Context = true
reads _ = false

-- whether a step at a place reads and notes nothing: it begins or ends a struct or a run, or is a gap that is empty
abbrev pub flows : Instr → ℕ → Bool
flows op.Ret at = true
flows (op.Record n) at = true
flows op.Close at = true
flows (op.Call run) at = true
flows (op.Align n) at = gap at n == 0
flows _ at = false

-- whether it ends a run, or is a gap that is empty
abbrev pub quick : Instr → ℕ → Bool
quick op.Ret at = true
quick (op.Align n) at = gap at n == 0
quick _ at = false

abbrev pub actual_read : ℕ → ℕ → ℕ → ℕ → State → Outcome
actual_read o c limit run s =
    if nat_lt limit (o + c) then refused s.at reason.PastBound
    else goes (elements c run (with_node (tree.Arr limit o, c) (Some s.at) (past 4 begun s)))

-- a maximum count is four octets, after its gap
abbrev pub IsHoisted : Phase → List ℕ → Type 0
IsHoisted gap_read os = length os ≡ 4
IsHoisted _ os = Unit {0}

-- ## Strings

abbrev pub text_offset_read : ℕ → State → Outcome
text_offset_read n s = if n == 0 then goes (past 4 (offset_read 0) s) else refused s.at reason.TextOffset

abbrev pub text_count_read : ℕ → ℕ → State → Outcome
text_count_read c limit s =
    if c == 0 then refused s.at reason.TextEmpty else if nat_lt limit c then refused s.at reason.PastBound else goes (past 4 (count_read (c - 1)) s)

-- so many octets are those that a string wants next: its offset and its actual count have four
abbrev pub TextWanted : Phase → ℕ → Type 0
TextWanted (count_read c) n = n ≡ c + 1
TextWanted _ n = n ≡ 4

-- ## Agreements

-- the place of an actual count, and of a tag
abbrev pub count_place : First → Option ℕ
count_place (first.Counted max offset actual place) = place
count_place _ = None

abbrev pub tag_place : First → Option ℕ
tag_place (first.Tag tag place) = place
tag_place _ = None

-- why an agreement does not hold in a node: nothing, where it does, or where the node has no such count or tag
abbrev pub disagreement : Agreement → First → Option ℕ → Option (ℕ × Reason)
disagreement w x max_at =
    if int_eq w.wanted (first_found w.attr x) then None
    else option_map (λ place. (place, reason.Disagrees w.wanted (first_found w.attr x))) (place_of w.attr max_at (place_in x))

abbrev pub IsTried : Option (ℕ × Reason) → Result (Unit {0}) DecodeFault → Type 0
IsTried why (Ok u) = why ≡ None
IsTried why (Err (fault.Bad place reason)) = why ≡ Some (place, reason)
IsTried why (Err _) = ⊥

-- the agreement of a member of the struct whose members begin at `first`
abbrev pub member_checked : ℕ → Attr → ℕ → ℕ → State → Outcome
member_checked first a f v s =
    checked (agreement a (first_number (slice_get s.firsts (first + v)))) (slice_get s.members (first + f)) (slice_get s.firsts (first + f)) s

-- a pending referent with one agreement more
abbrev pub with_agreement : Agreement → Owed → Owed
with_agreement a o = record { class = o.class; to = o.to; run = o.run; cell = o.cell; agreements = o.agreements ++ a ∷ [] }

-- ## Arms, pointers and context handles

abbrev pub arm_entered : ℕ → State → State
arm_entered run s = if run == 0 then jumped 0 s else jumped run (pushed (frame.Elements 0 run 1) s)

abbrev pub arm_tried : ℤ → ℕ → State → Outcome
arm_tried label run s = goes (if int_eq label s.tag then arm_taken (run == 0) run s else next s)

abbrev pub unique_read : Class → TypeId → ℕ → ℕ → State → Outcome
unique_read class to run n s = goes (done_after 4 (if n == 0 then owing class to run None s else new_cell class to run s))

abbrev pub full_read : TypeId → ℕ → ℕ → State → Outcome
full_read to run n s = if n == 0 then goes (done_after 4 (owing Full to run None s)) else full_by (known n s.numbers) n to run s

abbrev pub context_read : Order → List ℕ → State → Outcome
context_read order os s =
    goes (done_after 20 (with_node (tree.Context (unsigned order (take 4 os)) (identifier order os (drop 4 os)), 0) None s))

-- ## Instructions that read nothing

-- what an instruction that reads nothing does, whatever the octets, their order and the values of enumerated types
abbrev pub Acts : Instr → State → Result (Unit {0}) DecodeFault → State → Type 0
Acts i s r t = (values : List EnumList) (order : Order) (os : List ℕ) → Does (step values order os i s) r t

-- what a step that reads and notes nothing comes to
abbrev pub FlowComes : Instr → State → Progress → State → Type 0
FlowComes i s p t = (values : List EnumList) (order : Order) → Comes (step values order [] i s) (Ok p) t

-- what it notes
abbrev pub ActNoted : Home → Instr → State → NotesSeen → Result (Unit {0}) DecodeFault → Type 0
ActNoted h i s n r = (values : List EnumList) (order : Order) (os : List ℕ) → Noted (step values order os i s) (step_items order h os i s) n r
