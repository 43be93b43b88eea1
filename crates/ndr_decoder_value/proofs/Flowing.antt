-- Steps that read and note nothing: what a turn comes to.
-- `m` is the machine before, `m1` the one after, `s` the state before.
use Rattle.std.proofs.Common.{◌≡◌, ℕ, true, false, List, [], length, Some, Result, Ok, IsErrAnd, refl, sym, ap, subst}
use Rattle.std.specs.Prelude.{eqb, slice_get}
use Rattle.std.proofs.lemmas.Bool.{eqb-true}
use Rattle.std.specs.Io.KnownBytes.{Consumes}
use Rattle.nd_base.specs.declared.octets.Order.{Order}
use Rattle.nd_base.specs.Over.{SourceOver}
use Rattle.nd_value.specs.Logged.{Logged}
use Rattle.nd_value.specs.declared.item.Home.{Home}
use Rattle.nd_grammar.specs.Entry.{gap}
use Rattle.ndr_code.specs.declared.instr.Instr.{Instr}
use Rattle.ndr_code.specs.declared.instr.Instr.TheVariants as op
use Rattle.ndr_code.specs.declared.lists.EnumList.{EnumList}
use Rattle.ndr_decoder_laws.specs.declared.frame.Frame.TheVariants as frame
use Rattle.ndr_decoder_laws.specs.steps.Steps.{State, back_to, wants, step}
use Rattle.ndr_decoder_laws.specs.steps.StepItems.{step_items}
use Rattle.ndr_decoder_laws.specs.steps.Good.{HasOctets}
use Rattle.ndr_decoder_state.specs.declared.fault.DecodeFault.{DecodeFault}
use Rattle.ndr_decoder_state.specs.declared.fault.DecodeFault.TheVariants as fault
use Rattle.ndr_decoder_state.specs.declared.fault.Progress.{Progress}
use Rattle.ndr_decoder_state.specs.declared.fault.Progress.TheVariants as progress
use Rattle.ndr_decoder_state.specs.declared.machine.Machine.{Machine}
use Rattle.ndr_decoder_state.specs.Seen.{state_of, Comes}
use Rattle.ndr_decoder_state.specs.Notes.{notes_seen, Noted}
use Rattle.ndr_decoder_value.specs.Parts.{flows, quick, FlowComes}
use Rattle.ndr_decoder_value.specs.Reaching.{Turns}
use Rattle.ndr_decoder_value.proofs.Handing.{Leaves, back_leaves, call_leaves, close_leaves, quiet_end}
use Rattle.ndr_decoder_value.proofs.Looping.{AllSafe}
use Rattle.ndr_decoder_value.proofs.OneTurn.{one_stopped, one_taken}

-- an empty gap wants no octets
none_wanted : (g : ℕ) → eqb g 0 ≡ true → length {A = ℕ} [] ≡ g
none_wanted g e = sym (eqb-true g 0 e)

flow_has : (values : List EnumList) (i : Instr) (s : State) → flows i s.at ≡ true → HasOctets (wants values i s) [] s.at
flow_has values op.Ret s e = refl
flow_has values (op.Record n) s e = refl
flow_has values op.Close s e = refl
flow_has values (op.Call run) s e = refl
flow_has values (op.Align n) s e = none_wanted (gap s.at n) e
flow_has values _ s e = absurd (let no : false ≡ true = e in cc)

flow_items : (order : Order) (h : Home) (i : Instr) (s : State) → flows i s.at ≡ true → step_items order h [] i s ≡ []
flow_items order h op.Ret s e = refl
flow_items order h (op.Record n) s e = refl
flow_items order h op.Close s e = refl
flow_items order h (op.Call run) s e = refl
flow_items order h (op.Align n) s e = refl
flow_items order h _ s e = absurd (let no : false ≡ true = e in cc)

flow_leaves : (values : List EnumList) (order : Order) (i : Instr) (s : State) → flows i s.at ≡ true → Leaves s.cells (step values order [] i s)
flow_leaves values order op.Ret s e = back_leaves s.top s
flow_leaves values order (op.Record n) s e = refl
flow_leaves values order op.Close s e = close_leaves s.top s
flow_leaves values order (op.Call run) s e = call_leaves s.top run s
flow_leaves values order (op.Align n) s e = refl
flow_leaves values order _ s e = absurd (let no : false ≡ true = e in cc)

-- a quick step is one of these
pub quick_flows : (i : Instr) (at : ℕ) → quick i at ≡ true → flows i at ≡ true
quick_flows op.Ret at e = refl
quick_flows (op.Align n) at e = e
quick_flows _ at e = absurd (let no : false ≡ true = e in cc)

module _ (values : List EnumList) (order : Order) (code : List Instr) (h : Home) (m : Machine) (source : SourceOver) (i : Instr) (there : slice_get code m.pc ≡ Some i)
    (left : Consumes source.left source.left_now []) (log : Logged) (steps : ℕ) (m1 : Machine) where
  -- it goes on, or the value is whole
  pub flow_taken : (p : Progress) → flows i m.at ≡ true → AllSafe values order code h (state_of m) → FlowComes i (state_of m) p (state_of m1)
      → Turns values order code h (state_of m) source (notes_seen log log steps steps m.cells m1.cells) (state_of m1) (Ok p)
  flow_taken p flow safe comes =
      let here : Comes (step values order [] i (state_of m)) (Ok p) (state_of m1) = comes values order in
      one_taken values order code h m source i [] there tt left log steps m1 log steps (Ok p) safe (flow_has values i (state_of m) flow) here
      (subst (λ xs. Noted {T = Progress} (step values order [] i (state_of m)) xs (notes_seen log log steps steps m.cells m1.cells) (Ok p)) (sym (flow_items order h i (state_of m) flow))
      (quiet_end (step values order [] i (state_of m)) log steps m m1 p (flow_leaves values order i (state_of m) flow) here))

  -- there was no memory
  pub flow_stopped : (r : Result Progress DecodeFault) → IsErrAnd r (λ y. y ≡ fault.Memory)
      → Turns values order code h (state_of m) source (notes_seen log log steps steps m.cells m1.cells) (state_of m1) r
  flow_stopped r err = one_stopped values order code h m source i [] there tt left log steps m1 fault.Memory r tt err

-- the end of a home's value
pub home_over : (s : State) → s.top ≡ frame.Home → FlowComes op.Ret s progress.Whole s
home_over s e values order = ap (λ t. back_to t s) e
