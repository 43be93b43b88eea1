-- One step, from what its calls answered.
-- `m` is the machine before, `r` what the turn answers.
use Rattle.std.proofs.Common.{◌≡◌, ℕ, List, Some, Result, Ok, Err, IsErrAnd, refl, sym, ap, subst}
use Rattle.std.specs.Prelude.{slice_get}
use Rattle.std.specs.Io.KnownBytes.{Consumes}
use Rattle.nd_base.specs.declared.octets.Order.{Order}
use Rattle.nd_base.specs.Over.{SourceOver}
use Rattle.nd_types.specs.Number.{AreOctets}
use Rattle.nd_value.specs.Logged.{Logged}
use Rattle.nd_value.specs.declared.item.Home.{Home}
use Rattle.ndr_code.specs.declared.instr.Instr.{Instr}
use Rattle.ndr_code.specs.declared.lists.EnumList.{EnumList}
use Rattle.ndr_decoder_laws.specs.steps.Steps.{wants, step}
use Rattle.ndr_decoder_laws.specs.steps.StepItems.{step_items}
use Rattle.ndr_decoder_laws.specs.steps.Good.{HasOctets}
use Rattle.ndr_decoder_state.specs.declared.fault.DecodeFault.{DecodeFault}
use Rattle.ndr_decoder_state.specs.declared.fault.Progress.{Progress}
use Rattle.ndr_decoder_state.specs.declared.machine.Machine.{Machine}
use Rattle.ndr_decoder_state.specs.Seen.{state_of, Comes}
use Rattle.ndr_decoder_state.specs.Notes.{notes_seen, Noted}
use Rattle.ndr_decoder_value.specs.Reaching.{Turns, Fetches}
use Rattle.ndr_decoder_value.proofs.Looping.{AllSafe}
use Rattle.ndr_decoder_value.proofs.Noting.{cell_count}
use Rattle.ndr_decoder_value.proofs.Turning.{not_fetched, step_taken}

-- what a `?` hands on
pub handed_on : {T : Type 0} (r : Result T DecodeFault) (e : DecodeFault) → IsErrAnd r (λ y. y ≡ e) → r ≡ Err e
handed_on (Ok t) e h = absurd h
handed_on (Err y) e h = ap Err h

module _ (values : List EnumList) (order : Order) (code : List Instr) (h : Home) (m : Machine) (source : SourceOver) (i : Instr) (os : List ℕ)
    (there : slice_get code m.pc ≡ Some i) (octets : AreOctets os) (left : Consumes source.left source.left_now os) (log : Logged) (steps : ℕ) where
  pub one_stopped : (m1 : Machine) (e : DecodeFault) (r : Result Progress DecodeFault) → Fetches (wants values i (state_of m)) m.at source os (Err e) → IsErrAnd r (λ y. y ≡ e)
      → Turns values order code h (state_of m) source (notes_seen log log steps steps m.cells m1.cells) (state_of m1) r
  one_stopped m1 e r f err =
      subst (λ y. Turns values order code h (state_of m) source (notes_seen log log steps steps m.cells m1.cells) (state_of m1) y) (sym (handed_on r e err))
      (not_fetched values order code h (state_of m) (state_of m1) source (notes_seen log log steps steps m.cells m1.cells) i os e there octets left
      f refl refl)

  pub one_taken : (m1 : Machine) (log1 : Logged) (steps1 : ℕ) (r : Result Progress DecodeFault) → AllSafe values order code h (state_of m)
      → HasOctets (wants values i (state_of m)) os m.at → Comes (step values order os i (state_of m)) r (state_of m1)
      → Noted (step values order os i (state_of m)) (step_items order h os i (state_of m)) (notes_seen log log1 steps steps1 m.cells m1.cells) r
      → Turns values order code h (state_of m) source (notes_seen log log1 steps steps1 m.cells m1.cells) (state_of m1) r
  one_taken m1 log1 steps1 r safe has comes noted =
      step_taken values order code h (state_of m) (state_of m1) source (notes_seen log log1 steps steps1 m.cells m1.cells) i os there octets left has r safe
      (sym (cell_count m)) (sym (cell_count m1)) comes noted
