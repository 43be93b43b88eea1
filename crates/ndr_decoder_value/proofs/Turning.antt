-- One step, by the octets that it wants: what a turn comes to.
-- `i` is the instruction, `os` are the octets that came, `s0` is the state before and `s1` the one after.
use Rattle.std.proofs.Common.{◌≡◌, ◌≤◌, ℕ, ◌+◌, List, [], length, Some, Result, Ok, Err, sym, subst, arith}
use Rattle.std.proofs.lemmas.List.{append-nil}
use Rattle.std.specs.Prelude.{slice_get}
use Rattle.std.specs.Io.KnownBytes.{Consumes}
use Rattle.nd_base.specs.declared.octets.Order.{Order}
use Rattle.nd_base.specs.Over.{SourceOver}
use Rattle.nd_types.specs.Number.{AreOctets}
use Rattle.nd_value.specs.declared.item.Home.{Home}
use Rattle.nd_value.specs.declared.item.Item.{Item}
use Rattle.nd_grammar.specs.declared.reason.Reason.{Reason}
use Rattle.nd_grammar.specs.declared.reason.Reason.TheVariants as reason
use Rattle.ndr_code.specs.declared.instr.Instr.{Instr}
use Rattle.ndr_code.specs.declared.lists.EnumList.{EnumList}
use Rattle.ndr_decoder_laws.specs.steps.Steps.{State, goes, refused, wants, step}
use Rattle.ndr_decoder_laws.specs.steps.StepItems.{step_items}
use Rattle.ndr_decoder_laws.specs.steps.Good.{HasOctets}
use Rattle.ndr_decoder_laws.specs.runs.Reaching.{Reaches, IsSafe, begins, steps_to}
use Rattle.ndr_decoder_state.specs.declared.fault.DecodeFault.{DecodeFault}
use Rattle.ndr_decoder_state.specs.declared.fault.DecodeFault.TheVariants as fault
use Rattle.ndr_decoder_state.specs.declared.fault.Progress.{Progress}
use Rattle.ndr_decoder_state.specs.declared.fault.Progress.TheVariants as progress
use Rattle.ndr_decoder_state.specs.Seen.{Comes}
use Rattle.ndr_decoder_state.specs.Notes.{NotesSeen, IsNotedPart, nothing_noted, all_are_noted, Noted, ticks}
use Rattle.ndr_decoder_value.specs.Reaching.{IsLogged, IsLoggedPart, End, EndsBad, EndsCutOff, EndsFault, Turns, Fetches}
use Rattle.ndr_decoder_value.proofs.Outcomes.{IsOwnRefusal, step_own}

module _ (values : List EnumList) (order : Order) (code : List Instr) (h : Home) (s0 s1 : State) (source : SourceOver) (n : NotesSeen) (i : Instr) (os : List ℕ) where
  -- a run that has come through no step yet
  abbrev here : slice_get code s0.pc ≡ Some i → AreOctets os → Consumes source.left source.left_now os → End values order code h s0 source
  here there octets left = record { fetched = []; noted = []; os = os; s = s0; i = i; reached = begins; there = there; octets = octets; left = left }

  nothing_logged : n.log_now ≡ n.log → n.steps_now ≡ n.steps → IsLogged [] s0 s0 n
  nothing_logged same idle = (same, omega (arith, idle))

  nothing_counted : n.log_now ≡ n.log → n.steps_now ≤ n.steps → IsLoggedPart [] s0 s0 n
  nothing_counted same idle = (same, omega (arith, idle))

  -- where the octets did not come
  pub not_fetched : (e : DecodeFault) → slice_get code s0.pc ≡ Some i → AreOctets os → Consumes source.left source.left_now os
      → Fetches (wants values i s0) s0.at source os (Err e) → n.log_now ≡ n.log → n.steps_now ≡ n.steps → EndsFault values order code h s0 source n s1 e
  not_fetched (fault.Bad place reason.TooLong) there octets left f same idle =
      (here there octets left, (f.0, (f.1.0, (f.1.1, nothing_logged same idle))))
  not_fetched (fault.Bad place reason.Truncated) there octets left f same idle =
      (here there octets left, (f.0, (f.1.0, (f.1.1.0, (f.1.1.1, nothing_logged same idle)))))
  not_fetched (fault.Bad place _) there octets left f same idle = absurd f
  not_fetched fault.ReadFault there octets left f same idle = ((here there octets left, (f.0, nothing_logged same idle)), f.1)
  not_fetched fault.Memory there octets left f same idle = (here there octets left, nothing_counted same (omega (arith, idle)))

  -- where they came
  module _ (there : slice_get code s0.pc ≡ Some i) (octets : AreOctets os) (left : Consumes source.left source.left_now os) (has : HasOctets (wants values i s0) os s0.at) where
    bad : (place : ℕ) (why : Reason) → step values order os i s0 ≡ refused place why → IsOwnRefusal (refused place why) → IsLogged [] s0 s0 n
        → EndsBad values order code h s0 source n s1 place why
    bad place reason.TooLong e own logged = absurd own
    bad place reason.Truncated e own logged = absurd own
    bad place _ e own logged = (here there octets left, (has, (e, logged)))

    stepped : (s : State) → step values order os i s0 ≡ goes s → Reaches values order code h s0 os (step_items order h os i s0) s
    stepped s e = steps_to [] os [] s0 s i begins there has octets e

    cut_off : ((fetched : List ℕ) (noted : List Item) (s : State) → Reaches values order code h s0 fetched noted s → IsSafe code s) → n.cells ≡ length s0.cells
        → IsNotedPart (step values order os i s0) (step_items order h os i s0) n → EndsCutOff values order code h s0 source n s1
    cut_off safe cells (nothing_noted same idle) = (here there octets left, nothing_counted same idle)
    cut_off safe cells (all_are_noted s e log counted) =
        let safe_here : IsSafe code s = safe os (step_items order h os i s0) s (stepped s e) in (
          record {
            fetched = os;
            noted = step_items order h os i s0;
            os = [];
            s = s;
            i = safe_here.i;
            reached = stepped s e;
            there = safe_here.there;
            octets = tt;
            left = subst (Consumes source.left source.left_now) (sym (append-nil os)) left;
          },
          (log, omega (arith, cells, counted)),
        )

    pub step_taken : (r : Result Progress DecodeFault) → ((fetched : List ℕ) (noted : List Item) (s : State) → Reaches values order code h s0 fetched noted s → IsSafe code s)
        → n.cells ≡ length s0.cells → n.cells_now ≡ length s1.cells → Comes (step values order os i s0) r s1
        → Noted (step values order os i s0) (step_items order h os i s0) n r → Turns values order code h s0 source n s1 r
    step_taken (Ok progress.More) safe before after e noted =
        let counted : n.steps_now + n.cells ≡ n.steps + ticks (step_items order h os i s0) + n.cells_now = noted.1 in
        record { fetched = os; noted = step_items order h os i s0; reached = stepped s1 e; left = left; logged = (noted.0, omega (arith, counted, before, after)) }
    step_taken (Ok progress.Whole) safe before after e noted =
        let counted : n.steps_now + n.cells ≡ n.steps + ticks (step_items order h os i s0) + n.cells_now = noted.1 in
        (here there octets left, (has, (e, (noted.0, omega (arith, counted, before, after)))))
    step_taken (Err (fault.Bad place why)) safe before after e noted =
        bad place why e (subst IsOwnRefusal e (step_own values order os i s0)) (nothing_logged noted.0 noted.1)
    step_taken (Err fault.ReadFault) safe before after e noted = absurd e
    step_taken (Err fault.Memory) safe before after e noted = cut_off safe before noted
