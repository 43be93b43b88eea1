-- One turn, and then others: what was taken, reached, noted and counted comes together.
-- `m` is what came before, `e` an end after it.
use Rattle.std.proofs.Common.{◌≡◌, ◌≤◌, ℕ, ◌+◌, List, [], ◌∷◌, ◌++◌, length, Option, refl, sym, ap, ◌∙◌, subst, arith, append_assoc}
use Rattle.std.proofs.KnownBytes.{Consumes-trans}
use Rattle.std.proofs.lemmas.List.{append-nil}
use Rattle.std.specs.Prelude.{Bool, ◌-◌}
use Rattle.std.specs.Io.KnownBytes.{Consumes}
use Rattle.nd_base.specs.declared.octets.Order.{Order}
use Rattle.nd_base.proofs.Rising.{rose_later}
use Rattle.nd_base.specs.Over.{SourceOver}
use Rattle.nd_value.specs.Logged.{Logged, noted}
use Rattle.nd_value.specs.declared.item.Home.{Home}
use Rattle.nd_value.specs.declared.item.Item.{Item}
use Rattle.nd_grammar.specs.declared.reason.Reason.{Reason}
use Rattle.nd_grammar.specs.declared.reason.Reason.TheVariants as reason
use Rattle.ndr_code.specs.declared.instr.Instr.{Instr}
use Rattle.ndr_code.specs.declared.lists.EnumList.{EnumList}
use Rattle.ndr_decoder_laws.specs.steps.Steps.{State}
use Rattle.ndr_decoder_laws.specs.steps.StepItems.{step_items}
use Rattle.ndr_decoder_laws.specs.runs.Reaching.{Reaches, IsSafe, begins}
use Rattle.ndr_decoder_laws.proofs.runs.Joining.{joined}
use Rattle.ndr_decoder_state.specs.declared.fault.DecodeFault.{DecodeFault}
use Rattle.ndr_decoder_state.specs.declared.fault.DecodeFault.TheVariants as fault
use Rattle.ndr_decoder_state.specs.Notes.{NotesSeen, notes_seen, all_noted, ticks}
use Rattle.ndr_decoder_value.specs.Reaching.{IsLogged, IsLoggedPart, Moves, End, EndsWhole, EndsBad, EndsUnread, EndsCutOff, EndsFault}
use Rattle.ndr_decoder_fast.proofs.Going.{ticks_on}

-- ## Items

pub all_noted_on : (xs ys : List Item) (g : Logged) → all_noted (xs ++ ys) g ≡ all_noted ys (all_noted xs g)
all_noted_on [] ys g = refl
all_noted_on (x ∷ xs) ys g = all_noted_on xs ys (noted x g)

-- a source over a call
abbrev pub source : Option (List ℕ) → Option (List ℕ) → Bool → ℕ → ℕ → SourceOver
source left left_now ended before now = record { left = left; left_now = left_now; ended_now = ended; faults = record { before = before; now = now } }

-- ## Turns

module _ (values : List EnumList) (order : Order) (code : List Instr) (h : Home) (l0 l1 l2 : Option (List ℕ)) (e1 e2 : Bool) (f0 f1 f2 : ℕ) (g0 g1 g2 : Logged) (k0 k1 k2 c0 c1 c2 : ℕ) where
  abbrev first_notes : NotesSeen
  first_notes = notes_seen g0 g1 k0 k1 c0 c1

  abbrev later_notes : NotesSeen
  later_notes = notes_seen g1 g2 k1 k2 c1 c2

  abbrev all_notes : NotesSeen
  all_notes = notes_seen g0 g2 k0 k2 c0 c2

  logged_on : (xs ys : List Item) (s0 s1 s2 : State) → IsLogged xs s0 s1 first_notes → IsLogged ys s1 s2 later_notes → IsLogged (xs ++ ys) s0 s2 all_notes
  logged_on xs ys s0 s1 s2 p q =
      let e : ticks (xs ++ ys) ≡ ticks xs + ticks ys = ticks_on xs ys in
      let p1 : k1 + length s0.cells ≡ k0 + ticks xs + length s1.cells = p.1 in
      let q1 : k2 + length s1.cells ≡ k1 + ticks ys + length s2.cells = q.1 in
      (q.0 ∙ ap (all_noted ys) p.0 ∙ sym (all_noted_on xs ys g0), omega (arith, e, p1, q1))

  part_on : (xs ys : List Item) (s0 s1 s2 : State) → IsLogged xs s0 s1 first_notes → IsLoggedPart ys s1 s2 later_notes → IsLoggedPart (xs ++ ys) s0 s2 all_notes
  part_on xs ys s0 s1 s2 p q =
      let e : ticks (xs ++ ys) ≡ ticks xs + ticks ys = ticks_on xs ys in
      let p1 : k1 + length s0.cells ≡ k0 + ticks xs + length s1.cells = p.1 in
      let q1 : k2 + length s1.cells ≤ k1 + ticks ys + length s2.cells = q.1 in
      (q.0 ∙ ap (all_noted ys) p.0 ∙ sym (all_noted_on xs ys g0), omega (arith, e, p1, q1))

  abbrev Moved : State → State → Type 0
  Moved s0 s1 = Moves values order code h s0 (source l0 l1 e1 f0 f1) first_notes s1

  pub moves_on : (s0 s1 s2 : State) → Moved s0 s1 → Moves values order code h s1 (source l1 l2 e2 f1 f2) later_notes s2 → Moves values order code h s0 (source l0 l2 e2 f0 f2) all_notes s2
  moves_on s0 s1 s2 m e = record {
    fetched = m.fetched ++ e.fetched;
    noted = m.noted ++ e.noted;
    reached = joined values order code h s0 s1 m.fetched m.noted m.reached e.reached;
    left = Consumes-trans l0 l1 l2 m.fetched e.fetched m.left e.left;
    logged = logged_on m.noted e.noted s0 s1 s2 m.logged e.logged;
  }

  abbrev end_on : (s0 s1 : State) → Moved s0 s1 → End values order code h s1 (source l1 l2 e2 f1 f2) → End values order code h s0 (source l0 l2 e2 f0 f2)
  end_on s0 s1 m e = record {
    fetched = m.fetched ++ e.fetched;
    noted = m.noted ++ e.noted;
    os = e.os;
    s = e.s;
    i = e.i;
    reached = joined values order code h s0 s1 m.fetched m.noted m.reached e.reached;
    there = e.there;
    octets = e.octets;
    left = subst (Consumes l0 l2) (sym (append_assoc m.fetched e.fetched e.os)) (Consumes-trans l0 l1 l2 m.fetched (e.fetched ++ e.os) m.left e.left);
  }

  pub whole_on : (s0 s1 s2 : State) → Moved s0 s1 → EndsWhole values order code h s1 (source l1 l2 e2 f1 f2) later_notes s2
      → EndsWhole values order code h s0 (source l0 l2 e2 f0 f2) all_notes s2
  whole_on s0 s1 s2 m w = (
    end_on s0 s1 m w.0,
    (
      w.1.0,
      (
        w.1.1.0,
        subst (λ xs. IsLogged xs s0 s2 all_notes) (sym (append_assoc m.noted w.0.noted (step_items order h w.0.os w.0.i w.0.s)))
            (logged_on m.noted (w.0.noted ++ step_items order h w.0.os w.0.i w.0.s) s0 s1 s2 m.logged w.1.1.1),
      ),
    ),
  )

  bad_on : (s0 s1 s2 : State) → Moved s0 s1 → (place : ℕ) (why : Reason) → EndsBad values order code h s1 (source l1 l2 e2 f1 f2) later_notes s2 place why
      → EndsBad values order code h s0 (source l0 l2 e2 f0 f2) all_notes s2 place why
  bad_on s0 s1 s2 m place reason.TooLong w =
      (end_on s0 s1 m w.0, (w.1.0, (w.1.1.0, (w.1.1.1.0, logged_on m.noted w.0.noted s0 s1 w.0.s m.logged w.1.1.1.1))))
  bad_on s0 s1 s2 m place reason.Truncated w =
      (end_on s0 s1 m w.0, (w.1.0, (w.1.1.0, (w.1.1.1.0, (w.1.1.1.1.0, logged_on m.noted w.0.noted s0 s1 w.0.s m.logged w.1.1.1.1.1)))))
  bad_on s0 s1 s2 m place _ w =
      (end_on s0 s1 m w.0, (w.1.0, (w.1.1.0, logged_on m.noted w.0.noted s0 s1 w.0.s m.logged w.1.1.1)))

  unread_on : (s0 s1 s2 : State) → Moved s0 s1 → EndsUnread values order code h s1 (source l1 l2 e2 f1 f2) later_notes s2
      → EndsUnread values order code h s0 (source l0 l2 e2 f0 f2) all_notes s2
  unread_on s0 s1 s2 m w = (end_on s0 s1 m w.0, (w.1.0, logged_on m.noted w.0.noted s0 s1 w.0.s m.logged w.1.1))

  cut_on : (s0 s1 s2 : State) → Moved s0 s1 → EndsCutOff values order code h s1 (source l1 l2 e2 f1 f2) later_notes s2
      → EndsCutOff values order code h s0 (source l0 l2 e2 f0 f2) all_notes s2
  cut_on s0 s1 s2 m w = (end_on s0 s1 m w.0, part_on m.noted w.0.noted s0 s1 w.0.s m.logged w.1)

  pub fault_on : (s0 s1 s2 : State) → Moved s0 s1 → f0 ≤ f1 → (e : DecodeFault) → EndsFault values order code h s1 (source l1 l2 e2 f1 f2) later_notes s2 e
      → EndsFault values order code h s0 (source l0 l2 e2 f0 f2) all_notes s2 e
  fault_on s0 s1 s2 m later (fault.Bad place why) w = bad_on s0 s1 s2 m place why w
  fault_on s0 s1 s2 m later fault.ReadFault w = (unread_on s0 s1 s2 m w.0, rose_later f0 f1 f2 later w.1)
  fault_on s0 s1 s2 m later fault.Memory w = cut_on s0 s1 s2 m w

-- ## The beginning of a run, and where it is given up

module _ (values : List EnumList) (order : Order) (code : List Instr) (h : Home) (s0 : State) (l : Option (List ℕ)) (e : Bool) (f : ℕ) (g : Logged) (k c : ℕ) where
  pub moves_none : Consumes l l [] → Moves values order code h s0 (source l l e f f) (notes_seen g g k k c c) s0
  moves_none none = record { fetched = []; noted = []; reached = begins; left = none; logged = (refl, omega arith) }

-- memory is refused between two turns
pub given_up : (values : List EnumList) (order : Order) (code : List Instr) (h : Home) (s0 s1 : State) (src : SourceOver) (n : NotesSeen) → Moves values order code h s0 src n s1
    → ((fetched : List ℕ) (noted : List Item) (s : State) → Reaches values order code h s0 fetched noted s → IsSafe code s) → EndsCutOff values order code h s0 src n s1
given_up values order code h s0 s1 src n m safe =
    let safe_here : IsSafe code s1 = safe m.fetched m.noted s1 m.reached in (
      record {
        fetched = m.fetched;
        noted = m.noted;
        os = [];
        s = s1;
        i = safe_here.i;
        reached = m.reached;
        there = safe_here.there;
        octets = tt;
        left = subst (Consumes src.left src.left_now) (sym (append-nil m.fetched)) m.left;
      },
      let counted : n.steps_now + length s0.cells ≡ n.steps + ticks m.noted + length s1.cells = m.logged.1 in (m.logged.0, omega (arith, counted)),
    )
