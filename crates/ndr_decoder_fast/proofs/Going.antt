-- Steps that were taken, and then others.
-- `l0`, `l1`, `l2` are the octets of the source before, between and after, `k0`, `k1`, `k2` the counts of steps, `s0`, `s1`, `s2` the states, `os` octets that came.
use Rattle.std.proofs.Common.{◌≡◌, ◌≤◌, ℕ, ◌+◌, List, [], ◌∷◌, ◌++◌, length, Option, Some, Result, Ok, Err, sym, ap, subst, arith, append_assoc}
use Rattle.std.proofs.KnownBytes.{Consumes-trans, Consumes-nil}
use Rattle.std.specs.Prelude.{slice_get, Bool}
use Rattle.std.specs.Io.KnownBytes.{Consumes}
use Rattle.nd_base.specs.declared.octets.Order.{Order}
use Rattle.nd_base.specs.Over.{SourceOver}
use Rattle.nd_value.specs.declared.item.Home.{Home}
use Rattle.nd_value.specs.declared.item.Item.{Item}
use Rattle.nd_grammar.specs.declared.reason.Reason.{Reason}
use Rattle.ndr_code.specs.declared.instr.Instr.{Instr}
use Rattle.ndr_code.specs.declared.lists.EnumList.{EnumList}
use Rattle.ndr_decoder_laws.specs.steps.Steps.{State, goes, refused, step, wants}
use Rattle.ndr_decoder_laws.specs.steps.StepItems.{step_items}
use Rattle.ndr_decoder_laws.specs.steps.Good.{HasOctets}
use Rattle.ndr_decoder_laws.specs.runs.Reaching.{Reaches, begins, steps_to}
use Rattle.ndr_decoder_laws.proofs.runs.Joining.{joined}
use Rattle.ndr_decoder_fast.specs.declared.fault.LeapFault.{LeapFault}
use Rattle.ndr_decoder_fast.specs.declared.fault.LeapFault.TheVariants as leap
use Rattle.ndr_decoder_fast.specs.Faults.{reason_of}
use Rattle.ndr_decoder_state.specs.Notes.{ticks}
use Rattle.ndr_decoder_fast.specs.Leaps.{Leapt, GivesUp, Refuses}
use Rattle.ndr_decoder_fast.specs.Strings.{HasCome, GoesFar}

-- a source over a call
abbrev pub source : Option (List ℕ) → Option (List ℕ) → Bool → ℕ → ℕ → SourceOver
source left left_now ended before now = record { left = left; left_now = left_now; ended_now = ended; faults = record { before = before; now = now } }

pub ticks_on : (xs ys : List Item) → ticks (xs ++ ys) ≡ ticks xs + ticks ys
ticks_on [] ys = omega arith
ticks_on (x ∷ xs) ys = let e : ticks (xs ++ ys) ≡ ticks xs + ticks ys = ticks_on xs ys in omega (arith, e)

-- ## One after the other

module _ (values : List EnumList) (order : Order) (code : List Instr) (h : Home) (l0 l1 l2 : Option (List ℕ)) (e1 e2 : Bool) (f0 f1 f2 k0 k1 k2 : ℕ) (s0 s1 s2 : State) where
  abbrev First : Type 0
  First = Leapt values order code h s0 (source l0 l1 e1 f0 f1) k0 k1 s1

  leapt_on : First → Leapt values order code h s1 (source l1 l2 e2 f1 f2) k1 k2 s2 → Leapt values order code h s0 (source l0 l2 e2 f0 f2) k0 k2 s2
  leapt_on a b =
      let t : ticks (a.noted ++ b.noted) ≡ ticks a.noted + ticks b.noted = ticks_on a.noted b.noted in
      let x : k1 + length s0.cells ≡ k0 + ticks a.noted + length s1.cells = a.counted in
      let y : k2 + length s1.cells ≡ k1 + ticks b.noted + length s2.cells = b.counted in
      record {
        fetched = a.fetched ++ b.fetched;
        noted = a.noted ++ b.noted;
        reached = joined values order code h s0 s1 a.fetched a.noted a.reached b.reached;
        left = Consumes-trans l0 l1 l2 a.fetched b.fetched a.left b.left;
        counted = omega (arith, t, x, y);
      }

  consumed : (a : First) (fetched os : List ℕ) → Consumes l1 l2 (fetched ++ os) → Consumes l0 l2 ((a.fetched ++ fetched) ++ os)
  consumed a fetched os left = subst (Consumes l0 l2) (sym (append_assoc a.fetched fetched os)) (Consumes-trans l0 l1 l2 a.fetched (fetched ++ os) a.left left)

  gives_up_on : First → GivesUp values order code h s1 (source l1 l2 e2 f1 f2) k1 k2 s2 → GivesUp values order code h s0 (source l0 l2 e2 f0 f2) k0 k2 s2
  gives_up_on a b =
      let t : ticks (a.noted ++ b.noted) ≡ ticks a.noted + ticks b.noted = ticks_on a.noted b.noted in
      let x : k1 + length s0.cells ≡ k0 + ticks a.noted + length s1.cells = a.counted in
      let y : k2 + length s1.cells ≤ k1 + ticks b.noted + length b.s.cells = b.counted in
      record {
        fetched = a.fetched ++ b.fetched;
        noted = a.noted ++ b.noted;
        s = b.s;
        reached = joined values order code h s0 s1 a.fetched a.noted a.reached b.reached;
        os = b.os;
        octets = b.octets;
        left = consumed a b.fetched b.os b.left;
        counted = omega (arith, t, x, y);
      }

  refuses_on : (place : ℕ) (why : Reason) → First → Refuses values order code h s1 (source l1 l2 e2 f1 f2) k1 k2 s2 place why
      → Refuses values order code h s0 (source l0 l2 e2 f0 f2) k0 k2 s2 place why
  refuses_on place why a b =
      let t : ticks (a.noted ++ b.noted) ≡ ticks a.noted + ticks b.noted = ticks_on a.noted b.noted in
      let x : k1 + length s0.cells ≡ k0 + ticks a.noted + length s1.cells = a.counted in
      let y : k2 + length s1.cells ≡ k1 + ticks b.noted + length b.s.cells = b.counted in
      record {
        fetched = a.fetched ++ b.fetched;
        noted = a.noted ++ b.noted;
        s = b.s;
        reached = joined values order code h s0 s1 a.fetched a.noted a.reached b.reached;
        os = b.os;
        octets = b.octets;
        left = consumed a b.fetched b.os b.left;
        counted = omega (arith, t, x, y);
        i = b.i;
        there = b.there;
        wanted = b.wanted;
        refusal = b.refusal;
      }

  -- some steps, and then what goes far
  pub far_on : First → (r : Result (Unit {0}) LeapFault) → GoesFar values order code h s1 (source l1 l2 e2 f1 f2) k1 k2 s2 r → GoesFar values order code h s0 (source l0 l2 e2 f0 f2) k0 k2 s2 r
  far_on a (Ok u) b = leapt_on a b
  far_on a (Err (leap.Bad place why)) b = refuses_on place (reason_of why) a b
  far_on a (Err leap.Memory) b = gives_up_on a b

-- ## One step, or none

module _ (values : List EnumList) (order : Order) (code : List Instr) (h : Home) (l0 l1 : Option (List ℕ)) (e : Bool) (f0 f1 k0 k1 : ℕ) (s0 s1 : State) where
  abbrev Src : SourceOver
  Src = source l0 l1 e f0 f1

  -- no octets came
  pub not_far : l1 ≡ l0 → s1 ≡ s0 → k1 ≡ k0 → Leapt values order code h s0 Src k0 k1 s1
  not_far left same idle =
      let cells : length s1.cells ≡ length s0.cells = ap (λ (s : State). length s.cells) same in
      record {
        fetched = [];
        noted = [];
        reached = subst (λ s. Reaches values order code h s0 [] [] s) (sym same) begins;
        left = subst (λ x. Consumes l0 x []) (sym left) (Consumes-nil l0);
        counted = omega (arith, idle, cells);
      }

  module _ (i : Instr) (os : List ℕ) (there : slice_get code s0.pc ≡ Some i) (came : HasCome l0 l1 os) (has : HasOctets (wants values i s0) os s0.at) where
    pub one_step : step values order os i s0 ≡ goes s1 → k1 + length s0.cells ≡ k0 + ticks (step_items order h os i s0) + length s1.cells → Leapt values order code h s0 Src k0 k1 s1
    one_step does counted = record {
      fetched = os;
      noted = step_items order h os i s0;
      reached = steps_to [] os [] s0 s1 i begins there has came.octets does;
      left = came.taken;
      counted = counted;
    }

    pub refused_here : (place : ℕ) (why : Reason) → step values order os i s0 ≡ refused place why → k1 ≡ k0 → Refuses values order code h s0 Src k0 k1 s1 place why
    refused_here place why refusal idle = record {
      fetched = [];
      noted = [];
      s = s0;
      reached = begins;
      os = os;
      octets = came.octets;
      left = came.taken;
      counted = omega (arith, idle);
      i = i;
      there = there;
      wanted = has;
      refusal = refusal;
    }

  -- memory was refused after octets came
  pub given_up : (os : List ℕ) → HasCome l0 l1 os → k1 ≡ k0 → GivesUp values order code h s0 Src k0 k1 s1
  given_up os came idle = record {
    fetched = [];
    noted = [];
    s = s0;
    reached = begins;
    os = os;
    octets = came.octets;
    left = came.taken;
    counted = omega (arith, idle);
  }
