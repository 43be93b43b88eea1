-- Steps that were taken in one go, and then others: what a turn comes to.
-- `g` is the log before and after, which keeps nothing where steps were taken; `m` is what was moved before a turn, `r` what the turn answers.
use Rattle.std.proofs.Common.{◌≡◌, ◌≤◌, ℕ, false, List, [], length, Option, Result, Ok, Err, IsErrAnd, refl, sym, ap, subst, arith}
use Rattle.std.proofs.KnownBytes.{Consumes-nil}
use Rattle.std.specs.Prelude.{Bool}
use Rattle.std.specs.Io.KnownBytes.{Consumes}
use Rattle.nd_base.specs.declared.octets.Order.{Order}
use Rattle.nd_base.specs.Over.{SourceOver}
use Rattle.nd_value.specs.Logged.{Logged}
use Rattle.nd_value.specs.declared.item.Home.{Home}
use Rattle.nd_grammar.specs.declared.reason.Reason.{Reason}
use Rattle.nd_grammar.specs.declared.reason.Reason.TheVariants as reason
use Rattle.ndr_code.specs.declared.instr.Instr.{Instr}
use Rattle.ndr_code.specs.declared.lists.EnumList.{EnumList}
use Rattle.ndr_decoder_laws.specs.steps.Steps.{State, refused}
use Rattle.ndr_decoder_laws.specs.runs.Reaching.{Reaches, IsSafe, begins}
use Rattle.ndr_decoder_fast.specs.declared.fault.LeapFault.{LeapFault}
use Rattle.ndr_decoder_fast.specs.declared.fault.LeapFault.TheVariants as leap
use Rattle.ndr_decoder_fast.specs.Faults.{reason_of, fault_of}
use Rattle.ndr_decoder_fast.specs.Leaps.{Leapt, Stays, GivesUp, Refuses, Leaps}
use Rattle.ndr_decoder_state.specs.declared.fault.DecodeFault.{DecodeFault}
use Rattle.ndr_decoder_state.specs.declared.fault.Progress.{Progress}
use Rattle.ndr_decoder_state.specs.declared.fault.Progress.TheVariants as progress
use Rattle.ndr_decoder_state.specs.Notes.{notes_seen}
use Rattle.ndr_decoder_value.specs.Reaching.{Moves, Ends, EndsBad, EndsCutOff, EndsFault, Turns}
use Rattle.ndr_decoder_value.proofs.Looping.{AllSafe}
use Rattle.ndr_decoder_value.proofs.Moving.{source, moves_on, whole_on, fault_on}
use Rattle.ndr_decoder_value.proofs.Outcomes.{IsOwnRefusal, step_own}
use Rattle.ndr_decoder_value.proofs.RowItems.{nothing_kept}

module _ (values : List EnumList) (order : Order) (code : List Instr) (h : Home) (s0 : State) (src : SourceOver) (k k' : ℕ) (g : Logged) (s1 : State) where
  -- ## Steps were taken, or nothing was done

  pub leapt_moves : (c c' : ℕ) → g.keeps ≡ false → Leapt values order code h s0 src k k' s1 → Moves values order code h s0 src (notes_seen g g k k' c c') s1
  leapt_moves c c' quiet l = record {
    fetched = l.fetched;
    noted = l.noted;
    reached = l.reached;
    left = l.left;
    logged = (sym (nothing_kept l.noted g quiet), l.counted);
  }

  pub stays_moves : (c c' : ℕ) → Stays values order code h s0 src k k' s1 → Moves values order code h s0 src (notes_seen g g k k' c c') s1
  stays_moves c c' l =
      let e : k' ≡ k = l.counted in
      let cells : length s1.cells ≡ length s0.cells = ap (λ (s : State). length s.cells) l.state in
      record {
        fetched = [];
        noted = [];
        reached = subst (λ s. Reaches values order code h s0 [] [] s) (sym l.state) begins;
        left = subst (λ x. Consumes src.left x []) (sym l.left) (Consumes-nil src.left);
        logged = (refl, omega (arith, e, cells));
      }

  -- ## Memory failed, or octets are refused

  gave_up : (c c' : ℕ) → g.keeps ≡ false → AllSafe values order code h s0 → GivesUp values order code h s0 src k k' s1
      → EndsCutOff values order code h s0 src (notes_seen g g k k' c c') s1
  gave_up c c' quiet safe l =
      let safe_here : IsSafe code l.s = safe l.fetched l.noted l.s l.reached in (
        record {
          fetched = l.fetched;
          noted = l.noted;
          os = l.os;
          s = l.s;
          i = safe_here.i;
          reached = l.reached;
          there = safe_here.there;
          octets = l.octets;
          left = l.left;
        },
        (sym (nothing_kept l.noted g quiet), l.counted),
      )

  refused_end : (c c' place : ℕ) (why : Reason) → g.keeps ≡ false → IsOwnRefusal (refused place why) → Refuses values order code h s0 src k k' s1 place why
      → EndsBad values order code h s0 src (notes_seen g g k k' c c') s1 place why
  refused_end c c' place reason.TooLong quiet own l = absurd own
  refused_end c c' place reason.Truncated quiet own l = absurd own
  refused_end c c' place _ quiet own l = (
    record {
      fetched = l.fetched;
      noted = l.noted;
      os = l.os;
      s = l.s;
      i = l.i;
      reached = l.reached;
      there = l.there;
      octets = l.octets;
      left = l.left;
    },
    (l.wanted, (l.refusal, (sym (nothing_kept l.noted g quiet), l.counted))),
  )

  faulty : (c c' : ℕ) → g.keeps ≡ false → AllSafe values order code h s0 → (e : LeapFault) → Leaps values order code h s0 src k k' s1 (Err e)
      → EndsFault values order code h s0 src (notes_seen g g k k' c c') s1 (fault_of e)
  faulty c c' quiet safe (leap.Bad place why) l =
      refused_end c c' place (reason_of why) quiet (subst IsOwnRefusal l.refusal (step_own values order l.os l.i l.s)) l
  faulty c c' quiet safe leap.Memory l = gave_up c c' quiet safe l

  -- a turn that ends with the fault
  pub leap_failed : (c c' : ℕ) → g.keeps ≡ false → AllSafe values order code h s0 → (e : LeapFault) (r : Result Progress DecodeFault)
      → Leaps values order code h s0 src k k' s1 (Err e) → IsErrAnd r (λ y. y ≡ fault_of e) → Turns values order code h s0 src (notes_seen g g k k' c c') s1 r
  leap_failed c c' quiet safe e (Ok p) l is = absurd is
  leap_failed c c' quiet safe e (Err y) l is =
      subst (λ x. EndsFault values order code h s0 src (notes_seen g g k k' c c') s1 x) (sym is) (faulty c c' quiet safe e l)

-- ## Nothing was done, and then a turn

module _ (values : List EnumList) (order : Order) (code : List Instr) (h : Home) (l0 l1 l2 : Option (List ℕ)) (e1 e2 : Bool) (f0 f1 f2 : ℕ) (g0 g1 g2 : Logged) (k0 k1 k2 c0 c1 c2 : ℕ)
    (s0 s1 s2 : State) where
  turned_by : Moves values order code h s0 (source l0 l1 e1 f0 f1) (notes_seen g0 g1 k0 k1 c0 c1) s1 → f0 ≤ f1 → (r : Result Progress DecodeFault)
      → Turns values order code h s1 (source l1 l2 e2 f1 f2) (notes_seen g1 g2 k1 k2 c1 c2) s2 r
      → Turns values order code h s0 (source l0 l2 e2 f0 f2) (notes_seen g0 g2 k0 k2 c0 c2) s2 r
  turned_by m later (Ok progress.More) t = moves_on values order code h l0 l1 l2 e1 e2 f0 f1 f2 g0 g1 g2 k0 k1 k2 c0 c1 c2 s0 s1 s2 m t
  turned_by m later (Ok progress.Whole) t = whole_on values order code h l0 l1 l2 e1 e2 f0 f1 f2 g0 g1 g2 k0 k1 k2 c0 c1 c2 s0 s1 s2 m t
  turned_by m later (Err e) t = fault_on values order code h l0 l1 l2 e1 e2 f0 f1 f2 g0 g1 g2 k0 k1 k2 c0 c1 c2 s0 s1 s2 m later e t

  -- the home stays, as nothing was done
  pub turned_after : (h1 : Home) → h1 ≡ h → Moves values order code h s0 (source l0 l1 e1 f0 f1) (notes_seen g0 g1 k0 k1 c0 c1) s1 → f0 ≤ f1 → (r : Result Progress DecodeFault)
      → Turns values order code h1 s1 (source l1 l2 e2 f1 f2) (notes_seen g1 g2 k1 k2 c1 c2) s2 r
      → Turns values order code h s0 (source l0 l2 e2 f0 f2) (notes_seen g0 g2 k0 k2 c0 c2) s2 r
  turned_after h1 same m later r t =
      turned_by m later r (subst (λ x. Turns values order code x s1 (source l1 l2 e2 f1 f2) (notes_seen g1 g2 k1 k2 c1 c2) s2 r) same t)

  ended_by : Moves values order code h s0 (source l0 l1 e1 f0 f1) (notes_seen g0 g1 k0 k1 c0 c1) s1 → f0 ≤ f1 → (r : Result (Unit {0}) DecodeFault)
      → Ends values order code h s1 (source l1 l2 e2 f1 f2) (notes_seen g1 g2 k1 k2 c1 c2) s2 r
      → Ends values order code h s0 (source l0 l2 e2 f0 f2) (notes_seen g0 g2 k0 k2 c0 c2) s2 r
  ended_by m later (Ok u) t = whole_on values order code h l0 l1 l2 e1 e2 f0 f1 f2 g0 g1 g2 k0 k1 k2 c0 c1 c2 s0 s1 s2 m t
  ended_by m later (Err e) t = fault_on values order code h l0 l1 l2 e1 e2 f0 f1 f2 g0 g1 g2 k0 k1 k2 c0 c1 c2 s0 s1 s2 m later e t

  -- a run that goes on from there
  pub ends_after : (h1 : Home) → h1 ≡ h → Moves values order code h s0 (source l0 l1 e1 f0 f1) (notes_seen g0 g1 k0 k1 c0 c1) s1 → f0 ≤ f1 → (r : Result (Unit {0}) DecodeFault)
      → Ends values order code h1 s1 (source l1 l2 e2 f1 f2) (notes_seen g1 g2 k1 k2 c1 c2) s2 r
      → Ends values order code h s0 (source l0 l2 e2 f0 f2) (notes_seen g0 g2 k0 k2 c0 c2) s2 r
  ends_after h1 same m later r t =
      ended_by m later r (subst (λ x. Ends values order code x s1 (source l1 l2 e2 f1 f2) (notes_seen g1 g2 k1 k2 c1 c2) s2 r) same t)
