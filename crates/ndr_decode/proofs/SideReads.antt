-- What reading a side comes to: its roots, the agreements of its parameters, its pipes.
-- `x` is what is kept of the stream at its beginning, `y` after the roots, `z` after the pipes; `a`, `s` are what was seen of the source, the log and the steps
-- over the roots, `b`, `t` over the pipes, `c`, `u` over both.
use Rattle.std.proofs.Common.{◌≡◌, ◌≤◌, ℕ, Bool, true, false, List, [], ◌∷◌, length, drop, Option, Some, None, Result, Ok, Err, refl, sym, subst, arith}
use Rattle.std.specs.Prelude.{if◌then◌else◌, IsErrAnd}
use Rattle.std.specs.List.{slice_get}
use Rattle.nd_base.specs.declared.octets.Order.{Order}
use Rattle.nd_base.specs.Over.{SourceOver}
use Rattle.nd_types.specs.declared.types.Side.{Side}
use Rattle.nd_value.specs.Agreement.{Agreement, agreement}
use Rattle.nd_value.specs.declared.item.Item.{Item}
use Rattle.nd_value.specs.declared.value.Graph.{Graph}
use Rattle.nd_value.specs.Setting.{Setting}
use Rattle.nd_grammar.specs.declared.reason.Reason.{Reason}
use Rattle.nd_grammar.specs.declared.reason.Reason.TheVariants as reason
use Rattle.nd_grammar.specs.LegalSide.{IsLegalSide}
use Rattle.ndr_code.specs.Code.{checks_at, checks_run, code_of}
use Rattle.ndr_code.specs.Runs.{IsRunAt}
use Rattle.ndr_code.specs.declared.instr.Instr.{Instr}
use Rattle.ndr_code.specs.declared.instr.Instr.TheVariants as op
use Rattle.ndr_code.specs.declared.plan.Plan.{Plan}
use Rattle.ndr_code.proofs.SideRuns.{checks_run_at}
use Rattle.ndr_decoder_value.specs.Parts.{IsTried}
use Rattle.ndr_decode.specs.Trials.{AreKeepable, check_fails, checks_fail, failing, first_of, is_check}
use Rattle.ndr_decode.proofs.Numbers.{kept_keepable}
use Rattle.ndr_decoder_state.specs.declared.fault.DecodeFault.{DecodeFault}
use Rattle.ndr_decoder_state.specs.declared.fault.DecodeFault.TheVariants as fault
use Rattle.ndr_decoder_laws.specs.declared.kept.Kept.{Kept}
use Rattle.ndr_decoder_laws.specs.declared.kept.KeptRoot.{KeptRoot}
use Rattle.ndr_decoder_laws.specs.stream.Calls.{Follows}
use Rattle.ndr_code.specs.Tried.{given_number}
use Rattle.ndr_decoder_laws.specs.stream.Parameters.{TestsPass, parameter_tests, root_number, root_subject}
use Rattle.nd_grammar.specs.decoded.Verdict.{DecodingSeen}
use Rattle.ndr_decoder_stream.specs.declared.stream.Stream.{Stream}
use Rattle.ndr_decoder_stream.specs.Seen.{between_of}
use Rattle.ndr_decoder_laws.specs.stream.Report.{the_head, the_stream}
use Rattle.ndr_decode.specs.Piping.{EndComes, IsAtPipes, StreamEnds}
use Rattle.ndr_decode.specs.Streaming.{FaultOf, IsSettingOf, Stands, WentOn, WentThrough, cells_of}
use Rattle.ndr_decode.proofs.EndsWell.{read_after}
use Rattle.ndr_decode.proofs.Placed.{types_length}
use Rattle.ndr_decode.proofs.ParameterEnds.{parameter_fails, parameters_hold}
use Rattle.ndr_decode.proofs.Standing.{idle_log, idle_source, not_cut, refused_here, then_fault}

-- ## A fault that is handed on

pub end_fault : (w : Setting) (order : Order) (fetched : List ℕ) (noted : List Item) (cells : ℕ) (source : SourceOver) (t : DecodingSeen) (z : Stream) (r : Result (Unit {0}) DecodeFault)
    (e : DecodeFault)
    → IsErrAnd r (λ k. k ≡ e) → FaultOf the_stream w order fetched noted cells source t e → EndComes w order fetched noted cells source t z r
end_fault w order fetched noted cells source t z (Ok u) e is x = absurd is
end_fault w order fetched noted cells source t z (Err k) e is x = subst (FaultOf the_stream w order fetched noted cells source t) (sym is) x

-- ## No agreement is refused for octets that do not come

module _ (read : List (Option Kept)) (roots : List KeptRoot) (q : Option Graph) (place : ℕ) (why : Reason) where
  no_reason : ◌≡◌ {A = Option (ℕ × Reason)} None (Some (place, why)) → ⊥
  no_reason e = cc

  failing_other : (ags : List Agreement) (o : Option Kept) → failing ags o ≡ Some (place, why) → why ≡ reason.Truncated → ⊥
  failing_other [] o e t = no_reason e
  failing_other (a ∷ others) None e t = no_reason e
  failing_other (a ∷ others) (Some k) e t = not_cut a k.first k.max_at place why e t

  check_other : (i : Instr) → check_fails read roots q i ≡ Some (place, why) → why ≡ reason.Truncated → ⊥
  check_other (op.Check attr i v star) e t = failing_other (agreement attr (root_number read star (slice_get roots v))) (root_subject read (slice_get roots i)) e t
  check_other (op.Given attr i v star) e t = failing_other (agreement attr (given_number star v q)) (root_subject read (slice_get roots i)) e t
  check_other _ e t = no_reason e

  one_of : (o later : Option (ℕ × Reason)) → (o ≡ Some (place, why) → why ≡ reason.Truncated → ⊥) → (later ≡ Some (place, why) → why ≡ reason.Truncated → ⊥)
      → first_of o later ≡ Some (place, why) → why ≡ reason.Truncated → ⊥
  one_of (Some x) later own others e t = own e t
  one_of None later own others e t = others e t

  where_check : (b : Bool) (i : Instr) (is : List Instr) → (checks_fail read roots q is ≡ Some (place, why) → why ≡ reason.Truncated → ⊥)
      → (if b then first_of (check_fails read roots q i) (checks_fail read roots q is) else None) ≡ Some (place, why) → why ≡ reason.Truncated → ⊥
  where_check true i is others e t = one_of (check_fails read roots q i) (checks_fail read roots q is) (check_other i) others e t
  where_check false i is others e t = no_reason e

  pub never_cut : (is : List Instr) → checks_fail read roots q is ≡ Some (place, why) → why ≡ reason.Truncated → ⊥
  never_cut [] e t = no_reason e
  never_cut (i ∷ is) e t = where_check (is_check i) i is (never_cut is) e t

-- ## A side

module _ (plan : Plan) (number : ℕ) (way : Side) (order : Order) (w : Setting) (legal : IsLegalSide w) (is : IsSettingOf plan number way w) where
  -- the run of the checks
  pub checks_here : (at : ℕ) → at ≡ checks_at plan.tie.types plan.tie.operations number w.op way → IsRunAt plan.code at (checks_run w.table w.op w.side)
  checks_here at e =
      subst (λ c. IsRunAt c at (checks_run w.table w.op w.side)) (sym plan.planned.code_is)
      (subst (λ k. IsRunAt (code_of plan.tie.types plan.tie.operations) k (checks_run w.table w.op w.side)) (sym e)
      (subst (λ t. IsRunAt (code_of plan.tie.types plan.tie.operations) (checks_at plan.tie.types plan.tie.operations number w.op way) (checks_run t w.op w.side)) (sym is.table)
      (subst (λ d. IsRunAt (code_of plan.tie.types plan.tie.operations) (checks_at plan.tie.types plan.tie.operations number w.op way) (checks_run plan.tie.types w.op d)) (sym is.on)
      (checks_run_at plan.tie.types plan.tie.operations number w.op is.there way))))

  module _ (x : Stream) (a : SourceOver) (s : DecodingSeen) (y : Stream) (went : WentThrough w legal order [] [] (cells_of x) a s y 0) where
    abbrev g : WentOn w legal order [] [] (cells_of x) a s y 0
    g = went.0

    pub stands_after : Stands w legal order g.octets g.items g.direct y g.s g.seen [] 0
    stands_after = subst (λ ps. Stands w legal order went.0.octets went.0.items went.0.direct y went.0.s went.0.seen ps 0) went.1 went.0.stands

    pub numbers_keepable : AreKeepable y.cells.items y.roots.items
    numbers_keepable = record {
      here =
          λ v star z e. kept_keepable w legal order went.0.octets went.0.items went.0.direct (between_of y) went.0.s went.0.seen stands_after.agrees went.0.seen stands_after.agrees.keeps v star z e;
    }

    module _ (at : ℕ) (here : at ≡ checks_at plan.tie.types plan.tie.operations number w.op way) where
      pub hold_after : checks_fail y.cells.items y.roots.items w.given (drop at plan.code) ≡ None
          → TestsPass w order g.octets g.items g.direct (between_of y) g.s g.seen (parameter_tests w g.s)
      hold_after e =
          parameters_hold w legal order went.0.octets went.0.items went.0.direct (between_of y) went.0.s went.0.seen stands_after.agrees plan.code at (checks_here at here) e

      -- an agreement of a parameter is refused
      pub refused_after : (place : ℕ) (why : Reason) → checks_fail y.cells.items y.roots.items w.given (drop at plan.code) ≡ Some (place, why)
          → FaultOf the_head w order [] [] (cells_of x) a s (fault.Bad place why)
      refused_after place why e =
          let ag = stands_after.agrees in
          let follows : Follows a (idle_source a.left_now a.ended_now a.faults) a s (idle_log s.log_now s.steps_now) s = record {
            before = refl;
            middle = refl;
            after = refl;
            ended = refl;
            log = refl;
            log_middle = refl;
            log_now = refl;
            steps = refl;
            steps_middle = refl;
            steps_now = refl;
          } in
          let none : a.faults.before ≤ a.faults.before = omega arith in
          then_fault w legal order [] [] (cells_of x) a (idle_source a.left_now a.ended_now a.faults) a s (idle_log s.log_now s.steps_now) s follows went.0.octets went.0.items (cells_of y) went.0.took
          the_head none refl (fault.Bad place why)
          (refused_here a.left_now a.ended_now a.faults s.log_now s.steps_now w legal order went.0.octets went.0.items went.0.direct (between_of y) went.0.s went.0.seen [] 0
          (cells_of y) y.machine.at place why
          (cells_are y) ag (never_cut y.cells.items y.roots.items w.given place why (drop at plan.code) e)
          (parameter_fails w legal order went.0.octets went.0.items went.0.direct (between_of y) went.0.s went.0.seen ag plan.code at (checks_here at here) (place, why) e))
        where
          cells_are : (y : Stream) → cells_of y ≡ length (between_of y).cells
          cells_are y = sym (types_length y.machine.builder)

      pub refused_by : (e : DecodeFault) → IsTried (checks_fail y.cells.items y.roots.items w.given (drop at plan.code)) (Err e) → FaultOf the_head w order [] [] (cells_of x) a s e
      refused_by (fault.Bad place why) h = refused_after place why h
      refused_by fault.ReadFault h = absurd h
      refused_by fault.Memory h = absurd h

    -- the pipes
    pub ends_after : TestsPass w order g.octets g.items g.direct (between_of y) g.s g.seen (parameter_tests w g.s) → (b c : SourceOver) (t u : DecodingSeen) → Follows a b c s t u
        → c.faults.before ≤ b.faults.before → c.faults.now ≡ b.faults.now → (z : Stream) (result : Result (Unit {0}) DecodeFault)
        → StreamEnds plan number way order y b t z result → EndComes w order [] [] (cells_of x) c u z result
    ends_after held b c t u f low same z (Ok o) r =
        read_after w legal order [] [] (cells_of x) a b c s t u f y 0 went.0 z (r w legal went.0.octets went.0.items went.0.direct went.0.s went.0.seen is stands_after held)
    ends_after held b c t u f low same z (Err e) r =
        then_fault w legal order [] [] (cells_of x) a b c s t u f went.0.octets went.0.items (cells_of y) went.0.took the_stream low same e
        (r w legal went.0.octets went.0.items went.0.direct went.0.s went.0.seen is stands_after held)

    pub at_pipes : TestsPass w order g.octets g.items g.direct (between_of y) g.s g.seen (parameter_tests w g.s) → IsAtPipes plan number way order y
    at_pipes held = record {
      w = w;
      legal = legal;
      setting = is;
      fetched = went.0.octets;
      noted = went.0.items;
      direct = went.0.direct;
      s = went.0.s;
      seen = went.0.seen;
      stands = stands_after;
      hold = held;
    }
