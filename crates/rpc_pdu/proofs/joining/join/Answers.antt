use Rattle.std.proofs.Common.{◌≡◌, ◌+◌, ◌-◌, ◌*◌, ◌≤◌, ◌<◌, List, [], ℕ, None, Some, length, refl, sym, subst, arith}
use Rattle.std.specs.Io.KnownBytes.{Consumes}
use Rattle.std.proofs.KnownBytes.{Consumes-nil}
use Rattle.nd_base.specs.Over.{source_over}
use Rattle.nd_base.specs.declared.TheConstants.{STREAM_LIMIT}
use Rattle.rpc_pdu.specs.Checks.{before}
use Rattle.rpc_pdu.specs.Fragments.{AreEarlier, none_earlier, IsJoinCause}
use Rattle.rpc_pdu.proofs.Fetched.{by_residual}
use Rattle.rpc_pdu.proofs.Numbers.{joined_number}
use Rattle.rpc_pdu.proofs.JoinedLaws.{Grown, one_more_taken, grown_by, all_taken, cause_of}
use Rattle.rpc_pdu.proofs.joining.join.Goals as goal

pub loop-stub-init : goal.loop-stub-init
loop-stub-init g c =
    subst (λ (stub : List ℕ). ((x : List ℕ) × (AreEarlier c.args.want x (before None 0 stub) × Consumes (g.S.Source.seen c.args.source.now).left (g.S.Source.seen c.args.source.now).left x))
    × ((0 ≤ 41 * length stub) × ((length stub ≤ STREAM_LIMIT) × ((g.S.Source.seen c.args.source.now).faults ≤ (g.S.Source.seen c.args.source.now).faults))))
    (sym c.new-stub.ensures)
    (([], (none_earlier, Consumes-nil (g.S.Source.seen c.args.source.now).left)), (omega arith, (omega arith, omega arith)))

pub returns-in_err-taken-clause-refused : goal.returns-in_err-taken-clause-refused
returns-in_err-taken-clause-refused g c =
    by_residual c.from_residual.result c.in_err-taken.field-0.0
    (IsJoinCause c.args.want (source_over g.S.Source.seen c.args.source.now c.take_fragment.new.source))
    c.from_residual.ensures.1
    (cause_of g.S.Source.seen c.args.want c.args.source.now c.loop-stub.source c.take_fragment.new.source
    (before c.loop-stub.opening c.loop-stub.at c.loop-stub.stub)
    c.in_err-taken.field-0.0 c.loop-stub.invariant.1.1.1 c.loop-stub.invariant.0 c.in_err-taken.ensures.refused)

pub returns-then-taken-clause-joined : goal.returns-then-taken-clause-joined
returns-then-taken-clause-joined g c =
    all_taken g.S.Source.seen c.args.want c.args.source.now c.loop-stub.source c.take_fragment.new.source
    (before c.loop-stub.opening c.loop-stub.at c.loop-stub.stub)
    c.in_ok-taken.taken.opening c.in_ok-taken.taken.at c.take_fragment.new.stub c.in_ok-taken.taken.last c.loop-stub.invariant.0 c.in_ok-taken.ensures.taken c.if-taken.true
    (record {
      order = c.in_ok-taken.taken.opening.order;
      call = c.in_ok-taken.taken.opening.call;
      opnum = c.in_ok-taken.taken.opening.opnum;
      stub = c.take_fragment.new.stub;
      taken =
          c.in_ok-taken.taken.at;
    })
    refl refl refl refl refl

pub returns-then-taken-clause-number : goal.returns-then-taken-clause-number
returns-then-taken-clause-number g c =
    joined_number c.args.want (source_over g.S.Source.seen c.args.source.now c.take_fragment.new.source)
    (record {
      order = c.in_ok-taken.taken.opening.order;
      call = c.in_ok-taken.taken.opening.call;
      opnum = c.in_ok-taken.taken.opening.opnum;
      stub = c.take_fragment.new.stub;
      taken =
          c.in_ok-taken.taken.at;
    })
    (returns-then-taken-clause-joined g c)

pub loop-stub-smaller : goal.loop-stub-smaller
loop-stub-smaller g c =
    let more : Grown (before c.loop-stub.opening c.loop-stub.at c.loop-stub.stub) (before (Some c.in_ok-taken.taken.opening) c.in_ok-taken.taken.at c.take_fragment.new.stub) =
    grown_by g.S.Source.seen c.args.want c.loop-stub.source c.take_fragment.new.source (before c.loop-stub.opening c.loop-stub.at c.loop-stub.stub)
    (before (Some c.in_ok-taken.taken.opening) c.in_ok-taken.taken.at c.take_fragment.new.stub) c.in_ok-taken.taken.last c.in_ok-taken.ensures.taken c.if-taken.false c.loop-stub.invariant.1.0 in
    let longer : length c.loop-stub.stub < length c.take_fragment.new.stub = more.more in
    let room : length c.take_fragment.new.stub ≤ STREAM_LIMIT = more.room in
    let less : STREAM_LIMIT - length c.take_fragment.new.stub < STREAM_LIMIT - length c.loop-stub.stub = omega (arith, longer, room) in
    less

pub loop-stub-preserved : goal.loop-stub-preserved
loop-stub-preserved g c =
    let more : Grown (before c.loop-stub.opening c.loop-stub.at c.loop-stub.stub) (before (Some c.in_ok-taken.taken.opening) c.in_ok-taken.taken.at c.take_fragment.new.stub) =
    grown_by g.S.Source.seen c.args.want c.loop-stub.source c.take_fragment.new.source (before c.loop-stub.opening c.loop-stub.at c.loop-stub.stub)
    (before (Some c.in_ok-taken.taken.opening) c.in_ok-taken.taken.at c.take_fragment.new.stub) c.in_ok-taken.taken.last c.in_ok-taken.ensures.taken c.if-taken.false c.loop-stub.invariant.1.0 in
    let low : (g.S.Source.seen c.args.source.now).faults ≤ (g.S.Source.seen c.loop-stub.source).faults = c.loop-stub.invariant.1.1.1 in
    let later : (g.S.Source.seen c.loop-stub.source).faults ≤ (g.S.Source.seen c.take_fragment.new.source).faults = c.in_ok-taken.ensures.later in (
      one_more_taken g.S.Source.seen c.args.want c.args.source.now c.loop-stub.source c.take_fragment.new.source
          (before c.loop-stub.opening c.loop-stub.at c.loop-stub.stub)
          (before (Some c.in_ok-taken.taken.opening) c.in_ok-taken.taken.at c.take_fragment.new.stub) c.in_ok-taken.taken.last c.loop-stub.invariant.0 c.in_ok-taken.ensures.taken c.if-taken.false,
      (more.few, (more.room, omega (arith, low, later))),
    )
