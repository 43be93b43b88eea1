use Rattle.std.proofs.Common.{◌≡◌, ◌∙◌, ◌+◌, ◌-◌, ◌<◌, ◌≤◌, ◌^◌, ◌++◌, true, false, List, ℕ, length, take, drop, sym, subst, arith}
use Rattle.rpc_pdu.specs.Fragments.{Fragments, Pieces, want_of, opnum_of, fragment}
use Rattle.rpc_pdu.proofs.PieceLaws.{Left, turn_by, over, pieces_have}
use Rattle.rpc_pdu.proofs.splitting.split.Goals as goal

pub loop-rest-preserved : goal.loop-rest-preserved
loop-rest-preserved c =
    let long : c.args.max - 24 < length c.loop-rest.rest.now = omega (arith, c.loop-rest-test.true) in
    let some : 0 < c.args.max - 24 = omega (arith, c.requires.wide) in
    turn_by (Pieces c.args.order c.args.head c.args.call c.args.max c.args.stub.now) c.loop-rest.made c.add_fragment.new.made c.front-part.result.now c.loop-rest.rest.now c.after_front-rest.result.now
    c.args.order c.args.head c.args.call (length c.args.stub.now) (c.args.max - 24) c.loop-rest.first c.loop-rest.invariant long some c.front-part.ensures c.after_front-rest.ensures
    c.in_ok-add_fragment.ensures.ok

pub returns-clause-call : goal.returns-clause-call
returns-clause-call c =
    let short : length c.loop-rest.rest.now ≤ c.args.max - 24 = omega (arith, c.loop-rest-test.false) in
    let whole : Pieces c.args.order c.args.head c.args.call c.args.max c.args.stub.now ≡ c.add_fragment-2.new.made =
    over (Pieces c.args.order c.args.head c.args.call c.args.max c.args.stub.now) c.loop-rest.made c.args.order c.args.head c.args.call (length c.args.stub.now) (c.args.max - 24)
    c.loop-rest.first c.loop-rest.rest.now c.loop-rest.invariant short
    ∙ sym c.in_ok-add_fragment-2.ensures.ok in
    let small : c.args.call < 2 ^ 32 = omega (arith, c.ranges.call.fits) in
    let most : c.args.max < 2 ^ 16 = omega (arith, c.ranges.max.fits) in
    subst (λ (l : List ℕ). Fragments l (want_of c.args.head) c.args.order c.args.call (opnum_of c.args.head) c.args.stub.now) whole
    (pieces_have c.args.order c.args.head c.args.call c.args.max c.args.stub.now small c.add_fragment-2.ensures.fits c.requires.wide most c.requires.room)
