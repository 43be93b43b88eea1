use Rattle.std.proofs.Common.{rules, arith, ◌≡◌, ◌≤◌, ◌<◌, ◌*◌, length, suc, true, false, Bool}
use Rattle.idl_compat.specs.Matching.{IsMatched, MatchesOne}
use Rattle.idl_compat.proofs.Operating.{first_other, next_matched, all_matched, one_true, one_false}
use Rattle.idl_compat.proofs.placing.Pairing.match_operations.Goals as goal

pub loop-at-init : goal.loop-at-init
loop-at-init c = λ k. k

pub returns-then-not-branch : goal.returns-then-not-branch
returns-then-not-branch c = λ k.
    let l : c.loop-at.at < length c.args.interface.now.operations = search rules in
    first_other c.args.interface.now c.args.other.now c.loop-at.at c.loop-at.self l (c.loop-at.invariant k)
    (one_false c.args.interface.now c.args.other.now c.loop-at.at c.match_operation.new.self c.in_ok-match_operation.field-0 (c.in_ok-match_operation.ensures (c.loop-at.invariant k)) (search rules))

pub loop-at-preserved : goal.loop-at-preserved
loop-at-preserved c = λ k.
    next_matched c.args.interface.now c.args.other.now c.loop-at.at c.match_operation.new.self
    (one_true c.args.interface.now c.args.other.now c.loop-at.at c.match_operation.new.self c.in_ok-match_operation.field-0 (c.in_ok-match_operation.ensures (c.loop-at.invariant k)) (search rules))

pub returns : goal.returns
returns c = λ k.
    let l : length c.args.interface.now.operations ≤ c.loop-at.at = search rules in
    all_matched c.args.interface.now c.args.other.now c.loop-at.at c.loop-at.self l (c.loop-at.invariant k)
