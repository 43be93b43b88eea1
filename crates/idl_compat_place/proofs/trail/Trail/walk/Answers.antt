use Rattle.std.proofs.Common.{rules, ◌≡◌, ◌<◌, ◌≤◌, length, None}
use Rattle.idl_compat_place.proofs.Operated.{all_walked, operation_none, operation_some}
use Rattle.idl_compat_place.proofs.trail.Trail.walk.Goals as goal

pub loop-op-init : goal.loop-op-init
loop-op-init c = λ a. a

pub returns-in-Some : goal.returns-in-Some
returns-in-Some c = λ a.
    let l : c.loop-op.op < length c.args.older.now.operations = search rules in
    operation_some c.args.older.now c.args.newer.now c.loop-op.op c.walk_operation.new.self c.in_ok-finding.field-0 c.in-Some.finding
    (c.in_ok-finding.ensures l (c.loop-op.invariant a)) c.in-Some.is

pub loop-op-preserved : goal.loop-op-preserved
loop-op-preserved c = λ a.
    let l : c.loop-op.op < length c.args.older.now.operations = search rules in
    let none : c.in_ok-finding.field-0 ≡ None = search rules in
    operation_none c.args.older.now c.args.newer.now c.loop-op.op c.walk_operation.new.self c.in_ok-finding.field-0 (c.in_ok-finding.ensures l (c.loop-op.invariant a)) none

pub returns : goal.returns
returns c = λ a.
    let past : length c.args.older.now.operations ≤ c.loop-op.op = search rules in
    all_walked c.args.older.now c.args.newer.now c.loop-op.op c.loop-op.self past (c.loop-op.invariant a)
