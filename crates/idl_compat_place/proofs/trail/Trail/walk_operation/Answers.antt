use Rattle.std.proofs.Common.{rules, ◌≡◌, None, Some, length, subst, suc}
use Rattle.std.specs.Prelude.{slice_get}
use Rattle.idl_compat_place.specs.Trails.{IsWalkedTo}
use Rattle.idl_compat_place.proofs.Operated.{counts_differ, no_new_operation, no_old_operation, finding, params_none, params_some, part_none, part_some, whole}
use Rattle.idl_compat_place.proofs.trail.Trail.walk_operation.Goals as goal

pub returns-in_default : goal.returns-in_default
returns-in_default c = λ l a.
    let none : slice_get c.args.older.now.operations c.args.op ≡ None = search rules in
    absurd (no_old_operation c.args.older.now c.args.op none l)

pub returns-in_default-get : goal.returns-in_default-get
returns-in_default-get c = λ l a.
    let i = c.args.older.now in
    let j = c.args.newer.now in
    let none : slice_get j.operations c.args.op ≡ None = search rules in
    counts_differ i j c.args.op c.args.self.now l a (no_new_operation (slice_get i.operations c.args.op) (slice_get j.operations c.args.op) none)

pub returns-in-Some-2 : goal.returns-in-Some-2
returns-in-Some-2 c = λ l a.
    params_some c.args.older.now c.args.newer.now c.args.op c.len-count.result c.walk_params.new.self c.in_ok-finding.field-0 c.in-Some-2.finding (c.in_ok-finding.ensures l a) c.in-Some-2.is

pub returns-in-Some-3 : goal.returns-in-Some-3
returns-in-Some-3 c = λ l a.
    let i = c.args.older.now in
    let j = c.args.newer.now in
    let none : c.in_ok-finding.field-0 ≡ None = search rules in
    let b = params_none i j c.args.op c.len-count.result c.walk_params.new.self c.in_ok-finding.field-0 (c.in_ok-finding.ensures l a) none in
    finding i j c.args.op c.len-count.result c.walk_params.new.self b c.walk_part.new.self c.in-Some-3.found l
    (part_some i j c.args.op c.len-count.result c.walk_part.new.self c.in_ok-found.field-0 c.in-Some-3.found (c.in_ok-found.ensures b) c.in-Some-3.is)

pub returns-in-None : goal.returns-in-None
returns-in-None c = λ l a.
    let i = c.args.older.now in
    let j = c.args.newer.now in
    let o = c.in-Some.operation.now in
    let q = c.in-Some-get.other.now in
    let is : slice_get i.operations c.args.op ≡ Some o = search rules in
    let is' : slice_get j.operations c.args.op ≡ Some q = search rules in
    let many : length q.params ≡ length o.params = search rules in
    let none : c.in_ok-finding.field-0 ≡ None = search rules in
    let count : c.len-count.result ≡ length o.params = search rules in
    let b = params_none i j c.args.op c.len-count.result c.walk_params.new.self c.in_ok-finding.field-0 (c.in_ok-finding.ensures l a) none in
    whole i j c.args.op o q is is' many c.walk_part.new.self
    (subst (λ x. IsWalkedTo i j c.args.op (suc x) c.walk_part.new.self) count
    (part_none i j c.args.op c.len-count.result c.walk_part.new.self c.in_ok-found.field-0 (c.in_ok-found.ensures b) c.in-None.is))
