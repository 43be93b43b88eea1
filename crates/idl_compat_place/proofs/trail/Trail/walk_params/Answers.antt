use Rattle.std.proofs.Common.{rules, ◌≡◌, None, subst}
use Rattle.idl_compat_place.specs.Trails.{IsWalkedTo}
use Rattle.idl_compat_place.proofs.Operated.{as_next, finding, part_none, part_some}
use Rattle.idl_compat_place.proofs.trail.Trail.walk_params.Goals as goal

pub loop-part-init : goal.loop-part-init
loop-part-init c = λ l a. a

pub returns-in-Some : goal.returns-in-Some
returns-in-Some c = λ l a.
    let i = c.args.older.now in
    let j = c.args.newer.now in
    let b = c.loop-part.invariant l a in
    finding i j c.args.op c.loop-part.part c.loop-part.self b c.walk_part.new.self c.in-Some.found l
    (part_some i j c.args.op c.loop-part.part c.walk_part.new.self c.in_ok-found.field-0 c.in-Some.found (c.in_ok-found.ensures b) c.in-Some.is)

pub loop-part-preserved : goal.loop-part-preserved
loop-part-preserved c = λ l a.
    let i = c.args.older.now in
    let j = c.args.newer.now in
    let b = c.loop-part.invariant l a in
    let none : c.in_ok-found.field-0 ≡ None = search rules in
    as_next i j c.args.op c.loop-part.part c.walk_part.new.self
    (part_none i j c.args.op c.loop-part.part c.walk_part.new.self c.in_ok-found.field-0 (c.in_ok-found.ensures b) none)

pub returns : goal.returns
returns c = λ l a.
    let same : c.loop-part.part ≡ c.args.count = search rules in
    subst (λ x. IsWalkedTo c.args.older.now c.args.newer.now c.args.op x c.loop-part.self) same (c.loop-part.invariant l a)
