use Rattle.std.proofs.Common.{rules, ◌≡◌, None, Some}
use Rattle.nd_types.specs.Table.{type_at}
use Rattle.idl_compat.specs.Comparison.{IsPair}
use Rattle.idl_compat.proofs.Expanding.{no_old, no_new}
use Rattle.idl_compat_place.proofs.Ordered.{ends_alone}
use Rattle.idl_compat_place.proofs.Walked.{forms_unlike, pair_alike}
use Rattle.idl_compat_place.proofs.trail.Trail.walk_pair.Goals as goal

pub returns-in_default-clause-walks : goal.returns-in_default-clause-walks
returns-in_default-clause-walks c = λ k n base a l is.
    let i = c.args.older.now in
    let j = c.args.newer.now in
    let p = c.args.pair in
    let e : type_at i.types p.old.0 ≡ None = search rules in
    c.end_at.ensures.ends i j k n base a l is (λ m one pair alike. no_old (IsPair m) (type_at i.types p.old.0) (type_at j.types p.new.0) e alike)

pub returns-in_default-get-clause-walks : goal.returns-in_default-get-clause-walks
returns-in_default-get-clause-walks c = λ k n base a l is.
    let i = c.args.older.now in
    let j = c.args.newer.now in
    let p = c.args.pair in
    let e : type_at j.types p.new.0 ≡ None = search rules in
    c.end_at-in_default-get.ensures.ends i j k n base a l is (λ m one pair alike. no_new (IsPair m) (type_at i.types p.old.0) (type_at j.types p.new.0) e alike)

pub returns-then-branch-clause-walks : goal.returns-then-branch-clause-walks
returns-then-branch-clause-walks c = λ k n base a l is.
    let i = c.args.older.now in
    let j = c.args.newer.now in
    let p = c.args.pair in
    let d = c.in-Some.definition.now in
    let e = c.in-Some-get.other.now in
    let f : type_at i.types p.old.0 ≡ Some d = search rules in
    let g : type_at j.types p.new.0 ≡ Some e = search rules in
    c.end_at-then-branch.ensures.ends i j k n base a l is
    (forms_unlike i j k n base d e c.args.number p f g c.in_ok-are_other_types.field-0 c.in_ok-are_other_types.ensures c.if-branch.true)

pub returns-clause-walks : goal.returns-clause-walks
returns-clause-walks c = λ k n base a l is.
    let i = c.args.older.now in
    let j = c.args.newer.now in
    let p = c.args.pair in
    let d = c.in-Some.definition.now in
    let e = c.in-Some-get.other.now in
    let f : type_at i.types p.old.0 ≡ Some d = search rules in
    let g : type_at j.types p.new.0 ≡ Some e = search rules in
    pair_alike i j k n base d e c.args.number p c.args.self.now c.walk_children.new.self c.in_ok-end.end f g
    c.in_ok-are_other_types.field-0 c.in_ok-are_other_types.ensures c.if-branch.false (c.in_ok-end.ensures.walks i j k n base p a l is f g)

pub returns-in_default-clause-order : goal.returns-in_default-clause-order
returns-in_default-clause-order c = λ base a. ends_alone base c.args.self.now.origins c.end_at.result c.end_at.ensures.alone

pub returns-in_default-get-clause-order : goal.returns-in_default-get-clause-order
returns-in_default-get-clause-order c = λ base a. ends_alone base c.args.self.now.origins c.end_at-in_default-get.result c.end_at-in_default-get.ensures.alone

pub returns-then-branch-clause-order : goal.returns-then-branch-clause-order
returns-then-branch-clause-order c = λ base a. ends_alone base c.args.self.now.origins c.end_at-then-branch.result c.end_at-then-branch.ensures.alone

pub returns-clause-order : goal.returns-clause-order
returns-clause-order c = λ base a. c.in_ok-end.ensures.order base a
