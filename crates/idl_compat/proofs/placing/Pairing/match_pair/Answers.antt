use Rattle.std.proofs.Common.{rules, ◌≡◌, [], ◌++◌, List, Some, None, true, false}
use Rattle.nd_types.specs.Table.{type_at}
use Rattle.idl_compat.specs.Comparison.{IsPair, AlikeTypes}
use Rattle.idl_compat.specs.Asking.{Asks}
use Rattle.idl_compat.proofs.AskingLaws.{from_none_true, from_none_false}
use Rattle.idl_compat.proofs.Expanding.{no_old, no_new, pair_refused, pair_met}
use Rattle.idl_compat.proofs.placing.Pairing.match_pair.Goals as goal

pub returns-in_default : goal.returns-in_default
returns-in_default c = λ k m o all a.
    let e : type_at c.args.types.now c.args.pair.old.0 ≡ None = search rules in
    no_old (IsPair m) (type_at c.args.types.now c.args.pair.old.0) (type_at c.args.others.now c.args.pair.new.0) e a

pub returns-in_default-get : goal.returns-in_default-get
returns-in_default-get c = λ k m o all a.
    let e : type_at c.args.others.now c.args.pair.new.0 ≡ None = search rules in
    no_new (IsPair m) (type_at c.args.types.now c.args.pair.old.0) (type_at c.args.others.now c.args.pair.new.0) e a

pub returns-then-not-branch : goal.returns-then-not-branch
returns-then-not-branch c = λ k.
    let e : type_at c.args.types.now c.args.pair.old.0 ≡ Some c.in-Some.old.now = search rules in
    let f : type_at c.args.others.now c.args.pair.new.0 ≡ Some c.in-Some-get.new.now = search rules in
    pair_refused c.args.types.now c.args.others.now c.args.pair.old.0 c.args.pair.new.0 c.in-Some.old.now c.in-Some-get.new.now e f c.ask_types.new.queue
    (from_none_false (λ m. AlikeTypes (IsPair m) (Some c.in-Some.old.now) (Some c.in-Some-get.new.now)) c.new-wanted.result c.ask_types.new.queue c.in_ok-ask_types.field-0
    c.new-wanted.ensures c.in_ok-ask_types.ensures (search rules)) c.args.self.now

pub returns : goal.returns
returns c = λ k.
    let e : type_at c.args.types.now c.args.pair.old.0 ≡ Some c.in-Some.old.now = search rules in
    let f : type_at c.args.others.now c.args.pair.new.0 ≡ Some c.in-Some-get.new.now = search rules in
    pair_met c.args.types.now c.args.others.now c.args.pair.old.0 c.args.pair.new.0 c.in-Some.old.now c.in-Some-get.new.now e f c.ask_types.new.queue
    (from_none_true (λ m. AlikeTypes (IsPair m) (Some c.in-Some.old.now) (Some c.in-Some-get.new.now)) c.new-wanted.result c.ask_types.new.queue c.in_ok-ask_types.field-0
    c.new-wanted.ensures c.in_ok-ask_types.ensures (search rules)) c.args.self.now c.place_all.new.self c.in_ok-ok.ok (c.in_ok-ok.ensures k)
