use Rattle.std.proofs.Common.{rules, ◌≡◌, Some, None, true, false, length, List, sym, subst}
use Rattle.std.specs.Prelude.{slice_get}
use Rattle.idl_compat.specs.Comparison.{IsPair, AlikeFound}
use Rattle.idl_compat.specs.Matching.{HasMet, AreExpanded}
use Rattle.idl_compat.proofs.Matched.{met_true, met_false}
use Rattle.idl_compat.proofs.Operating as operating
use Rattle.idl_compat.proofs.placing.Pairing.match_operation.Goals as goal

pub returns-in_default : goal.returns-in_default
returns-in_default c = λ k.
    let e : slice_get c.args.old.now.operations c.args.at ≡ None = search rules in
    operating.no_old_operation c.args.old.now c.args.new.now c.args.at c.args.self.now k e

pub returns-in_default-get : goal.returns-in_default-get
returns-in_default-get c = λ k.
    let e : slice_get c.args.new.now.operations c.args.at ≡ None = search rules in
    operating.no_new_operation c.args.old.now c.args.new.now c.args.at c.args.self.now k e

pub returns-then-not-branch : goal.returns-then-not-branch
returns-then-not-branch c = λ k.
    let e : slice_get c.args.old.now.operations c.args.at ≡ Some c.in-Some.operation.now = search rules in
    let f : slice_get c.args.new.now.operations c.args.at ≡ Some c.in-Some-get.other.now = search rules in
    operating.other_operations c.args.old.now c.args.new.now c.args.at c.args.self.now k c.in-Some.operation.now c.in-Some-get.other.now e f c.place_operation.new.self
    (met_false (λ m. AlikeFound (IsPair m) (Some c.in-Some.operation.now) (Some c.in-Some-get.other.now)) c.args.self.now c.place_operation.new.self
    c.in_ok-place_operation.field-0 (c.in_ok-place_operation.ensures k.paired) (search rules))

pub returns : goal.returns
returns c = λ k.
    let e : slice_get c.args.old.now.operations c.args.at ≡ Some c.in-Some.operation.now = search rules in
    let f : slice_get c.args.new.now.operations c.args.at ≡ Some c.in-Some-get.other.now = search rules in
    let h : HasMet (λ m. AlikeFound (IsPair m) (Some c.in-Some.operation.now) (Some c.in-Some-get.other.now)) c.args.self.now c.place_operation.new.self =
    met_true (λ m. AlikeFound (IsPair m) (Some c.in-Some.operation.now) (Some c.in-Some-get.other.now)) c.args.self.now c.place_operation.new.self
    c.in_ok-place_operation.field-0 (c.in_ok-place_operation.ensures k.paired) (search rules) in
    let many = operating.as_many c.args.old.now c.args.new.now c.args.at c.args.self.now k c.in-Some.operation.now c.in-Some-get.other.now e f c.place_operation.new.self h in
    let expanded : AreExpanded c.args.old.now.types c.args.new.now.types c.place_operation.new.self.pairs c.len-from.result =
    subst (λ n. AreExpanded c.args.old.now.types c.args.new.now.types c.place_operation.new.self.pairs n) (sym c.len-from.ensures)
    (operating.expanded c.args.old.now c.args.new.now c.args.at c.args.self.now k c.in-Some.operation.now c.in-Some-get.other.now e f c.place_operation.new.self h) in
    operating.matched c.args.old.now c.args.new.now c.args.at c.args.self.now k c.in-Some.operation.now c.in-Some-get.other.now e f c.place_operation.new.self h
    c.match_types.new.self c.in_ok-ok.ok (c.in_ok-ok.ensures h.paired many expanded)
