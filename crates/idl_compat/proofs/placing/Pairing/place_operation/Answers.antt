use Rattle.std.proofs.Common.{rules, ◌≡◌, [], ◌++◌, List, Some, None, true, false}
use Rattle.idl_compat.specs.Comparison.{IsPair, AlikeFound}
use Rattle.idl_compat.specs.Asking.{Asks}
use Rattle.idl_compat.proofs.AskingLaws.{from_none_true, from_none_false}
use Rattle.idl_compat.proofs.Matched.{never_met, asked_met}
use Rattle.idl_compat.proofs.placing.Pairing.place_operation.Goals as goal

pub returns-then-not-branch : goal.returns-then-not-branch
returns-then-not-branch c = λ k.
    never_met (λ m. AlikeFound (IsPair m) (Some c.args.old.now) (Some c.args.new.now)) [] c.ask_operation.new.queue
    (from_none_false (λ m. AlikeFound (IsPair m) (Some c.args.old.now) (Some c.args.new.now)) c.new-wanted.result c.ask_operation.new.queue c.in_ok-ask_operation.field-0
    c.new-wanted.ensures c.in_ok-ask_operation.ensures (search rules)) c.args.self.now c.args.self.now

pub returns : goal.returns
returns c = λ k.
    asked_met (λ m. AlikeFound (IsPair m) (Some c.args.old.now) (Some c.args.new.now)) c.ask_operation.new.queue
    (from_none_true (λ m. AlikeFound (IsPair m) (Some c.args.old.now) (Some c.args.new.now)) c.new-wanted.result c.ask_operation.new.queue c.in_ok-ask_operation.field-0
    c.new-wanted.ensures c.in_ok-ask_operation.ensures (search rules)) c.args.self.now c.place_all.new.self c.in_ok-ok.ok (c.in_ok-ok.ensures k)
