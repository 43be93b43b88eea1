use Rattle.std.proofs.Common.{◌∙◌, ◌≤◌, sym, length, arith, append-nil}
use Rattle.ndr_code.specs.Code.{table_code}
use Rattle.ndr_plan.proofs.SidesAdded.{request_at, one_operation, all_operations}
use Rattle.ndr_plan.proofs.making.parts.Goals as goal

pub loop-at-init : goal.loop-at-init
loop-at-init c =
    record {
      code_is = c.in_ok-table_code.ensures ∙ sym (append-nil (table_code c.args.interface.now.types));
      entries_are = c.new.ensures;
      sides_are = c.new-2.ensures;
    }

pub loop-at-preserved : goal.loop-at-preserved
loop-at-preserved c =
    let l = c.loop-at in
    let i = c.args.interface.now in
    let o = c.in-Some.operation.now in
    one_operation i.types i.operations l.at o c.in-Some.ensures.some l.parts _ l.invariant
    (c.in_ok-push_operation.ensures (request_at i.types i.operations l.at o l.parts l.invariant))

pub returns : goal.returns
returns c =
    let l = c.loop-at in
    let i = c.args.interface.now in
    let past : length i.operations ≤ l.at = omega (arith, c.len-at-end.ensures, c.loop-at-test.false) in
    all_operations i.types i.operations l.at l.parts l.invariant past
