use Rattle.std.proofs.Common.{◌∙◌, map, refl, ap, arith}
use Rattle.idl_constructs.specs.SeenNodes.{seen_construct, seen_declared}
use Rattle.idl_constructs.proofs.Gathering.{gather, gathered}
use Rattle.idl_constructs.proofs.Rests as rests
use Rattle.idl_constructs.proofs.parts.cases_declared.Goals as goal

pub loop-case-preserved : goal.loop-case-preserved
loop-case-preserved c =
    let k = seen_construct c.args.construct.now in
    let xs = c.deref-case-items.result.now in
    gather (rests.cases_declared k) (rests.case_declared k) (rests.cases_declared_cons k) xs (rests.cases_declared k xs)
    (map seen_declared c.loop-case.list.items) (map seen_declared c.add_arm.new.list.items) c.loop-case.case-index c.case-item.result
    (omega arith) c.case-item.is c.in_ok-add_arm.ensures c.loop-case.invariant

pub returns : goal.returns
returns c =
    let k = seen_construct c.args.construct.now in
    let xs = c.deref-case-items.result.now in
    gathered (rests.cases_declared k) (rests.case_declared k) (rests.cases_declared_cons k) xs (rests.cases_declared k xs) (map seen_declared c.loop-case.list.items) c.loop-case.case-index
    (omega arith) refl c.loop-case.invariant
    ∙ ap (rests.cases_declared k) c.deref-case-items.ensures.value
