use Rattle.std.proofs.Common.{◌∙◌, map, refl, ap, arith}
use Rattle.idl_constructs.specs.SeenNodes.{seen_construct, seen_declared}
use Rattle.idl_constructs.proofs.Gathering.{gather, gathered}
use Rattle.idl_constructs.proofs.Rests as rests
use Rattle.idl_constructs.proofs.parts.arms_declared.Goals as goal

pub loop-arm-preserved : goal.loop-arm-preserved
loop-arm-preserved c =
    let k = seen_construct c.args.construct.now in
    let xs = c.deref-arm-items.result.now in
    gather (rests.arms_declared k) (rests.cased_declared k) (rests.arms_declared_cons k) xs (rests.arms_declared k xs)
    (map seen_declared c.loop-arm.list.items) (map seen_declared c.add_arm.new.list.items) c.loop-arm.arm-index c.arm-item.result
    (omega arith) c.arm-item.is c.in_ok-add_arm.ensures c.loop-arm.invariant

pub returns : goal.returns
returns c =
    let k = seen_construct c.args.construct.now in
    let xs = c.deref-arm-items.result.now in
    gathered (rests.arms_declared k) (rests.cased_declared k) (rests.arms_declared_cons k) xs (rests.arms_declared k xs) (map seen_declared c.loop-arm.list.items) c.loop-arm.arm-index
    (omega arith) refl c.loop-arm.invariant
    ∙ ap (rests.arms_declared k) c.deref-arm-items.ensures.value
