use Rattle.std.proofs.Common.{◌≡◌, ◌++◌, arith}
use Rattle.std.specs.List.{flat_map}
use Rattle.idl_interface.specs.Made.{seen_valued, arm_with, type_for, types_past}
use Rattle.idl_interface.proofs.Making.{arms_step}
use Rattle.idl_interface.proofs.arms.labelled_arms.Goals as goal

pub loop-arm-preserved : goal.loop-arm-preserved
loop-arm-preserved c =
    let x = c.arm-item.result in
    let rest = c.loop-arm.rest.now in
    let added : c.add_arms.new.arms ≡ c.loop-arm.arms ++ flat_map (arm_with (seen_valued x).name (type_for (seen_valued x).name rest)) x.labels.items =
    cc (c.in_ok-add_arms.ensures.made, c.type_for.ensures, c.as_slice.ensures.value) in
    let past : c.types_past-rest.result.now ≡ types_past (seen_valued x).name rest = c.types_past-rest.ensures in (
      arms_step c.args.list.now c.loop-arm.arm-index x (omega arith) c.arm-item.is c.loop-arm.arms c.add_arms.new.arms rest c.types_past-rest.result.now added past _ c.loop-arm.invariant.0,
      c.in_ok-add_arms.ensures.named c.loop-arm.invariant.1,
    )
