use Rattle.std.proofs.Common.{◌++◌, refl, arith}
use Rattle.idl_scope.specs.Seen.{known_in}
use Rattle.idl_constructs.proofs.Gathering.{gather, gathered}
use Rattle.idl_declared_types.proofs.LabelLists as lists
use Rattle.idl_declared_types.proofs.labels.add_values.Goals as goal

pub loop-value-init : goal.loop-value-init
loop-value-init c = refl

pub loop-value-preserved : goal.loop-value-preserved
loop-value-preserved c =
    gather (lists.each_value (known_in c.args.scope.now) c.args.at) (lists.one_value (known_in c.args.scope.now) c.args.at) (lists.values_cons (known_in c.args.scope.now) c.args.at) c.args.values.now
    (c.args.list.now.items ++ lists.each_value (known_in c.args.scope.now) c.args.at c.args.values.now)
    c.loop-value.list.items c.add_value.new.list.items c.loop-value.value-index c.value-item.result (omega arith) c.value-item.is c.in_ok-add_value.ensures c.loop-value.invariant

pub returns : goal.returns
returns c =
    gathered (lists.each_value (known_in c.args.scope.now) c.args.at) (lists.one_value (known_in c.args.scope.now) c.args.at)
    (lists.values_cons (known_in c.args.scope.now) c.args.at) c.args.values.now (c.args.list.now.items ++ lists.each_value (known_in c.args.scope.now) c.args.at c.args.values.now)
    c.loop-value.list.items c.loop-value.value-index (omega arith) refl c.loop-value.invariant
