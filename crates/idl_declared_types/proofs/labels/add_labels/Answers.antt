use Rattle.std.proofs.Common.{◌++◌, refl, arith}
use Rattle.idl_scope.specs.Seen.{known_in}
use Rattle.idl_constructs.proofs.Gathering.{gather, gathered}
use Rattle.idl_declared_types.proofs.LabelLists as lists
use Rattle.idl_declared_types.proofs.labels.add_labels.Goals as goal

pub loop-label-init : goal.loop-label-init
loop-label-init c = refl

pub loop-label-preserved : goal.loop-label-preserved
loop-label-preserved c =
    gather (lists.each_label (known_in c.args.scope.now)) (lists.one_label (known_in c.args.scope.now)) (lists.each_cons (known_in c.args.scope.now)) c.args.labels.now
    (c.args.list.now.items ++ lists.each_label (known_in c.args.scope.now) c.args.labels.now)
    c.loop-label.list.items c.add_label.new.list.items c.loop-label.label-index c.label-item.result (omega arith) c.label-item.is c.in_ok-add_label.ensures c.loop-label.invariant

pub returns : goal.returns
returns c =
    gathered (lists.each_label (known_in c.args.scope.now)) (lists.one_label (known_in c.args.scope.now)) (lists.each_cons (known_in c.args.scope.now)) c.args.labels.now
    (c.args.list.now.items ++ lists.each_label (known_in c.args.scope.now) c.args.labels.now)
    c.loop-label.list.items c.loop-label.label-index (omega arith) refl c.loop-label.invariant
