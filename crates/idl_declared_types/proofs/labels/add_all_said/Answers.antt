use Rattle.std.proofs.Common.{◌++◌, refl, arith}
use Rattle.idl_scope.specs.Seen.{known_in}
use Rattle.idl_constructs.proofs.Gathering.{gather, gathered}
use Rattle.idl_declared_types.proofs.LabelLists as lists
use Rattle.idl_declared_types.proofs.labels.add_all_said.Goals as goal

pub loop-attribute-init : goal.loop-attribute-init
loop-attribute-init c = refl

pub loop-attribute-preserved : goal.loop-attribute-preserved
loop-attribute-preserved c =
    gather (lists.all_said (known_in c.args.scope.now)) (lists.one_said (known_in c.args.scope.now)) (lists.said_cons (known_in c.args.scope.now)) c.args.attributes.now
    (c.args.list.now.items ++ lists.all_said (known_in c.args.scope.now) c.args.attributes.now)
    c.loop-attribute.list.items c.add_said.new.list.items c.loop-attribute.attribute-index c.attribute-item.result (omega arith) c.attribute-item.is c.in_ok-add_said.ensures c.loop-attribute.invariant

pub returns : goal.returns
returns c =
    gathered (lists.all_said (known_in c.args.scope.now)) (lists.one_said (known_in c.args.scope.now)) (lists.said_cons (known_in c.args.scope.now)) c.args.attributes.now
    (c.args.list.now.items ++ lists.all_said (known_in c.args.scope.now) c.args.attributes.now)
    c.loop-attribute.list.items c.loop-attribute.attribute-index (omega arith) refl c.loop-attribute.invariant
