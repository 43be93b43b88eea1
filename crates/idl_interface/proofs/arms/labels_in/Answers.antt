use Rattle.std.proofs.Common.{refl, arith}
use Rattle.idl_scope.specs.Seen.{known_in}
use Rattle.idl_constructs.proofs.Gathering.{gather, gathered}
use Rattle.idl_interface.proofs.Making.{labels_left, labels_one, labels_cons}
use Rattle.idl_interface.proofs.arms.labels_in.Goals as goal

pub loop-attribute-preserved : goal.loop-attribute-preserved
loop-attribute-preserved c =
    let k = known_in c.args.scope.now in
    gather (labels_left k) (labels_one k) (labels_cons k) c.args.attributes.now (labels_left k c.args.attributes.now) c.loop-attribute.labels.items c.add_said.new.labels.items
    c.loop-attribute.attribute-index c.attribute-item.result (omega arith) c.attribute-item.is c.in_ok-add_said.ensures c.loop-attribute.invariant

pub returns : goal.returns
returns c =
    let k = known_in c.args.scope.now in
    gathered (labels_left k) (labels_one k) (labels_cons k) c.args.attributes.now (labels_left k c.args.attributes.now) c.loop-attribute.labels.items c.loop-attribute.attribute-index
    (omega arith) refl c.loop-attribute.invariant
