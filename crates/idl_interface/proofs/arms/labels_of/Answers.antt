use Rattle.std.proofs.Common.{◌∙◌, refl, arith, map}
use Rattle.idl_grammar.specs.Seen.{seen_label}
use Rattle.idl_scope.specs.Seen.{known_in}
use Rattle.idl_constructs.proofs.Gathering.{gathered}
use Rattle.idl_interface.proofs.Making.{values_left, value_one, values_cons, values_same}
use Rattle.idl_interface.proofs.arms.labels_of.Goals as goal

pub returns : goal.returns
returns c =
    let k = known_in c.args.scope.now in
    gathered (values_left k) (value_one k) (values_cons k) c.args.labels.now (values_left k c.args.labels.now) c.loop-label.values.items c.loop-label.label-index
    (omega arith) refl c.loop-label.invariant
    ∙ values_same k (map seen_label c.args.labels.now)
