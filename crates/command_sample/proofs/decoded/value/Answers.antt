use Rattle.std.proofs.Common.{◌≡◌, ◌∙◌, ◌∷◌, suc, ap, sym}
use Rattle.nd_value.specs.Setting.{cell_at}
use Rattle.nd_value.specs.Tree.{more, none, flat}
use Rattle.nd_flat.specs.FlatForm.{flat_seen}
use Rattle.command_sample.proofs.Values.{second_value}
use Rattle.command_sample.proofs.decoded.value.Goals as goal

pub returns : goal.returns
returns c =
    let t = cell_at c.args.graph.now (suc c.args.at) in
    let first : flat (more t none) ≡ flat_seen c.in-Some._node ∷ flat c.step.new.self = ap flat (sym c.cell_walk-walk.ensures) ∙ c.in-Some.ensures.some in
    c.number_in.ensures
    ∙ sym (second_value t (flat_seen c.in-Some._node) (flat_seen c.in-Some-step.first) c.step.new.self c.step-2.new.self first c.in-Some-step.ensures.some)
