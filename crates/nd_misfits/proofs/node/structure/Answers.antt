use Rattle.std.proofs.Common.{◌≡◌, ◌∙◌, sym, length, arith}
use Rattle.nd_value.specs.Tree.{trees}
use Rattle.nd_misfits.proofs.NodeTests.{count_trees, struct_fits, struct_shape}
use Rattle.nd_misfits.proofs.node.structure.Goals as goal

pub returns-in-Rec : goal.returns-in-Rec
returns-in-Rec c table g =
    let v = c.in-Rec in
    let same : length v.vals ≡ length c.args.members.now = omega arith in
    rw v.is (struct_fits table g c.args.members.now (trees v.vals) (count_trees v.vals ∙ same))

pub returns-in_default : goal.returns-in_default
returns-in_default c table g =
    let v = c.in-Rec in
    let other : length v.vals ≡ length c.args.members.now → ⊥ = λ e. omega arith in
    rw v.is (struct_shape table g c.args.members.now (trees v.vals) (λ e. other (sym (count_trees v.vals) ∙ e)))
