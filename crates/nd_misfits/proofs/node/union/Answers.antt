use Rattle.std.proofs.Common.{◌≡◌, rules, subst, Some}
use Rattle.std.proofs.lemmas.Int.{to_z-of_z}
use mir.Val.{SFits}
use mir.Syntax.{w128}
use Rattle.nd_types.specs.declared.types.TypeDef.TheVariants as def
use Rattle.nd_value.specs.Tree as tree
use Rattle.nd_value.specs.Tree.{trees}
use Rattle.nd_value.specs.Misfit.{misfit_by}
use Rattle.nd_misfits.proofs.node.union.Goals as goal

pub returns-in-Union : goal.returns-in-Union
returns-in-Union c g encapsulated =
    let v = c.in-Union in
    let fits : SFits w128 v.value = search rules in
    rw v.is
    (subst (λ z. c.arm_misfit.result ≡ misfit_by c.args.types.now g (Some (def.Union c.args.tag encapsulated c.args.arms.now c.args.default.now)) (tree.Union z) (trees v.arm))
    (to_z-of_z w128 v.value fits) (c.arm_misfit.ensures g encapsulated c.args.arms.now c.args.default.now c.selected.ensures))
