use Rattle.std.proofs.Common.{rules, ℤ, ◌∙◌, ◌<◌, ◌^◌, ap, sym, subst}
use Rattle.std.proofs.lemmas.Int.{to_z-of_z}
use mir.Val.{SFits}
use mir.Syntax.{w128}
use Rattle.nd_value.specs.Tree as tree
use Rattle.nd_flat.specs.FlatForm.{armed_count}
use Rattle.ndr_trace_value.specs.Walking.{flat_shape}
use Rattle.ndr_trace_value.proofs.shapes.as_seen.Goals as goal

pub returns-in-Num-clause-is : goal.returns-in-Num-clause-is
returns-in-Num-clause-is c =
    let z : ℤ = c.in-Num.value in
    let fits : SFits w128 z = search rules in
    ap (λ x. (tree.Num x, 0)) (to_z-of_z w128 z fits) ∙ ap flat_shape (sym c.in-Num.is)

pub returns-in-Union-clause-is : goal.returns-in-Union-clause-is
returns-in-Union-clause-is c =
    let z : ℤ = c.in-Union.tag in
    let fits : SFits w128 z = search rules in
    ap (λ x. (tree.Union x, armed_count c.in-Union.armed)) (to_z-of_z w128 z fits) ∙ ap flat_shape (sym c.in-Union.is)

pub returns-in-Arr-clause-few : goal.returns-in-Arr-clause-few
returns-in-Arr-clause-few c =
    let few : c.in-Arr.count < 2 ^ 32 = search rules in
    subst (λ x. (flat_shape x).1 < 2 ^ 32) (sym c.in-Arr.is) few
