use mir.Val.{SFits}
use mir.Syntax.{w128}
use Rattle.std.proofs.lemmas.Int.{to_z-of_z}
use Rattle.std.proofs.Common.{rules, ℤ, ◌∙◌, ap}
use Rattle.std.proofs.lemmas.Result.{IfOk-weaker}
use Rattle.library_types.specs.Low.{low}
use Rattle.library_nodes.proofs.Adding.{closed}
use Rattle.library_nodes.proofs.laying.add.Goals as goal

pub returns-in-Num : goal.returns-in-Num
returns-in-Num c =
    let z : ℤ = c.in-Num.number in
    let fits : SFits w128 z = search rules in
    IfOk-weaker c.add_number.result _ _ (λ next h a fs o. rw c.in-Num.is (h a fs z (c.low.ensures ∙ ap low (to_z-of_z w128 z fits)) o)) c.add_number.ensures

pub begin-requires : goal.begin-requires
begin-requires c z is = c.in_default.not-Num z is

pub returns-in_ok-close-in_default : goal.returns-in_ok-close-in_default
returns-in_ok-close-in_default c =
    IfOk-weaker c.begin.result _ _
    (λ next h a fs o.
    h a fs (closed fs a c.args.list.now c.close.new.list c.args.unfinished c.in_ok-close-in_default.ensures.nodes c.close.ensures.numbers c.close.ensures.octets o))
    c.begin.ensures
