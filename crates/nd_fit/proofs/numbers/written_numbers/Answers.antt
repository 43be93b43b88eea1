use mir.Val.{SFits}
use mir.Syntax.{w128}
use Rattle.std.proofs.lemmas.Int.{to_z-of_z}
use Rattle.std.proofs.Common.{rules, ℤ, ◌++◌, ◌∙◌, ap}
use Rattle.nd_base.specs.declared.octets.Order.TheVariants.{Little}
use Rattle.nd_types.specs.Number.{written}
use Rattle.nd_value.specs.Seen.{tree_of}
use Rattle.nd_fit.proofs.Packing.{written_on}
use Rattle.nd_fit.proofs.numbers.written_numbers.Goals as goal

pub loop-at-preserved : goal.loop-at-preserved
loop-at-preserved c =
    let z : ℤ = c.number_of.result in
    let fits : SFits w128 z = search rules in
    written_on c.args.prim c.args.vals.now c.loop-at.at (tree_of c.in-Some.val.now) c.loop-at.octets c.append_number.new.octets c.in-Some.ensures.some
    c.loop-at.invariant
    (c.in_ok-append_number.ensures ∙ ap (λ y. c.loop-at.octets ++ written Little c.args.prim y) (to_z-of_z w128 z fits ∙ c.number_of.ensures))
