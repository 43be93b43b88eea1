use Rattle.std.proofs.Common.{◌∙◌, ℤ, [], Some, refl, sym, ap, rules}
use Rattle.std.proofs.lemmas.Int.{to_z-of_z}
use mir.Val.{SFits}
use mir.Syntax.{w128}
use Rattle.nd_value.specs.Tree as tree
use Rattle.nd_value.specs.Tree.{node, none}
use Rattle.library_nodes.specs.Listings.{has_form, is_wide, meant}
use Rattle.library_nodes.proofs.BuiltNodes.{plain_wrong, leaf_built}
use Rattle.library_nodes.proofs.values.number.Goals as goal

pub returns-then-not-has_form : goal.returns-then-not-has_form
returns-then-not-has_form c =
    let x = c.args.node.now in
    let l = c.args.reader.now in
    λ table. plain_wrong table (has_form x 1 0) (tree.Num (meant (is_wide (Some c.args.definition.now)) x.number)) [] l.numbers l.octets l c.wrong.result
    (sym c.has_form.ensures ∙ c.if-not-has_form.true) c.wrong.ensures

pub returns : goal.returns
returns c =
    let x = c.args.node.now in
    let l = c.args.reader.now in
    let z : ℤ = c.meant.result in
    let fits : SFits w128 z = search rules in
    λ table. leaf_built table (has_form x 1 0) (tree.Num (meant (is_wide (Some c.args.definition.now)) x.number)) l.numbers l.octets l l _
    (sym c.has_form.ensures ∙ c.if-not-has_form.false)
    (ap (λ (y : ℤ). node (tree.Num y) none) (to_z-of_z w128 z fits ∙ c.meant.ensures ∙ ap (λ w. meant w x.number) c.is_wide.ensures)) refl
