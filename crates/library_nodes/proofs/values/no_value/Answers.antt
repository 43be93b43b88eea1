use Rattle.std.proofs.Common.{◌∙◌, [], List, refl, sym, subst}
use Rattle.nd_value.specs.Tree.{Tree, node, none, trees}
use Rattle.library_nodes.specs.Listings.{has_form, plain}
use Rattle.library_nodes.specs.Steps.{Builds}
use Rattle.library_nodes.proofs.BuiltNodes.{plain_wrong, leaf_built}
use Rattle.library_nodes.proofs.values.no_value.Goals as goal

pub returns-then-not-has_form : goal.returns-then-not-has_form
returns-then-not-has_form c =
    let x = c.args.node.now in
    let l = c.args.reader.now in
    λ table label. plain_wrong table (has_form x 5 0) label [] l.numbers l.octets l c.wrong.result (sym c.has_form.ensures ∙ c.if-not-has_form.true) c.wrong.ensures

pub returns : goal.returns
returns c =
    let x = c.args.node.now in
    let l = c.args.reader.now in
    λ table label.
    subst (λ (vs : List Tree). Builds table (plain (has_form x 5 0) label [] l.numbers l.octets) l (node label (trees vs)) l) (sym c.none.ensures)
    (leaf_built table (has_form x 5 0) label l.numbers l.octets l l (node label none) (sym c.has_form.ensures ∙ c.if-not-has_form.false) refl refl)
