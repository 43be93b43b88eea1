use Rattle.std.proofs.Common.{◌≡◌, ◌∙◌, ◌≤◌, ℕ, [], Option, refl, sym, ap, arith}
use Rattle.nd_value.specs.Tree as tree
use Rattle.nd_value.specs.Tree.{node, none}
use Rattle.library_nodes.specs.Listings.{has_form, is_pointer, cell_numbered}
use Rattle.library_nodes.proofs.BuiltNodes.{plain_wrong, leaf_built}
use Rattle.library_nodes.proofs.values.pointer.Goals as goal

pub returns-then-not-is_pointer : goal.returns-then-not-is_pointer
returns-then-not-is_pointer c =
    let x = c.args.node.now in
    let l = c.args.reader.now in
    λ table. plain_wrong table (is_pointer x) (tree.Ptr (cell_numbered x.number)) [] l.numbers l.octets l c.wrong.result
    (sym c.is_pointer.ensures ∙ c.if-not-is_pointer.true) c.wrong.ensures

pub returns : goal.returns
returns c =
    let x = c.args.node.now in
    let l = c.args.reader.now in
    λ table. leaf_built table (is_pointer x) (tree.Ptr (cell_numbered x.number)) l.numbers l.octets l l _
    (sym c.is_pointer.ensures ∙ c.if-not-is_pointer.false) (ap (λ (o : Option ℕ). node (tree.Ptr o) none) c.cell_numbered.ensures) refl
