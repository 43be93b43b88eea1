use Rattle.std.proofs.Common.{◌∙◌, ◌<◌, ◌≤◌, ℕ, List, [], ◌&&◌, leb, length, take, drop, sym, ap}
use Rattle.std.proofs.lemmas.Bool.{le-leb, lt-leb, and_from, and_left, and_right}
use Rattle.nd_value.specs.Tree as tree
use Rattle.nd_value.specs.Tree.{node, none}
use Rattle.library_nodes.specs.Listings.{has_form}
use Rattle.library_nodes.proofs.BuiltNodes.{plain_wrong, leaf_built}
use Rattle.library_nodes.proofs.values.string.Goals as goal

pub returns-then-not-has_form : goal.returns-then-not-has_form
returns-then-not-has_form c =
    let x = c.args.node.now in
    let l = c.args.reader.now in
    λ table. plain_wrong table (has_form x 4 0 && leb x.length (length l.octets)) (tree.Text x.max (take x.length l.octets)) [] l.numbers (drop x.length l.octets) l c.wrong-wrong.result
    (and_left (has_form x 4 0) (leb x.length (length l.octets)) (sym c.has_form.ensures ∙ c.if-not-has_form.true)) c.wrong-wrong.ensures

pub returns-in_default : goal.returns-in_default
returns-in_default c =
    let x = c.args.node.now in
    let l = c.args.reader.now in
    λ table. plain_wrong table (has_form x 4 0 && leb x.length (length l.octets)) (tree.Text x.max (take x.length l.octets)) [] l.numbers (drop x.length l.octets) l c.wrong-wrong.result
    (and_right (has_form x 4 0) (leb x.length (length l.octets)) (lt-leb x.length (length l.octets) c.in_default.ensures.none)) c.wrong-wrong.ensures

pub returns-in-Ok : goal.returns-in-Ok
returns-in-Ok c =
    let x = c.args.node.now in
    let l = c.args.reader.now in
    λ table. leaf_built table (has_form x 4 0 && leb x.length (length l.octets)) (tree.Text x.max (take x.length l.octets)) l.numbers (drop x.length l.octets) l c.octets.new.self _
    (and_from (has_form x 4 0) (leb x.length (length l.octets)) (sym c.has_form.ensures ∙ c.if-not-has_form.false) (le-leb x.length (length l.octets) c.in-Some.ensures.enough))
    (ap (λ (os : List ℕ). node (tree.Text x.max os) none) (c.in-Ok.ensures ∙ c.in-Some.ensures.some)) c.in-Some.ensures.rest

pub returns-in-Err : goal.returns-in-Err
returns-in-Err c = λ table ts. tt
