use Rattle.std.proofs.Common.{◌≡◌, ◌∙◌, ◌<◌, ◌≤◌, ℕ, List, [], false, true, ◌&&◌, leb, length, take, drop, sym, ap}
use Rattle.std.proofs.lemmas.Bool.{le-leb, lt-leb, and_from, and_left, and_right}
use Rattle.std.proofs.lemmas.List.{length-take-le}
use Rattle.nd_value.specs.Tree as tree
use Rattle.nd_value.specs.Tree.{node, none}
use Rattle.library_nodes.specs.Listings.{is_context}
use Rattle.library_nodes.proofs.BuiltNodes.{plain_wrong, leaf_built}
use Rattle.library_nodes.proofs.values.context.Goals as goal

pub returns-then-not-is_context : goal.returns-then-not-is_context
returns-then-not-is_context c =
    let x = c.args.node.now in
    let l = c.args.reader.now in
    λ table. plain_wrong table (is_context x && leb 16 (length l.octets)) (tree.Context x.number (take 16 l.octets)) [] l.numbers (drop 16 l.octets) l c.wrong-wrong.result
    (and_left (is_context x) (leb 16 (length l.octets)) (sym c.is_context.ensures ∙ c.if-not-is_context.true)) c.wrong-wrong.ensures

pub returns-in_default : goal.returns-in_default
returns-in_default c =
    let x = c.args.node.now in
    let l = c.args.reader.now in
    λ table. plain_wrong table (is_context x && leb 16 (length l.octets)) (tree.Context x.number (take 16 l.octets)) [] l.numbers (drop 16 l.octets) l c.wrong-wrong.result
    (and_right (is_context x) (leb 16 (length l.octets)) (lt-leb 16 (length l.octets) c.in_default.ensures.none)) c.wrong-wrong.ensures

pub returns : goal.returns
returns c =
    let x = c.args.node.now in
    let l = c.args.reader.now in
    λ table. leaf_built table (is_context x && leb 16 (length l.octets)) (tree.Context x.number (take 16 l.octets)) l.numbers (drop 16 l.octets) l c.octets.new.self _
    (and_from (is_context x) (leb 16 (length l.octets)) (sym c.is_context.ensures ∙ c.if-not-is_context.false) (le-leb 16 (length l.octets) c.in-Some.ensures.enough))
    (ap (λ (os : List ℕ). node (tree.Context x.number os) none) (c.in-Ok.ensures.bytes ∙ c.in-Some.ensures.some)) c.in-Some.ensures.rest

pub unreachable-requires : goal.unreachable-requires
unreachable-requires c =
    let l = c.args.reader.now in
    let no : false ≡ true =
    c.in-Err.ensures.ok.1 (ap (λ (os : List ℕ). length os) c.in-Some.ensures.some ∙ length-take-le 16 l.octets c.in-Some.ensures.enough) in
    cc
