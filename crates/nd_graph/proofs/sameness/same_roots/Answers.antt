use Rattle.std.proofs.Common.{◌≡◌, ◌<◌, ℕ, length, subst}
use Rattle.nd_value.specs.Setting.{root_at}
use Rattle.nd_flat.specs.Renumbered.{renumbered_tree}
use Rattle.nd_graph.specs.Alike.{number_by}
use Rattle.nd_graph.proofs.Compared.{tree_decided, place_on, place_differs}
use Rattle.nd_graph.proofs.sameness.same_roots.Goals as goal

pub returns-then-not-same_nodes : goal.returns-then-not-same_nodes
returns-then-not-same_nodes c =
    let m : ℕ → ℕ = number_by c.args.left.now.numbers.items in
    let n : ℕ → ℕ = number_by c.args.right.now.numbers.items in
    place_differs (λ (i : ℕ). renumbered_tree m (root_at c.args.a.now i) ≡ renumbered_tree n (root_at c.args.b.now i)) (length c.args.a.now.roots) c.loop-at.at c.same_nodes.result
    (subst (λ (k : ℕ). c.loop-at.at < k) c.root_count-at-end.ensures c.loop-at-test.true) c.if-not-same_nodes.true
    (tree_decided m n c.same_nodes.result c.root_walk-mine.result c.root_walk-other.result (root_at c.args.a.now c.loop-at.at) (root_at c.args.b.now c.loop-at.at)
    c.root_walk-mine.ensures c.root_walk-other.ensures c.same_nodes.ensures)

pub loop-at-preserved : goal.loop-at-preserved
loop-at-preserved c =
    let m : ℕ → ℕ = number_by c.args.left.now.numbers.items in
    let n : ℕ → ℕ = number_by c.args.right.now.numbers.items in
    place_on (λ (i : ℕ). renumbered_tree m (root_at c.args.a.now i) ≡ renumbered_tree n (root_at c.args.b.now i)) c.loop-at.at c.loop-at.invariant
    ((tree_decided m n c.same_nodes.result c.root_walk-mine.result c.root_walk-other.result (root_at c.args.a.now c.loop-at.at) (root_at c.args.b.now c.loop-at.at)
    c.root_walk-mine.ensures c.root_walk-other.ensures c.same_nodes.ensures).0 c.if-not-same_nodes.false)
