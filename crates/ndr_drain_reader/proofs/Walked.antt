-- The one pipe of a graph, as a walk gives it.
use Rattle.std.proofs.Common.{◌≡◌, ℕ, List, [], ◌∷◌, ap, sym, ◌∙◌}
use Rattle.nd_value.specs.declared.value.Graph.{Graph}
use Rattle.nd_value.specs.Setting.{root_at}
use Rattle.nd_value.specs.Tree as tree
use Rattle.nd_value.specs.Tree.{Tree, Trees, flat, more, node, none, take_trees, trees}
use Rattle.nd_flat.specs.Forest.{first_tree}
use Rattle.nd_flat.proofs.Rebuilding.{first_of}

pub pipe_walked : (g : Graph) (kids old new : Trees) (number : ℕ) (vs : List Tree) → g.roots ≡ node tree.Pipe kids ∷ [] → old ≡ more (root_at g 0) none → flat old ≡ (tree.Pipe, number) ∷ flat new
    → trees vs ≡ take_trees number new → g.roots ≡ node tree.Pipe (trees vs) ∷ []
pipe_walked g kids old new number vs roots is walked taken =
    let first : root_at g 0 ≡ node tree.Pipe kids = ap (λ (rs : List Tree). root_at (record { roots = rs; cells = g.cells }) 0) roots in
    let whole : node tree.Pipe kids ≡ node tree.Pipe (take_trees number new) = sym first ∙ ap first_tree (sym is) ∙ first_of old new (tree.Pipe, number) walked in
    roots ∙ ap (λ t. t ∷ []) (whole ∙ ap (node tree.Pipe) (sym taken))
