use Rattle.std.proofs.Common.{◌≡◌, ◌∙◌, ◌<◌, ◌+◌, ℕ, ℤ, Bool, List, [], ◌∷◌, ◌++◌, length, take, get_or, refl, sym, ap, arith, rules}
use Rattle.std.proofs.lemmas.Int.{to_z-of_z}
use Rattle.std.proofs.lemmas.List.{take_more, take_all}
use mir.Val.{SFits}
use mir.Syntax.{w128}
use Rattle.nd_value.specs.Tree as tree
use Rattle.nd_value.specs.Tree.{Tree, node, none}
use Rattle.library_nodes.specs.Listings.{meant}
use Rattle.library_nodes.specs.Steps.{number_trees}
use Rattle.library_nodes.proofs.values.number_values.Goals as goal

trees_push : (wide : Bool) (us : List ℕ) (u : ℕ) → number_trees wide (us ++ u ∷ []) ≡ number_trees wide us ++ node (tree.Num (meant wide u)) none ∷ []
trees_push wide [] u = refl
trees_push wide (v ∷ us) u = ap (λ (ts : List Tree). node (tree.Num (meant wide v)) none ∷ ts) (trees_push wide us u)

one_more : (wide : Bool) (us : List ℕ) (i : ℕ) (vs ws : List Tree) (v : Tree) → i < length us → vs ≡ number_trees wide (take i us) → ws ≡ vs ++ v ∷ []
    → v ≡ node (tree.Num (meant wide (get_or us i 0))) none → ws ≡ number_trees wide (take (i + 1) us)
one_more wide us i vs ws v low before pushed is =
    pushed
    ∙ ap (λ (ts : List Tree). ts ++ v ∷ []) before
    ∙ ap (λ (t : Tree). number_trees wide (take i us) ++ t ∷ []) is
    ∙ sym (trees_push wide (take i us) (get_or us i 0))
    ∙ ap (number_trees wide) (sym (take_more us i 0 low))

pub loop-number-init : goal.loop-number-init
loop-number-init c = c.new-vals.ensures

pub loop-number-preserved : goal.loop-number-preserved
loop-number-preserved c =
    let z : ℤ = c.meant.result in
    let fits : SFits w128 z = search rules in
    one_more c.args.wide c.args.numbers.now c.loop-number.number-index c.loop-number.vals c.push.new.self _ (omega arith) c.loop-number.invariant c.in-Ok.ensures.ok
    (ap (λ (y : ℤ). node (tree.Num y) none) (to_z-of_z w128 z fits ∙ c.meant.ensures))

pub returns : goal.returns
returns c = c.loop-number.invariant ∙ ap (number_trees c.args.wide) (take_all c.loop-number.number-index c.args.numbers.now (omega arith))
