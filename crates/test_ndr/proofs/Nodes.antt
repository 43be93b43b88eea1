-- A chain has few nodes.
use Rattle.std.proofs.Common.{◌≡◌, ◌<◌, List, [], ◌∷◌, ◌++◌, map, sym, subst, arith, lit<}
use Rattle.nd_value.specs.Tree.{Tree, Referent, none, more, node_count}
use Rattle.nd_value.specs.Conforms.{FewNodes}
use Rattle.test_ndr.specs.Chain.{IsNode, AreNodes, to_first}

-- a node more
pub more_nodes : (xs : List Referent) (x : Referent) → AreNodes xs → IsNode x → AreNodes (xs ++ x ∷ [])
more_nodes [] x h n = (n, tt)
more_nodes (y ∷ xs) x h n = (h.0, more_nodes xs x h.1 n)

few_cells : (xs : List Referent) → AreNodes xs → FewNodes (map (λ c. c.val) xs)
few_cells [] h = tt
few_cells (x ∷ xs) h = (let e : node_count (more x.val none) ≡ 3 = h.0 in omega (arith, e), few_cells xs h.1)

-- nodes by a pointer to the first are few in each home
pub few_nodes : (rs : List Tree) (xs : List Referent) → rs ≡ to_first ∷ [] → AreNodes xs → FewNodes (rs ++ map (λ x. x.val) xs)
few_nodes rs xs e h = subst (λ ts. FewNodes (ts ++ map (λ x. x.val) xs)) (sym e) (lit< tt, few_cells xs h)
