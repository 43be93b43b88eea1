-- How many nodes there are up to a value of a list.
-- `vs` are values, `v` is the i-th of them.
use Rattle.std.proofs.Common.{◌≡◌, ◌≤◌, ℕ, ◌+◌, zero, suc, List, [], ◌∷◌, take, Some, ap, ◌∙◌, subst, arith}
use Rattle.std.specs.List.{slice_get}
use Rattle.std.proofs.lemmas.Option.{same_Some}
use Rattle.nd_value.specs.Tree.{Tree, node, none, more, trees, node_count}

-- a value has no more nodes than all values
pub smaller_at : (vs : List Tree) (i : ℕ) (v : Tree) → slice_get vs i ≡ Some v → node_count (more v none) ≤ node_count (trees vs)
smaller_at [] i v e = cc
smaller_at (node l ks ∷ vs) zero v e =
    let s : node l ks ≡ v = same_Some (node l ks) v e in
    let m : node_count (more (node l ks) none) ≤ node_count (trees (node l ks ∷ vs)) = omega arith in
    subst (λ t. node_count (more t none) ≤ node_count (trees (node l ks ∷ vs))) s m
smaller_at (node l ks ∷ vs) (suc i) v e = let m : node_count (more v none) ≤ node_count (trees vs) = smaller_at vs i v e in omega arith

-- the nodes of the first values, with the next one
pub nodes_more : (vs : List Tree) (i : ℕ) (v : Tree) → slice_get vs i ≡ Some v → node_count (trees (take (i + 1) vs)) ≡ node_count (trees (take i vs)) + node_count (more v none)
nodes_more [] i v e = cc
nodes_more (node l ks ∷ vs) zero v e =
    let s : node l ks ≡ v = same_Some (node l ks) v e in
    let m : node_count (trees (take (0 + 1) (node l ks ∷ vs))) ≡ 0 + node_count (more (node l ks) none) = let k : suc (node_count ks + 0) ≡ 0 + suc (node_count ks + 0) = omega arith in k in
    subst (λ t. node_count (trees (take (0 + 1) (node l ks ∷ vs))) ≡ 0 + node_count (more t none)) s m
nodes_more (node l ks ∷ vs) (suc i) v e =
    let h : node_count (trees (take (i + 1) vs)) ≡ node_count (trees (take i vs)) + node_count (more v none) = nodes_more vs i v e in
    ap (λ n. node_count (trees (take n (node l ks ∷ vs)))) (let k : suc i + 1 ≡ suc (i + 1) = omega arith in k)
    ∙ (let k : suc (node_count ks + node_count (trees (take (i + 1) vs))) ≡ suc (node_count ks + node_count (trees (take i vs))) + node_count (more v none) = omega (arith, h) in k)

-- the nodes before a value and its own are among all nodes
pub nodes_within : (vs : List Tree) (i : ℕ) (v : Tree) → slice_get vs i ≡ Some v → node_count (trees (take i vs)) + node_count (more v none) ≤ node_count (trees vs)
nodes_within [] i v e = cc
nodes_within (node l ks ∷ vs) zero v e =
    let s : node l ks ≡ v = same_Some (node l ks) v e in
    let m : 0 + node_count (more (node l ks) none) ≤ node_count (trees (node l ks ∷ vs)) = omega arith in
    subst (λ t. 0 + node_count (more t none) ≤ node_count (trees (node l ks ∷ vs))) s m
nodes_within (node l ks ∷ vs) (suc i) v e =
    let m : node_count (trees (take i vs)) + node_count (more v none) ≤ node_count (trees vs) = nodes_within vs i v e in omega (arith, m)
