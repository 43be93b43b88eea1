-- Laws of lists of nodes that are trees.
-- `ts` and `us` are lists of trees, `fs` is a list of nodes, `f` a node, `l` a label, `ks` are children, `k` is a number.
use Rattle.std.proofs.Common.{◌≡◌, ℕ, zero, suc, List, [], ◌∷◌, ◌++◌, refl, ap, sym, ◌∙◌, append_assoc}
use Rattle.nd_value.specs.Tree.{Tree, Trees, node, none, more, count, Flat, flat, unflat, take_trees, drop_trees, joined, unflat-of}
use Rattle.nd_flat.specs.Forest.{IsForest, IsWhole, first_tree, tree_in}
use Rattle.nd_lemmas.proofs.Lists.{same_rest as tail_same}

pub joined-take-drop : (k : ℕ) (us : Trees) → joined (take_trees k us) (drop_trees k us) ≡ us
joined-take-drop zero us = refl
joined-take-drop (suc k) none = refl
joined-take-drop (suc k) (more t ts) = ap (more t) (joined-take-drop k ts)

pub take-joined : (ts us : Trees) → take_trees (count ts) (joined ts us) ≡ ts
take-joined none us = refl
take-joined (more t ts) us = ap (more t) (take-joined ts us)

pub drop-joined : (ts us : Trees) → drop_trees (count ts) (joined ts us) ≡ us
drop-joined none us = refl
drop-joined (more t ts) us = drop-joined ts us

pub joined-none : (ts : Trees) → joined ts none ≡ ts
joined-none none = refl
joined-none (more t ts) = ap (more t) (joined-none ts)

pub flat-joined : (ts us : Trees) → flat (joined ts us) ≡ flat ts ++ flat us
flat-joined none us = refl
flat-joined (more (node l ks) ts) us =
    ap (λ fs. (l, count ks) ∷ (flat ks ++ fs)) (flat-joined ts us)
    ∙ ap (λ fs. (l, count ks) ∷ fs) (sym (append_assoc (flat ks) (flat ts) (flat us)))

-- the nodes of the first of trees come before those of the others
pub flat-more : (t : Tree) (ts : Trees) → flat (more t ts) ≡ flat (more t none) ++ flat ts
flat-more t ts = flat-joined (more t none) ts

-- the nodes of a first node's children and of what follows
pub flat-unflat : (f : Flat) (fs : List Flat)
    → flat (unflat (f ∷ fs)) ≡ (f.0, count (take_trees f.1 (unflat fs))) ∷ flat (unflat fs)
flat-unflat f fs =
    ap (λ gs. (f.0, count (take_trees f.1 (unflat fs))) ∷ gs)
    (sym (flat-joined (take_trees f.1 (unflat fs)) (drop_trees f.1 (unflat fs))) ∙ ap flat (joined-take-drop f.1 (unflat fs)))

-- after the first node of trees are trees
pub forest-rest : (f : Flat) (fs : List Flat) → IsForest (f ∷ fs) → IsForest fs
forest-rest f fs h = tail_same _ f _ fs (sym (flat-unflat f fs) ∙ h)

-- after the first nodes of trees are trees
pub forest-rest-of : (fs gs : List Flat) → IsForest (fs ++ gs) → IsForest gs
forest-rest-of [] gs h = h
forest-rest-of (f ∷ fs) gs h = forest-rest-of fs gs (forest-rest f (fs ++ gs) h)

-- Walking on: what is left after a node is its children, and then what followed.
pub walked : (old new : Trees) (f : Flat) → flat old ≡ f ∷ flat new
    → old ≡ more (node f.0 (take_trees f.1 new)) (drop_trees f.1 new)
walked old new f e =
    sym (unflat-of old) ∙ ap unflat e
    ∙ ap (λ us. more (node f.0 (take_trees f.1 us)) (drop_trees f.1 us)) (unflat-of new)

-- nodes that are those of a tree are whole, and the tree is that one
pub tree-of : (t : Tree) → tree_in (flat (more t none)) ≡ t
tree-of t = ap first_tree (unflat-of (more t none))

pub whole-of : (t : Tree) (fs : List Flat) → fs ≡ flat (more t none) → IsWhole fs
whole-of t fs e = e ∙ ap (λ u. flat (more u none)) (sym (tree-of t) ∙ ap tree_in (sym e))

pub whole-forest : (fs : List Flat) → IsWhole fs → unflat fs ≡ more (tree_in fs) none
whole-forest fs h = ap unflat h ∙ unflat-of (more (tree_in fs) none)

pub whole-is-forest : (fs : List Flat) → IsWhole fs → IsForest fs
whole-is-forest fs h = ap flat (whole-forest fs h) ∙ sym h
