-- Walks by type. What a function gives of values of these types, one after the other, goes value by value: `give` is what an
-- encoder writes, or a printer, in the form of the definitions: something of the node, then its children, then the other values.
-- `t` is a type's number, `f` a node, `k` a number of values that are left of this list, `old` and `new` are what is left of a walk.
use Rattle.std.proofs.Common.{◌≡◌, ℕ, ◌≤◌, zero, suc, ◌∷◌, ap, sym, ◌∙◌, arith}
use Rattle.nd_value.specs.Tree.{Trees, Flat, none, more, count, flat, unflat, take_trees, drop_trees, unflat-of}
use Rattle.nd_flat.proofs.Forests.{walked, flat-unflat}
use Rattle.nd_lemmas.proofs.Lists.{same_first as head_same}

count_take : (k : ℕ) (us : Trees) → count (take_trees k us) ≤ count us
count_take zero us = omega arith
count_take (suc k) none = omega arith
count_take (suc k) (more t ts) = let h : count (take_trees k ts) ≤ count ts = count_take k ts in omega arith

-- after a node its children are left, all of them
pub walked_count : (old new : Trees) (f : Flat) → flat old ≡ f ∷ flat new → count (take_trees f.1 new) ≡ f.1
walked_count old new f e =
    let g : flat (unflat (f ∷ flat new)) ≡ f ∷ flat new = ap (λ fs. flat (unflat fs)) (sym e) ∙ ap flat (unflat-of old) ∙ e in
    let h : (f.0, count (take_trees f.1 (unflat (flat new)))) ≡ f = head_same _ f (flat (unflat (flat new))) (flat new) (sym (flat-unflat f (flat new)) ∙ g) in
    ap (λ us. count (take_trees f.1 us)) (sym (unflat-of new)) ∙ ap (λ (x : Flat). x.1) h

pub walked_some : (old new : Trees) (f : Flat) → flat old ≡ f ∷ flat new → f.1 ≤ count new
walked_some old new f e = let c : count (take_trees f.1 new) ≡ f.1 = walked_count old new f e in let d = count_take f.1 new in omega (arith, c, d)

pub rest_walked : (old new : Trees) (f : Flat) → flat old ≡ f ∷ flat new → drop_trees 1 old ≡ drop_trees f.1 new
rest_walked old new f e = ap (drop_trees 1) (walked old new f e)
