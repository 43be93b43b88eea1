-- Trees of one node.
-- `ts`, `us` and `ks` are trees, `t` is a tree, `f` and `g` are nodes.
use Rattle.std.proofs.Common.{◌≡◌, List, [], ◌∷◌, ◌++◌, refl, ap, sym, ◌∙◌, arith}
use Rattle.nd_value.specs.Tree.{Flat, Tree, Trees, node, none, more, count, flat}

no_parts : (ks : Trees) → count ks ≡ 0 → ks ≡ none
no_parts none e = refl
no_parts (more t ts) e = absurd (omega (arith, e))

abbrev first_or : Flat → List Flat → Flat
first_or f [] = f
first_or f (g ∷ gs) = g

-- the node of a tree is all of it if it has no parts
pub one_node : (ts us : Trees) (t : Tree) (f : Flat) → ts ≡ more t none → flat ts ≡ f ∷ flat us → f.1 ≡ 0 → flat ts ≡ f ∷ []
one_node ts us (node l ks) f is first whole =
    let same : (l, count ks) ≡ f = ap (first_or f) (ap flat (sym is) ∙ first) in
    let none_left : ks ≡ none = no_parts ks (ap (λ (g : Flat). g.1) same ∙ whole) in
    ap flat is ∙ ap (λ (vs : Trees). (l, count ks) ∷ (flat vs ++ [])) none_left ∙ ap (λ (g : Flat). g ∷ []) same
