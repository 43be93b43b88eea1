-- The maximum count that is found along the nodes of a value is the one before it.
use Rattle.std.proofs.Common.{◌≡◌, ℕ, ◌+◌, ◌-◌, ◌≤◌, zero, suc, Bool, true, false, List, [], ◌∷◌, ◌++◌, Some, None, refl, ap, ap₂, ◌∙◌, arith, append_assoc, append-nil}
use Rattle.std.specs.Prelude.{◌==◌}
use Rattle.std.proofs.lemmas.Bool.{eqb-true}
use Rattle.nd_value.specs.Tree as tree
use Rattle.nd_value.specs.Tree.{Tree, Trees, node, none, more, count, Flat, flat}
use Rattle.nd_grammar.specs.Entry.{own_max, hoisted_max}
use Rattle.ndr_encoder_laws.specs.maximum.LastPart.{own_count, last_max}

not_one : (x : ℕ) → (suc (suc x) == 1) ≡ false
not_one x = by_test (suc (suc x) == 1) refl
  where
    by_test : (b : Bool) → (suc (suc x) == 1) ≡ b → b ≡ false
    by_test true e = absurd (let h : suc (suc x) ≡ 1 = eqb-true (suc (suc x)) 1 e in omega (arith, h))
    by_test false e = refl

-- a node that is not the last part
step : (x : ℕ) (f : Flat) (fs : List Flat) → last_max (suc (suc x)) (f ∷ fs) ≡ last_max (suc (suc x) - 1 + f.1) fs
step x f fs =
    ap (λ b. elim b [ true ↦ elim (own_count f.0) [ Some m ↦ m | None ↦ last_max (suc (suc x) - 1 + f.1) fs ] | false ↦ last_max (suc (suc x) - 1 + f.1) fs ]) (not_one x)

-- values that are not the last parts are passed over
skipped : (ts : Trees) (q : ℕ) (fs : List Flat) → 1 ≤ q → last_max (count ts + q) (flat ts ++ fs) ≡ last_max q fs
skipped none q fs some = let e : 0 + q ≡ q = omega arith in ap (λ k. last_max k fs) e
skipped (more (node l ks) us) zero fs some = absurd (omega (arith, some))
skipped (more (node l ks) us) (suc q) fs some =
    let p : suc (count us) + suc q ≡ suc (suc (count us + q)) = omega arith in
    let down : suc (suc (count us + q)) - 1 + count ks ≡ count ks + (count us + suc q) = omega arith in
    let rest : 1 ≤ count us + suc q = omega arith in
    ap (λ k. last_max k ((l, count ks) ∷ ((flat ks ++ flat us) ++ fs))) p
    ∙ step (count us + q) (l, count ks) ((flat ks ++ flat us) ++ fs)
    ∙ ap₂ last_max down (append_assoc (flat ks) (flat us) fs)
    ∙ skipped ks (count us + suc q) (flat us ++ fs) rest
    ∙ skipped us (suc q) fs some

-- what was found before does not matter where another value follows
reset : (m n : ℕ) (u : Tree) (us : Trees) → hoisted_max m (more u us) ≡ hoisted_max n (more u us)
reset m n (node l ks) us = refl

one : (ks : Trees) → last_max (1 - 1 + count ks) (flat ks ++ []) ≡ last_max (count ks) (flat ks)
one ks = let e : 1 - 1 + count ks ≡ count ks = omega arith in ap₂ last_max e (append-nil (flat ks))

pub last_is : (ts : Trees) → last_max (count ts) (flat ts) ≡ hoisted_max 0 ts
last_is none = refl
last_is (more (node (tree.Arr max offset) ks) none) = refl
last_is (more (node (tree.Text max octets) ks) none) = refl
last_is (more (node (tree.Num z) ks) none) = one ks ∙ last_is ks
last_is (more (node tree.Rec ks) none) = one ks ∙ last_is ks
last_is (more (node (tree.Union v) ks) none) = one ks ∙ last_is ks
last_is (more (node (tree.Ptr c) ks) none) = one ks ∙ last_is ks
last_is (more (node (tree.Context a i) ks) none) = one ks ∙ last_is ks
last_is (more (node tree.Pipe ks) none) = one ks ∙ last_is ks
last_is (more (node tree.Unread ks) none) = one ks ∙ last_is ks
last_is (more (node l ks) (more u us)) =
    let down : suc (suc (count us)) - 1 + count ks ≡ count ks + suc (count us) = omega arith in
    step (count us) (l, count ks) (flat ks ++ flat (more u us))
    ∙ ap (λ k. last_max k (flat ks ++ flat (more u us))) down
    ∙ skipped ks (suc (count us)) (flat (more u us)) (omega arith)
    ∙ last_is (more u us)
    ∙ reset 0 (own_max l (hoisted_max 0 ks)) u us
