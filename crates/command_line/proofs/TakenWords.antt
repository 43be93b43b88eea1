-- Eight and nine words by their places.
use Rattle.std.proofs.Common.{◌≡◌, ◌∙◌, ℕ, ◌<◌, ◌≤◌, List, [], ◌∷◌, length, map, get_or, ap, ap₂, arith}

-- a list of eight items, each of which was taken from its place, is what is made of these items
pub eight_words : {X : Type 0} (f : X → List ℕ) (xs : List X) (a0 a1 a2 a3 a4 a5 a6 a7 : X) (s0 s1 s2 s3 s4 s5 s6 s7 : List ℕ) → 8 ≤ length xs → length xs < 9
    → a0 ≡ get_or xs 0 a0 → a1 ≡ get_or xs 1 a1 → a2 ≡ get_or xs 2 a2 → a3 ≡ get_or xs 3 a3 → a4 ≡ get_or xs 4 a4 → a5 ≡ get_or xs 5 a5 → a6 ≡ get_or xs 6 a6 → a7 ≡ get_or xs 7 a7
    → s0 ≡ f a0 → s1 ≡ f a1 → s2 ≡ f a2 → s3 ≡ f a3 → s4 ≡ f a4 → s5 ≡ f a5 → s6 ≡ f a6 → s7 ≡ f a7
    → s0 ∷ s1 ∷ s2 ∷ s3 ∷ s4 ∷ s5 ∷ s6 ∷ s7 ∷ [] ≡ map f xs
eight_words f [] a0 a1 a2 a3 a4 a5 a6 a7 s0 s1 s2 s3 s4 s5 s6 s7 least most p0 p1 p2 p3 p4 p5 p6 p7 v0 v1 v2 v3 v4 v5 v6 v7 = absurd (omega (arith, least))
eight_words f (x0 ∷ []) a0 a1 a2 a3 a4 a5 a6 a7 s0 s1 s2 s3 s4 s5 s6 s7 least most p0 p1 p2 p3 p4 p5 p6 p7 v0 v1 v2 v3 v4 v5 v6 v7 = absurd (omega (arith, least))
eight_words f (x0 ∷ x1 ∷ []) a0 a1 a2 a3 a4 a5 a6 a7 s0 s1 s2 s3 s4 s5 s6 s7 least most p0 p1 p2 p3 p4 p5 p6 p7 v0 v1 v2 v3 v4 v5 v6 v7 = absurd (omega (arith, least))
eight_words f (x0 ∷ x1 ∷ x2 ∷ []) a0 a1 a2 a3 a4 a5 a6 a7 s0 s1 s2 s3 s4 s5 s6 s7 least most p0 p1 p2 p3 p4 p5 p6 p7 v0 v1 v2 v3 v4 v5 v6 v7 = absurd (omega (arith, least))
eight_words f (x0 ∷ x1 ∷ x2 ∷ x3 ∷ []) a0 a1 a2 a3 a4 a5 a6 a7 s0 s1 s2 s3 s4 s5 s6 s7 least most p0 p1 p2 p3 p4 p5 p6 p7 v0 v1 v2 v3 v4 v5 v6 v7 = absurd (omega (arith, least))
eight_words f (x0 ∷ x1 ∷ x2 ∷ x3 ∷ x4 ∷ []) a0 a1 a2 a3 a4 a5 a6 a7 s0 s1 s2 s3 s4 s5 s6 s7 least most p0 p1 p2 p3 p4 p5 p6 p7 v0 v1 v2 v3 v4 v5 v6 v7 = absurd (omega (arith, least))
eight_words f (x0 ∷ x1 ∷ x2 ∷ x3 ∷ x4 ∷ x5 ∷ []) a0 a1 a2 a3 a4 a5 a6 a7 s0 s1 s2 s3 s4 s5 s6 s7 least most p0 p1 p2 p3 p4 p5 p6 p7 v0 v1 v2 v3 v4 v5 v6 v7 = absurd (omega (arith, least))
eight_words f (x0 ∷ x1 ∷ x2 ∷ x3 ∷ x4 ∷ x5 ∷ x6 ∷ []) a0 a1 a2 a3 a4 a5 a6 a7 s0 s1 s2 s3 s4 s5 s6 s7 least most p0 p1 p2 p3 p4 p5 p6 p7 v0 v1 v2 v3 v4 v5 v6 v7 = absurd (omega (arith, least))
eight_words f (x0 ∷ x1 ∷ x2 ∷ x3 ∷ x4 ∷ x5 ∷ x6 ∷ x7 ∷ []) a0 a1 a2 a3 a4 a5 a6 a7 s0 s1 s2 s3 s4 s5 s6 s7 least most p0 p1 p2 p3 p4 p5 p6 p7 v0 v1 v2 v3 v4 v5 v6 v7 =
    let q0 : s0 ≡ f x0 = v0 ∙ ap f p0 in
    let q1 : s1 ≡ f x1 = v1 ∙ ap f p1 in
    let q2 : s2 ≡ f x2 = v2 ∙ ap f p2 in
    let q3 : s3 ≡ f x3 = v3 ∙ ap f p3 in
    let q4 : s4 ≡ f x4 = v4 ∙ ap f p4 in
    let q5 : s5 ≡ f x5 = v5 ∙ ap f p5 in
    let q6 : s6 ≡ f x6 = v6 ∙ ap f p6 in
    let q7 : s7 ≡ f x7 = v7 ∙ ap f p7 in
    ap₂ (λ (y : List ℕ) (ys : List (List ℕ)). y ∷ ys) q0
    (ap₂ (λ (y : List ℕ) (ys : List (List ℕ)). y ∷ ys) q1
    (ap₂ (λ (y : List ℕ) (ys : List (List ℕ)). y ∷ ys) q2
    (ap₂ (λ (y : List ℕ) (ys : List (List ℕ)). y ∷ ys) q3
    (ap₂ (λ (y : List ℕ) (ys : List (List ℕ)). y ∷ ys) q4
    (ap₂ (λ (y : List ℕ) (ys : List (List ℕ)). y ∷ ys) q5 (ap₂ (λ (y : List ℕ) (ys : List (List ℕ)). y ∷ ys) q6 (ap (λ (y : List ℕ). y ∷ []) q7)))))))
eight_words f (x0 ∷ x1 ∷ x2 ∷ x3 ∷ x4 ∷ x5 ∷ x6 ∷ x7 ∷ x8 ∷ xs) a0 a1 a2 a3 a4 a5 a6 a7 s0 s1 s2 s3 s4 s5 s6 s7 least most p0 p1 p2 p3 p4 p5 p6 p7 v0 v1 v2 v3 v4 v5 v6 v7 =
    absurd (omega (arith, most))

-- the same of nine
pub nine_words : {X : Type 0} (f : X → List ℕ) (xs : List X) (a0 a1 a2 a3 a4 a5 a6 a7 a8 : X) (s0 s1 s2 s3 s4 s5 s6 s7 s8 : List ℕ) → 9 ≤ length xs → length xs < 10
    → a0 ≡ get_or xs 0 a0 → a1 ≡ get_or xs 1 a1 → a2 ≡ get_or xs 2 a2 → a3 ≡ get_or xs 3 a3 → a4 ≡ get_or xs 4 a4 → a5 ≡ get_or xs 5 a5 → a6 ≡ get_or xs 6 a6 → a7 ≡ get_or xs 7 a7
    → a8 ≡ get_or xs 8 a8
    → s0 ≡ f a0 → s1 ≡ f a1 → s2 ≡ f a2 → s3 ≡ f a3 → s4 ≡ f a4 → s5 ≡ f a5 → s6 ≡ f a6 → s7 ≡ f a7 → s8 ≡ f a8
    → s0 ∷ s1 ∷ s2 ∷ s3 ∷ s4 ∷ s5 ∷ s6 ∷ s7 ∷ s8 ∷ [] ≡ map f xs
nine_words f [] a0 a1 a2 a3 a4 a5 a6 a7 a8 s0 s1 s2 s3 s4 s5 s6 s7 s8 least most p0 p1 p2 p3 p4 p5 p6 p7 p8 v0 v1 v2 v3 v4 v5 v6 v7 v8 = absurd (omega (arith, least))
nine_words f (x0 ∷ []) a0 a1 a2 a3 a4 a5 a6 a7 a8 s0 s1 s2 s3 s4 s5 s6 s7 s8 least most p0 p1 p2 p3 p4 p5 p6 p7 p8 v0 v1 v2 v3 v4 v5 v6 v7 v8 = absurd (omega (arith, least))
nine_words f (x0 ∷ x1 ∷ []) a0 a1 a2 a3 a4 a5 a6 a7 a8 s0 s1 s2 s3 s4 s5 s6 s7 s8 least most p0 p1 p2 p3 p4 p5 p6 p7 p8 v0 v1 v2 v3 v4 v5 v6 v7 v8 = absurd (omega (arith, least))
nine_words f (x0 ∷ x1 ∷ x2 ∷ []) a0 a1 a2 a3 a4 a5 a6 a7 a8 s0 s1 s2 s3 s4 s5 s6 s7 s8 least most p0 p1 p2 p3 p4 p5 p6 p7 p8 v0 v1 v2 v3 v4 v5 v6 v7 v8 = absurd (omega (arith, least))
nine_words f (x0 ∷ x1 ∷ x2 ∷ x3 ∷ []) a0 a1 a2 a3 a4 a5 a6 a7 a8 s0 s1 s2 s3 s4 s5 s6 s7 s8 least most p0 p1 p2 p3 p4 p5 p6 p7 p8 v0 v1 v2 v3 v4 v5 v6 v7 v8 = absurd (omega (arith, least))
nine_words f (x0 ∷ x1 ∷ x2 ∷ x3 ∷ x4 ∷ []) a0 a1 a2 a3 a4 a5 a6 a7 a8 s0 s1 s2 s3 s4 s5 s6 s7 s8 least most p0 p1 p2 p3 p4 p5 p6 p7 p8 v0 v1 v2 v3 v4 v5 v6 v7 v8 = absurd (omega (arith, least))
nine_words f (x0 ∷ x1 ∷ x2 ∷ x3 ∷ x4 ∷ x5 ∷ []) a0 a1 a2 a3 a4 a5 a6 a7 a8 s0 s1 s2 s3 s4 s5 s6 s7 s8 least most p0 p1 p2 p3 p4 p5 p6 p7 p8 v0 v1 v2 v3 v4 v5 v6 v7 v8 = absurd (omega (arith, least))
nine_words f (x0 ∷ x1 ∷ x2 ∷ x3 ∷ x4 ∷ x5 ∷ x6 ∷ []) a0 a1 a2 a3 a4 a5 a6 a7 a8 s0 s1 s2 s3 s4 s5 s6 s7 s8 least most p0 p1 p2 p3 p4 p5 p6 p7 p8 v0 v1 v2 v3 v4 v5 v6 v7 v8 =
    absurd (omega (arith, least))
nine_words f (x0 ∷ x1 ∷ x2 ∷ x3 ∷ x4 ∷ x5 ∷ x6 ∷ x7 ∷ []) a0 a1 a2 a3 a4 a5 a6 a7 a8 s0 s1 s2 s3 s4 s5 s6 s7 s8 least most p0 p1 p2 p3 p4 p5 p6 p7 p8 v0 v1 v2 v3 v4 v5 v6 v7 v8 =
    absurd (omega (arith, least))
nine_words f (x0 ∷ x1 ∷ x2 ∷ x3 ∷ x4 ∷ x5 ∷ x6 ∷ x7 ∷ x8 ∷ []) a0 a1 a2 a3 a4 a5 a6 a7 a8 s0 s1 s2 s3 s4 s5 s6 s7 s8 least most p0 p1 p2 p3 p4 p5 p6 p7 p8 v0 v1 v2 v3 v4 v5 v6 v7 v8 =
    let q0 : s0 ≡ f x0 = v0 ∙ ap f p0 in
    let q1 : s1 ≡ f x1 = v1 ∙ ap f p1 in
    let q2 : s2 ≡ f x2 = v2 ∙ ap f p2 in
    let q3 : s3 ≡ f x3 = v3 ∙ ap f p3 in
    let q4 : s4 ≡ f x4 = v4 ∙ ap f p4 in
    let q5 : s5 ≡ f x5 = v5 ∙ ap f p5 in
    let q6 : s6 ≡ f x6 = v6 ∙ ap f p6 in
    let q7 : s7 ≡ f x7 = v7 ∙ ap f p7 in
    let q8 : s8 ≡ f x8 = v8 ∙ ap f p8 in
    ap₂ (λ (y : List ℕ) (ys : List (List ℕ)). y ∷ ys) q0
    (ap₂ (λ (y : List ℕ) (ys : List (List ℕ)). y ∷ ys) q1
    (ap₂ (λ (y : List ℕ) (ys : List (List ℕ)). y ∷ ys) q2
    (ap₂ (λ (y : List ℕ) (ys : List (List ℕ)). y ∷ ys) q3
    (ap₂ (λ (y : List ℕ) (ys : List (List ℕ)). y ∷ ys) q4
    (ap₂ (λ (y : List ℕ) (ys : List (List ℕ)). y ∷ ys) q5
    (ap₂ (λ (y : List ℕ) (ys : List (List ℕ)). y ∷ ys) q6 (ap₂ (λ (y : List ℕ) (ys : List (List ℕ)). y ∷ ys) q7 (ap (λ (y : List ℕ). y ∷ []) q8))))))))
nine_words f (x0 ∷ x1 ∷ x2 ∷ x3 ∷ x4 ∷ x5 ∷ x6 ∷ x7 ∷ x8 ∷ x9 ∷ xs) a0 a1 a2 a3 a4 a5 a6 a7 a8 s0 s1 s2 s3 s4 s5 s6 s7 s8 least most p0 p1 p2 p3 p4 p5 p6 p7 p8 v0 v1 v2 v3 v4 v5 v6 v7 v8 =
    absurd (omega (arith, most))
