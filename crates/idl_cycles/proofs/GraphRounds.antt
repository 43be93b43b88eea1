-- Properties that come from parts.
use Rattle.std.proofs.Common.{◌≡◌, ℕ, suc, ◌-◌, ◌+◌, Bool, false, ◌&&◌, ◌||◌, List, [], ◌∷◌, length, get_or, Some, refl, sym, ap, ◌∙◌, arith}
use Rattle.std.specs.List.{list_all, list_any, slice_get}
use Rattle.std.proofs.lemmas.Option.{none-some, same_Some}
use Rattle.idl_cycles.specs.declared.graph.rounds.Rule.{Rule}
use Rattle.idl_cycles.specs.declared.graph.rounds.Rule.TheVariants.{Always, Never, All, Any, Last}
use Rattle.idl_cycles.specs.Graph.{parts_at, rule_at, has_by, has_within, last_passes}
use Rattle.idl_cycles.specs.GraphRounds.{value_in}

-- the last of a list
pub last_at : (test : ℕ → Bool) (xs : List ℕ) (x : ℕ) → Some x ≡ slice_get xs (length xs - 1) → test x ≡ last_passes test xs
last_at test [] x e = absurd (none-some x (sym e))
last_at test (y ∷ []) x e = ap test (same_Some x y e)
last_at test (y ∷ z ∷ more) x e =
    let n : length (y ∷ z ∷ more) - 1 ≡ suc (length (z ∷ more) - 1) = omega arith in
    last_at test (z ∷ more) x (e ∙ ap (slice_get (y ∷ z ∷ more)) n)

-- tests that agree give the same
alike_all : (f g : ℕ → Bool) → ((x : ℕ) → f x ≡ g x) → (xs : List ℕ) → list_all f xs ≡ list_all g xs
alike_all f g e [] = refl
alike_all f g e (x ∷ xs) = ap (λ b. b && list_all f xs) (e x) ∙ ap (λ b. g x && b) (alike_all f g e xs)

alike_any : (f g : ℕ → Bool) → ((x : ℕ) → f x ≡ g x) → (xs : List ℕ) → list_any f xs ≡ list_any g xs
alike_any f g e [] = refl
alike_any f g e (x ∷ xs) = ap (λ b. b || list_any f xs) (e x) ∙ ap (λ b. g x || b) (alike_any f g e xs)

alike_last : (f g : ℕ → Bool) → ((x : ℕ) → f x ≡ g x) → (xs : List ℕ) → last_passes f xs ≡ last_passes g xs
alike_last f g e [] = refl
alike_last f g e (x ∷ []) = e x
alike_last f g e (x ∷ y ∷ more) = alike_last f g e (y ∷ more)

pub alike : (rule : Rule) (f g : ℕ → Bool) → ((x : ℕ) → f x ≡ g x) → (xs : List ℕ) → has_by rule f xs ≡ has_by rule g xs
alike Always f g e xs = refl
alike Never f g e xs = refl
alike All f g e xs = alike_all f g e xs
alike Any f g e xs = alike_any f g e xs
alike Last f g e xs = alike_last f g e xs

-- the values of one more round
pub within_more : (n : ℕ) (graph : List (List ℕ)) (rules : List Rule) (values : List Bool) → ((node : ℕ) → get_or values node false ≡ has_within n graph rules node)
    → (next : List Bool) → ((node : ℕ) → get_or next node false ≡ has_by (rule_at rules node) (value_in values) (parts_at graph node))
    → (node : ℕ) → get_or next node false ≡ has_within (n + 1) graph rules node
within_more n graph rules values v next e node =
    let s : suc n ≡ n + 1 = omega arith in
    e node ∙ alike (rule_at rules node) (value_in values) (has_within n graph rules) v (parts_at graph node) ∙ ap (λ m. has_within m graph rules node) s
