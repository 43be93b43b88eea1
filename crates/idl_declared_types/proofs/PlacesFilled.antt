-- A graph of what types hold, filled type by type.
use Rattle.std.proofs.Common.{◌≡◌, ◌∙◌, ◌⊎◌, inl, inr, ℕ, zero, suc, ◌+◌, ◌<◌, Bool, true, false, ltb, List, [], ◌∷◌, ◌++◌, length, refl, ap, sym, subst, arith, length-append}
use Rattle.std.proofs.lemmas.Bool.{ltb-true, ltb-false}
use Rattle.std.specs.Prelude.{slice_index_or}
use Rattle.idl_declared_types.specs.declared.kinds.Kind.{Kind}
use Rattle.idl_rule_definitions.specs.Types.{IdlType, Void}
use Rattle.idl_rule_definitions.specs.Scene.{Scene, in_place}
use Rattle.idl_declared_types.specs.Kinds.{type_at}
use Rattle.idl_cycles.specs.declared.graph.rounds.Rule.{Rule}
use Rattle.idl_cycles.specs.declared.graph.rounds.Rule.TheVariants.{Never}
use Rattle.idl_declared_types.specs.InPlace.{AreHeld, AreRules, IsPlaces}
use Rattle.idl_declared_types.proofs.Held.{void_past}

-- ## Lists to which items are added at the end

item_before : {X : Type 0} (xs : List X) (x d : X) (i : ℕ) → i < length xs → slice_index_or (xs ++ x ∷ []) i d ≡ slice_index_or xs i d
item_before [] x d i below = absurd (omega (arith, below))
item_before (y ∷ xs) x d zero below = refl
item_before (y ∷ xs) x d (suc i) below = item_before xs x d i (omega (arith, below))

item_last : {X : Type 0} (xs : List X) (x d : X) (i : ℕ) → i ≡ length xs → slice_index_or (xs ++ x ∷ []) i d ≡ x
item_last [] x d i e = ap (λ j. slice_index_or (x ∷ []) j d) e
item_last (y ∷ xs) x d zero e = absurd (omega (arith, e))
item_last (y ∷ xs) x d (suc i) e = item_last xs x d i (omega (arith, e))

-- what holds of each item of a list
abbrev pub Each : {X : Type 0} → (ℕ → X → Type 0) → X → List X → Type 0
Each P d xs = (i : ℕ) → i < length xs → P i (slice_index_or xs i d)

pub here_or_before : (i n : ℕ) → i < n + 1 → (i < n) ⊎ (i ≡ n)
here_or_before i n h = by (ltb i n) refl where
  by : (t : Bool) → ltb i n ≡ t → (i < n) ⊎ (i ≡ n)
  by true e = inl (ltb-true i n e)
  by false e = let z = ltb-false i n e in inr (omega (arith, h, z))

pub each_more : {X : Type 0} (P : ℕ → X → Type 0) (d : X) (xs : List X) (x : X) → Each P d xs → P (length xs) x → Each P d (xs ++ x ∷ [])
each_more P d xs x each last i below = by (here_or_before i (length xs) (subst (λ (n : ℕ). i < n) (length-append xs (x ∷ [])) below)) where
  by : (i < length xs) ⊎ (i ≡ length xs) → P i (slice_index_or (xs ++ x ∷ []) i d)
  by (inl h) = subst (λ (y : _). P i y) (sym (item_before xs x d i h)) (each i h)
  by (inr e) = subst (λ (y : _). P i y) (sym (item_last xs x d i e)) (subst (λ (n : ℕ). P n x) (sym e) last)

-- ## The graph

abbrev pub HeldBy : Scene → List Kind → ℕ → ℕ → List ℕ → Type 0
HeldBy s ks count node parts = AreHeld ks count parts (in_place s (type_at ks node))

-- one more type with what it holds
pub place_more : (s : Scene) (ks : List Kind) (count number : ℕ) (graph : List (List ℕ)) (held : List ℕ) (t : IdlType) → length graph ≡ number
    → Each (HeldBy s ks count) [] graph → AreHeld ks count held (in_place s t) → t ≡ type_at ks number → Each (HeldBy s ks count) [] (graph ++ held ∷ [])
place_more s ks count number graph held t size each is same =
    each_more (HeldBy s ks count) [] graph held each
    (subst (λ (n : ℕ). HeldBy s ks count n held) (sym size) (subst (λ (u : IdlType). AreHeld ks count held (in_place s u)) same is))

pub void_last : (s : Scene) (ks : List Kind) (count : ℕ) (graph : List (List ℕ)) → length ks ≡ count → length graph ≡ count
    → Each (HeldBy s ks count) [] graph → IsPlaces s ks count (graph ++ [] ∷ [])
void_last s ks count graph known size each node below =
    each_more (HeldBy s ks count) [] graph [] each
    (subst (λ (n : ℕ). HeldBy s ks count n []) (sym size)
    (subst (λ (u : IdlType). AreHeld ks count [] (in_place s u)) (sym (void_past ks count (omega (arith, known)))) (record { seen = refl; within = refl })))
    node (let e = length-append graph ([] ∷ []) in omega (arith, below, size, e))

-- ## Rules

abbrev pub RuleOf : (IdlType → Rule) → List Kind → ℕ → Rule → Type 0
RuleOf rule_of ks node rule = rule ≡ rule_of (type_at ks node)

pub rule_more : (rule_of : IdlType → Rule) (ks : List Kind) (number : ℕ) (rules : List Rule) (rule : Rule) → length rules ≡ number
    → Each (RuleOf rule_of ks) Never rules → rule ≡ rule_of (type_at ks number) → Each (RuleOf rule_of ks) Never (rules ++ rule ∷ [])
rule_more rule_of ks number rules rule size each is = each_more (RuleOf rule_of ks) Never rules rule each (subst (λ (n : ℕ). RuleOf rule_of ks n rule) (sym size) is)

pub void_rule : (rule_of : IdlType → Rule) (ks : List Kind) (count : ℕ) (rules : List Rule) (rule : Rule) → length ks ≡ count → length rules ≡ count
    → Each (RuleOf rule_of ks) Never rules → rule ≡ rule_of Void → AreRules rule_of ks count (rules ++ rule ∷ [])
void_rule rule_of ks count rules rule known size each is node below =
    each_more (RuleOf rule_of ks) Never rules rule each
    (subst (λ (n : ℕ). RuleOf rule_of ks n rule) (sym size) (is ∙ ap rule_of (sym (void_past ks count (omega (arith, known))))))
    node (let e = length-append rules (rule ∷ []) in omega (arith, below, size, e))
