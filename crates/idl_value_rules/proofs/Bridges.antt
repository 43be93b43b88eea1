-- From the properties of a graph's nodes to those of the types for which they stand.
use Rattle.std.proofs.Common.{◌≡◌, ℕ, suc, zero, ◌<◌, Bool, true, false, ltb, ◌&&◌, ◌||◌, List, [], ◌∷◌, map, replicate, Some, None, arith, refl, sym, ap, ◌∙◌}
use Rattle.std.specs.List.{list_all, list_any}
use Rattle.std.proofs.lemmas.Bool.{ltb-true}
use Rattle.std.proofs.Math.Bool.{or-false}
use Rattle.idl_cycles.specs.declared.graph.rounds.Rule.{Rule}
use Rattle.idl_cycles.specs.declared.graph.rounds.Rule.TheVariants.{Always, Never, All, Any, Last}
use Rattle.nd_types.specs.declared.TheConstants.{NESTING_LIMIT}
use Rattle.idl_declared_types.specs.declared.kinds.Kind.{Kind}
use Rattle.idl_rule_definitions.specs.Types.{IdlType, Void, Handle, ContextHandle, Basic, Struct, Union, Enum, Array, Text, Pointer, Pipe}
use Rattle.idl_rule_definitions.specs.Scene.{Scene, in_place, nests, hoists_by, hoists_within, hoists}
use Rattle.idl_rule_definitions.specs.Scene as scene
use Rattle.idl_rule_definitions.specs.TypeRules.{is_barred_by, is_barred_within, is_barred_in_pipes}
use Rattle.idl_declared_types.specs.Kinds.{type_at}
use Rattle.idl_declared_types.specs.InPlace.{hoists_rule, barred_rule, AreRules, IsPlaces}
use Rattle.idl_cycles.specs.Graph.{parts_at, rule_at, has_by, has_within, last_passes}
use Rattle.nd_lemmas.proofs.Booleans.{first_true as first_of, second_true as second_of}

-- tests that agree at each number below a limit give the same of such numbers
all_within : (m : ℕ) (f g : ℕ → Bool) → ((x : ℕ) → x < m → f x ≡ g x) → (xs : List ℕ) → list_all (λ x. ltb x m) xs ≡ true → list_all f xs ≡ list_all g xs
all_within m f g e [] a = refl
all_within m f g e (x ∷ xs) a =
    ap (λ b. b && list_all f xs) (e x (ltb-true x m (first_of (ltb x m) (list_all (λ y. ltb y m) xs) a)))
    ∙ ap (λ b. g x && b) (all_within m f g e xs (second_of (ltb x m) (list_all (λ y. ltb y m) xs) a))

any_within : (m : ℕ) (f g : ℕ → Bool) → ((x : ℕ) → x < m → f x ≡ g x) → (xs : List ℕ) → list_all (λ x. ltb x m) xs ≡ true → list_any f xs ≡ list_any g xs
any_within m f g e [] a = refl
any_within m f g e (x ∷ xs) a =
    ap (λ b. b || list_any f xs) (e x (ltb-true x m (first_of (ltb x m) (list_all (λ y. ltb y m) xs) a)))
    ∙ ap (λ b. g x || b) (any_within m f g e xs (second_of (ltb x m) (list_all (λ y. ltb y m) xs) a))

last_within : (m : ℕ) (f g : ℕ → Bool) → ((x : ℕ) → x < m → f x ≡ g x) → (xs : List ℕ) → list_all (λ x. ltb x m) xs ≡ true → last_passes f xs ≡ last_passes g xs
last_within m f g e [] a = refl
last_within m f g e (x ∷ []) a = e x (ltb-true x m (first_of (ltb x m) true a))
last_within m f g e (x ∷ y ∷ more) a = last_within m f g e (y ∷ more) (second_of (ltb x m) (list_all (λ z. ltb z m) (y ∷ more)) a)

has_by_within : (rule : Rule) (m : ℕ) (f g : ℕ → Bool) → ((x : ℕ) → x < m → f x ≡ g x) → (xs : List ℕ) → list_all (λ x. ltb x m) xs ≡ true → has_by rule f xs ≡ has_by rule g xs
has_by_within Always m f g e xs a = refl
has_by_within Never m f g e xs a = refl
has_by_within All m f g e xs a = all_within m f g e xs a
has_by_within Any m f g e xs a = any_within m f g e xs a
has_by_within Last m f g e xs a = last_within m f g e xs a

-- A property P of things, of which node i below m stands for `thing i`, is the graph's: no thing has it at 0, each part of a node is a node, and one
-- round of it is one round of the graph.
pub properties_agree : {T : Type 0} (m : ℕ) (graph : List (List ℕ)) (rules : List Rule) (thing : ℕ → T) (P : ℕ → T → Bool) → ((t : T) → P 0 t ≡ false)
    → ((node : ℕ) → node < m → list_all (λ p. ltb p m) (parts_at graph node) ≡ true)
    → ((n node : ℕ) → node < m → P (suc n) (thing node) ≡ has_by (rule_at rules node) (λ p. P n (thing p)) (parts_at graph node))
    → (n node : ℕ) → node < m → P n (thing node) ≡ has_within n graph rules node
properties_agree m graph rules thing P none within round zero node h = none (thing node)
properties_agree m graph rules thing P none within round (suc n) node h =
    round n node h
    ∙ has_by_within (rule_at rules node) m (λ p. P n (thing p)) (has_within n graph rules)
    (λ p l. properties_agree m graph rules thing P none within round n p l) (parts_at graph node) (within node h)

-- ## Types

all_of_map : {T : Type 0} (f : T → Bool) (thing : ℕ → T) (xs : List ℕ) → list_all f (map thing xs) ≡ list_all (λ p. f (thing p)) xs
all_of_map f thing [] = refl
all_of_map f thing (x ∷ xs) = ap (λ b. f (thing x) && b) (all_of_map f thing xs)

any_of_map : {T : Type 0} (f : T → Bool) (thing : ℕ → T) (xs : List ℕ) → list_any f (map thing xs) ≡ list_any (λ p. f (thing p)) xs
any_of_map f thing [] = refl
any_of_map f thing (x ∷ xs) = ap (λ b. f (thing x) || b) (any_of_map f thing xs)

last_of_map : (f : IdlType → Bool) (thing : ℕ → IdlType) (xs : List ℕ) → scene.last_passes f (map thing xs) ≡ last_passes (λ p. f (thing p)) xs
last_of_map f thing [] = refl
last_of_map f thing (x ∷ []) = refl
last_of_map f thing (x ∷ y ∷ more) = last_of_map f thing (y ∷ more)

hoists_one : (s : Scene) (f : IdlType → Bool) (thing : ℕ → IdlType) (parts : List ℕ) (t : IdlType) → map thing parts ≡ in_place s t
    → hoists_by s f t ≡ has_by (hoists_rule t) (λ p. f (thing p)) parts
hoists_one s f thing parts (Array t None varying) e = refl
hoists_one s f thing parts (Array t (Some c) varying) e = refl
hoists_one s f thing parts (Text t None) e = refl
hoists_one s f thing parts (Text t (Some c)) e = refl
hoists_one s f thing parts (Struct place) e = ap (λ l. scene.last_passes f l) (sym e) ∙ last_of_map f thing parts
hoists_one s f thing parts Void e = refl
hoists_one s f thing parts Handle e = refl
hoists_one s f thing parts ContextHandle e = refl
hoists_one s f thing parts (Basic p) e = refl
hoists_one s f thing parts (Union place) e = refl
hoists_one s f thing parts (Enum place) e = refl
hoists_one s f thing parts (Pointer c t) e = refl
hoists_one s f thing parts (Pipe t) e = refl

any_held : (s : Scene) (f : IdlType → Bool) (thing : ℕ → IdlType) (parts : List ℕ) (t : IdlType) → map thing parts ≡ in_place s t
    → list_any f (in_place s t) ≡ list_any (λ p. f (thing p)) parts
any_held s f thing parts t e = ap (list_any f) (sym e) ∙ any_of_map f thing parts

barred_one : (s : Scene) (f : IdlType → Bool) (thing : ℕ → IdlType) (parts : List ℕ) (t : IdlType) → map thing parts ≡ in_place s t
    → is_barred_by s f t ≡ has_by (barred_rule t) (λ p. f (thing p)) parts
barred_one s f thing parts (Array t None varying) e = refl
barred_one s f thing parts (Array t (Some c) true) e = refl
barred_one s f thing parts (Array t (Some c) false) e = sym (or-false (f t)) ∙ any_held s f thing parts (Array t (Some c) false) e
barred_one s f thing parts (Text t c) e = refl
barred_one s f thing parts (Struct place) e = any_held s f thing parts (Struct place) e
barred_one s f thing parts Void e = any_held s f thing parts Void e
barred_one s f thing parts Handle e = any_held s f thing parts Handle e
barred_one s f thing parts ContextHandle e = refl
barred_one s f thing parts (Basic p) e = any_held s f thing parts (Basic p) e
barred_one s f thing parts (Union place) e = any_held s f thing parts (Union place) e
barred_one s f thing parts (Enum place) e = any_held s f thing parts (Enum place) e
barred_one s f thing parts (Pointer c t) e = refl
barred_one s f thing parts (Pipe t) e = refl

module _ (s : Scene) (ks : List Kind) (count : ℕ) (graph : List (List ℕ)) (places : IsPlaces s ks count graph) where
  within : (node : ℕ) → node < suc count → list_all (λ p. ltb p (suc count)) (parts_at graph node) ≡ true
  within node h = (places node h).within

  pub hoists_at : (rules : List Rule) → AreRules hoists_rule ks count rules → (node : ℕ) → node < suc count → has_within NESTING_LIMIT graph rules node ≡ hoists s (type_at ks node)
  unfolding hoists
  hoists_at rules are node h =
      sym (properties_agree (suc count) graph rules (type_at ks) (λ n t. hoists_within n s t) (λ t. refl) within
      (λ n i l. hoists_one s (hoists_within n s) (type_at ks) (parts_at graph i) (type_at ks i) (places i l).seen
      ∙ ap (λ r. has_by r (λ p. hoists_within n s (type_at ks p)) (parts_at graph i)) (sym (are i l)))
      NESTING_LIMIT node h)

  pub barred_at : (rules : List Rule) → AreRules barred_rule ks count rules → (node : ℕ) → node < suc count → has_within NESTING_LIMIT graph rules node ≡ is_barred_in_pipes s (type_at ks node)
  unfolding is_barred_in_pipes
  barred_at rules are node h =
      sym (properties_agree (suc count) graph rules (type_at ks) (λ n t. is_barred_within n s t) (λ t. refl) within
      (λ n i l. barred_one s (is_barred_within n s) (type_at ks) (parts_at graph i) (type_at ks i) (places i l).seen
      ∙ ap (λ r. has_by r (λ p. is_barred_within n s (type_at ks p)) (parts_at graph i)) (sym (are i l)))
      NESTING_LIMIT node h)

  pub nests_at : (rules : List Rule) → ((node : ℕ) → node < suc count → rule_at rules node ≡ All) → (node : ℕ) → node < suc count
      → has_within NESTING_LIMIT graph rules node ≡ nests NESTING_LIMIT s (type_at ks node)
  nests_at rules are node h =
      sym (properties_agree (suc count) graph rules (type_at ks) (λ n t. nests n s t) (λ t. refl) within
      (λ n i l. ap (list_all (nests n s)) (sym (places i l).seen) ∙ all_of_map (nests n s) (type_at ks) (parts_at graph i)
      ∙ ap (λ r. has_by r (λ p. nests n s (type_at ks p)) (parts_at graph i)) (sym (are i l)))
      NESTING_LIMIT node h)

pub all_rules : (count node : ℕ) → node < suc count → rule_at (replicate (suc count) All) node ≡ All
all_rules count zero h = refl
all_rules zero (suc node) h = absurd (omega (arith, h))
all_rules (suc count) (suc node) h = all_rules count node (omega (arith, h))
