-- Elements of lists, and what holds of each.
use Rattle.std.proofs.Common.{◌≡◌, Bool, true, false, ◌⊎◌, inl, inr, List, [], ◌∷◌, ◌++◌, map, refl, sym, ap, ◌∙◌, subst}
use Rattle.std.specs.List.{list_any, list_all, flat_map}
use Rattle.std.proofs.lemmas.List.Folds.{list_any-append}
use Rattle.std.proofs.lemmas.Bool.{and_parts as both, or_right as right, or_parts as none_of, or_left as left, and_from}
use Rattle.idl_legal_laws.proofs.Kept.{neither}

-- x is an element
abbrev pub Among : {X : Type 0} → X → List X → Type 0
Among x [] = ⊥
Among x (y ∷ ys) = (y ≡ x) ⊎ Among x ys

pub among_left : {X : Type 0} (x : X) (xs ys : List X) → Among x xs → Among x (xs ++ ys)
among_left x [] ys h = absurd h
among_left x (z ∷ xs) ys (inl e) = inl e
among_left x (z ∷ xs) ys (inr h) = inr (among_left x xs ys h)

pub among_right : {X : Type 0} (x : X) (xs ys : List X) → Among x ys → Among x (xs ++ ys)
among_right x [] ys h = h
among_right x (z ∷ xs) ys h = inr (among_right x xs ys h)

pub among_one : {X : Type 0} (x : X) (xs ys : List X) → Among x (xs ++ ys) → Among x xs ⊎ Among x ys
among_one x [] ys h = inr h
among_one x (z ∷ xs) ys (inl e) = inl (inl e)
among_one x (z ∷ xs) ys (inr h) = elim (among_one x xs ys h) [ inl i ↦ inl (inr i) | inr i ↦ inr i ]

-- ## Lists of which each element is one of another

abbrev pub Sub : {X : Type 0} → List X → List X → Type 0
Sub {X} xs ys = (x : X) → Among x xs → Among x ys

pub sub_left : {X : Type 0} (xs ys zs : List X) → Sub (xs ++ ys) zs → Sub xs zs
sub_left xs ys zs h x i = h x (among_left x xs ys i)

pub sub_right : {X : Type 0} (xs ys zs : List X) → Sub (xs ++ ys) zs → Sub ys zs
sub_right xs ys zs h x i = h x (among_right x xs ys i)

pub sub_join : {X : Type 0} (xs ys zs : List X) → Sub xs zs → Sub ys zs → Sub (xs ++ ys) zs
sub_join xs ys zs h i x j = elim (among_one x xs ys j) [ inl k ↦ h x k | inr k ↦ i x k ]

-- each is what a function gives of an element
pub among_map : {X Y : Type 0} (f : X → Y) (x : X) (xs : List X) → Among x xs → Among (f x) (map f xs)
among_map f x [] h = absurd h
among_map f x (y ∷ ys) (inl e) = inl (ap f e)
among_map f x (y ∷ ys) (inr h) = inr (among_map f x ys h)

pub sub_map : {X Y : Type 0} (f : X → Y) (xs ys : List X) → Sub xs ys → Sub (map f xs) (map f ys)
sub_map f [] ys h y i = absurd i
sub_map f (x ∷ xs) ys h y (inl e) = subst (λ z. Among z (map f ys)) e (among_map f x ys (h x (inl refl)))
sub_map f (x ∷ xs) ys h y (inr i) = sub_map f xs ys (λ z j. h z (inr j)) y i

-- ## What holds of each element

abbrev pub Each : {X : Type 0} → (X → Type 0) → List X → Type 0
Each P [] = Unit {0}
Each P (x ∷ xs) = P x × Each P xs

pub each_join : {X : Type 0} (P : X → Type 0) (xs ys : List X) → Each P xs → Each P ys → Each P (xs ++ ys)
each_join P [] ys h i = i
each_join P (x ∷ xs) ys h i = (h.0, each_join P xs ys h.1 i)

pub each_at : {X : Type 0} (P : X → Type 0) (xs : List X) → Each P xs → (x : X) → Among x xs → P x
each_at P [] h x i = absurd i
each_at P (y ∷ ys) h x (inl e) = subst P e h.0
each_at P (y ∷ ys) h x (inr i) = each_at P ys h.1 x i

pub each_made : {X : Type 0} (P : X → Type 0) (xs : List X) → ((x : X) → Among x xs → P x) → Each P xs
each_made P [] h = tt
each_made P (x ∷ xs) h = (h x (inl refl), each_made P xs (λ y i. h y (inr i)))

pub each_map : {X Y : Type 0} (P : Y → Type 0) (f : X → Y) (xs : List X) → Each (λ x. P (f x)) xs → Each P (map f xs)
each_map P f [] h = tt
each_map P f (x ∷ xs) h = (h.0, each_map P f xs h.1)

pub each_mapped : {X Y : Type 0} (P : Y → Type 0) (f : X → Y) (xs : List X) → Each P (map f xs) → Each (λ x. P (f x)) xs
each_mapped P f [] h = tt
each_mapped P f (x ∷ xs) h = (h.0, each_mapped P f xs h.1)

pub each_every : {X : Type 0} (P : X → Type 0) → ((x : X) → P x) → (xs : List X) → Each P xs
each_every P f [] = tt
each_every P f (x ∷ xs) = (f x, each_every P f xs)

pub each_then : {X : Type 0} (P Q : X → Type 0) → ((x : X) → P x → Q x) → (xs : List X) → Each P xs → Each Q xs
each_then P Q f [] h = tt
each_then P Q f (x ∷ xs) h = (f x h.0, each_then P Q f xs h.1)

pub each_left : {X : Type 0} (P : X → Type 0) (xs ys : List X) → Each P (xs ++ ys) → Each P xs
each_left P [] ys h = tt
each_left P (x ∷ xs) ys h = (h.0, each_left P xs ys h.1)

pub each_right : {X : Type 0} (P : X → Type 0) (xs ys : List X) → Each P (xs ++ ys) → Each P ys
each_right P [] ys h = h
each_right P (x ∷ xs) ys h = each_right P xs ys h.1

pub each_flat : {X Y : Type 0} (P : Y → Type 0) (f : X → List Y) (xs : List X) → Each (λ x. Each P (f x)) xs → Each P (flat_map f xs)
each_flat P f [] h = tt
each_flat P f (x ∷ xs) h = each_join P (f x) (flat_map f xs) h.0 (each_flat P f xs h.1)

pub among_flat : {X Y : Type 0} (f : X → List Y) (xs : List X) (x : X) (y : Y) → Among x xs → Among y (f x) → Among y (flat_map f xs)
among_flat f [] x y h i = absurd h
among_flat f (z ∷ xs) x y (inl e) i = among_left y (f z) (flat_map f xs) (subst (λ a. Among y (f a)) (sym e) i)
among_flat f (z ∷ xs) x y (inr h) i = among_right y (f z) (flat_map f xs) (among_flat f xs x y h i)

-- lists that are nothing together
pub each_empty : {X Y : Type 0} (f : X → List Y) (xs : List X) → flat_map f xs ≡ [] → Each (λ x. f x ≡ []) xs
each_empty f [] h = tt
each_empty f (x ∷ xs) h = let e = neither (f x) (flat_map f xs) h in (e.0, each_empty f xs e.1)

-- ## Tests

pub all_each : {X : Type 0} (p : X → Bool) (xs : List X) → list_all p xs ≡ true → Each (λ x. p x ≡ true) xs
all_each p [] h = tt
all_each p (x ∷ xs) h = let e = both (p x) (list_all p xs) h in (e.0, all_each p xs e.1)

pub each_all : {X : Type 0} (p : X → Bool) (xs : List X) → Each (λ x. p x ≡ true) xs → list_all p xs ≡ true
each_all p [] h = refl
each_all p (x ∷ xs) h = and_from (p x) (list_all p xs) h.0 (each_all p xs h.1)

pub none_each : {X : Type 0} (p : X → Bool) (xs : List X) → list_any p xs ≡ false → Each (λ x. p x ≡ false) xs
none_each p [] h = tt
none_each p (x ∷ xs) h = let e = none_of (p x) (list_any p xs) h in (e.0, none_each p xs e.1)

pub any_flat : {X Y : Type 0} (p : Y → Bool) (f : X → List Y) (xs : List X) (x : X) → Among x xs → list_any p (f x) ≡ true → list_any p (flat_map f xs) ≡ true
any_flat p f [] x h i = absurd h
any_flat p f (y ∷ ys) x (inl e) i = list_any-append p (f y) (flat_map f ys) ∙ left (list_any p (f y)) (list_any p (flat_map f ys)) (ap (λ z. list_any p (f z)) e ∙ i)
any_flat p f (y ∷ ys) x (inr h) i = list_any-append p (f y) (flat_map f ys) ∙ right (list_any p (f y)) (list_any p (flat_map f ys)) (any_flat p f ys x h i)

pub each_unflat : {X Y : Type 0} (P : Y → Type 0) (f : X → List Y) (xs : List X) → Each P (flat_map f xs) → Each (λ x. Each P (f x)) xs
each_unflat P f [] h = tt
each_unflat P f (x ∷ xs) h = (each_left P (f x) (flat_map f xs) h, each_unflat P f xs (each_right P (f x) (flat_map f xs) h))
