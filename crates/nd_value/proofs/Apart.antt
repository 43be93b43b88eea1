-- Lists whose members are related pairwise, and what holds of each member of a list.
use Rattle.std.proofs.Common.{◌≡◌, List, [], ◌∷◌, ◌++◌, refl, ap, sym, ◌∙◌, subst, append_assoc, inl, inr, ◌⊎◌}
use Rattle.std.specs.List.{AllByRecursion}
use Rattle.std.specs.Prelude.{map, flat_map}
use Rattle.nd_value.specs.Setting.{Among}
use Rattle.nd_value.specs.Conforms.{AllEarlier}

module _ {X : Type 0} (P : X → Type 0) where
  pub all_append : (xs ys : List X) → AllByRecursion P xs → AllByRecursion P ys → AllByRecursion P (xs ++ ys)
  all_append [] ys a b = b
  all_append (x ∷ xs) ys a b = (a.0, all_append xs ys a.1 b)

  pub all_left : (xs ys : List X) → AllByRecursion P (xs ++ ys) → AllByRecursion P xs
  all_left [] ys a = tt
  all_left (x ∷ xs) ys a = (a.0, all_left xs ys a.1)

  pub all_right : (xs ys : List X) → AllByRecursion P (xs ++ ys) → AllByRecursion P ys
  all_right [] ys a = a
  all_right (x ∷ xs) ys a = all_right xs ys a.1

  pub all_moved : (us xs vs : List X) → AllByRecursion P (us ++ (xs ++ vs)) → AllByRecursion P (xs ++ (us ++ vs))
  all_moved us xs vs a =
      let b = all_right us (xs ++ vs) a in
      all_append xs (us ++ vs) (all_left xs vs b) (all_append us vs (all_left us (xs ++ vs) a) (all_right xs vs b))

  pub all_among : (xs : List X) (x : X) → Among xs x → AllByRecursion P xs → P x
  all_among [] x h a = absurd h
  all_among (y ∷ ys) x (inl e) a = subst P (sym e) a.0
  all_among (y ∷ ys) x (inr h) a = all_among ys x h a.1

pub all_map : {X Y : Type 0} (P : Y → Type 0) (f : X → Y) (xs : List X) → AllByRecursion P (map f xs) → AllByRecursion (λ x. P (f x)) xs
all_map P f [] a = tt
all_map P f (x ∷ xs) a = (a.0, all_map P f xs a.1)

pub all_weaker : {X : Type 0} (P Q : X → Type 0) → ((x : X) → P x → Q x) → (xs : List X) → AllByRecursion P xs → AllByRecursion Q xs
all_weaker P Q f [] a = tt
all_weaker P Q f (x ∷ xs) a = (f x a.0, all_weaker P Q f xs a.1)

pub all_flat : {X Y : Type 0} (P : X → Type 0) (Q : Y → Type 0) (f : X → List Y) → ((x : X) → P x → AllByRecursion Q (f x))
    → (xs : List X) → AllByRecursion P xs → AllByRecursion Q (flat_map f xs)
all_flat P Q f h [] a = tt
all_flat P Q f h (x ∷ xs) a = all_append Q (f x) (flat_map f xs) (h x a.0) (all_flat P Q f h xs a.1)

pub among_left : {X : Type 0} (xs ys : List X) (x : X) → Among xs x → Among (xs ++ ys) x
among_left [] ys x h = absurd h
among_left (y ∷ xs) ys x (inl e) = inl e
among_left (y ∷ xs) ys x (inr h) = inr (among_left xs ys x h)

pub among_right : {X : Type 0} (xs ys : List X) (x : X) → Among ys x → Among (xs ++ ys) x
among_right [] ys x h = h
among_right (y ∷ xs) ys x h = inr (among_right xs ys x h)

module _ {X : Type 0} (R : X → X → Type 0) where
  -- a member of the first part is related to the next one
  pub earlier_meets : (ts : List X) (p : X) (us : List X) (q : X) → Among ts q → AllEarlier R (ts ++ p ∷ us) → R q p
  earlier_meets [] p us q h a = absurd h
  earlier_meets (t ∷ ts) p us q (inl e) a = subst (λ u. R u p) (sym e) (all_right (R t) ts (p ∷ us) a.0).0
  earlier_meets (t ∷ ts) p us q (inr h) a = earlier_meets ts p us q h a.1

  module _ (turned : (x y : X) → R x y → R y x) where
    one_to_front : (us : List X) (x : X) (vs : List X) → AllEarlier R (us ++ x ∷ vs) → AllEarlier R (x ∷ (us ++ vs))
    one_to_front [] x vs a = a
    one_to_front (u ∷ us) x vs a =
        let r = one_to_front us x vs a.1 in
        let b = all_right (R u) us (x ∷ vs) a.0 in
        ((turned u x b.0, r.0), (all_append (R u) us vs (all_left (R u) us (x ∷ vs) a.0) b.1, r.1))

    to_front : (us xs vs : List X) → AllEarlier R (us ++ (xs ++ vs)) → AllEarlier R (xs ++ (us ++ vs))
    to_front us [] vs a = a
    to_front us (x ∷ xs) vs a =
        let r = one_to_front us x (xs ++ vs) a in
        (all_moved (R x) us xs vs r.0, to_front us xs vs r.1)

    -- after a first part, a part is moved before another
    pub moved : (ts us xs vs : List X) → AllEarlier R (ts ++ (us ++ (xs ++ vs))) → AllEarlier R (ts ++ (xs ++ (us ++ vs)))
    moved [] us xs vs a = to_front us xs vs a
    moved (t ∷ ts) us xs vs a = (
      all_append (R t) ts (xs ++ (us ++ vs)) (all_left (R t) ts (us ++ (xs ++ vs)) a.0)
          (all_moved (R t) us xs vs (all_right (R t) ts (us ++ (xs ++ vs)) a.0)),
      moved ts us xs vs a.1,
    )
