-- Lemmas of lists, their items by number, and what is kept of them by `take` and `drop`.
use Rattle.std.proofs.Common.{◌≡◌, ◌<◌, ℕ, ◌+◌, zero, suc, List, [], ◌∷◌, ◌++◌, length, refl, arith, Bool, true, ap, Some, take, sym, ◌∙◌, subst, drop, slice_get, add-one, get_or, set, false, ◌≤◌}
use Rattle.std.proofs.Common.{None, ap₂, length-append, append_assoc}
use Rattle.std.proofs.Math.Seq.{take-append_seam, take-suc}
use Rattle.std.proofs.lemmas.List.{drop_more}
use Rattle.std.proofs.lemmas.List.Folds.{list_all-append}
use Rattle.std.proofs.lemmas.Option.{same_Some, slice_get_within, get_or_from_slice_get}
use Rattle.std.specs.Cmp.Derive.{both_true}
use Rattle.std.specs.List.{list_all, AllByRecursion}
use Rattle.std.specs.Prelude.{map}

pub get_in_front : {A : Type 0} (xs more : List A) (i : ℕ) → i < length xs → slice_get (xs ++ more) i ≡ slice_get xs i
get_in_front [] more i p = absurd (omega (arith, p))
get_in_front (x ∷ xs) more zero p = refl
get_in_front (x ∷ xs) more (suc i) p = get_in_front xs more i (omega (arith, p))

pub list_all_from : {X : Type 0} (f : X → Bool) (xs : List X) → AllByRecursion (λ x. f x ≡ true) xs → list_all f xs ≡ true
list_all_from f [] h = refl
list_all_from f (x ∷ xs) h = both_true h.0 (list_all_from f xs h.1)

pub join_all : {X : Type 0} (p : X → Bool) (xs ys : List X) → list_all p xs ≡ true → list_all p ys ≡ true → list_all p (xs ++ ys) ≡ true
join_all p xs ys h i = list_all-append p xs ys ∙ both_true h i

pub length_map : {X Y : Type 0} (f : X → Y) (xs : List X) → length (map f xs) ≡ length xs
length_map f [] = refl
length_map f (x ∷ xs) = ap suc (length_map f xs)

pub item_at : {A : Type 0} (xs : List A) (i : ℕ) → i < length xs → (x : A) × (slice_get xs i ≡ Some x)
item_at [] i l = absurd (omega (arith, l))
item_at (x ∷ xs) zero l = (x, refl)
item_at (x ∷ xs) (suc i) l = item_at xs i (omega (arith, l))

pub take_front : (n : ℕ) (xs ys : List ℕ) → length xs ≡ n → take n (xs ++ ys) ≡ xs
take_front n xs ys e = ap (λ k. take k (xs ++ ys)) (sym e) ∙ take-append_seam xs ys

pub all_at : {X : Type 0} (P : X → Type 0) (xs : List X) (i : ℕ) (x : X) → AllByRecursion P xs → slice_get xs i ≡ Some x → P x
all_at P [] i x h e = cc
all_at P (y ∷ ys) zero x h e = subst P (same_Some y x e) h.0
all_at P (y ∷ ys) (suc i) x h e = all_at P ys i x h.1 e

pub drop_next : {X : Type 0} (xs : List X) (i : ℕ) (x : X) → slice_get xs i ≡ Some x → drop i xs ≡ x ∷ drop (i + 1) xs
drop_next xs i x e = drop_more xs i x (slice_get_within xs i x e) ∙ ap (λ y. y ∷ drop (i + 1) xs) (get_or_from_slice_get xs i x x e)

pub take_next : {X : Type 0} (xs : List X) (i : ℕ) (x : X) → slice_get xs i ≡ Some x → take (i + 1) xs ≡ take i xs ++ x ∷ []
take_next xs i x h =
    rw (add-one i) (take-suc xs i x (slice_get_within xs i x h) ∙ ap (λ y. take i xs ++ y ∷ []) (get_or_from_slice_get xs i x x h))

pub same_first : {A : Type 0} (x y : A) (xs ys : List A) → x ∷ xs ≡ y ∷ ys → x ≡ y
same_first x y xs ys e = cc

pub same_rest : {A : Type 0} (x y : A) (xs ys : List A) → x ∷ xs ≡ y ∷ ys → xs ≡ ys
same_rest x y xs ys e = cc

pub set_here : (xs : List ℕ) (i v : ℕ) → i < length xs → get_or (set xs i v) i 0 ≡ v
set_here [] i v l = absurd (omega (arith, l))
set_here (x ∷ xs) zero v l = refl
set_here (x ∷ xs) (suc i) v l = set_here xs i v (omega (arith, l))

pub set_elsewhere : (xs : List ℕ) (i j v : ℕ) → (j ≡ i → ⊥) → get_or (set xs i v) j 0 ≡ get_or xs j 0
set_elsewhere [] i j v n = refl
set_elsewhere (x ∷ xs) zero zero v n = absurd (n refl)
set_elsewhere (x ∷ xs) zero (suc j) v n = refl
set_elsewhere (x ∷ xs) (suc i) zero v n = refl
set_elsewhere (x ∷ xs) (suc i) (suc j) v n = set_elsewhere xs i j v (λ e. n (ap suc e))

pub marked_here : (ms : List Bool) (c : ℕ) → c < length ms → get_or (set ms c true) c false ≡ true
marked_here [] c l = absurd (omega (arith, l))
marked_here (m ∷ ms) zero l = refl
marked_here (m ∷ ms) (suc c) l = marked_here ms c (omega (arith, l))

pub marked_elsewhere : (xs : List Bool) (i j : ℕ) → (j ≡ i → ⊥) → get_or (set xs i true) j false ≡ get_or xs j false
marked_elsewhere [] i j n = refl
marked_elsewhere (x ∷ xs) zero zero n = absurd (n refl)
marked_elsewhere (x ∷ xs) zero (suc j) n = refl
marked_elsewhere (x ∷ xs) (suc i) zero n = refl
marked_elsewhere (x ∷ xs) (suc i) (suc j) n = marked_elsewhere xs i j (λ e. n (ap suc e))

pub marks_length : (xs : List Bool) (i : ℕ) → length (set xs i true) ≡ length xs
marks_length [] i = refl
marks_length (x ∷ xs) zero = refl
marks_length (x ∷ xs) (suc i) = ap suc (marks_length xs i)

pub none_of_none : (xs : List ℕ) → length xs ≡ 0 → xs ≡ []
none_of_none [] e = refl
none_of_none (x ∷ xs) e = cc

pub drop_length : {X : Type 0} (n : ℕ) (xs : List X) → n ≤ length xs → n + length (drop n xs) ≡ length xs
drop_length zero xs l = omega arith
drop_length (suc n) [] l = absurd (omega (arith, l))
drop_length (suc n) (x ∷ xs) l = let e = drop_length n xs (omega (arith, l)) in omega (arith, e)

pub past_end : {X : Type 0} (xs : List X) (i : ℕ) → slice_get xs i ≡ None → length xs ≤ i
past_end [] i e = omega arith
past_end (x ∷ xs) zero e = cc
past_end (x ∷ xs) (suc i) e = let l : length xs ≤ i = past_end xs i e in omega (arith, l)

pub none_below : {X : Type 0} (xs : List X) (i : ℕ) → i < length xs → slice_get xs i ≡ None → ⊥
none_below xs i below none = let past : length xs ≤ i = past_end xs i none in omega (arith, below, past)

pub drop_at : {X : Type 0} (xs : List X) (i : ℕ) (x : X) → slice_get xs i ≡ Some x → drop i xs ≡ x ∷ drop (suc i) xs
drop_at [] i x e = cc
drop_at (y ∷ ys) zero x e = ap (λ z. z ∷ ys) (same_Some y x e)
drop_at (y ∷ ys) (suc i) x e = drop_at ys i x e

pub drop_past : {X : Type 0} (xs : List X) (i : ℕ) → length xs ≤ i → drop i xs ≡ []
drop_past [] zero h = refl
drop_past [] (suc i) h = refl
drop_past (x ∷ xs) zero h = absurd (omega (arith, h))
drop_past (x ∷ xs) (suc i) h = drop_past xs i (omega (arith, h))

pub all_of_none : {X : Type 0} (P : X → Type 0) (xs : List X) → xs ≡ [] → AllByRecursion P xs
all_of_none {X} P xs e = subst (λ (ys : List X). AllByRecursion P ys) (sym e) tt

pub no_last : (part : List ℕ) (last : ℕ) → [] ≡ part ++ last ∷ [] → ⊥
no_last [] last e = cc
no_last (x ∷ part) last e = cc

pub same_before_last : (xs ys : List ℕ) (x y : ℕ) → xs ++ x ∷ [] ≡ ys ++ y ∷ [] → xs ≡ ys
same_before_last [] [] x y e = refl
same_before_last [] (b ∷ ys) x y e =
    let n : 1 ≡ suc (length (ys ++ y ∷ [])) = ap length e in
    let m : length (ys ++ y ∷ []) ≡ length ys + 1 = length-append ys (y ∷ []) in absurd (omega (arith, n, m))
same_before_last (a ∷ xs) [] x y e =
    let n : suc (length (xs ++ x ∷ [])) ≡ 1 = ap length e in
    let m : length (xs ++ x ∷ []) ≡ length xs + 1 = length-append xs (x ∷ []) in absurd (omega (arith, n, m))
same_before_last (a ∷ xs) (b ∷ ys) x y e =
    let first : a ≡ b = cc in
    let others : xs ++ x ∷ [] ≡ ys ++ y ∷ [] = cc in
    ap₂ (λ u us. u ∷ us) first (same_before_last xs ys x y others)

pub same_parts : (x y : ℕ) (xs ys : List ℕ) → x ∷ xs ≡ y ∷ ys → (x ≡ y) × (xs ≡ ys)
same_parts x y xs ys e = (cc, cc)

pub last_of : (xs : List ℕ) → 0 < length xs → (part : List ℕ) × (last : ℕ) × (xs ≡ part ++ last ∷ [])
last_of [] h = absurd (omega arith)
last_of (x ∷ []) h = ([], x, refl)
last_of (x ∷ y ∷ ys) h = let (part, last, e) = last_of (y ∷ ys) (omega arith) in (x ∷ part, last, ap (λ u. x ∷ u) e)

pub four_parts : (t t1 t2 t3 t4 a b c d : List ℕ) → t1 ≡ t ++ a → t2 ≡ t1 ++ b → t3 ≡ t2 ++ c → t4 ≡ t3 ++ d → t4 ≡ t ++ (a ++ (b ++ (c ++ d)))
four_parts t t1 t2 t3 t4 a b c d h1 h2 h3 h4 =
    h4 ∙ ap (λ x. x ++ d) h3 ∙ append_assoc t2 c d ∙ ap (λ x. x ++ (c ++ d)) h2 ∙ append_assoc t1 b (c ++ d) ∙ ap (λ x. x ++ (b ++ (c ++ d))) h1
    ∙ append_assoc t a (b ++ (c ++ d))
