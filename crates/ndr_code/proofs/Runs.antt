-- Runs in lists: what follows a run, and where the runs of a list are that is made of runs.
use Rattle.std.proofs.Common.{◌≡◌, ℕ, ◌+◌, zero, suc, List, [], ◌∷◌, ◌++◌, length, take, drop, map, flat_map, Some, refl, ap, sym, ◌∙◌, arith, append_assoc, length-append, drop-drop, subst}
use Rattle.std.specs.List.{slice_get, enumerate_from}
use Rattle.std.specs.Prelude.{option_map}
use Rattle.std.proofs.Math.Seq.{drop-append-add}
use Rattle.std.proofs.lemmas.Option.{same_Some, slice_get-map}
use Rattle.ndr_code.specs.Runs.{IsRunAt}

get_from_drop : {X : Type 0} (code : List X) (a : ℕ) (i : X) (is : List X) → drop a code ≡ i ∷ is → slice_get code a ≡ Some i
get_from_drop [] zero i is e = let h : slice_get [] zero ≡ Some i = ap (λ xs. slice_get xs zero) e in h
get_from_drop [] (suc a) i is e = let h : slice_get [] zero ≡ Some i = ap (λ xs. slice_get xs zero) e in h
get_from_drop (x ∷ code) zero i is e = ap (λ xs. slice_get xs zero) e
get_from_drop (x ∷ code) (suc a) i is e = get_from_drop code a i is e

-- the instruction at an address
pub first_at : {X : Type 0} (code : List X) (a : ℕ) (i : X) (is : List X) → IsRunAt code a (i ∷ is) → slice_get code a ≡ Some i
first_at code a i is h = get_from_drop code a i (is ++ h.0) h.1

-- the run after the first part of a run
pub behind_at : {X : Type 0} (code : List X) (a : ℕ) (xs ys : List X) → IsRunAt code a (xs ++ ys) → IsRunAt code (a + length xs) ys
behind_at code a xs ys h = (
  h.0,
  ap (λ n. drop n code) (omega arith) ∙ sym (drop-drop (length xs) a code) ∙ ap (drop (length xs)) h.1 ∙ ap (drop (length xs)) (append_assoc xs ys h.0)
      ∙ ap (λ n. drop n (xs ++ (ys ++ h.0))) (omega arith) ∙ drop-append-add xs (ys ++ h.0) 0,
)

pub next_at : {X : Type 0} (code : List X) (a : ℕ) (i : X) (is : List X) → IsRunAt code a (i ∷ is) → IsRunAt code (a + 1) is
next_at code a i is h = behind_at code a (i ∷ []) is h

pub part_at : {X : Type 0} (code : List X) (a : ℕ) (xs ys : List X) → IsRunAt code a (xs ++ ys) → IsRunAt code a xs
part_at code a xs ys h = (ys ++ h.0, h.1 ∙ append_assoc xs ys h.0)

-- what is after the end of a list, which is nothing
no_run : {X : Type 0} (run rest ys : List X) (n : ℕ) → [] ≡ run ++ rest → (x : List X) × (drop n ys ≡ run ++ x)
no_run [] rest ys n e = (drop n ys, refl)
no_run (i ∷ run) rest ys n e = cc

-- a run of a code is there whatever follows the code
pub longer_at : {X : Type 0} (xs ys : List X) (n : ℕ) (run : List X) → IsRunAt xs n run → IsRunAt (xs ++ ys) n run
longer_at xs ys zero run h = (h.0 ++ ys, ap (λ zs. zs ++ ys) h.1 ∙ append_assoc run h.0 ys)
longer_at [] ys (suc n) run h = no_run run h.0 ys (suc n) h.1
longer_at (x ∷ xs) ys (suc n) run h = longer_at xs ys n run h

pub behind_two : {X : Type 0} (a b : X) (xs ys : List X) (n : ℕ) (run : List X) → IsRunAt xs n run → IsRunAt (a ∷ b ∷ (xs ++ ys)) (2 + n) run
behind_two a b xs ys n run h =
    let k : IsRunAt (xs ++ ys) n run = longer_at xs ys n run h in
    let two : 2 + n ≡ suc (suc n) = omega arith in
    (k.0, ap (λ m. drop m (a ∷ b ∷ (xs ++ ys))) two ∙ k.1)

-- a run of the last part of a code
pub last_at : {X : Type 0} (xs ys : List X) (n : ℕ) (run : List X) → IsRunAt ys n run → IsRunAt (xs ++ ys) (length xs + n) run
last_at xs ys n run h = (h.0, drop-append-add xs ys n ∙ h.1)

-- a run of a run is one of the code
pub within_at : {X : Type 0} (code : List X) (a k : ℕ) (xs run : List X) → IsRunAt code a xs → IsRunAt xs k run → IsRunAt code (a + k) run
within_at code a k xs run h g =
    let long : IsRunAt (xs ++ h.0) k run = longer_at xs h.0 k run g in
    (long.0, ap (λ n. drop n code) (omega arith) ∙ sym (drop-drop k a code) ∙ ap (drop k) h.1 ∙ long.1)

-- the run of the i-th of things, after those of the things before it
pub flat_at : {Y : Type 0} {X : Type 0} (f : Y → List X) (xs : List Y) (i : ℕ) (x : Y) → slice_get xs i ≡ Some x
    → IsRunAt (flat_map f xs) (length (flat_map f (take i xs))) (f x)
flat_at f [] i x e = cc
flat_at f (y ∷ ys) zero x e = (flat_map f ys, ap (λ z. f z ++ flat_map f ys) (same_Some y x e))
flat_at f (y ∷ ys) (suc i) x e =
    subst (λ n. IsRunAt (flat_map f (y ∷ ys)) n (f x)) (sym (length-append (f y) (flat_map f (take i ys))))
    (last_at (f y) (flat_map f ys) (length (flat_map f (take i ys))) (f x) (flat_at f ys i x e))

-- an item of a run is one of the list
pub item_at : {X : Type 0} (list : List X) (at : ℕ) (run : List X) (i : ℕ) (x : X) → IsRunAt list at run → slice_get run i ≡ Some x → slice_get list (at + i) ≡ Some x
item_at list at [] i x h e = cc
item_at list at (y ∷ run) zero x h e =
    let z : at ≡ at + 0 = omega arith in
    subst (λ k. slice_get list k ≡ Some x) z (first_at list at y run h ∙ e)
item_at list at (y ∷ run) (suc i) x h e =
    let z : at + 1 + i ≡ at + suc i = omega arith in
    subst (λ k. slice_get list k ≡ Some x) z (item_at list (at + 1) run i x (next_at list at y run h) e)

-- the i-th item with its number
pub numbered : {X : Type 0} (k : ℕ) (xs : List X) (i : ℕ) (x : X) → slice_get xs i ≡ Some x → slice_get (enumerate_from k xs) i ≡ Some (k + i, x)
numbered k [] i x e = cc
numbered k (y ∷ xs) zero x e = let z : k ≡ k + 0 = omega arith in ap (λ j. Some (j, y)) z ∙ ap (λ w. Some (k + 0, w)) (same_Some y x e)
numbered k (y ∷ xs) (suc i) x e = let z : k + 1 + i ≡ k + suc i = omega arith in numbered (k + 1) xs i x e ∙ ap (λ j. Some (j, x)) z

-- what a function makes of the i-th item with its number
pub mapped : {X Y : Type 0} (f : ℕ × X → Y) (xs : List X) (i : ℕ) (x : X) → slice_get xs i ≡ Some x → slice_get (map f (enumerate_from 0 xs)) i ≡ Some (f (i, x))
mapped f xs i x e = slice_get-map f (enumerate_from 0 xs) i ∙ ap (λ o. option_map f o) (numbered 0 xs i x e) ∙ (let z : 0 + i ≡ i = omega arith in ap (λ j. Some (f (j, x))) z)
