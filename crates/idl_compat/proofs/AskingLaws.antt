-- Pairs that are asked for one after the other.
use Rattle.std.proofs.Common.{arith, ◌≡◌, ℕ, ◌+◌, ◌<◌, ◌≤◌, zero, suc, Bool, true, false, List, [], ◌∷◌, ◌++◌, Option, Some, refl, ap, ap₂, sym, ◌∙◌, subst, length, take, append_assoc}
use Rattle.std.proofs.Common.{append-nil, take_all}
use Rattle.std.specs.Prelude.{slice_get}
use Rattle.std.specs.List.{AllByRecursion}
use Rattle.std.proofs.lemmas.Option.{same_Some}
use Rattle.idl_compat.specs.declared.pairs.TypePair.{TypePair}
use Rattle.idl_compat.specs.Comparison.{OneByOne, IsPair}
use Rattle.idl_compat.specs.Asking.{Includes, IsAskedBy, Asks}

pub same_lists : {X : Type 0} (xs ys : List X) → length xs ≡ length ys → ((j : ℕ) → j < length xs → slice_get xs j ≡ slice_get ys j) → xs ≡ ys
same_lists [] [] e f = refl
same_lists [] (y ∷ ys) e f = absurd (omega (arith, e))
same_lists (x ∷ xs) [] e f = absurd (omega (arith, e))
same_lists (x ∷ xs) (y ∷ ys) e f =
    ap₂ (λ z zs. z ∷ zs) (same_Some x y (f 0 (omega arith))) (same_lists xs ys (omega (arith, e)) (λ j l. f (suc j) (omega (arith, l))))

pub as_asked : (P Q : List TypePair → Type 0) → ((m : List TypePair) → P m → Q m) → ((m : List TypePair) → Q m → P m) → (before after : List TypePair) (ok : Bool)
    → Asks P before after ok → Asks Q before after ok
as_asked P Q f g before after true a = (a.0, a.1, record { needed = λ m q. a.2.needed m (g m q); enough = λ m i. f m (a.2.enough m i) })
as_asked P Q f g before after false a = λ m q. a m (g m q)

includes_both : (m v w : List TypePair) → Includes m v → Includes m w → Includes m (v ++ w)
includes_both m [] w a b = b
includes_both m (p ∷ v) w a b = (a.0, includes_both m v w a.1 b)

includes_left : (m v w : List TypePair) → Includes m (v ++ w) → Includes m v
includes_left m [] w a = tt
includes_left m (p ∷ v) w a = (a.0, includes_left m v w a.1)

includes_right : (m v w : List TypePair) → Includes m (v ++ w) → Includes m w
includes_right m [] w a = a
includes_right m (p ∷ v) w a = includes_right m v w a.1

-- two things are asked for, one after the other
pub both_asked : (P Q : List TypePair → Type 0) (before mid after : List TypePair) → Asks P before mid true → Asks Q mid after true → Asks (λ m. P m × Q m) before after true
both_asked P Q before mid after (v, e, a) (w, f, b) = (
  v ++ w,
  f ∙ ap (λ u. u ++ w) e ∙ append_assoc before v w,
  record {
    needed = λ m p. includes_both m v w (a.needed m p.0) (b.needed m p.1);
    enough = λ m i. (a.enough m (includes_left m v w i), b.enough m (includes_right m v w i));
  },
)

pub both_last : (P Q : List TypePair → Type 0) (before mid after : List TypePair) (ok : Bool) → Asks P before mid true → Asks Q mid after ok → Asks (λ m. P m × Q m) before after ok
both_last P Q before mid after true a b = both_asked P Q before mid after a b
both_last P Q before mid after false a b = λ m p. b m p.1

pub none_asked : (P : List TypePair → Type 0) → ((m : List TypePair) → P m) → (before : List TypePair) → Asks P before before true
none_asked P f before = ([], sym (append-nil before), record { needed = λ m p. tt; enough = λ m i. f m })

-- ## Items one by one

module _ {X Y : Type 0} (F : List TypePair → X → Y → Type 0) (xs : List X) (ys : List Y) where
  one_at : (m : List TypePair) (us : List X) (vs : List Y) → OneByOne (F m) us vs → (i : ℕ) (x : X) (y : Y) → slice_get us i ≡ Some x → slice_get vs i ≡ Some y → F m x y
  one_at m [] vs a i x y e f = cc
  one_at m (u ∷ us) [] a i x y e f = absurd a
  one_at m (u ∷ us) (v ∷ vs) a zero x y e f = subst (λ z. F m z y) (same_Some u x e) (subst (λ z. F m u z) (same_Some v y f) a.0)
  one_at m (u ∷ us) (v ∷ vs) a (suc i) x y e f = one_at m us vs a.1 i x y e f

  one_more : (m : List TypePair) (us : List X) (vs : List Y) (i : ℕ) (x : X) (y : Y) → slice_get us i ≡ Some x → slice_get vs i ≡ Some y
      → OneByOne (F m) (take i us) (take i vs) → F m x y → OneByOne (F m) (take (suc i) us) (take (suc i) vs)
  one_more m [] vs i x y e f a b = cc
  one_more m (u ∷ us) [] i x y e f a b = cc
  one_more m (u ∷ us) (v ∷ vs) zero x y e f a b = (subst (λ z. F m z v) (sym (same_Some u x e)) (subst (λ z. F m x z) (sym (same_Some v y f)) b), tt)
  one_more m (u ∷ us) (v ∷ vs) (suc i) x y e f a b = (a.0, one_more m us vs i x y e f a.1 b)

  one_fewer : (m : List TypePair) (us : List X) (vs : List Y) (i : ℕ) (x : X) (y : Y) → slice_get us i ≡ Some x → slice_get vs i ≡ Some y
      → OneByOne (F m) (take (suc i) us) (take (suc i) vs) → OneByOne (F m) (take i us) (take i vs) × F m x y
  one_fewer m [] vs i x y e f a = cc
  one_fewer m (u ∷ us) [] i x y e f a = cc
  one_fewer m (u ∷ us) (v ∷ vs) zero x y e f a = (tt, subst (λ z. F m z y) (same_Some u x e) (subst (λ z. F m u z) (same_Some v y f) a.0))
  one_fewer m (u ∷ us) (v ∷ vs) (suc i) x y e f a = let b = one_fewer m us vs i x y e f a.1 in ((a.0, b.0), b.1)

  -- the pairs of the first i items are asked for
  abbrev pub AskedTo : ℕ → List TypePair → List TypePair → Type 0
  AskedTo i before after = Asks (λ m. OneByOne (F m) (take i xs) (take i ys)) before after true

  pub start : (before : List TypePair) → AskedTo 0 before before
  start before = none_asked (λ m. OneByOne (F m) (take 0 xs) (take 0 ys)) (λ m. tt) before

  next : (i : ℕ) → suc i ≡ i + 1
  next i = omega arith

  pub turn : (i : ℕ) (x : X) (y : Y) → slice_get xs i ≡ Some x → slice_get ys i ≡ Some y → (before mid after : List TypePair) → AskedTo i before mid
      → Asks (λ m. F m x y) mid after true → AskedTo (i + 1) before after
  turn i x y e f before mid after a b =
      subst (λ n. AskedTo n before after) (next i)
      (as_asked (λ m. OneByOne (F m) (take i xs) (take i ys) × F m x y) (λ m. OneByOne (F m) (take (suc i) xs) (take (suc i) ys))
      (λ m p. one_more m xs ys i x y e f p.0 p.1) (λ m p. one_fewer m xs ys i x y e f p) before after true
      (both_asked (λ m. OneByOne (F m) (take i xs) (take i ys)) (λ m. F m x y) before mid after a b))

  pub over : (i : ℕ) → length xs ≤ i → length ys ≤ i → (before after : List TypePair) → AskedTo i before after → Asks (λ m. OneByOne (F m) xs ys) before after true
  over i l l' before after a =
      subst (λ us. Asks (λ m. OneByOne (F m) us ys) before after true) (take_all i xs l) (subst (λ vs. Asks (λ m. OneByOne (F m) (take i xs) vs) before after true) (take_all i ys l') a)

  pub stop : (i : ℕ) (x : X) (y : Y) → slice_get xs i ≡ Some x → slice_get ys i ≡ Some y → (mid after : List TypePair) → Asks (λ m. F m x y) mid after false
      → (m : List TypePair) → OneByOne (F m) xs ys → ⊥
  stop i x y e f mid after a m p = a m (one_at m xs ys p i x y e f)

  long : (m : List TypePair) (us : List X) (vs : List Y) → OneByOne (F m) us vs → length us ≡ length vs
  long m [] [] a = refl
  long m [] (v ∷ vs) a = absurd a
  long m (u ∷ us) [] a = absurd a
  long m (u ∷ us) (v ∷ vs) a = ap suc (long m us vs a.1)

  pub other_count : (length xs ≡ length ys → ⊥) → (m : List TypePair) → OneByOne (F m) xs ys → ⊥
  other_count h m p = h (long m xs ys p)

pub asked_true : (P : List TypePair → Type 0) (before after : List TypePair) (ok : Bool) → Asks P before after ok → ok ≡ true → Asks P before after true
asked_true P before after true a e = a
asked_true P before after false a e = cc

pub asked_false : (P : List TypePair → Type 0) (before after : List TypePair) (ok : Bool) → Asks P before after ok → ok ≡ false → Asks P before after false
asked_false P before after true a e = cc
asked_false P before after false a e = a

pub from_none_true : (P : List TypePair → Type 0) (before after : List TypePair) (ok : Bool) → before ≡ [] → Asks P before after ok → ok ≡ true → Asks P [] after true
from_none_true P before after ok e a f = subst (λ x. Asks P x after true) e (asked_true P before after ok a f)

pub from_none_false : (P : List TypePair → Type 0) (before after : List TypePair) (ok : Bool) → before ≡ [] → Asks P before after ok → ok ≡ false → Asks P [] after false
from_none_false P before after ok e a f = subst (λ x. Asks P x after false) e (asked_false P before after ok a f)
