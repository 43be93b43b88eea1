-- The numbers of names are small.
use Rattle.std.proofs.Common.{◌≡◌, ℕ, zero, suc, ◌+◌, ◌^◌, ◌<◌, ◌≤◌, ◌&&◌, Bool, true, false, cond, refl, sym, ap, subst, ◌∙◌, arith, List, [], ◌∷◌, length, Option, Some, None, ℤ, pos, negsuc, ◌+ℤ◌}
use Rattle.std.specs.Str.{bytes_eq}
use Rattle.std.specs.Option.{IfSome}
use Rattle.std.proofs.lemmas.Bool.{ltb-true, lt-ltb}
use Rattle.std.proofs.lemmas.Int.{ints, to_z-of_z}
use Rattle.std.proofs.lemmas.List.{length-append}
use mir.Val.{SFits, hbits, to_z, of_z}
use mir.Syntax.{w128}
use Rattle.idl_scope.specs.declared.meaning.Meaning.{Meaning}
use Rattle.idl_scope.specs.declared.meaning.Meaning.TheVariants as meaning
use Rattle.idl_scope.specs.Small.{is_below, is_small, are_small}
use Rattle.idl_scope.specs.Known.{found, put}
use Rattle.idl_scope.proofs.Tables.{put_new}

-- ## Numbers

pub below_more : (m n : ℕ) (z : ℤ) → m ≤ n → is_below m z ≡ true → is_below n z ≡ true
below_more m n (pos a) h b = let c : a < 2 ^ 64 + m = ltb-true a (2 ^ 64 + m) b in lt-ltb a (2 ^ 64 + n) (omega (arith, c, h))
below_more m n (negsuc a) h b = refl

pub small_more : (m n : ℕ) (x : Meaning) → m ≤ n → is_small m x ≡ true → is_small n x ≡ true
small_more m n (meaning.Number z) h b = below_more m n z h b
small_more m n meaning.Type h b = refl
small_more m n meaning.Other h b = refl

up : (a : ℕ) → negsuc (suc a) +ℤ pos 1 ≡ negsuc a
up a = omega (arith, ints)

-- the next number
pub next_below : (m : ℕ) (z : ℤ) → is_below m z ≡ true → is_below (m + 1) (z +ℤ pos 1) ≡ true
next_below m (pos a) b = let c : a < 2 ^ 64 + m = ltb-true a (2 ^ 64 + m) b in lt-ltb (a + 1) (2 ^ 64 + (m + 1)) (omega (arith, c))
next_below m (negsuc zero) b = lt-ltb 0 (2 ^ 64 + (m + 1)) (omega arith)
next_below m (negsuc (suc a)) b = ap (is_below (m + 1)) (up a)

-- it has 128 bits, too
pub next_fits : (m : ℕ) (z : ℤ) → m ≤ 2 ^ 64 → is_below m z ≡ true → SFits w128 z → SFits w128 (z +ℤ pos 1)
next_fits m (pos a) h b f = let c : a < 2 ^ 64 + m = ltb-true a (2 ^ 64 + m) b in record { sfits = omega (arith, c, h) }
next_fits m (negsuc zero) h b f = record { sfits = omega arith }
next_fits m (negsuc (suc a)) h b f = subst (λ z. SFits w128 z) (sym (up a)) (record { sfits = let s : suc a < 2 ^ hbits w128 = f.sfits in omega (arith, s) })

-- the sum of the program
pub sum_fits : (m : ℕ) (z : ℤ) → m ≤ 2 ^ 64 → is_below m z ≡ true → SFits w128 z → SFits w128 (to_z w128 (of_z w128 z) +ℤ pos 1)
sum_fits m z h b f = subst (λ x. SFits w128 (x +ℤ pos 1)) (sym (to_z-of_z w128 z f)) (next_fits m z h b f)

pub sum_is : (m : ℕ) (z : ℤ) → m ≤ 2 ^ 64 → is_below m z ≡ true → SFits w128 z → to_z w128 (of_z w128 (to_z w128 (of_z w128 z) +ℤ pos 1)) ≡ z +ℤ pos 1
sum_is m z h b f = ap (λ x. to_z w128 (of_z w128 (x +ℤ pos 1))) (to_z-of_z w128 z f) ∙ to_z-of_z w128 (z +ℤ pos 1) (next_fits m z h b f)

-- ## Tables

pub all_more : (m n : ℕ) (es : List (List ℕ × Meaning)) → m ≤ n → are_small m es ≡ true → are_small n es ≡ true
all_more m n [] h s = refl
all_more m n (e ∷ es) h s = by (is_small m e.1) (are_small m es) s (small_more m n e.1 h) (all_more m n es h)
  where
    by : (a b : Bool) → (a && b) ≡ true → (a ≡ true → is_small n e.1 ≡ true) → (b ≡ true → are_small n es ≡ true) → (is_small n e.1 && are_small n es) ≡ true
    by true true p f g = ap (λ c. c && are_small n es) (f refl) ∙ g refl
    by true false p f g = absurd (cc p)
    by false b p f g = absurd (cc p)

pub found_small : (m : ℕ) (name : List ℕ) (es : List (List ℕ × Meaning)) → are_small m es ≡ true → IfSome (found name es) (λ x. is_small m x ≡ true)
found_small m name [] s = tt
found_small m name (e ∷ es) s = by (bytes_eq name e.0) (is_small m e.1) (are_small m es) s refl (found_small m name es)
  where
    by : (c a b : Bool) → (a && b) ≡ true → is_small m e.1 ≡ a → (b ≡ true → IfSome (found name es) (λ x. is_small m x ≡ true)) → IfSome (cond c (Some e.1) (found name es)) (λ x. is_small m x ≡ true)
    by true true b p h more = h
    by true false b p h more = absurd (cc p)
    by false true true p h more = more refl
    by false true false p h more = absurd (cc p)
    by false false b p h more = absurd (cc p)

pub found_below : (m : ℕ) (name : List ℕ) (es : List (List ℕ × Meaning)) (z : ℤ) → are_small m es ≡ true → found name es ≡ Some (meaning.Number z) → is_below m z ≡ true
found_below m name es z s e = subst (λ (o : Option Meaning). IfSome o (λ x. is_small m x ≡ true)) e (found_small m name es s)

pub put_small : (m : ℕ) (name : List ℕ) (x : Meaning) (es : List (List ℕ × Meaning)) → are_small m es ≡ true → is_small m x ≡ true → are_small m (put es name x) ≡ true
put_small m name x [] s h = ap (λ c. c && true) h
put_small m name x (e ∷ es) s h = by (bytes_eq name e.0) (is_small m e.1) (are_small m es) s refl refl (λ t. put_small m name x es t h)
  where
    by : (c a b : Bool) → (a && b) ≡ true → is_small m e.1 ≡ a → are_small m es ≡ b → (are_small m es ≡ true → are_small m (put es name x) ≡ true)
        → are_small m (elim c [ true ↦ (e.0, x) ∷ es | false ↦ e ∷ put es name x ]) ≡ true
    by true true true p f g more = ap (λ d. d && are_small m es) h ∙ g
    by false true true p f g more = ap (λ d. d && are_small m (put es name x)) f ∙ more g
    by c true false p f g more = absurd (cc p)
    by c false b p f g more = absurd (cc p)

-- a new name makes a table longer by one
pub put_length : {X : Type 0} (es : List (List ℕ × X)) (name : List ℕ) (x : X) → found name es ≡ None → length (put es name x) ≡ length es + 1
put_length es name x h = ap (λ l. length l) (put_new es name x h) ∙ length-append es ((name, x) ∷ [])
