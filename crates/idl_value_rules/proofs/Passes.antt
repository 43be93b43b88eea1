-- The first that is one too many.
use Rattle.std.proofs.Common.{◌≡◌, ◌∙◌, ℕ, zero, suc, ◌+◌, ◌-◌, ◌<◌, ◌≤◌, Bool, true, false, ltb, List, [], ◌∷◌, ◌++◌, Option, drop, map, length, replicate, get_or, refl, ap, sym, arith}
use Rattle.std.specs.Prelude.{take, ◌&&◌, nat_le}
use Rattle.std.specs.List.{flat_map}
use Rattle.std.proofs.lemmas.List.{drop_more, drop_all, map-append, length-replicate, replicate-append-replicate}
use Rattle.std.proofs.lemmas.List.Concat.{flat_map-cons}
use Rattle.std.proofs.lemmas.Bool.Decides.{nat_tests}
use Rattle.idl_rule_definitions.specs.Nodes.{World, Construct, place_in}
use Rattle.idl_rule_definitions.specs.Rules.{Breach}
use Rattle.idl_rule_definitions.specs.DeclarationRules.{first_past}
use Rattle.idl_rule_definitions.specs.Noted.{noted, if_broken}
use Rattle.idl_value_rules.specs.SeenCounts.{numbered, one_too_many}
use Rattle.idl_rule_definitions.proofs.Noted.{noted_more}

-- ## The thing that is due

pub drop_none : {X : Type 0} (n : ℕ) (xs : List X) → xs ≡ [] → drop n xs ≡ []
drop_none zero xs e = e
drop_none (suc n) [] e = refl
drop_none (suc n) (x ∷ xs) e = absurd (let f : x ∷ xs ≡ [] = e in cc)

pub none_past : {X : Type 0} (n : ℕ) (xs : List X) → xs ≡ [] → first_past n xs ≡ []
none_past n xs e = ap (λ l. take 1 l) (drop_none n xs e)

pub none_numbered : {X : Type 0} (n : ℕ) (xs : List X) → xs ≡ [] → numbered n xs ≡ []
none_numbered zero xs e = refl
none_numbered (suc n) xs e = none_past n xs e

pub one_past : {X Y : Type 0} (f : X → Y) (xs : List X) (n : ℕ) (x : X) → n < length xs → x ≡ get_or xs n x → f x ∷ [] ≡ map f (first_past n xs)
one_past f xs n x below is = ap (λ y. f y ∷ []) is ∙ sym (ap (λ l. map f (take 1 l)) (drop_more xs n x below))

pub past_end : {X Y : Type 0} (f : X → Y) (xs : List X) (n : ℕ) → length xs ≤ n → [] ≡ map f (first_past n xs)
past_end f xs n past = sym (ap (λ l. map f (take 1 l)) (drop_all n xs past))

-- of things of one construct, the one with a number
pub passed : (w : World) (c : Construct) (count due : ℕ) (first : Option Breach)
    → noted w first (if_broken 39 (place_in c c.at) (ltb 0 due && nat_le due count)) ≡ noted w first (map one_too_many (numbered due (replicate count c)))
passed w c count zero first = refl
passed w c zero (suc zero) first = refl
passed w c zero (suc (suc due)) first =
    let e : (ltb 0 (suc (suc due)) && nat_le (suc (suc due)) 0) ≡ false = grind (arith, nat_tests) in
    ap (λ b. noted w first (if_broken 39 (place_in c c.at) b)) e
passed w c (suc count) (suc zero) first =
    let e : (ltb 0 1 && nat_le 1 (suc count)) ≡ true = grind (arith, nat_tests) in
    ap (λ b. noted w first (if_broken 39 (place_in c c.at) b)) e
passed w c (suc count) (suc (suc due)) first =
    let e : (ltb 0 (suc (suc due)) && nat_le (suc (suc due)) (suc count)) ≡ (ltb 0 (suc due) && nat_le (suc due) count) = grind (arith, nat_tests) in
    ap (λ b. noted w first (if_broken 39 (place_in c c.at) b)) e ∙ passed w c count (suc due) first

numbered_both : {X : Type 0} (n : ℕ) (xs ys : List X) → numbered n (xs ++ ys) ≡ numbered n xs ++ numbered (n - length xs) ys
numbered_both zero xs ys = let e : 0 ≡ 0 - length xs = omega arith in ap (λ (k : ℕ). numbered k ys) e
numbered_both (suc n) [] ys =
    let e : suc n ≡ suc n - 0 = omega arith in
    ap (λ (k : ℕ). numbered k ys) e ∙ ap (λ l. l ++ numbered (suc n - 0) ys) (sym (none_past n [] refl))
numbered_both (suc zero) (x ∷ xs) ys = let e : 0 ≡ 1 - suc (length xs) = omega arith in ap (λ (k : ℕ). x ∷ numbered k ys) e
numbered_both (suc (suc n)) (x ∷ xs) ys =
    let e : suc n - length xs ≡ suc (suc n) - suc (length xs) = omega arith in
    numbered_both (suc n) xs ys ∙ ap (λ (k : ℕ). numbered (suc n) xs ++ numbered k ys) e

module _ {X : Type 0} (of : X → List Construct) (xs : List X) where
  -- the one that is due among those that are left
  abbrev pub too_many_due : ℕ → ℕ → List Breach
  too_many_due due i = map one_too_many (numbered due (flat_map of (drop i xs)))

  due_is : (due i : ℕ) (x : X) → i < length xs → x ≡ get_or xs i x → too_many_due due i ≡ map one_too_many (numbered due (of x)) ++ too_many_due (due - length (of x)) (i + 1)
  due_is due i x below is =
      ap (λ l. map one_too_many (numbered due (flat_map of l))) (drop_more xs i x below ∙ ap (λ y. y ∷ drop (i + 1) xs) (sym is))
      ∙ ap (λ l. map one_too_many (numbered due l)) (flat_map-cons of x (drop (i + 1) xs))
      ∙ ap (map one_too_many) (numbered_both due (of x) (flat_map of (drop (i + 1) xs)))
      ∙ map-append one_too_many (numbered due (of x)) (numbered (due - length (of x)) (flat_map of (drop (i + 1) xs)))

  pub one_counted : (w : World) (due behind i : ℕ) (x : X) (first next all : Option Breach) → i < length xs → x ≡ get_or xs i x → behind ≡ due - length (of x)
      → next ≡ noted w first (map one_too_many (numbered due (of x)))
      → noted w first (too_many_due due i) ≡ all → noted w next (too_many_due behind (i + 1)) ≡ all
  one_counted w due behind i x first next all below is b e h =
      ap (λ k. noted w next (too_many_due k (i + 1))) b
      ∙ ap (λ o. noted w o (too_many_due (due - length (of x)) (i + 1))) e
      ∙ sym (ap (λ l. noted w first l) (due_is due i x below is) ∙ noted_more w first (map one_too_many (numbered due (of x))) (too_many_due (due - length (of x)) (i + 1)))
      ∙ h

  pub all_counted : (w : World) (due i : ℕ) (first all : Option Breach) → length xs ≤ i → noted w first (too_many_due due i) ≡ all → first ≡ all
  all_counted w due i first all past h =
      sym (ap (λ l. noted w first (map one_too_many l)) (none_numbered due (flat_map of (drop i xs)) (ap (flat_map of) (drop_all i xs past)))) ∙ h

-- ## All that things have

module _ {X : Type 0} (of : X → List Construct) (xs : List X) where
  -- what the things from number i on have
  abbrev pub all_left : ℕ → List Breach
  all_left i = map one_too_many (flat_map of (drop i xs))

  left_is : (i : ℕ) (x : X) → i < length xs → x ≡ get_or xs i x → all_left i ≡ map one_too_many (of x) ++ all_left (i + 1)
  left_is i x below is =
      ap (λ l. map one_too_many (flat_map of l)) (drop_more xs i x below ∙ ap (λ y. y ∷ drop (i + 1) xs) (sym is))
      ∙ ap (map one_too_many) (flat_map-cons of x (drop (i + 1) xs))
      ∙ map-append one_too_many (of x) (flat_map of (drop (i + 1) xs))

  pub one_noted : (w : World) (i : ℕ) (x : X) (first next all : Option Breach) → i < length xs → x ≡ get_or xs i x → next ≡ noted w first (map one_too_many (of x))
      → noted w first (all_left i) ≡ all → noted w next (all_left (i + 1)) ≡ all
  one_noted w i x first next all below is e h =
      ap (λ o. noted w o (all_left (i + 1))) e
      ∙ sym (ap (noted w first) (left_is i x below is) ∙ noted_more w first (map one_too_many (of x)) (all_left (i + 1)))
      ∙ h

  pub all_noted : (w : World) (i : ℕ) (first all : Option Breach) → length xs ≤ i → noted w first (all_left i) ≡ all → first ≡ all
  all_noted w i first all past h = sym (ap (λ l. noted w first (map one_too_many (flat_map of l))) (drop_all i xs past)) ∙ h

-- ## Things that one construct has

module _ {X : Type 0} (all : List X → ℕ) (one : X → ℕ) (cons : (x : X) (more : List X) → all (x ∷ more) ≡ one x + all more) (xs : List X) (c : Construct) where
  -- the one that is due among those that items from i on give
  abbrev pub given_due : ℕ → ℕ → List Breach
  given_due due i = map one_too_many (numbered due (replicate (all (drop i xs)) c))

  all_is : (i : ℕ) (x : X) → i < length xs → x ≡ get_or xs i x → all (drop i xs) ≡ one x + all (drop (i + 1) xs)
  all_is i x below is = ap all (drop_more xs i x below ∙ ap (λ y. y ∷ drop (i + 1) xs) (sym is)) ∙ cons x (drop (i + 1) xs)

  given_is : (due a b : ℕ) → map one_too_many (numbered due (replicate (a + b) c)) ≡ map one_too_many (numbered due (replicate a c)) ++ map one_too_many (numbered (due - a) (replicate b c))
  given_is due a b =
      ap (λ l. map one_too_many (numbered due l)) (sym (replicate-append-replicate a b c))
      ∙ ap (map one_too_many) (numbered_both due (replicate a c) (replicate b c))
      ∙ ap (λ (k : ℕ). map one_too_many (numbered due (replicate a c) ++ numbered (due - k) (replicate b c))) (length-replicate a c)
      ∙ map-append one_too_many (numbered due (replicate a c)) (numbered (due - a) (replicate b c))

  pub one_given : (w : World) (due behind i : ℕ) (x : X) (first next whole : Option Breach) → i < length xs → x ≡ get_or xs i x → behind ≡ due - one x
      → next ≡ noted w first (map one_too_many (numbered due (replicate (one x) c)))
      → noted w first (given_due due i) ≡ whole → noted w next (given_due behind (i + 1)) ≡ whole
  one_given w due behind i x first next whole below is b e h =
      let rest = map one_too_many (numbered (due - one x) (replicate (all (drop (i + 1) xs)) c)) in
      let ones = map one_too_many (numbered due (replicate (one x) c)) in
      ap (λ (k : ℕ). noted w next (map one_too_many (numbered k (replicate (all (drop (i + 1) xs)) c)))) b
      ∙ ap (λ o. noted w o rest) e
      ∙ sym (noted_more w first ones rest)
      ∙ sym (ap (noted w first) (given_is due (one x) (all (drop (i + 1) xs))))
      ∙ sym (ap (λ (k : ℕ). noted w first (map one_too_many (numbered due (replicate k c)))) (all_is i x below is))
      ∙ h

  pub one_fewer : (due behind i whole : ℕ) (x : X) → i < length xs → x ≡ get_or xs i x → behind ≡ due - one x → due - all (drop i xs) ≡ whole → behind - all (drop (i + 1) xs) ≡ whole
  one_fewer due behind i whole x below is b h = let e = all_is i x below is in omega (arith, b, h, e)
