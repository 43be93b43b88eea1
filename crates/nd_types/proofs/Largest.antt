-- The largest of alignments, found one by one.
use Rattle.std.proofs.Common.{◌≡◌, ◌∙◌, ℕ, zero, suc, ◌+◌, ◌<◌, ◌≤◌, List, [], ◌∷◌, ◌++◌, ap, sym, map, drop, length, get_or, max, append-nil, arith}
use Rattle.std.proofs.Math.Nat.{max_comm, max-zero, zero-max, suc-max-suc, max-eq_left, max-eq_right, le-max_right}
use Rattle.std.proofs.lemmas.List.{drop_more, drop_all, map-append}
use Rattle.nd_types.specs.declared.types.Arm.{Arm}
use Rattle.nd_types.specs.Layout.{largest, arm_type, arm_types}

pub max_assoc : (a b c : ℕ) → max (max a b) c ≡ max a (max b c)
max_assoc zero b c = ap (λ n. max n c) (zero-max b) ∙ sym (zero-max (max b c))
max_assoc (suc a) zero c = ap (λ n. max n c) (max-zero (suc a)) ∙ ap (max (suc a)) (sym (zero-max c))
max_assoc (suc a) (suc b) zero = max-zero (max (suc a) (suc b)) ∙ ap (max (suc a)) (sym (max-zero (suc b)))
max_assoc (suc a) (suc b) (suc c) =
    ap (λ n. max n (suc c)) (suc-max-suc a b) ∙ suc-max-suc (max a b) c ∙ ap suc (max_assoc a b c)
    ∙ sym (suc-max-suc a (max b c)) ∙ ap (max (suc a)) (sym (suc-max-suc b c))

-- 1 is the least alignment
pub max_one : (n : ℕ) → 1 ≤ n → max n 1 ≡ n
max_one n h = max-eq_left h

pub one_max : (n : ℕ) → 1 ≤ n → max 1 n ≡ n
one_max n h = max-eq_right h

pub some_largest : (ns : List ℕ) → 1 ≤ largest ns
some_largest [] = omega arith
some_largest (n ∷ ns) = let rest = some_largest ns in let more = le-max_right n (largest ns) in omega (arith, rest, more)

pub largest_both : (xs ys : List ℕ) → largest (xs ++ ys) ≡ max (largest xs) (largest ys)
largest_both [] ys = sym (one_max (largest ys) (some_largest ys))
largest_both (x ∷ xs) ys = ap (max x) (largest_both xs ys) ∙ sym (max_assoc x (largest xs) (largest ys))

-- an alignment before others, in another order
turned : (a n rest : ℕ) → max (max n a) rest ≡ max a (max n rest)
turned a n rest = ap (λ m. max m rest) (max_comm n a) ∙ max_assoc a n rest

-- one more of a list of members
pub member_more : {X : Type 0} (f : X → ℕ) (xs : List X) (i : ℕ) (x : X) (align : ℕ) → i < length xs → x ≡ get_or xs i x
    → max (max (f x) align) (largest (map f (drop (i + 1) xs))) ≡ max align (largest (map f (drop i xs)))
member_more f xs i x align below is =
    turned align (f x) (largest (map f (drop (i + 1) xs)))
    ∙ ap (λ l. max align (largest (map f l))) (ap (λ y. y ∷ drop (i + 1) xs) is ∙ sym (drop_more xs i x below))

pub member_end : {X : Type 0} (f : X → ℕ) (xs : List X) (i : ℕ) (align : ℕ) → 1 ≤ align → length xs ≤ i
    → max align (largest (map f (drop i xs))) ≡ align
member_end f xs i align some past = ap (λ l. max align (largest (map f l))) (drop_all i xs past) ∙ max_one align some

-- ## Arms

abbrev pub arm_largest : (ℕ → ℕ) → Arm → ℕ
arm_largest f a = largest (map f (arm_type a))

abbrev pub arms_largest : (ℕ → ℕ) → List Arm → ℕ
arms_largest f arms = largest (map f (arm_types arms))

pub types_both : (f : ℕ → ℕ) (xs ys : List ℕ) → largest (map f (xs ++ ys)) ≡ max (largest (map f xs)) (largest (map f ys))
types_both f xs ys = ap largest (map-append f xs ys) ∙ largest_both (map f xs) (map f ys)

pub arm_more : (f : ℕ → ℕ) (arms : List Arm) (i : ℕ) (a : Arm) (align : ℕ) → i < length arms → a ≡ get_or arms i a
    → max (max (arm_largest f a) align) (arms_largest f (drop (i + 1) arms)) ≡ max align (arms_largest f (drop i arms))
arm_more f arms i a align below is =
    turned align (arm_largest f a) (arms_largest f (drop (i + 1) arms))
    ∙ ap (max align) (sym (types_both f (arm_type a) (arm_types (drop (i + 1) arms))))
    ∙ ap (λ l. max align (arms_largest f l)) (ap (λ b. b ∷ drop (i + 1) arms) is ∙ sym (drop_more arms i a below))

pub arm_end : (f : ℕ → ℕ) (arms : List Arm) (i : ℕ) (align : ℕ) → 1 ≤ align → length arms ≤ i → max align (arms_largest f (drop i arms)) ≡ align
arm_end f arms i align some past = ap (λ l. max align (arms_largest f l)) (drop_all i arms past) ∙ max_one align some

-- one arm before an alignment
pub arm_before : (n align : ℕ) → 1 ≤ align → max n align ≡ max (max n 1) align
arm_before n align some = sym (max_assoc n 1 align ∙ ap (max n) (one_max align some))

-- no default
pub no_default : (f : ℕ → ℕ) (xs : List ℕ) → largest (map f xs) ≡ largest (map f (xs ++ []))
no_default f xs = ap (λ l. largest (map f l)) (sym (append-nil xs))

-- a default after other arms
pub default_behind : (f : ℕ → ℕ) (xs ys : List ℕ) → max (largest (map f ys)) (largest (map f xs)) ≡ largest (map f (xs ++ ys))
default_behind f xs ys = max_comm (largest (map f ys)) (largest (map f xs)) ∙ sym (types_both f xs ys)
