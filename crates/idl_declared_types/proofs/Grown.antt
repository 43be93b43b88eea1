-- Types that get numbers one by one, where they are needed first.
use Rattle.std.proofs.Common.{◌≡◌, ◌+◌, Bool, true, false, not, ◌||◌, ◌&&◌, List, [], ◌∷◌, ◌++◌, map, refl, sym, ap, ap₂, ◌∙◌, subst, append-nil, append_assoc, true≢false}
use Rattle.std.specs.List.{list_any, list_all}
use Rattle.std.proofs.lemmas.List.{map-append}
use Rattle.idl_rule_definitions.specs.Nodes.{Construct}
use Rattle.idl_rule_definitions.specs.Types.{IdlType, Void, Handle, ContextHandle, Basic, Struct, Union, Enum, Array, Text, Pointer, Pipe}
use Rattle.idl_rule_definitions.specs.Scene.{Scene}
use Rattle.idl_rule_definitions.specs.Numbering.{Needed, needed, built, has_own_number, same_type, first_needed, needed_types, own_types}
use Rattle.idl_declared_types.specs.SeenNumbers.{has_number, grown_by, grown, is_settled, IsClosed}
use Rattle.idl_rule_definitions.proofs.Equal.{type_is}
use Rattle.std.proofs.lemmas.Bool.{and_parts as both, or_right as right, or_left as left, and_from}
use Rattle.std.proofs.Math.Bool.{or-false}
use Rattle.idl_rule_definitions.proofs.Needed.{itself}

pub same_turned : (t u : IdlType) → same_type t u ≡ same_type u t
same_turned t u = by (same_type t u) (same_type u t) refl refl where
  by : (a b : Bool) → same_type t u ≡ a → same_type u t ≡ b → same_type t u ≡ same_type u t
  by true b e f = ap₂ same_type (type_is t u e) (sym (type_is t u e))
  by false true e f = ap₂ same_type (sym (type_is u t f)) (type_is u t f)
  by false false e f = e ∙ sym f

any_more : {X : Type 0} (p : X → Bool) (xs ys : List X) → list_any p (xs ++ ys) ≡ (list_any p xs || list_any p ys)
any_more p [] ys = refl
any_more p (x ∷ xs) ys = ap (λ b. p x || b) (any_more p xs ys) ∙ or_or (p x) (list_any p xs) (list_any p ys) where
  or_or : (a b c : Bool) → (a || (b || c)) ≡ ((a || b) || c)
  or_or true b c = refl
  or_or false b c = refl

pub or_turned : (a b : Bool) → (a || b) ≡ (b || a)
or_turned true true = refl
or_turned true false = refl
or_turned false true = refl
or_turned false false = refl

pub has_more : (firsts : List Needed) (n : Needed) (t : IdlType) → has_number (firsts ++ n ∷ []) t ≡ (has_number firsts t || same_type n.type t)
has_more firsts n t = any_more (λ m. same_type m.type t) firsts (n ∷ []) ∙ ap (λ b. has_number firsts t || b) (or-false (same_type n.type t))

-- the types with numbers, with one more or without it
abbrev pub with_one : Bool → List Needed → Needed → List Needed
with_one b firsts n = firsts ++ elim b [ true ↦ n ∷ [] | false ↦ [] ]

-- those that are needed first are got one by one
pub grown_is : (before : List IdlType) (firsts ns : List Needed) → ((t : IdlType) → list_any (same_type t) before ≡ has_number firsts t)
    → firsts ++ first_needed before ns ≡ grown firsts ns
grown_is before firsts [] h = append-nil firsts
grown_is before firsts (n ∷ ns) h =
    by (has_own_number n.type && not (list_any (same_type n.type) before)) refl (grown_is (n.type ∷ before) (firsts ++ n ∷ []) ns more) (grown_is before firsts ns h)
    ∙ ap (λ b. grown (with_one (has_own_number n.type && not b) firsts n) ns) (h n.type) where
      more : (t : IdlType) → list_any (same_type t) (n.type ∷ before) ≡ has_number (firsts ++ n ∷ []) t
      more t = ap₂ (λ a b. a || b) (same_turned t n.type) (h t) ∙ or_turned (same_type n.type t) (has_number firsts t) ∙ sym (has_more firsts n t)

      by : (b : Bool) → (has_own_number n.type && not (list_any (same_type n.type) before)) ≡ b
          → (firsts ++ n ∷ []) ++ first_needed (n.type ∷ before) ns ≡ grown (firsts ++ n ∷ []) ns
          → firsts ++ first_needed before ns ≡ grown firsts ns
          → firsts ++ first_needed before (n ∷ ns) ≡ grown (with_one (has_own_number n.type && not (list_any (same_type n.type) before)) firsts n) ns
      by true e one none =
          ap (λ b. firsts ++ elim b [ true ↦ n ∷ first_needed (n.type ∷ before) ns | false ↦ first_needed before ns ]) e
          ∙ sym (append_assoc firsts (n ∷ []) (first_needed (n.type ∷ before) ns))
          ∙ one
          ∙ sym (ap (λ b. grown (with_one b firsts n) ns) e)
      by false e one none =
          ap (λ b. firsts ++ elim b [ true ↦ n ∷ first_needed (n.type ∷ before) ns | false ↦ first_needed before ns ]) e
          ∙ none
          ∙ sym (ap (λ b. grown (with_one b firsts n) ns) e ∙ ap (λ l. grown l ns) (append-nil firsts))

pub own_grown : (s : Scene) → own_types s ≡ grown [] (needed_types s)
unfolding own_types
own_grown s = grown_is [] [] (needed_types s) (λ t. refl)

pub grown-append : (firsts xs ys : List Needed) → grown firsts (xs ++ ys) ≡ grown (grown firsts xs) ys
grown-append firsts [] ys = refl
grown-append firsts (x ∷ xs) ys = grown-append (grown_by firsts x) xs ys

-- ## What has a number keeps it

settled_by : (a b c : Bool) → (a || b) ≡ true → (b ≡ true → c ≡ true) → (a || c) ≡ true
settled_by true b c h k = refl
settled_by false b c h k = k h

has_in_more : (firsts ys : List Needed) (t : IdlType) → has_number firsts t ≡ true → has_number (firsts ++ ys) t ≡ true
has_in_more firsts ys t h = any_more (λ m. same_type m.type t) firsts ys ∙ left (has_number firsts t) (has_number ys t) h

has_kept : (firsts ns : List Needed) (t : IdlType) → has_number firsts t ≡ true → has_number (grown firsts ns) t ≡ true
has_kept firsts [] t h = h
has_kept firsts (n ∷ ns) t h = has_kept (grown_by firsts n) ns t (has_in_more firsts _ t h)

settled_kept : (firsts ns : List Needed) (t : IdlType) → is_settled firsts t ≡ true → is_settled (grown firsts ns) t ≡ true
settled_kept firsts ns t h = settled_by (not (has_own_number t)) (has_number firsts t) (has_number (grown firsts ns) t) h (has_kept firsts ns t)

all_kept : (firsts ns : List Needed) (ts : List IdlType) → list_all (is_settled firsts) ts ≡ true → list_all (is_settled (grown firsts ns)) ts ≡ true
all_kept firsts ns [] h = refl
all_kept firsts ns (t ∷ ts) h =
    let e = both (is_settled firsts t) (list_all (is_settled firsts) ts) h in
    and_from (is_settled (grown firsts ns) t) (list_all (is_settled (grown firsts ns)) ts) (settled_kept firsts ns t e.0) (all_kept firsts ns ts e.1)

-- ## What is settled adds nothing

needs_none : (a b : Bool) → (not a || b) ≡ true → (a && not b) ≡ false
needs_none true true h = refl
needs_none true false h = absurd (true≢false (sym h))
needs_none false b h = refl

pub nothing_more : (firsts : List Needed) (n : Needed) → is_settled firsts n.type ≡ true → grown_by firsts n ≡ firsts
nothing_more firsts n h = ap (λ b. with_one b firsts n) (needs_none (has_own_number n.type) (has_number firsts n.type) h) ∙ append-nil firsts

pub one_more : (firsts : List Needed) (n : Needed) → has_own_number n.type ≡ true → has_number firsts n.type ≡ false → grown_by firsts n ≡ firsts ++ n ∷ []
one_more firsts n h k = ap₂ (λ a b. with_one (a && not b) firsts n) h k

pub nothing_all : (firsts : List Needed) (c : Construct) (ts : List IdlType) → list_all (is_settled firsts) ts ≡ true → grown firsts (map (needed c) ts) ≡ firsts
nothing_all firsts c [] h = refl
nothing_all firsts c (t ∷ ts) h =
    let e = both (is_settled firsts t) (list_all (is_settled firsts) ts) h in
    ap (λ l. grown l (map (needed c) ts)) (nothing_more firsts (needed c t) e.0) ∙ nothing_all firsts c ts e.1

-- ## A type after those of which it is made

settled_now : (firsts : List Needed) (n : Needed) → is_settled (grown_by firsts n) n.type ≡ true
settled_now firsts n = by (has_own_number n.type) (has_number firsts n.type) refl refl where
  by : (a b : Bool) → has_own_number n.type ≡ a → has_number firsts n.type ≡ b → is_settled (grown_by firsts n) n.type ≡ true
  by false b e f = ap (λ a. not a || has_number (grown_by firsts n) n.type) e
  by true true e f = right (not (has_own_number n.type)) (has_number (grown_by firsts n) n.type) (has_in_more firsts _ n.type f)
  by true false e f = right (not (has_own_number n.type)) (has_number (grown_by firsts n) n.type)
      (ap (λ l. has_number l n.type) (one_more firsts n e f) ∙ has_more firsts n n.type ∙ right (has_number firsts n.type) (same_type n.type n.type) (itself n.type))

all_last : (p : IdlType → Bool) (ts : List IdlType) (t : IdlType) → list_all p ts ≡ true → p t ≡ true → list_all p (ts ++ t ∷ []) ≡ true
all_last p [] t h k = and_from (p t) true k refl
all_last p (u ∷ ts) t h k =
    let e = both (p u) (list_all p ts) h in
    and_from (p u) (list_all p (ts ++ t ∷ [])) e.0 (all_last p ts t e.1 k)

-- a type and those of which it is made have the numbers that they need, and so it is of all types with numbers
record Done (firsts : List Needed) (t : IdlType) : Type 0 where
  closed : IsClosed firsts
  settled : list_all (is_settled firsts) (built t) ≡ true

behind : (firsts : List Needed) (c : Construct) (inner : List IdlType) (t : IdlType) → built t ≡ inner ++ t ∷ [] → IsClosed firsts → list_all (is_settled firsts) inner ≡ true
    → Done (grown_by firsts (needed c t)) t
behind firsts c inner t is closed settled = record { closed = all; settled = here } where
  n : Needed
  n = needed c t

  here : list_all (is_settled (grown_by firsts (needed c t))) (built t) ≡ true
  here = ap (list_all (is_settled (grown_by firsts (needed c t)))) is
      ∙ all_last (is_settled (grown_by firsts (needed c t))) inner t (all_kept firsts (needed c t ∷ []) inner settled) (settled_now firsts (needed c t))

  old : (u : IdlType) → has_number firsts u ≡ true → list_all (is_settled (grown_by firsts (needed c t))) (built u) ≡ true
  old u h = all_kept firsts (needed c t ∷ []) (built u) (closed u h)

  new : (u : IdlType) → same_type t u ≡ true → list_all (is_settled (grown_by firsts (needed c t))) (built u) ≡ true
  new u h = subst (λ v. list_all (is_settled (grown_by firsts (needed c t))) (built v) ≡ true) (type_is t u h) here

  either : (u : IdlType) (b d : Bool) → has_number firsts u ≡ b → same_type t u ≡ d → (b || d) ≡ true → list_all (is_settled (grown_by firsts (needed c t))) (built u) ≡ true
  either u true d e f h = old u e
  either u false d e f h = new u (f ∙ h)

  one : (u : IdlType) (b : Bool) → has_number (with_one b firsts (needed c t)) u ≡ true → list_all (is_settled (grown_by firsts (needed c t))) (built u) ≡ true
  one u false h = old u (ap (λ l. has_number l u) (sym (append-nil firsts)) ∙ h)
  one u true h = either u (has_number firsts u) (same_type t u) refl refl (sym (has_more firsts (needed c t) u) ∙ h)

  all : IsClosed (grown_by firsts (needed c t))
  all u h = one u (has_own_number t && not (has_number firsts t)) h

made_of : (firsts : List Needed) (c : Construct) (inner t : IdlType) → built t ≡ built inner ++ t ∷ [] → Done (grown firsts (map (needed c) (built inner))) inner
    → Done (grown firsts (map (needed c) (built t))) t
made_of firsts c inner t is d =
    subst (λ l. Done l t)
    (sym (ap (λ l. grown firsts (map (needed c) l)) is ∙ ap (grown firsts) (map-append (needed c) (built inner) (t ∷ [])) ∙ grown-append firsts (map (needed c) (built inner)) (needed c t ∷ [])))
    (behind (grown firsts (map (needed c) (built inner))) c (built inner) t is d.closed d.settled)

done : (firsts : List Needed) (c : Construct) (t : IdlType) → IsClosed firsts → Done (grown firsts (map (needed c) (built t))) t
done firsts c Void h = behind firsts c [] Void refl h refl
done firsts c Handle h = behind firsts c [] Handle refl h refl
done firsts c ContextHandle h = behind firsts c [] ContextHandle refl h refl
done firsts c (Basic p) h = behind firsts c [] (Basic p) refl h refl
done firsts c (Struct p) h = behind firsts c [] (Struct p) refl h refl
done firsts c (Union p) h = behind firsts c [] (Union p) refl h refl
done firsts c (Enum p) h = behind firsts c [] (Enum p) refl h refl
done firsts c (Array t m v) h = made_of firsts c t (Array t m v) refl (done firsts c t h)
done firsts c (Text t m) h = made_of firsts c t (Text t m) refl (done firsts c t h)
done firsts c (Pointer d t) h = made_of firsts c t (Pointer d t) refl (done firsts c t h)
done firsts c (Pipe t) h = made_of firsts c t (Pipe t) refl (done firsts c t h)

pub closed_behind : (firsts : List Needed) (c : Construct) (t : IdlType) → IsClosed firsts → IsClosed (grown firsts (map (needed c) (built t)))
closed_behind firsts c t h = (done firsts c t h).closed

-- ## Each has a number of its own

abbrev pub are_own : List Needed → Bool
are_own firsts = list_all (λ n. has_own_number n.type) firsts

pub all_more : {X : Type 0} (p : X → Bool) (xs : List X) (x : X) → list_all p xs ≡ true → p x ≡ true → list_all p (xs ++ x ∷ []) ≡ true
all_more p [] x h k = and_from (p x) true k refl
all_more p (y ∷ xs) x h k =
    let e = both (p y) (list_all p xs) h in
    and_from (p y) (list_all p (xs ++ x ∷ [])) e.0 (all_more p xs x e.1 k)

pub all_own : (firsts ns : List Needed) → are_own firsts ≡ true → are_own (grown firsts ns) ≡ true
all_own firsts [] h = h
all_own firsts (n ∷ ns) h = all_own (grown_by firsts n) ns (by (has_own_number n.type) (has_number firsts n.type) refl) where
  by : (a b : Bool) → has_own_number n.type ≡ a → are_own (with_one (a && not b) firsts n) ≡ true
  by false b e = ap are_own (append-nil firsts) ∙ h
  by true true e = ap are_own (append-nil firsts) ∙ h
  by true false e = all_more (λ m. has_own_number m.type) firsts n h e
