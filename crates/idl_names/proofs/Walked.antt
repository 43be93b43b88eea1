-- Steps one after the other.
use Rattle.std.proofs.Common.{◌≡◌, ℕ, ◌+◌, ◌<◌, ◌≤◌, false, refl, ap, sym, subst, ◌∙◌, List, [], ◌∷◌, ◌++◌, map, drop, length, get_or, Result, Ok, Err}
use Rattle.std.specs.List.{flat_map}
use Rattle.std.specs.Result.{IsErrAnd}
use Rattle.std.proofs.lemmas.List.{drop_more, drop_all}
use Rattle.std.proofs.lemmas.List.Concat.{flat_map-cons}
use Rattle.idl_scope.specs.declared.name_fault.NameFault.{NameFault}
use Rattle.idl_scope.specs.Steps.{Step}
use Rattle.idl_scope.specs.Known.{Known, passed, and_then, walked}
use Rattle.idl_scope.specs.Kept.{is_memory, IsRight}

pub append_is : (file : ℕ) (k : Known) (a b : List Step) → walked file k (a ++ b) ≡ and_then (walked file k a) (λ next. walked file next b)
append_is file k [] b = refl
append_is file k (s ∷ a) b = by (passed file k s) (λ next. append_is file next a b)
  where
    by : (r : Result Known NameFault) → ((next : Known) → walked file next (a ++ b) ≡ and_then (walked file next a) (λ n. walked file n b))
        → and_then r (λ next. walked file next (a ++ b)) ≡ and_then (and_then r (λ next. walked file next a)) (λ n. walked file n b)
    by (Ok next) more = more next
    by (Err f) more = refl

-- after steps that are passed
pub goes_on : (file : ℕ) (k n : Known) (a b : List Step) → walked file k a ≡ Ok n → walked file k (a ++ b) ≡ walked file n b
goes_on file k n a b e = append_is file k a b ∙ ap (λ r. and_then r (λ next. walked file next b)) e

-- a fault ends the walk
pub stops : (file : ℕ) (k : Known) (a b : List Step) (f : NameFault) → walked file k a ≡ Err f → walked file k (a ++ b) ≡ Err f
stops file k a b f e = append_is file k a b ∙ ap (λ r. and_then r (λ next. walked file next b)) e

-- what was answered on the steps after them is answered on all
pub right_on : {A : Type 0} (file : ℕ) (k n last : Known) (a b : List Step) (r : Result A NameFault) → walked file k a ≡ Ok n → IsRight last r (walked file n b)
    → IsRight last r (walked file k (a ++ b))
right_on file k n last a b (Ok x) e t = goes_on file k n a b e ∙ t
right_on file k n last a b (Err f) e t = λ h. goes_on file k n a b e ∙ t h

pub right_stop : (file : ℕ) (k : Known) (a b : List Step) (f : NameFault) → (is_memory f ≡ false → walked file k a ≡ Err f) → is_memory f ≡ false → walked file k (a ++ b) ≡ Err f
right_stop file k a b f t h = stops file k a b f (t h)

-- a fault of steps after others
pub later_stop : (file : ℕ) (k n : Known) (a b : List Step) (f : NameFault) → walked file k a ≡ Ok n → (is_memory f ≡ false → walked file n b ≡ Err f) → is_memory f ≡ false
    → walked file k (a ++ b) ≡ Err f
later_stop file k n a b f e t h = goes_on file k n a b e ∙ t h

-- steps and others after them, all passed
pub both_on : (file : ℕ) (k n m : Known) (a b : List Step) → walked file k a ≡ Ok n → walked file n b ≡ Ok m → walked file k (a ++ b) ≡ Ok m
both_on file k n m a b e d = goes_on file k n a b e ∙ d

pub told_fault : {A : Type 0} (r : Result A NameFault) (f : NameFault) → IsErrAnd r (λ y. y ≡ f) → r ≡ Err f
told_fault (Ok x) f h = absurd h
told_fault (Err y) f h = ap (λ e. Err e) h

-- a fault that was passed on
pub at_fault : {A : Type 0} (last : Known) (r : Result A NameFault) (f : NameFault) (w : Result Known NameFault) → r ≡ Err f → (is_memory f ≡ false → w ≡ Err f) → IsRight last r w
at_fault {A = A} last r f w e t = subst (λ (q : Result A NameFault). IsRight last q w) (sym e) t

-- ## Items of a list, from an index on

module _ {X Y : Type 0} (see : X → Y) (steps : Y → List Step) (xs : List X) where
  abbrev pub from : ℕ → List Step
  from i = flat_map steps (map see (drop i xs))

  pub here : (i : ℕ) (x : X) → i < length xs → x ≡ get_or xs i x → from i ≡ steps (see x) ++ from (i + 1)
  here i x below is =
      ap (λ l. flat_map steps (map see l)) (drop_more xs i x below ∙ ap (λ y. y ∷ drop (i + 1) xs) (sym is))
      ∙ flat_map-cons steps (see x) (map see (drop (i + 1) xs))

  pub next_item : (file : ℕ) (k n : Known) (i : ℕ) (x : X) → i < length xs → x ≡ get_or xs i x → walked file k (steps (see x)) ≡ Ok n
      → walked file n (from (i + 1)) ≡ walked file k (from i)
  next_item file k n i x below is e = sym (ap (λ l. walked file k l) (here i x below is) ∙ goes_on file k n (steps (see x)) (from (i + 1)) e)

  pub bad_item : (file : ℕ) (k : Known) (i : ℕ) (x : X) (f : NameFault) → i < length xs → x ≡ get_or xs i x → walked file k (steps (see x)) ≡ Err f
      → walked file k (from i) ≡ Err f
  bad_item file k i x f below is e = ap (λ l. walked file k l) (here i x below is) ∙ stops file k (steps (see x)) (from (i + 1)) f e

  pub no_item : (file : ℕ) (k : Known) (i : ℕ) → length xs ≤ i → walked file k (from i) ≡ Ok k
  no_item file k i past = ap (λ l. walked file k (flat_map steps (map see l))) (drop_all i xs past)

  -- the fault of an item is that of all
  pub item_fault : {A : Type 0} (file : ℕ) (k last : Known) (i : ℕ) (x : X) (r : Result A NameFault) (f : NameFault) (whole : Result Known NameFault) → i < length xs → x ≡ get_or xs i x
      → walked file k (from i) ≡ whole → r ≡ Err f → (is_memory f ≡ false → walked file k (steps (see x)) ≡ Err f) → IsRight last r whole
  item_fault file k last i x r f whole below is all e t = at_fault last r f whole e (λ h. sym all ∙ bad_item file k i x f below is (t h))

-- ## Items of a list whose steps depend on those before them

module _ {X S : Type 0} (rest : S → List X → List Step) (one : S → X → List Step) (next : S → X → S) (cons : (s : S) (x : X) (more : List X) → rest s (x ∷ more) ≡ one s x ++ rest (next s x) more)
    (xs : List X) where
  pub left : (s : S) (i : ℕ) (x : X) → i < length xs → x ≡ get_or xs i x → rest s (drop i xs) ≡ one s x ++ rest (next s x) (drop (i + 1) xs)
  left s i x below is = ap (λ l. rest s l) (drop_more xs i x below ∙ ap (λ y. y ∷ drop (i + 1) xs) (sym is)) ∙ cons s x (drop (i + 1) xs)

  pub turn : (file : ℕ) (k n : Known) (s : S) (i : ℕ) (x : X) → i < length xs → x ≡ get_or xs i x → walked file k (one s x) ≡ Ok n
      → walked file n (rest (next s x) (drop (i + 1) xs)) ≡ walked file k (rest s (drop i xs))
  turn file k n s i x below is e = sym (ap (λ l. walked file k l) (left s i x below is) ∙ goes_on file k n (one s x) (rest (next s x) (drop (i + 1) xs)) e)

  pub turn_fault : {A : Type 0} (file : ℕ) (k last : Known) (s : S) (i : ℕ) (x : X) (r : Result A NameFault) (f : NameFault) (whole : Result Known NameFault) → i < length xs → x ≡ get_or xs i x
      → walked file k (rest s (drop i xs)) ≡ whole → r ≡ Err f → (is_memory f ≡ false → walked file k (one s x) ≡ Err f) → IsRight last r whole
  turn_fault file k last s i x r f whole below is all e t =
      at_fault last r f whole e (λ h. sym all ∙ (ap (λ l. walked file k l) (left s i x below is) ∙ stops file k (one s x) (rest (next s x) (drop (i + 1) xs)) f (t h)))

  pub turns_end : (file : ℕ) (k : Known) (s : S) (i : ℕ) → length xs ≤ i → rest s [] ≡ [] → walked file k (rest s (drop i xs)) ≡ Ok k
  turns_end file k s i past none = ap (λ l. walked file k l) (ap (λ l. rest s l) (drop_all i xs past) ∙ none)
