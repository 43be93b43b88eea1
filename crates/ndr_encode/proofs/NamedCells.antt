-- Cells that are numbered one after the other.
use Rattle.std.proofs.Common.{◌≡◌, ℕ, ◌+◌, ◌-◌, ◌<◌, ◌≤◌, zero, suc, List, [], ◌∷◌, ◌++◌, length, refl, ap, sym, ◌∙◌, subst, arith, take, get_or, append_assoc}
use Rattle.std.specs.Prelude.{slice_index_or, drop, reverse}
use Rattle.ndr_encoder_output.specs.declared.count.Named.{Named}
use Rattle.ndr_encoder_output.specs.Counting.{names_of}
use Rattle.ndr_encoder_laws.specs.turns.Turned.{cells_of}
use Rattle.ndr_encode.specs.Search.{AreWithin, IsNumbered}

pub same_default : (xs : List ℕ) (i a b : ℕ) → i < length xs → get_or xs i a ≡ get_or xs i b
same_default [] i a b l = absurd (omega (arith, l))
same_default (x ∷ xs) zero a b l = refl
same_default (x ∷ xs) (suc i) a b l = same_default xs i a b (omega (arith, l))

pub positive : (v : ℕ) → (v ≡ 0 → ⊥) → 0 < v
positive zero n = absurd (n refl)
positive (suc v) n = omega arith

-- one of the cells
pub within_at : (n : ℕ) (ds : List Named) (i : ℕ) (d : Named) → i < length ds → AreWithin n (cells_of (names_of ds)) → (0 < (slice_index_or ds i d).cell.0) × ((slice_index_or ds i d).cell.0 ≤ n)
within_at n [] i d l a = absurd (omega (arith, l))
within_at n (x ∷ xs) zero d l a = a.0
within_at n (x ∷ xs) (suc i) d l a = within_at n xs i d (omega (arith, l)) a.1

-- one cell more
take_more : (ds : List Named) (i : ℕ) (d : Named) → i < length ds → cells_of (names_of (take (i + 1) ds)) ≡ cells_of (names_of (take i ds)) ++ (slice_index_or ds i d).cell.0 ∷ []
take_more [] i d l = absurd (omega (arith, l))
take_more (x ∷ xs) zero d l = refl
take_more (x ∷ xs) (suc i) d l =
    let e : suc i + 1 ≡ suc (i + 1) = omega arith in ap (λ n. cells_of (names_of (take n (x ∷ xs)))) e ∙ ap (λ u. x.cell.0 ∷ u) (take_more xs i d (omega (arith, l)))

pub numbered_more : (n : ℕ) (names : List ℕ) (ds : List Named) (i : ℕ) (d : Named) (numbers : List ℕ) (named : ℕ) → i < length ds
    → IsNumbered n ((names ++ cells_of (names_of (take i ds))) ++ (slice_index_or ds i d).cell.0 ∷ []) numbers named
    → IsNumbered n (names ++ cells_of (names_of (take (i + 1) ds))) numbers named
numbered_more n names ds i d numbers named l x =
    subst (λ u. IsNumbered n u numbers named)
    (append_assoc names (cells_of (names_of (take i ds))) ((slice_index_or ds i d).cell.0 ∷ []) ∙ ap (λ u. names ++ u) (sym (take_more ds i d l))) x

pub turned_one : (xs : List Named) (i : ℕ) → length xs ≡ i + 1 → xs ≡ take i xs ++ reverse (drop i xs)
turned_one [] i l = absurd (omega (arith, l))
turned_one (x ∷ []) zero l = refl
turned_one (x ∷ (y ∷ ys)) zero l = absurd (omega (arith, l))
turned_one (x ∷ xs) (suc i) l = ap (λ u. x ∷ u) (turned_one xs i (omega (arith, l)))

-- all that is after a place
take_whole : (xs : List Named) → take (length xs) xs ≡ xs
take_whole [] = refl
take_whole (x ∷ xs) = ap (λ u. x ∷ u) (take_whole xs)

take_none : (n : ℕ) → take {A = Named} n [] ≡ []
take_none zero = refl
take_none (suc n) = refl

pub rest_whole : (xs : List Named) (i : ℕ) → take (length xs - i) (drop i xs) ≡ drop i xs
rest_whole xs zero = ap (λ n. take n xs) (let e : length xs - 0 ≡ length xs = omega arith in e) ∙ take_whole xs
rest_whole [] (suc i) = take_none (0 - suc i)
rest_whole (x ∷ xs) (suc i) = ap (λ n. take n (drop i xs)) (let e : suc (length xs) - suc i ≡ length xs - i = omega arith in e) ∙ rest_whole xs i
