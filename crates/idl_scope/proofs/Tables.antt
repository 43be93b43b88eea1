-- Tables of the program, as lists.
use Rattle.std.proofs.Common.{◌≡◌, ℕ, Bool, true, false, cond, refl, ap, ◌∙◌, List, [], ◌∷◌, ◌++◌, Some, None, Vec, Result, Ok, Err, if◌then◌else◌}
use Rattle.std.specs.Result.{MatchResult, OnOk}
use Rattle.std.specs.Str.{bytes_eq}
use Rattle.std.specs.Map.{lookup}
use Rattle.indexmap.specs.IndexMap.{insert_entry}
use Rattle.idl_scope.specs.Known.{found, put, table}

abbrev pub is_key : {A : Type 0} → List ℕ → Vec ℕ A → Bool
is_key name k = bytes_eq name k.items

pub found_is : {A X : Type 0} (name : List ℕ) (es : List (Vec ℕ A × X)) → lookup (is_key name) es ≡ found name (table es)
found_is name [] = refl
found_is name (e ∷ es) = ap (λ r. cond (bytes_eq name e.0.items) (Some e.1) r) (found_is name es)

-- what `insert` does to the entries, where keys are compared by their octets
pub put_is : {A X : Type 0} (eq : Vec ℕ A → Vec ℕ A → Bool) (k : Vec ℕ A) (x : X) → ((e : Vec ℕ A) → eq k e ≡ bytes_eq k.items e.items)
    → (es : List (Vec ℕ A × X)) → table (insert_entry eq es k x) ≡ put (table es) k.items x
put_is eq k x same [] = refl
put_is {A} {X} eq k x same (e ∷ es) = by (bytes_eq k.items e.0.items) (same e.0) (put_is eq k x same es)
  where
    by : (b : Bool) → eq k e.0 ≡ b → table (insert_entry eq es k x) ≡ put (table es) k.items x
        → table (if eq k e.0 then (e.0, x) ∷ es else e ∷ insert_entry eq es k x)
        ≡ elim b [ true ↦ (e.0.items, x) ∷ table es | false ↦ (e.0.items, e.1) ∷ put (table es) k.items x ]
    by true h more = ap (λ c. table (if c then (e.0, x) ∷ es else e ∷ insert_entry eq es k x)) h
    by false h more = ap (λ c. table (if c then (e.0, x) ∷ es else e ∷ insert_entry eq es k x)) h ∙ ap (λ r. (e.0.items, e.1) ∷ r) more

-- what is said of both answers says it of the one that is done
pub where_put : {E : Type 0} (A B : Type 0) (r : Result (Unit {0}) E) → MatchResult r (λ _. A) (λ _. B) → OnOk r A
where_put A B (Ok x) h = h
where_put A B (Err e) h = tt

-- a new name goes last
pub put_new : {X : Type 0} (es : List (List ℕ × X)) (name : List ℕ) (x : X) → found name es ≡ None → put es name x ≡ es ++ (name, x) ∷ []
put_new [] name x h = refl
put_new {X} (e ∷ es) name x h = by (bytes_eq name e.0) h (λ p. put_new es name x p)
  where
    by : (b : Bool) → cond b (Some e.1) (found name es) ≡ None → (found name es ≡ None → put es name x ≡ es ++ (name, x) ∷ [])
        → elim b [ true ↦ (e.0, x) ∷ es | false ↦ e ∷ put es name x ] ≡ e ∷ (es ++ (name, x) ∷ [])
    by true p more = absurd (cc p)
    by false p more = ap (λ r. e ∷ r) (more p)
