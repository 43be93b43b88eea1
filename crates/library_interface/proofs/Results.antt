-- What is made of the answer of a step.
use Rattle.std.proofs.Common.{◌≡◌, ℕ, Result, Ok, Err, IfOk, IfErr, sym, subst}

-- a value that is another has what holds of that
pub same_ok : {T E : Type 0} (r : Result T E) (x : T) (P : T → Type 0) → IfOk r (λ v. v ≡ x) → P x → IfOk r P
same_ok (Ok v) x P same holds = subst P (sym same) holds
same_ok (Err e) x P same holds = tt

-- the same of a value with a number
pub both_ok : {T E : Type 0} (r : Result (T × ℕ) E) (x : T) (n : ℕ) (P : T → ℕ → Type 0) → IfOk r (λ d. (d.0 ≡ x) × (d.1 ≡ n)) → P x n → IfOk r (λ d. P d.0 d.1)
both_ok (Ok d) x n P (same, many) holds = subst (λ m. P d.0 m) (sym many) (subst (λ v. P v n) (sym same) holds)
both_ok (Err e) x n P same holds = tt

-- a fault that is another has what holds of that
pub same_err : {T E : Type 0} (r : Result T E) (fault : E) (C : E → Type 0) → IfErr r (λ e. e ≡ fault) → C fault → IfErr r C
same_err (Ok v) fault C same holds = tt
same_err (Err e) fault C same holds = subst C (sym same) holds

-- what holds in any case holds beside a value
pub any_ok : {T E : Type 0} (r : Result T E) (P : Type 0) → P → IfOk r (λ _. P)
any_ok (Ok v) P holds = holds
any_ok (Err e) P holds = tt
