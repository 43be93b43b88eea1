-- The last member of a struct is that at the place before the length.
use Rattle.std.proofs.Common.{◌≡◌, ℕ, zero, suc, ◌-◌, Bool, List, [], ◌∷◌, Some, ap, length, arith}
use Rattle.std.specs.List.{slice_get}
use Rattle.std.proofs.lemmas.Option.{slice_get_within, same_Some}
use Rattle.nd_types.specs.declared.types.Field.{Field}
use Rattle.nd_types.specs.Layout.{last_hoists}

last_at : (f : ℕ → Bool) (fs : List Field) (i : ℕ) (x : Field) → length fs ≡ suc i → slice_get fs i ≡ Some x → last_hoists f fs ≡ f x.of.0
last_at f [] i x n h = cc
last_at f (a ∷ []) zero x n h = ap (λ y. f y.of.0) (same_Some a x h)
last_at f (a ∷ []) (suc i) x n h = cc
last_at f (a ∷ b ∷ more) zero x n h = absurd (omega (arith, n))
last_at f (a ∷ b ∷ more) (suc i) x n h = last_at f (b ∷ more) i x (omega (arith, n)) h

pub last_by : (f : ℕ → Bool) (fs : List Field) (x : Field) → slice_get fs (length fs - 1) ≡ Some x → last_hoists f fs ≡ f x.of.0
last_by f fs x h = last_at f fs (length fs - 1) x (let below = slice_get_within fs (length fs - 1) x h in omega (arith, below)) h
