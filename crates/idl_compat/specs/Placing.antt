-- Pairs of types that are placed one after the other, with the partners of each type by number.
-- `s` is what is placed before a call and `s'` after it, `t` is an old type's number, `u` a new one's, `m` a list of pairs.
use Rattle.std.specs.Prelude.{◌≡◌, ◌⊎◌, ℕ, ◌+◌, ◌<◌, List, [], ◌∷◌, ◌++◌, Option, Some, None, suc, length, slice_index_or, replicate}
use Rattle.nd_types.specs.declared.interface.Interface.{Interface}
use Rattle.idl_compat.specs.declared.pairs.TypePair.{TypePair}
use Rattle.idl_compat.specs.declared.placing.Pairing.{Pairing}
use Rattle.idl_compat.specs.declared.placing.Placing.{Placing}
use Rattle.idl_compat.specs.declared.placing.Placing.TheVariants as placing
use Rattle.idl_compat.specs.Comparison.{IsPair, IsOneToOne}
use Rattle.idl_compat.specs.Asking.{Includes}

-- how many types have no partner
abbrev pub empties : List (Option ℕ) → ℕ
empties [] = 0
empties (None ∷ os) = suc (empties os)
empties (Some u ∷ os) = empties os

-- no pairs of the types of two interfaces
pub record IsEmptyPairing (old new : Interface) (s : Pairing) : Type 0 where
  pub pairs : s.pairs ≡ []
  pub forward : s.forward ≡ replicate {A = Option ℕ} (length old.types) None
  pub backward : s.backward ≡ replicate {A = Option ℕ} (length new.types) None

-- the partners of the old types and of the new ones, by number, are those of the pairs
pub record IsPaired (s : Pairing) : Type 0 where
  pub to_new : (t u : ℕ) → IsPair s.pairs t u → slice_index_or s.forward t None ≡ Some u
  pub to_old : (t u : ℕ) → IsPair s.pairs t u → slice_index_or s.backward u None ≡ Some t
  pub of_new : (t u : ℕ) → slice_index_or s.forward t None ≡ Some u → IsPair s.pairs t u
  pub of_old : (t u : ℕ) → slice_index_or s.backward u None ≡ Some t → IsPair s.pairs t u
  pub basic : (t u : ℕ) → IsPair s.pairs t u → (t < 12) ⊎ (u < 12) → t ≡ u
  -- so there are at most as many pairs as old types
  pub room : length s.pairs + empties s.forward ≡ length s.forward

-- one pair more
pub record IsAdded (s s' : Pairing) (t u : ℕ) : Type 0 where
  pub added : s'.pairs ≡ s.pairs ++ record { old = record { 0 = t }; new = record { 0 = u } } ∷ []
  pub paired : IsPaired s'
  pub as_many_old : length s'.forward ≡ length s.forward
  pub as_many_new : length s'.backward ≡ length s.backward

-- What placing a pair comes to. A clash: nothing has changed, and the pair is on no one-to-one list of pairs of types that are there and that has
-- the earlier pairs.
abbrev pub IsPlacing : Pairing → Pairing → ℕ → ℕ → Placing → Type 0
IsPlacing s s' t u placing.Clash =
    (s' ≡ s) × ((m : List TypePair) → IsOneToOne m → Includes m s.pairs → IsPair m t u → t < length s.forward → u < length s.backward → ⊥)
IsPlacing s s' t u placing.Already = IsPair s.pairs t u × (s' ≡ s)
IsPlacing s s' t u placing.Added = IsAdded s s' t u
