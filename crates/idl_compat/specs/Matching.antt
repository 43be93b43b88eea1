-- Types and operations of two interfaces, matched by the pairs that they ask for.
-- `s` is what is placed before a call and `s'` after it, `m` is a list of pairs, `P` a condition on such lists, `k` is how many operations are
-- matched.
use Rattle.std.specs.Prelude.{◌≡◌, ℕ, suc, ◌<◌, Bool, true, false, List, ◌++◌, Option, Some, None, length, slice_get}
use Rattle.nd_types.specs.declared.interface.Interface.{Interface}
use Rattle.nd_types.specs.Table.{Table, type_at}
use Rattle.idl_compat.specs.declared.pairs.TypePair.{TypePair}
use Rattle.idl_compat.specs.declared.placing.Pairing.{Pairing}
use Rattle.idl_compat.specs.Comparison.{Alike, AlikeTypes, AllAlike, AlikeFound, IsPair, IsOneToOne, IsFirst}
use Rattle.idl_compat.specs.Asking.{Includes}
use Rattle.idl_compat.specs.Placing.{IsPaired}

-- a one-to-one list of pairs of types that are there
pub record IsPossible (s : Pairing) (m : List TypePair) : Type 0 where
  pub one_to_one : IsOneToOne m
  pub known : (t u : ℕ) → IsPair m t u → (t < length s.forward) × (u < length s.backward)

-- the pairs meet a condition, with no others added but such as each list of pairs has that has the earlier ones and meets it
pub record HasMet (P : List TypePair → Type 0) (s s' : Pairing) : Type 0 where
  pub paired : IsPaired s'
  pub as_many_old : length s'.forward ≡ length s.forward
  pub as_many_new : length s'.backward ≡ length s.backward
  pub added : (w : List TypePair) × (s'.pairs ≡ s.pairs ++ w)
  pub met : P s'.pairs
  pub forced : (m : List TypePair) → Includes m s.pairs → P m → Includes m s'.pairs

-- The pairs meet a condition; or no one-to-one list of pairs of types that are there has the earlier ones and meets it.
abbrev pub Meets : (List TypePair → Type 0) → Pairing → Pairing → Bool → Type 0
Meets P s s' true = HasMet P s s'
Meets P s s' false = (m : List TypePair) → IsPossible s m → Includes m s.pairs → P m → ⊥

-- the types of the first pairs are alike by all of them
abbrev pub AreExpanded : Table → Table → List TypePair → ℕ → Type 0
AreExpanded old new m n =
    (i : ℕ) (p : TypePair) → i < n → slice_get m i ≡ Some p → AlikeTypes (IsPair m) (type_at old p.old.0) (type_at new p.new.0)

-- the first k operations are alike by the pairs, which are on each list of pairs by which they are
pub record IsMatched (old new : Interface) (k : ℕ) (s : Pairing) : Type 0 where
  pub paired : IsPaired s
  pub as_many_old : length s.forward ≡ length old.types
  pub as_many_new : length s.backward ≡ length new.types
  pub alike : Alike old new s.pairs k
  pub forced : (m : List TypePair) → Alike old new m k → Includes m s.pairs

-- one operation more, or no pairs make as many alike
abbrev pub MatchesOne : Interface → Interface → ℕ → Pairing → Bool → Type 0
MatchesOne old new k s true = IsMatched old new (suc k) s
MatchesOne old new k s false = (m : List TypePair) → Alike old new m (suc k) → ⊥

-- all old operations, or the first that no pairs make alike with those before it
abbrev pub MatchesAll : Interface → Interface → Pairing → Option ℕ → Type 0
MatchesAll old new s None = Alike old new s.pairs (length old.operations)
MatchesAll old new s (Some k) = IsFirst old new k
