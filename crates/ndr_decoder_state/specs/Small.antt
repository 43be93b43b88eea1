-- Numbers of members, and agreements of pending referents. Each fact has one proof at most, as what holds of every value of a type has to.
use lib.Dec.{T_prop}
use Rattle.std.specs.Prelude.{ℕ, ◌+◌, ◌≤◌, ℤ, ◌≤ℤ◌, List}
use Rattle.std.specs.List.{AllByRecursion, AllByRecursion-prop}
use Rattle.std.specs.Coded.{le_prop, ×_prop, Unit-prop}
use Rattle.nd_flat.specs.FlatForm.{IsKeepableNumber}
use Rattle.ndr_decoder_laws.specs.declared.first.First.{First}
use Rattle.ndr_decoder_laws.specs.declared.first.First.TheVariants as first
use Rattle.ndr_decoder_state.specs.declared.machine.Owed.{Owed}

-- a number that is kept of a member is one that a node can keep
abbrev pub IsSmall : First → Type 0
IsSmall (first.Number z) = IsKeepableNumber z
IsSmall _ = Unit {0}

order-prop : (a b : ℤ) → IsProp (a ≤ℤ b)
order-prop a b = λ x y i. record { le = T_prop _ x.le y.le i }

pub IsSmall-prop : (x : First) → IsProp (IsSmall x)
IsSmall-prop (first.Number z) = ×_prop (order-prop _ _) (order-prop _ _)
IsSmall-prop _ = Unit-prop

pub AreSmall-prop : (xs : List First) → IsProp (AllByRecursion IsSmall xs)
AreSmall-prop xs = AllByRecursion-prop IsSmall IsSmall-prop xs

-- the agreements of each pending referent are among so many
pub AreWithin-prop : (n : ℕ) (os : List Owed) → IsProp (AllByRecursion (λ (o : Owed). o.from + o.len ≤ n) os)
AreWithin-prop n os = AllByRecursion-prop (λ (o : Owed). o.from + o.len ≤ n) (λ o. le_prop) os
