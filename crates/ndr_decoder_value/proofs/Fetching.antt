-- What the intake answers, in terms of what a step wants.
-- `w` is what it wants, `n` how many octets were asked for, `os` those that came.
use Rattle.std.proofs.Common.{◌≡◌, ◌≤◌, ◌<◌, ℕ, ◌+◌, ◌-◌, ◌^◌, List, length, min, Result, Ok, Err, IfOk, IfErr, IsErrOf, ◌⊎◌, inl, inr, refl, ◌∙◌, subst, arith}
use Rattle.std.proofs.lemmas.Bool.{cases_lt}
use Rattle.nd_base.specs.declared.TheConstants.{STREAM_LIMIT}
use Rattle.nd_base.specs.Over.{SourceOver}
use Rattle.nd_base.specs.declared.intake.IntakeFault.{IntakeFault}
use Rattle.nd_base.specs.declared.intake.IntakeFault.TheVariants as intake
use Rattle.nd_base.specs.Intake.{IsItemFault}
use Rattle.ndr_decoder_laws.specs.steps.Steps.{Want, no_octets, gap_of, item_of}
use Rattle.ndr_decoder_laws.specs.steps.Good.{HasOctets, IsCut}
use Rattle.ndr_decoder_value.specs.declared.steps.Want.TheVariants as want
use Rattle.ndr_decoder_value.specs.Wanting.{Wants}
use Rattle.ndr_decoder_value.specs.Reaching.{Fetches, stream_answer}

-- ## Numbers

same_item : (n m : ℕ) → want.Item n ≡ want.Item m → n ≡ m
same_item n m e = cc

limit_fits : STREAM_LIMIT < 2 ^ 32 - 1
limit_fits = omega arith

-- ## Gaps

-- ## Items

item_came : (w : Want) (n at : ℕ) (os : List ℕ) → Wants w (want.Item n) → length os ≡ n → at + n ≤ STREAM_LIMIT → HasOctets w os at
item_came no_octets n at os e all within = cc
item_came (gap_of m) n at os e all within = cc
item_came (item_of m) n at os e all within =
    let z : n ≡ min m (2 ^ 32 - 1) = same_item n (min m (2 ^ 32 - 1)) e in
    let fits : STREAM_LIMIT < 2 ^ 32 - 1 = limit_fits in
    let same : n ≡ m = omega (arith, z, within, fits) in
    (all ∙ same, subst (λ k. at + k ≤ STREAM_LIMIT) same within)

item_cut : (w : Want) (n at : ℕ) (os : List ℕ) → Wants w (want.Item n) → length os < n → at + n ≤ STREAM_LIMIT → IsCut w os at
item_cut no_octets n at os e fewer within = cc
item_cut (gap_of m) n at os e fewer within = cc
item_cut (item_of m) n at os e fewer within =
    let z : n ≡ min m (2 ^ 32 - 1) = same_item n (min m (2 ^ 32 - 1)) e in
    let fits : STREAM_LIMIT < 2 ^ 32 - 1 = limit_fits in
    let same : n ≡ m = omega (arith, z, within, fits) in
    (subst (λ k. length os < k) same fewer, subst (λ k. at + k ≤ STREAM_LIMIT) same within)

item_long : (w : Want) (n at : ℕ) (s : SourceOver) (os : List ℕ) → Wants w (want.Item n) → IsItemFault s at n os intake.TooLong → Fetches w at s os (stream_answer (Err intake.TooLong))
item_long no_octets n at s os e fault = cc
item_long (gap_of m) n at s os e fault = cc
item_long (item_of m) n at s os e fault =
    let z : n ≡ min m (2 ^ 32 - 1) = same_item n (min m (2 ^ 32 - 1)) e in
    let past : STREAM_LIMIT < at + n = fault.past in
    (omega (arith, z, past), (fault.none, refl))

-- a source that has ended or failed did so within the limit
ended_within : (n at : ℕ) → (r : Result (Unit {0}) IntakeFault) → (IsErrOf r intake.TooLong → ⊥) → (STREAM_LIMIT < at + n → IsErrOf r intake.TooLong) → at + n ≤ STREAM_LIMIT
ended_within n at r other long = by_test (cases_lt STREAM_LIMIT (at + n))
  where
    by_test : (STREAM_LIMIT < at + n) ⊎ (at + n ≤ STREAM_LIMIT) → at + n ≤ STREAM_LIMIT
    by_test (inl past) = absurd (other (long past))
    by_test (inr within) = within

abbrev truncated : ℕ → Result (Unit {0}) IntakeFault
truncated place = Err (intake.Truncated place)

abbrev failed : Result (Unit {0}) IntakeFault
failed = Err intake.ReadFault

is_truncated : (place : ℕ) → IsErrOf (truncated place) intake.TooLong → ⊥
is_truncated place e = cc

is_failed : IsErrOf failed intake.TooLong → ⊥
is_failed e = cc

pub item_fetched : (w : Want) (n at : ℕ) (s : SourceOver) (os : List ℕ) (r : Result (Unit {0}) IntakeFault) → Wants w (want.Item n) → IfOk r (λ _. length os ≡ n)
    → IfOk r (λ _. at + n ≤ STREAM_LIMIT) → (STREAM_LIMIT < at + n → IsErrOf r intake.TooLong) → IfErr r (IsItemFault s at n os) → Fetches w at s os (stream_answer r)
item_fetched w n at s os (Ok u) e all within long fault = item_came w n at os e all within
item_fetched w n at s os (Err intake.Memory) e all within long fault = tt
item_fetched w n at s os (Err intake.ReadFault) e all within long fault = (item_cut w n at os e fault.fewer (ended_within n at failed is_failed long), fault.why)
item_fetched w n at s os (Err intake.TooLong) e all within long fault = item_long w n at s os e fault
item_fetched w n at s os (Err (intake.Truncated place)) e all within long fault =
    (item_cut w n at os e fault.fewer (ended_within n at (truncated place) (is_truncated place) long), (fault.why.there, (fault.why.ended, fault.why.none_left)))

-- ## Places
