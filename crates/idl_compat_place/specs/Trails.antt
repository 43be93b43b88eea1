-- Pairs of types that are placed one after the other, each with how it was come to.
-- `s` is a trail before a call and `s'` after it, `k` and `n` are the numbers of the operation and of the part that is walked, `base` is how many
-- pairs there were before it, `p` is a pair and `g` its origin, `before` is how many pairs were there before it.
use Rattle.std.specs.Prelude.{◌≡◌, ◌⊎◌, ℕ, suc, ◌<◌, ◌≤◌, Bool, true, false, List, [], ◌∷◌, ◌++◌, length, Option, Some, None, slice_get, ⊤}
use Rattle.nd_types.specs.declared.interface.Interface.{Interface}
use Rattle.nd_types.specs.declared.types.TypeId.{TypeId}
use Rattle.nd_types.specs.declared.types.TypeDef.{TypeDef}
use Rattle.nd_types.specs.declared.types.Param.{Param}
use Rattle.nd_types.specs.declared.types.Operation.{Operation}
use Rattle.nd_types.specs.Table.{type_at}
use Rattle.idl_compat.specs.declared.pairs.TypePair.{TypePair}
use Rattle.idl_compat.specs.Comparison.{AlikeTypes, AlikeParams, Alike, AllAlike, IsPair}
use Rattle.idl_compat.specs.Placing.{IsPaired}
use Rattle.idl_compat_place.specs.declared.places.Place.{Place}
use Rattle.idl_compat_place.specs.declared.places.Difference.{Difference}
use Rattle.idl_compat_place.specs.declared.steps.Step.{Step}
use Rattle.idl_compat_place.specs.declared.steps.Step.TheVariants as step
use Rattle.idl_compat_place.specs.declared.origins.Origin.{Origin}
use Rattle.idl_compat_place.specs.declared.origins.Origin.TheVariants as origin
use Rattle.idl_compat_place.specs.declared.trail.Trail.{Trail}
use Rattle.idl_compat_place.specs.declared.trail.End.{End}
use Rattle.idl_compat_place.specs.declared.trail.Found.{Found}
use Rattle.idl_compat_place.specs.declared.trail.Found.TheVariants as found
use Rattle.idl_compat_place.specs.declared.trail.Finding.{Finding}
use Rattle.idl_compat_place.specs.declared.wanted.Wanted.{Wanted}
use Rattle.idl_compat_place.specs.declared.wanted.Wanted.TheVariants as wanted
use Rattle.idl_compat_place.specs.Differences.{AreHandles, part_at, part_type, AlikeParts, AlikePartsAt, AreAlikeUpTo, AreAsMany, child, child_of}
use Rattle.idl_compat_place.specs.Differences.{IsPlace, AreUnlike, AreClashing, IsPartBefore, IsStepBefore, IsDifference, op_of, part_of}

-- the types of a pair are those of a part that was walked, or of the one that is walked
pub record IsOfPart (old new : Interface) (k n base before j i : ℕ) (p : TypePair) : Type 0 where
  pub earlier : before < base → IsPartBefore j i k n
  pub own : base ≤ before → (j ≡ k) × (i ≡ n)
  pub is_old : part_at old j i ≡ Some p.old
  pub is_new : part_at new j i ≡ Some p.new
  pub no_handles : AreHandles (slice_get old.operations j) (slice_get new.operations j) i → ⊥

-- the types of a pair are those to which a step leads from an earlier one
pub record IsStepFrom (old new : Interface) (base : ℕ) (pairs : List TypePair) (before from : ℕ) (step : Step) (p : TypePair) : Type 0 where
  pub pair : TypePair
  pub is_earlier : from < before
  pub own : base ≤ before → base ≤ from
  pub is_pair : slice_get pairs from ≡ Some pair
  pub is_old : child_of (type_at old.types pair.old.0) step ≡ Some p.old
  pub is_new : child_of (type_at new.types pair.new.0) step ≡ Some p.new

abbrev pub IsOrigin : Interface → Interface → ℕ → ℕ → ℕ → List TypePair → ℕ → TypePair → Origin → Type 0
IsOrigin old new k n base pairs before p (origin.Part j i) = IsOfPart old new k n base before j i p
IsOrigin old new k n base pairs before p (origin.Step from step) = IsStepFrom old new base pairs before from step p

-- each pair has its origin
pub record IsTrail (old new : Interface) (k n base : ℕ) (s : Trail) : Type 0 where
  pub paired : IsPaired s.pairing
  pub as_many_old : length s.pairing.forward ≡ length old.types
  pub as_many_new : length s.pairing.backward ≡ length new.types
  pub as_many : length s.origins ≡ length s.pairing.pairs
  pub each : (at : ℕ) (p : TypePair) (g : Origin) → slice_get s.pairing.pairs at ≡ Some p → slice_get s.origins at ≡ Some g
      → IsOrigin old new k n base s.pairing.pairs at p g

-- the place of a pair, before the part that is walked, or of that part itself
pub record IsPlaced (old new : Interface) (k n base before : ℕ) (l : Place) (p : TypePair) : Type 0 where
  pub place : IsPlace old new l p
  pub earlier : before < base → IsPartBefore l.op l.part k n
  pub own : base ≤ before → (l.op ≡ k) × (l.part ≡ n)

-- ## The order of origins

-- `gs` are the origins of all pairs, of which those from number `base` on are of the part that is walked; `g`, `f` and `h` are origins.

-- The types of the part come first, and then those that the types of the pairs name, by the numbers of the pairs.
abbrev pub IsOriginBefore : Origin → Origin → Type 0
IsOriginBefore (origin.Part j i) (origin.Part k n) = ⊥
IsOriginBefore (origin.Part j i) (origin.Step from step) = ⊤
IsOriginBefore (origin.Step from step) (origin.Part k n) = ⊥
IsOriginBefore (origin.Step from step) (origin.Step later next) = (from < later) ⊎ ((from ≡ later) × IsStepBefore step next)

-- the origins of the part are in order, and before this one
pub record AreBefore (base : ℕ) (gs : List Origin) (g : Origin) : Type 0 where
  pub sorted : (at i : ℕ) (f h : Origin) → base ≤ at → at < i → slice_get gs at ≡ Some f → slice_get gs i ≡ Some h → IsOriginBefore f h
  pub before : (at : ℕ) (f : Origin) → base ≤ at → slice_get gs at ≡ Some f → IsOriginBefore f g

-- where a walk ends at a clash, the origins are before that of its pair
abbrev pub EndsAfter : ℕ → List Origin → Origin → Option ℕ → Type 0
EndsAfter base gs g None = ⊤
EndsAfter base gs g (Some at) = AreBefore base gs g

abbrev pub IsEndInOrder : ℕ → List Origin → End → Type 0
IsEndInOrder base gs e = EndsAfter base gs e.origin e.other

abbrev pub AreInOrder : ℕ → List Origin → Option End → Type 0
AreInOrder base gs None = ⊤
AreInOrder base gs (Some e) = IsEndInOrder base gs e

-- a walk comes to an origin, or it ends
abbrev pub ComesTo : ℕ → List Origin → Origin → Option End → Type 0
ComesTo base gs g None = AreBefore base gs g
ComesTo base gs g (Some e) = IsEndInOrder base gs e

-- these steps lead from a part to the pair of an origin
abbrev pub IsPath : List Origin → Origin → ℕ → ℕ → List Step → Type 0
IsPath gs g op part [] = g ≡ origin.Part op part
IsPath gs g op part (step ∷ steps) =
    (from : ℕ) × (f : Origin) × (g ≡ origin.Step from step) × (slice_get gs from ≡ Some f) × IsPath gs f op part steps

-- ## Walks

-- two types that differ, of which one has no partner but itself
abbrev pub AreOtherBasic : TypePair → Type 0
AreOtherBasic p = ((p.old.0 < 12) ⊎ (p.new.0 < 12)) × (p.old.0 ≡ p.new.0 → ⊥)

-- none of the pairs shares one type alone with this one
abbrev pub AreApart : List TypePair → TypePair → Type 0
AreApart pairs p = (t u : ℕ) → IsPair pairs t u → ((t ≡ p.old.0) → (u ≡ p.new.0)) × ((u ≡ p.new.0) → (t ≡ p.old.0))

-- the pair of this number shares one type alone with this one; without a number none does, or these types differ whatever the pairs are
abbrev pub IsOther : List TypePair → TypePair → Option ℕ → Type 0
IsOther pairs p None = AreOtherBasic p ⊎ AreApart pairs p
IsOther pairs p (Some at) = (r : TypePair) × (slice_get pairs at ≡ Some r) × AreClashing p r

-- a pair cannot be alike, by itself or beside the pair of this number
abbrev pub IsRefuted : Interface → Interface → List TypePair → TypePair → Option ℕ → Type 0
IsRefuted old new pairs p None = AreUnlike old new p
IsRefuted old new pairs p (Some at) = (r : TypePair) × (slice_get pairs at ≡ Some r) × AreClashing p r

-- where a walk ends: a pair with its origin that cannot be alike
pub record IsEnd (old new : Interface) (k n base : ℕ) (s : Trail) (e : End) : Type 0 where
  pub trail : IsTrail old new k n base s
  pub before : ℕ
  pub is_own : base ≤ before
  pub few : before ≤ length s.pairing.pairs
  pub origin : IsOrigin old new k n base s.pairing.pairs before e.pair e.origin
  pub refuted : IsRefuted old new s.pairing.pairs e.pair e.other

-- some pairs were added, and a condition holds of all
pub record HasWalked (old new : Interface) (k n base : ℕ) (P : List TypePair → Type 0) (s s' : Trail) : Type 0 where
  pub trail : IsTrail old new k n base s'
  pub added : (w : List TypePair) × (s'.pairing.pairs ≡ s.pairing.pairs ++ w)
  pub met : P s'.pairing.pairs

-- the condition is met by pairs that are added, or the walk ends
abbrev pub Walks : Interface → Interface → ℕ → ℕ → ℕ → (List TypePair → Type 0) → Trail → Trail → Option End → Type 0
Walks old new k n base P s s' None = HasWalked old new k n base P s s'
Walks old new k n base P s s' (Some e) = IsEnd old new k n base s' e

-- the types to which a step leads from two types are partners, where it leads to types
abbrev pub IsChildPaired : TypeDef → TypeDef → Step → List TypePair → Type 0
IsChildPaired d e n m = (t u : TypeId) → child d n ≡ Some t → child e n ≡ Some u → IsPair m t.0 u.0

-- so are the parts of each number
abbrev pub ArePartsPaired : TypeDef → TypeDef → List TypePair → Type 0
ArePartsPaired d e m = (n : ℕ) → IsChildPaired d e (step.Nth n) m

-- so are the types to which any step leads
abbrev pub AreChildrenPaired : TypeDef → TypeDef → List TypePair → Type 0
AreChildrenPaired d e m = (n : Step) → IsChildPaired d e n m

-- whether no pairs make two types alike, or some do
abbrev pub AreOtherForms : TypeDef → TypeDef → Bool → Type 0
AreOtherForms d e true = (m : List TypePair) → AlikeTypes (IsPair m) (Some d) (Some e) → ⊥
AreOtherForms d e false = (m : List TypePair) × AlikeTypes (IsPair m) (Some d) (Some e)

-- whether no pairs make two parameters alike, or some do
abbrev pub AreOtherParams : Param → Param → Bool → Type 0
AreOtherParams p q true = (m : List TypePair) → AlikeParams (IsPair m) p q → ⊥
AreOtherParams p q false = (m : List TypePair) × AlikeParams (IsPair m) p q

-- the types of two parts are these, of which one is no handle_t, and the parts are alike where they are partners
pub record AreWanted (o q : Operation) (n : ℕ) (p : TypePair) : Type 0 where
  pub is_old : part_type (Some o) n ≡ Some p.old
  pub is_new : part_type (Some q) n ≡ Some p.new
  pub no_handles : AreHandles (Some o) (Some q) n → ⊥
  pub enough : (m : List TypePair) → IsPair m p.old.0 p.new.0 → AlikeParts (IsPair m) (Some o) (Some q) n

-- what two parts ask for: no pairs make them alike, or all do, or those that have this one
abbrev pub IsWanted : Operation → Operation → ℕ → Wanted → Type 0
IsWanted o q n wanted.Other = (m : List TypePair) → AlikeParts (IsPair m) (Some o) (Some q) n → ⊥
IsWanted o q n wanted.Nothing = (m : List TypePair) → AlikeParts (IsPair m) (Some o) (Some q) n
IsWanted o q n (wanted.Types p) = AreWanted o q n p

-- all operations before the k-th are alike by the pairs, and the first n parts of that
pub record IsWalkedTo (old new : Interface) (k n : ℕ) (s : Trail) : Type 0 where
  pub trail : IsTrail old new k n (length s.pairing.pairs) s
  pub alike : Alike old new s.pairing.pairs k
  pub parts : (i : ℕ) → i < n → AlikePartsAt (IsPair s.pairing.pairs) old new k i

-- what is found at a part
abbrev pub IsFoundAt : Interface → Interface → ℕ → ℕ → Trail → Found → Type 0
IsFoundAt old new k n s found.Counts = (AreAsMany (slice_get old.operations k) (slice_get new.operations k) → ⊥) × (n ≡ 0)
IsFoundAt old new k n s found.Parts = (m : List TypePair) → AlikePartsAt (IsPair m) old new k n → ⊥
IsFoundAt old new k n s (found.Ends e) = (base : ℕ) × IsEnd old new k n base s e × IsEndInOrder base s.origins e

-- one part more is walked, or something is found at it
abbrev pub WalksPart : Interface → Interface → ℕ → ℕ → Trail → Option Found → Type 0
WalksPart old new k n s None = IsWalkedTo old new k (suc n) s
WalksPart old new k n s (Some f) = IsFoundAt old new k n s f

-- the types are partners, and all types of partners are alike; or the walk ends
abbrev pub WalksFrom : Interface → Interface → ℕ → ℕ → TypePair → Trail → Trail → Option Found → Type 0
WalksFrom old new k n p s s' None =
    HasWalked old new k n (length s.pairing.pairs) (λ m. IsPair m p.old.0 p.new.0 × AllAlike old.types new.types m) s s'
WalksFrom old new k n p s s' (Some f) = IsFoundAt old new k n s' f

-- Something is found at a part, and all that is before it is alike.
pub record IsFinding (old new : Interface) (s : Trail) (f : Finding) : Type 0 where
  pub is_there : f.op < length old.operations
  pub earlier : AreAlikeUpTo old new f.op f.part
  pub found : IsFoundAt old new f.op f.part s f.found

-- so many parts are walked, or something is found at one
abbrev pub WalksParams : Interface → Interface → ℕ → ℕ → Trail → Option Finding → Type 0
WalksParams old new k count s None = IsWalkedTo old new k count s
WalksParams old new k count s (Some f) = IsFinding old new s f

-- one operation more is walked, or something is found in it
abbrev pub WalksOperation : Interface → Interface → ℕ → Trail → Option Finding → Type 0
WalksOperation old new k s None = IsWalkedTo old new (suc k) 0 s
WalksOperation old new k s (Some f) = IsFinding old new s f

-- all operations are walked, or something is found
abbrev pub WalksAll : Interface → Interface → Trail → Option Finding → Type 0
WalksAll old new s None = Alike old new s.pairing.pairs (length old.operations)
WalksAll old new s (Some f) = IsFinding old new s f

-- a difference is at this part
pub record IsDifferenceAt (old new : Interface) (k n : ℕ) (d : Difference) : Type 0 where
  pub differs : IsDifference old new d
  pub is_op : op_of d ≡ k
  pub is_part : part_of d ≡ n
