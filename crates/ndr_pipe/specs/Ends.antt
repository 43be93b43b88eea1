-- What the ends of pipes took, and what their calls do.
use Rattle.std.specs.Prelude.{◌≡◌, ℕ, ◌≤◌, zero, suc, Bool, true, false, List, [], ◌∷◌, ◌++◌, take, map, Some, Result, MatchResult, slice_set}
use Rattle.std.specs.List.{slice_get}
use Rattle.nd_base.specs.Over.{Rose}
use Rattle.ndr_pipe.specs.declared.ends.Ends.{Ends}

-- ## One end

-- an end
pub record EndSeen : Type 0 where
  -- the octets of the lines that were given to it and that it took, also if it does not show them
  pub taken : List ℕ
  -- whether it shows them to the program
  pub is_shown : Bool
  pub finished : Bool
  -- how often it failed
  pub faults : ℕ

-- an end that took these octets besides
abbrev pub with_octets : List ℕ → EndSeen → EndSeen
with_octets octets e = record e { taken = e.taken ++ octets }

-- an end that is finished
abbrev pub ended : EndSeen → EndSeen
ended e = record e { finished = true }

-- An end failed: its count of faults rose, it took a prefix of what it was given, and it is finished.
pub record HasFailed (before now : EndSeen) (octets : List ℕ) : Type 0 where
  pub cut : ℕ
  pub taken : now.taken ≡ before.taken ++ take cut octets
  pub is_shown : now.is_shown ≡ before.is_shown
  pub finished : now.finished ≡ true
  pub risen : Rose before.faults now.faults
  pub later : before.faults ≤ now.faults

-- a line was given to an end: it took the whole line and is else as before, or it failed
abbrev pub HasTaken : {E : Type 0} → EndSeen → EndSeen → List ℕ → Result Unit E → Type 0
HasTaken before now line result = MatchResult result (λ _. now ≡ with_octets line before) (λ _. HasFailed before now line)

-- an end wrote what it held back and is as before, or it failed
abbrev pub HasFlushed : {E : Type 0} → EndSeen → EndSeen → Result Unit E → Type 0
HasFlushed before now result = MatchResult result (λ _. now ≡ before) (λ _. HasFailed before now [])

-- an end was finished and is else as before, or it failed
abbrev pub HasFinished : {E : Type 0} → EndSeen → EndSeen → Result Unit E → Type 0
HasFinished before now result = MatchResult result (λ _. now ≡ ended before) (λ _. HasFailed before now [])

-- ## The ends of a list

-- each end of a list, given what one is seen as
abbrev pub ends_seen : {E : Type 0} → (E → EndSeen) → Ends E → List EndSeen
ends_seen seen ends = map seen ends.items.items

-- ## Lists of ends: one of them is called, and the others stay as they are

-- there is an end of this number, and it is not finished
abbrev pub IsOpenAt : List EndSeen → ℕ → Type 0
IsOpenAt ends at = (e : EndSeen) × (slice_get ends at ≡ Some e) × (e.finished ≡ false)

-- the list with one end changed
abbrev pub change_at : ℕ → (EndSeen → EndSeen) → List EndSeen → List EndSeen
change_at i f [] = []
change_at zero f (e ∷ es) = f e ∷ es
change_at (suc i) f (e ∷ es) = e ∷ change_at i f es

-- One end failed at what it was given, and the others are as before.
pub record FailsAt (before now : List EndSeen) (at : ℕ) (octets : List ℕ) : Type 0 where
  pub was : EndSeen
  pub is : EndSeen
  pub there : slice_get before at ≡ Some was
  pub failed : HasFailed was is octets
  pub set : now ≡ slice_set before at is

-- a line was given to one end, and the others are as before
abbrev pub TakesAt : {E : Type 0} → List EndSeen → List EndSeen → ℕ → List ℕ → Result Unit E → Type 0
TakesAt before now at line result = MatchResult result (λ _. now ≡ change_at at (with_octets line) before) (λ _. FailsAt before now at line)

-- one end wrote what it held back, and all are as before
abbrev pub FlushesAt : {E : Type 0} → List EndSeen → List EndSeen → ℕ → Result Unit E → Type 0
FlushesAt before now at result = MatchResult result (λ _. now ≡ before) (λ _. FailsAt before now at [])

-- one end was finished, and the others are as before
abbrev pub FinishesAt : {E : Type 0} → List EndSeen → List EndSeen → ℕ → Result Unit E → Type 0
FinishesAt before now at result = MatchResult result (λ _. now ≡ change_at at ended before) (λ _. FailsAt before now at [])

-- ends over a call
pub record EndsSeen : Type 0 where
  pub before : List EndSeen
  pub now : List EndSeen

abbrev pub ends_over : {E : Type 0} → (E → EndSeen) → Ends E → Ends E → EndsSeen
ends_over seen before now = record { before = ends_seen seen before; now = ends_seen seen now }

-- nothing was given to any end, and none failed
abbrev pub AreAsBefore : EndsSeen → Type 0
AreAsBefore e = e.now ≡ e.before

-- no end is finished
abbrev pub AreOpen : List EndSeen → Type 0
AreOpen [] = Unit {0}
AreOpen (e ∷ es) = (e.finished ≡ false) × AreOpen es
