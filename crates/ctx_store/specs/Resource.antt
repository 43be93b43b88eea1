-- What is seen of a resource, and what its calls do.
use Rattle.std.specs.Prelude.{◌≡◌, ℕ, ◌≤◌, Bool, true, false, List, [], ◌∷◌, ◌++◌, Result, MatchResult}
use Rattle.nd_base.specs.Over.{Rose}

-- a resource
pub record ResourceSeen : Type 0 where
  -- the lines applied to it, each with a line feed, also if it does not show them
  pub lines : List ℕ
  -- whether it shows them to the program
  pub is_shown : Bool
  pub ended : Bool
  -- how often it failed
  pub faults : ℕ

-- a resource with a line more
abbrev pub with_line : List ℕ → ResourceSeen → ResourceSeen
with_line line r = record r { lines = r.lines ++ (line ++ 10 ∷ []) }

-- a resource that was ended
abbrev pub gone : ResourceSeen → ResourceSeen
gone r = record r { ended = true }

-- A resource failed: its count of faults rose, and no line was added.
pub record HasFailed (before now : ResourceSeen) (ended : Bool) : Type 0 where
  pub lines : now.lines ≡ before.lines
  pub is_shown : now.is_shown ≡ before.is_shown
  pub ended_is : now.ended ≡ ended
  pub risen : Rose before.faults now.faults
  pub later : before.faults ≤ now.faults

-- a line was applied, or the resource failed and goes on
abbrev pub HasApplied : {E : Type 0} → ResourceSeen → ResourceSeen → List ℕ → Result Unit E → Type 0
HasApplied before now line result = MatchResult result (λ _. now ≡ with_line line before) (λ _. HasFailed before now before.ended)

-- a resource was ended, whether or not it failed
abbrev pub HasEnded : {E : Type 0} → ResourceSeen → ResourceSeen → Result Unit E → Type 0
HasEnded before now result = MatchResult result (λ _. now ≡ gone before) (λ _. HasFailed before now true)

-- the same, where a flag says that it failed
abbrev pub HasEndedSo : ResourceSeen → ResourceSeen → Bool → Type 0
HasEndedSo before now false = now ≡ gone before
HasEndedSo before now true = HasFailed before now true
