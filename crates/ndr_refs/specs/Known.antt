-- The numbers of full pointers and the cells that they name, as a map: a list of the numbers, each once.
-- `n` is a number, `k` what is known of it, `of` a type, `next` a cell, `old` and `new` are the maps before and after a call.
use Rattle.std.specs.Prelude.{◌≡◌, ◌≢◌, ℕ, Bool, true, false, not, nat_eq, if◌then◌else◌, List, [], ◌∷◌, ◌++◌, Option, Some, None, Result, Ok, Err}
use Rattle.std.specs.Map.{lookup}
use Rattle.nd_types.specs.declared.types.TypeId.{TypeId}
use Rattle.nd_value.specs.declared.value.CellId.{CellId}
use Rattle.ndr_refs.specs.declared.referents.Known.{Known}
use Rattle.ndr_refs.specs.declared.referents.RefFault.{RefFault}
use Rattle.ndr_refs.specs.declared.referents.RefFault.TheVariants as fault

-- what is known of a number
abbrev pub known : ℕ → List (ℕ × Known) → Option Known
known n map = lookup (nat_eq n) map

abbrev pub IsKnown : ℕ → List (ℕ × Known) → Type 0
IsKnown n map = (k : Known) × (known n map ≡ Some k)

abbrev pub IsNew : ℕ → List (ℕ × Known) → Type 0
IsNew n map = known n map ≡ None

-- a number that is met for the first time: its referent is not represented yet
abbrev pub first_met : TypeId → CellId → Known
first_met of next = record { cell = next; of = of; represented = false }

-- a new number is kept with the next cell; without memory nothing changes
abbrev pub IsKept : ℕ → TypeId → CellId → List (ℕ × Known) → Result CellId RefFault → List (ℕ × Known) → Type 0
IsKept n of next old (Ok cell) new = (cell ≡ next) × (new ≡ old ++ (n, first_met of next) ∷ [])
IsKept n of next old (Err fault.Memory) new = new ≡ old
IsKept n of next old (Err (fault.OtherType first second)) new = ⊥

-- a known number has its cell for the type that it is known with, and is refused for any other type
abbrev pub Matches : Known → TypeId → Result CellId RefFault → Type 0
Matches k of (Ok cell) = (k.of ≡ of) × (cell ≡ k.cell)
Matches k of (Err fault.Memory) = ⊥
Matches k of (Err (fault.OtherType first second)) = (k.of ≢ of) × (first ≡ k.of) × (second ≡ of)

-- a number is met: a known one changes nothing
abbrev pub IsMetBy : Option Known → ℕ → TypeId → CellId → List (ℕ × Known) → Result CellId RefFault → List (ℕ × Known) → Type 0
IsMetBy None n of next old result new = IsKept n of next old result new
IsMetBy (Some k) n of next old result new = Matches k of result × (new ≡ old)

abbrev pub IsMet : ℕ → TypeId → CellId → List (ℕ × Known) → Result CellId RefFault → List (ℕ × Known) → Type 0
IsMet n of next old result new = IsMetBy (known n old) n of next old result new

-- the referent of a number is represented from now on; all else stays
abbrev pub once_represented : Known → Known
once_represented k = record { cell = k.cell; of = k.of; represented = true }

abbrev pub represented : ℕ → List (ℕ × Known) → List (ℕ × Known)
represented n [] = []
represented n (e ∷ map) = if nat_eq n e.0 then (e.0, once_represented e.1) ∷ map else e ∷ represented n map

-- the first turn of a number is that at which its referent is not represented yet
abbrev pub is_first : Option Known → Bool
is_first None = false
is_first (Some k) = not k.represented

pub record IsTurn (n : ℕ) (old : List (ℕ × Known)) (first : Bool) (new : List (ℕ × Known)) : Type 0 where
  pub first_turn : first ≡ is_first (known n old)
  pub represented : new ≡ represented n old
