-- What the checks of a side come to, tried with what is kept of roots and cells, and with a request.
-- `read` is what is kept of cells and `roots` of roots, `q` the graph of the request, if one is given, `i` an instruction.
use Rattle.std.specs.Prelude.{◌≡◌, ℕ, ℤ, Bool, true, false, if◌then◌else◌, List, [], ◌∷◌, slice_get, Option, Some, None}
use Rattle.nd_value.specs.declared.value.Graph.{Graph}
use Rattle.nd_value.specs.Agreement.{Agreement, agreement}
use Rattle.nd_flat.specs.FlatForm.{IsKeepableNumber}
use Rattle.nd_grammar.specs.declared.reason.Reason.{Reason}
use Rattle.ndr_code.specs.declared.instr.Instr.{Instr}
use Rattle.ndr_code.specs.declared.instr.Instr.TheVariants as op
use Rattle.ndr_code.specs.Tried.{given_number}
use Rattle.ndr_decoder_laws.specs.declared.kept.Kept.{Kept}
use Rattle.ndr_decoder_laws.specs.declared.kept.KeptRoot.{KeptRoot}
use Rattle.ndr_decoder_laws.specs.stream.Parameters.{root_number, root_subject}
use Rattle.ndr_decoder_laws.specs.stream.Tests.{disagreement}

-- the numbers that variables are can be kept
pub record AreKeepable (read : List (Option Kept)) (roots : List KeptRoot) : Type 0 where
  pub here : (v : ℕ) (star : Bool) (z : ℤ) → root_number read star (slice_get roots v) ≡ Some z → IsKeepableNumber z

-- why an agreement with what is kept of its subject does not hold: nothing, where it does, or where there is no agreement, or no subject
abbrev pub failing : List Agreement → Option Kept → Option (ℕ × Reason)
failing (a ∷ others) (Some k) = disagreement a k.first k.max_at
failing _ _ = None

abbrev pub is_check : Instr → Bool
is_check (op.Check a i v star) = true
is_check (op.Given a i v star) = true
is_check _ = false

-- the first of two reasons
abbrev pub first_of : Option (ℕ × Reason) → Option (ℕ × Reason) → Option (ℕ × Reason)
first_of (Some why) later = Some why
first_of None later = later

module _ (read : List (Option Kept)) (roots : List KeptRoot) (q : Option Graph) where
  -- why the agreement of an instruction does not hold
  abbrev pub check_fails : Instr → Option (ℕ × Reason)
  check_fails (op.Check a i v star) = failing (agreement a (root_number read star (slice_get roots v))) (root_subject read (slice_get roots i))
  check_fails (op.Given a i v star) = failing (agreement a (given_number star v q)) (root_subject read (slice_get roots i))
  check_fails _ = None

  -- why the first of a run of checks that does not hold does not
  abbrev pub checks_fail : List Instr → Option (ℕ × Reason)
  checks_fail [] = None
  checks_fail (i ∷ is) = if is_check i then first_of (check_fails i) (checks_fail is) else None

-- no check comes next
abbrev pub EndsChecks : List Instr → Type 0
EndsChecks [] = Unit {0}
EndsChecks (i ∷ is) = is_check i ≡ false
