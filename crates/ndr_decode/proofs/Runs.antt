-- What a run of checks comes to, by its first instruction.
-- `i` is an instruction, `later` are those after it.
use Rattle.std.proofs.Common.{◌≡◌, Bool, true, false, List, ◌∷◌, Option, None, ap, ◌∙◌}
use Rattle.std.specs.Prelude.{ℕ, if◌then◌else◌}
use Rattle.nd_value.specs.declared.value.Graph.{Graph}
use Rattle.nd_grammar.specs.declared.reason.Reason.{Reason}
use Rattle.ndr_code.specs.declared.instr.Instr.{Instr}
use Rattle.ndr_decoder_laws.specs.declared.kept.Kept.{Kept}
use Rattle.ndr_decoder_laws.specs.declared.kept.KeptRoot.{KeptRoot}
use Rattle.ndr_decode.specs.Trials.{is_check, first_of, check_fails, checks_fail}

module _ (read : List (Option Kept)) (roots : List KeptRoot) (q : Option Graph) where
  pub no_check : (i : Instr) (later : List Instr) → is_check i ≡ false → checks_fail read roots q (i ∷ later) ≡ None
  no_check i later h = ap (λ (b : Bool). if b then first_of (check_fails read roots q i) (checks_fail read roots q later) else None) h

  pub check_is : (i : Instr) (later : List Instr) (o : Option (ℕ × Reason)) → is_check i ≡ true → check_fails read roots q i ≡ o
      → checks_fail read roots q (i ∷ later) ≡ first_of o (checks_fail read roots q later)
  check_is i later o h e =
      ap (λ (b : Bool). if b then first_of (check_fails read roots q i) (checks_fail read roots q later) else None) h
      ∙ ap (λ (x : Option (ℕ × Reason)). first_of x (checks_fail read roots q later)) e
