-- What a compiler of files that it loads answers, over files in memory.
use mathlib.Core.Path.{fun_ext}
use Rattle.std.proofs.Common.{◌≡◌, ℕ, ◌≤◌, List, Option, Some, arith, subst}
use Rattle.idl_grammar.specs.Files.{Idl}
use Rattle.nd_base.specs.Over.{Rose, FilesOver, Count}
use Rattle.nd_types.specs.declared.interface.Interface.{Interface}
use Rattle.command_compile.specs.Compiled.{IsCompiled, IsIdlCause}
use Rattle.command_refusals.specs.declared.refusal.Refusal.{Refusal}
use Rattle.command_refusals.specs.declared.refusal.Refusal.TheVariants.{Memory, Absent, FileFailed, BadIdl}
use Rattle.library_interface.specs.CompiledOf.{IsCompiledOf, IsCompileCause}

-- files over a call, of which it is known what they hold, and that none failed
abbrev pub seen : (List ℕ → Option (List ℕ)) → List (List ℕ) → List (List ℕ) → Count → FilesOver
seen held asked asked_now absences =
    record { held = Some held; asked = asked; asked_now = asked_now; absences = absences; faults = record { before = 0; now = 0 } }

no_rise : Rose 0 0 → ⊥
no_rise rose = absurd (omega (arith, rose))

module _ (held named : List ℕ → Option (List ℕ)) (same : (name : List ℕ) → held name ≡ named name) (idl : Idl) (acf : Option (List ℕ)) where
  pub compiled_of : (asked asked_now : List (List ℕ)) (absences : Count) (i : Interface) → IsCompiled (seen held asked asked_now absences) idl acf i → IsCompiledOf named idl acf i
  compiled_of asked asked_now absences i c =
      subst (λ (h : List ℕ → Option (List ℕ)). IsCompiledOf h idl acf i) (fun_ext {f = held} {g = named} same) (record { file = c.file; loaded = c.loaded; means = c.means })

  cause : (asked asked_now : List (List ℕ)) (absences : Count) (r : Refusal) → IsIdlCause (seen held asked asked_now absences) idl acf r → IsCompileCause held idl acf r
  cause asked asked_now absences (Absent file) (rose, due, missing) = (due, missing)
  cause asked asked_now absences (FileFailed file) (rose, due) = absurd (no_rise rose)
  cause asked asked_now absences (BadIdl file line column why) h = h
  cause asked asked_now absences Memory h = tt
  cause asked asked_now absences _ h = absurd h

  pub cause_of : (asked asked_now : List (List ℕ)) (absences : Count) (r : Refusal) → IsIdlCause (seen held asked asked_now absences) idl acf r → IsCompileCause named idl acf r
  cause_of asked asked_now absences r h =
      subst (λ (h : List ℕ → Option (List ℕ)). IsCompileCause h idl acf r) (fun_ext {f = held} {g = named} same) (cause asked asked_now absences r h)
