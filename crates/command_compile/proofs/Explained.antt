-- A refusal with the first place at which an operation differs, if it is of that.
use Rattle.std.proofs.Common.{◌≡◌, ℕ, Bool, true, false, List, Option, Some, None, Result, Ok, Err, IfOk, refl, sym, ◌∙◌, subst, inl, inr, ◌⊎◌}
use Rattle.nd_base.specs.Over.{FilesOver}
use Rattle.nd_types.specs.declared.interface.Interface.{Interface}
use Rattle.idl_compat.specs.declared.compared.Compared.{Compared}
use Rattle.idl_compat.specs.declared.compared.Compared.TheVariants as compared
use Rattle.idl_compat.specs.Comparison.{IsCompared, IsFirst}
use Rattle.idl_compat_place.specs.declared.places.Difference.{Difference}
use Rattle.idl_compat_place.specs.Differences.{IsFirstDifference}
use Rattle.idl_compat_place.specs.Lines.{difference_lines}
use Rattle.command_refusals.specs.declared.refusal.CompatFault.TheVariants as fault
use Rattle.command_refusals.specs.declared.refusal.Refusal.{Refusal}
use Rattle.command_refusals.specs.declared.refusal.Refusal.TheVariants.{Memory, Absent, FileFailed, BadIdl, NoOperation, ReadFault, BadOctets, BadText, BadValue, TooLong, BadRequest, BadLabel}
use Rattle.command_refusals.specs.declared.refusal.Refusal.TheVariants.{ShortLabel, TooFewEnds, EndFailed}
use Rattle.command_refusals.specs.declared.refusal.Refusal.TheVariants.{BadPdu, NotCompatible, BadScript, LongScript}
use Rattle.command_compile.specs.Compiled.{FileNames}
use Rattle.command_compile.specs.declared.places.Incompatible.{Incompatible}
use Rattle.command_compile.specs.Compat.{AreCompiled, IsRefusal, IsCompatCause, IsBeside, IsIncompatible, IsPlaceText, IsExplained, IsOfOperation, fault_of}
use Rattle.command_compile.proofs.Parts.{compared_cause}

pub lines_of : {E : Type 0} (i j : Interface) (d : Difference) → IsFirstDifference i j d → (r : Result (List ℕ) E) → IfOk r (λ text. text ≡ difference_lines i j d) → IfOk r (IsPlaceText i j)
lines_of i j d first (Ok text) h = (d, first, h)
lines_of i j d first (Err e) h = tt

-- ## What is explained

module _ (i j : Interface) (text : List ℕ) (placed : (k : ℕ) → IsFirst i j k → IsPlaceText i j text) where
  of_compared : (name : List ℕ) (c : Compared) → IsCompared i j c → fault_of i c ≡ Some (fault.Differs name) → IsPlaceText i j text
  of_compared name (compared.Yes m) h e = cc
  of_compared name compared.OtherUuid h e = cc
  of_compared name (compared.OtherMajor a b) h e = cc
  of_compared name (compared.OlderMinor a b) h e = cc
  of_compared name (compared.Fewer a b) h e = cc
  of_compared name (compared.Differs k) h e = placed k h.first

  both : (b : Bool) → b ≡ false → b ≡ true → ⊥
  both b e f = cc

  pub explained_place : (r : Refusal) (b : Bool) → IsOfOperation r b → b ≡ true → IsRefusal i j r → IsExplained i j r (record { refusal = r; place = Some text })
  explained_place (NotCompatible (fault.Differs name)) b h e (c, is, why) = inl (refl, (text, refl, of_compared name c is why))
  explained_place (NotCompatible fault.OtherUuid) b h e cause = absurd (both b h e)
  explained_place (NotCompatible (fault.OtherMajor m n)) b h e cause = absurd (both b h e)
  explained_place (NotCompatible (fault.OlderMinor m n)) b h e cause = absurd (both b h e)
  explained_place (NotCompatible (fault.Fewer m n)) b h e cause = absurd (both b h e)
  explained_place Memory b h e cause = absurd (both b h e)
  explained_place (Absent file) b h e cause = absurd (both b h e)
  explained_place (FileFailed file) b h e cause = absurd (both b h e)
  explained_place (BadIdl file line column why) b h e cause = absurd (both b h e)
  explained_place NoOperation b h e cause = absurd (both b h e)
  explained_place (TooLong many) b h e cause = absurd (both b h e)
  explained_place ReadFault b h e cause = absurd (both b h e)
  explained_place (BadOctets place why) b h e cause = absurd (both b h e)
  explained_place (BadText line column why) b h e cause = absurd (both b h e)
  explained_place (BadValue path why) b h e cause = absurd (both b h e)
  explained_place (BadRequest why) b h e cause = absurd (both b h e)
  explained_place (BadLabel why) b h e cause = absurd (both b h e)
  explained_place ShortLabel b h e cause = absurd (both b h e)
  explained_place (TooFewEnds wanted found) b h e cause = absurd (both b h e)
  explained_place (EndFailed which) b h e cause = absurd (both b h e)
  explained_place (BadPdu place why) b h e cause = absurd (both b h e)
  explained_place (BadScript line) b h e cause = absurd (both b h e)
  explained_place LongScript b h e cause = absurd (both b h e)

-- ## Why versions are not compatible

module _ (f : FilesOver) (old new : FileNames) (i j : Interface) (compiled : AreCompiled f old new i j) (x : Incompatible) where
  incompatible_by : (r : Refusal) → IsRefusal i j r → (p : Option (List ℕ)) → IsBeside f old new r p → x.refusal ≡ r → x.place ≡ p → IsIncompatible f old new x
  incompatible_by r cause p beside e e' =
      record {
        cause = subst (λ q. IsCompatCause f old new q) (sym e) (compared_cause f old new i j compiled r cause);
        beside = subst (λ q. IsBeside f old new q x.place) (sym e) (subst (λ q. IsBeside f old new r q) (sym e') beside);
      }

  pub incompatible : (r : Refusal) → IsRefusal i j r → IsExplained i j r x → IsIncompatible f old new x
  incompatible (NotCompatible (fault.Differs name)) cause (inl (e, (text, e', (d, first, is)))) =
      incompatible_by (NotCompatible (fault.Differs name)) cause (Some text)
      (record { older = i; newer = j; compiled = compiled; different = cause; difference = d; first = first; text_is = is }) e e'
  incompatible (NotCompatible (fault.Differs name)) cause (inr (e, e')) = incompatible_by Memory tt None tt e e'
  incompatible (NotCompatible fault.OtherUuid) cause (e, e') = incompatible_by (NotCompatible fault.OtherUuid) cause None tt e e'
  incompatible (NotCompatible (fault.OtherMajor m n)) cause (e, e') = incompatible_by (NotCompatible (fault.OtherMajor m n)) cause None tt e e'
  incompatible (NotCompatible (fault.OlderMinor m n)) cause (e, e') = incompatible_by (NotCompatible (fault.OlderMinor m n)) cause None tt e e'
  incompatible (NotCompatible (fault.Fewer m n)) cause (e, e') = incompatible_by (NotCompatible (fault.Fewer m n)) cause None tt e e'
  incompatible Memory cause (e, e') = incompatible_by Memory tt None tt e e'
  incompatible (Absent file) cause (e, e') = absurd cause
  incompatible (FileFailed file) cause (e, e') = absurd cause
  incompatible (BadIdl file line column why) cause (e, e') = absurd cause
  incompatible NoOperation cause (e, e') = absurd cause
  incompatible (TooLong many) cause (e, e') = absurd cause
  incompatible ReadFault cause (e, e') = absurd cause
  incompatible (BadOctets place why) cause (e, e') = absurd cause
  incompatible (BadText line column why) cause (e, e') = absurd cause
  incompatible (BadValue path why) cause (e, e') = absurd cause
  incompatible (BadRequest why) cause (e, e') = absurd cause
  incompatible (BadLabel why) cause (e, e') = absurd cause
  incompatible ShortLabel cause (e, e') = absurd cause
  incompatible (TooFewEnds wanted found) cause (e, e') = absurd cause
  incompatible (EndFailed which) cause (e, e') = absurd cause
  incompatible (BadPdu place why) cause (e, e') = absurd cause
  incompatible (BadScript line) cause (e, e') = absurd cause
  incompatible LongScript cause (e, e') = absurd cause
