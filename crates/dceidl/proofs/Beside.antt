-- What a command writes beside the line of a refusal.
use Rattle.std.proofs.Common.{◌≡◌, ◌∙◌, ℕ, Bool, true, false, List, Option, Some, None, refl, sym, ap, subst, inl, inr}
use Rattle.command_line.specs.declared.command.Reading.TheVariants.{Decode, Explain, Trace, Drain}
use Rattle.command_line.specs.declared.command.Task.{Task}
use Rattle.command_line.specs.declared.command.Task.TheVariants.{Read, Encode, Migrate}
use Rattle.command_line.specs.Words.{Command, Subject, Values, Compile, Plan, Call, Wrap, Compat, Why, Sample, Help, Version}
use Rattle.command_refusals.specs.declared.refusal.CompatFault.TheVariants.{Differs}
use Rattle.command_refusals.specs.declared.refusal.Refusal.{Refusal}
use Rattle.command_refusals.specs.declared.refusal.Refusal.TheVariants.{NotCompatible}
use Rattle.command_refusals.specs.Lines.{status_of}
use Rattle.command_streams.specs.Delivery.{IsOneOf}
use Rattle.dceidl.specs.Causes.{AreTraced, IsCause, IsWrittenBeside, statuses_of, tells, traces}
use Rattle.dceidl.specs.Asked.{Seen}

module _ (x : Seen) where
  -- ## Octets that are traced

  module _ (of : Subject) (given : Option (List ℕ)) (r : Refusal) (text : List ℕ) where
    traced_cause : (task : Task) → AreTraced x task of given r text → IsCause x (Values task of given) r
    traced_cause (Read Trace word) (w, ready, rest, order, opened, (place, why, is, source)) =
        subst (IsCause x (Values (Read Trace word) of given)) (sym is) (inr (w, ready, inr (rest, order, opened, (text, source))))
    traced_cause (Read Decode word) traced = absurd traced
    traced_cause (Read Explain word) traced = absurd traced
    traced_cause (Read Drain word) traced = absurd traced
    traced_cause (Encode word chunk) traced = absurd traced
    traced_cause Migrate traced = absurd traced

    traced_status : (task : Task) → AreTraced x task of given r text → status_of r ≡ 1
    traced_status (Read Trace word) (w, ready, rest, order, opened, (place, why, is, source)) = ap status_of is
    traced_status (Read Decode word) traced = absurd traced
    traced_status (Read Explain word) traced = absurd traced
    traced_status (Read Drain word) traced = absurd traced
    traced_status (Encode word chunk) traced = absurd traced
    traced_status Migrate traced = absurd traced

    traced_traces : (task : Task) → AreTraced x task of given r text → traces task ≡ true
    traced_traces (Read Trace word) traced = refl
    traced_traces (Read Decode word) traced = absurd traced
    traced_traces (Read Explain word) traced = absurd traced
    traced_traces (Read Drain word) traced = absurd traced
    traced_traces (Encode word chunk) traced = absurd traced
    traced_traces Migrate traced = absurd traced

    traced_in : (task : Task) → AreTraced x task of given r text → (status : ℕ) → status ≡ 1 → IsOneOf (statuses_of (Values task of given)) status
    traced_in (Read Trace word) traced status e = inr (inl e)
    traced_in (Read Decode word) traced status e = absurd traced
    traced_in (Read Explain word) traced status e = absurd traced
    traced_in (Read Drain word) traced status e = absurd traced
    traced_in (Encode word chunk) traced status e = absurd traced
    traced_in Migrate traced status e = absurd traced

  -- ## All commands

  -- where something is written beside a line, the refusal has its cause
  pub beside_cause : (c : Command) (r : Refusal) (text : List ℕ) → IsWrittenBeside x c r text → IsCause x c r
  beside_cause (Values task of given) r text beside = traced_cause of given r text task beside
  beside_cause (Compat old old_acf new new_acf true) r text (name, is, place) =
      subst (IsCause x (Compat old old_acf new new_acf true)) (sym is)
      (record { older = place.older; newer = place.newer; compiled = place.compiled; different = place.different })
  beside_cause (Compat old old_acf new new_acf false) r text beside = absurd beside
  beside_cause (Why words) r text beside = absurd beside
  beside_cause (Compile idl acf) r text beside = absurd beside
  beside_cause (Plan idl acf) r text beside = absurd beside
  beside_cause (Call idl acf op) r text beside = absurd beside
  beside_cause (Wrap of order call max) r text beside = absurd beside
  beside_cause (Sample seed count) r text beside = absurd beside
  beside_cause Help r text beside = absurd beside
  beside_cause Version r text beside = absurd beside

  -- its status is 1
  pub beside_one : (c : Command) (r : Refusal) (text : List ℕ) → IsWrittenBeside x c r text → status_of r ≡ 1
  beside_one (Values task of given) r text beside = traced_status of given r text task beside
  beside_one (Compat old old_acf new new_acf true) r text (name, is, place) = ap status_of is
  beside_one (Compat old old_acf new new_acf false) r text beside = absurd beside
  beside_one (Why words) r text beside = absurd beside
  beside_one (Compile idl acf) r text beside = absurd beside
  beside_one (Plan idl acf) r text beside = absurd beside
  beside_one (Call idl acf op) r text beside = absurd beside
  beside_one (Wrap of order call max) r text beside = absurd beside
  beside_one (Sample seed count) r text beside = absurd beside
  beside_one Help r text beside = absurd beside
  beside_one Version r text beside = absurd beside

  -- which is one of the command
  pub one_in : (c : Command) (r : Refusal) (text : List ℕ) → IsWrittenBeside x c r text → (status : ℕ) → status ≡ 1 → IsOneOf (statuses_of c) status
  one_in (Values task of given) r text beside status e = traced_in of given r text task beside status e
  one_in (Compat old old_acf new new_acf true) r text beside status e = inr (inl e)
  one_in (Compat old old_acf new new_acf false) r text beside status e = absurd beside
  one_in (Why words) r text beside status e = absurd beside
  one_in (Compile idl acf) r text beside status e = absurd beside
  one_in (Plan idl acf) r text beside status e = absurd beside
  one_in (Call idl acf op) r text beside status e = absurd beside
  one_in (Wrap of order call max) r text beside status e = absurd beside
  one_in (Sample seed count) r text beside status e = absurd beside
  one_in Help r text beside status e = absurd beside
  one_in Version r text beside status e = absurd beside

  -- and the command can write beside a line
  pub beside_tells : (c : Command) (r : Refusal) (text : List ℕ) → IsWrittenBeside x c r text → tells c ≡ true
  beside_tells (Values task of given) r text beside = traced_traces of given r text task beside
  beside_tells (Compat old old_acf new new_acf true) r text beside = refl
  beside_tells (Compat old old_acf new new_acf false) r text beside = absurd beside
  beside_tells (Why words) r text beside = refl
  beside_tells (Compile idl acf) r text beside = absurd beside
  beside_tells (Plan idl acf) r text beside = absurd beside
  beside_tells (Call idl acf op) r text beside = absurd beside
  beside_tells (Wrap of order call max) r text beside = absurd beside
  beside_tells (Sample seed count) r text beside = absurd beside
  beside_tells Help r text beside = absurd beside
  beside_tells Version r text beside = absurd beside

  pub beside_quiet : (c : Command) (r : Refusal) (text : List ℕ) → tells c ≡ false → IsWrittenBeside x c r text → ⊥
  beside_quiet c r text never beside = apart (sym never ∙ beside_tells c r text beside)
    where
      apart : false ≡ true → ⊥
      apart e = cc
