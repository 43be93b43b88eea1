-- What compiling two files answers, from what compiling each of them answers over its part of the call.
use Rattle.std.proofs.Common.{◌≡◌, ◌∙◌, ℕ, ◌≤◌, List, ◌++◌, Option, Some, Result, Ok, Err, IfOk, IfErr, refl, ap, subst, inl, inr}
use Rattle.idl_grammar.specs.Files.{Idl}
use Rattle.nd_base.proofs.Rising.{rose_later}
use Rattle.nd_base.specs.Over.{Rose, IsContent, IsMissing, FilesOver}
use Rattle.nd_types.specs.declared.interface.Interface.{Interface}
use Rattle.idl_compat.specs.declared.compared.Compared.{Compared}
use Rattle.idl_compat.specs.declared.compared.Compared.TheVariants.{Differs}
use Rattle.idl_compat.specs.Comparison.{IsCompared}
use Rattle.command_refusals.specs.declared.refusal.CompatFault.{CompatFault}
use Rattle.command_refusals.specs.declared.refusal.Refusal.{Refusal}
use Rattle.command_refusals.specs.declared.refusal.Refusal.TheVariants.{Memory, Absent, FileFailed, BadIdl, NoOperation, ReadFault, BadOctets, BadText, BadValue, TooLong, BadRequest, BadLabel}
use Rattle.command_refusals.specs.declared.refusal.Refusal.TheVariants.{ShortLabel, TooFewEnds, EndFailed}
use Rattle.command_refusals.specs.declared.refusal.Refusal.TheVariants.{BadPdu, NotCompatible, BadScript, LongScript}
use Rattle.command_compile.specs.Idl.{IsIdlFault, IsDueFile}
use Rattle.command_compile.specs.Compiled.{AsksFiles, FileNames, AreAsked, IsCompiled, IsIdlCause}
use Rattle.command_compile.specs.Compat.{first_part, second_part, AreCompiled, AsksBoth, IsFilesCause, IsAnswer, IsRefusal, IsDifference, IsCompatible, IsCompatCause, fault_of}

abbrev Contents : Type 0
Contents = Option (List ℕ → Option (List ℕ))

-- files over one part of a call and then over the next
abbrev pub both_parts : FilesOver → FilesOver → FilesOver
both_parts f g = record {
  held = f.held;
  asked = f.asked;
  asked_now = g.asked_now;
  absences = record { before = f.absences.before; now = g.absences.now };
  faults = record { before = f.faults.before; now = g.faults.now };
}

-- the next part goes on where the first ends
pub record Follows (f g : FilesOver) : Type 0 where
  pub held : g.held ≡ f.held
  pub asked : g.asked ≡ f.asked_now
  pub absences : g.absences.before ≡ f.absences.now
  pub faults : g.faults.before ≡ f.faults.now
  pub later : f.faults.before ≤ f.faults.now
  pub absences_later : f.absences.before ≤ f.absences.now

-- what is compiled says nothing of counts
compiled_as : (f g : FilesOver) → g.held ≡ f.held → g.asked ≡ f.asked → g.asked_now ≡ f.asked_now → (idl : Idl) (acf : Option (List ℕ)) (i : Interface)
    → IsCompiled g idl acf i → IsCompiled f idl acf i
compiled_as f g held asked now idl acf i c =
    let at : List (List ℕ) → List (List ℕ) → Contents → FilesOver = λ a n h. record { held = h; asked = a; asked_now = n; absences = f.absences; faults = f.faults } in
    let own : IsCompiled (at g.asked g.asked_now g.held) idl acf i = record { file = c.file; loaded = c.loaded; means = c.means; all_asked = c.all_asked } in
    let over : IsCompiled (at g.asked g.asked_now f.held) idl acf i = subst (λ (h : Contents). IsCompiled (at g.asked g.asked_now h) idl acf i) held own in
    let from : IsCompiled (at f.asked g.asked_now f.held) idl acf i = subst (λ (a : List (List ℕ)). IsCompiled (at a g.asked_now f.held) idl acf i) asked over in
    subst (λ (n : List (List ℕ)). IsCompiled (at f.asked n f.held) idl acf i) now from

module _ (f g : FilesOver) (follows : Follows f g) where
  abbrev both : FilesOver
  both = both_parts f g

  first_compiled : (old : FileNames) (i : Interface) → IsCompiled f old.idl old.acf i → IsCompiled (first_part both f.asked_now) old.idl old.acf i
  first_compiled old i c = compiled_as (first_part both f.asked_now) f refl refl refl old.idl old.acf i c

  second_compiled : (new : FileNames) (j : Interface) → IsCompiled g new.idl new.acf j → IsCompiled (second_part both f.asked_now) new.idl new.acf j
  second_compiled new j c = compiled_as (second_part both f.asked_now) g follows.held follows.asked refl new.idl new.acf j c

  second_cause : (new : FileNames) (r : Refusal) → IsIdlCause g new.idl new.acf r → IsIdlCause (second_part both f.asked_now) new.idl new.acf r
  second_cause new Memory cause = tt
  second_cause new (Absent file) (rose, due, missing) = (
    rose_later f.absences.before f.absences.now g.absences.now follows.absences_later (subst (λ n. Rose n g.absences.now) follows.absences rose),
    subst (λ (h : Contents). IsDueFile h new.idl new.acf file) follows.held due,
    subst (λ (h : Contents). IsMissing h file) follows.held missing,
  )
  second_cause new (FileFailed file) (rose, due) = (
    rose_later f.faults.before f.faults.now g.faults.now follows.later (subst (λ n. Rose n g.faults.now) follows.faults rose),
    subst (λ (h : Contents). IsDueFile h new.idl new.acf file) follows.held due,
  )
  second_cause new (BadIdl file line column why) (text, content, fault) = (
    text,
    subst (λ (h : Contents). IsContent h new.idl.name text) follows.held content,
    subst (λ (h : Contents). IsIdlFault h new.idl text new.acf (BadIdl file line column why)) follows.held fault,
  )
  second_cause new NoOperation cause = absurd cause
  second_cause new (TooLong many) cause = absurd cause
  second_cause new ReadFault cause = absurd cause
  second_cause new (BadOctets place why) cause = absurd cause
  second_cause new (BadText line column why) cause = absurd cause
  second_cause new (BadValue path why) cause = absurd cause
  second_cause new (BadRequest why) cause = absurd cause
  second_cause new (BadLabel why) cause = absurd cause
  second_cause new ShortLabel cause = absurd cause
  second_cause new (TooFewEnds wanted found) cause = absurd cause
  second_cause new (EndFailed which) cause = absurd cause
  second_cause new (BadPdu place why) cause = absurd cause
  second_cause new (NotCompatible why) cause = absurd cause
  second_cause new (BadScript line) cause = absurd cause
  second_cause new LongScript cause = absurd cause

  second_asked : (new : FileNames) → AsksFiles g (Some new) → AsksFiles (second_part both f.asked_now) (Some new)
  second_asked new (names, is, each) = (
    names,
    is ∙ ap (λ u. u ++ names) follows.asked,
    subst (λ (h : Contents). AreAsked h new.idl new.acf names) follows.held each,
  )

  module _ (old new : FileNames) (i : Interface) (compiled : IsCompiled f old.idl old.acf i) where
    pub both_compiled : (j : Interface) → IsCompiled g new.idl new.acf j → AreCompiled both old new i j
    both_compiled j c = record { mid = f.asked_now; first = first_compiled old i compiled; second = second_compiled new j c }

    pub both_refused : (r : Refusal) → IsIdlCause g new.idl new.acf r → IsFilesCause both old new r
    both_refused r cause = inr (record { mid = f.asked_now; interface = i; first = first_compiled old i compiled; rest = second_cause new r cause })

    pub both_asked : AsksFiles g (Some new) → AsksBoth both old new
    both_asked asked = inr (record { mid = f.asked_now; interface = i; first = first_compiled old i compiled; rest = second_asked new asked })

-- ## Causes

module _ (f : FilesOver) (old new : FileNames) (i j : Interface) (compiled : AreCompiled f old new i j) where
  pub compared_cause : (r : Refusal) → IsRefusal i j r → IsCompatCause f old new r
  compared_cause Memory cause = tt
  compared_cause (NotCompatible why) cause = record { older = i; newer = j; compiled = compiled; different = cause }
  compared_cause (Absent file) cause = absurd cause
  compared_cause (FileFailed file) cause = absurd cause
  compared_cause (BadIdl file line column why) cause = absurd cause
  compared_cause NoOperation cause = absurd cause
  compared_cause (TooLong many) cause = absurd cause
  compared_cause ReadFault cause = absurd cause
  compared_cause (BadOctets place why) cause = absurd cause
  compared_cause (BadText line column why) cause = absurd cause
  compared_cause (BadValue path why) cause = absurd cause
  compared_cause (BadRequest why) cause = absurd cause
  compared_cause (BadLabel why) cause = absurd cause
  compared_cause ShortLabel cause = absurd cause
  compared_cause (TooFewEnds wanted found) cause = absurd cause
  compared_cause (EndFailed which) cause = absurd cause
  compared_cause (BadPdu place why) cause = absurd cause
  compared_cause (BadScript line) cause = absurd cause
  compared_cause LongScript cause = absurd cause

  pub compared_refused : (result : Result (List ℕ) Refusal) → IfErr result (IsRefusal i j) → IfErr result (IsCompatCause f old new)
  compared_refused (Ok made) cause = tt
  compared_refused (Err r) cause = compared_cause r cause

  pub compared_done : (result : Result (List ℕ) Refusal) → IfOk result (IsAnswer i j) → IfOk result (IsCompatible f old new)
  compared_done (Ok made) answer = record { older = i; newer = j; compiled = compiled; answer = answer }
  compared_done (Err r) answer = tt

-- the refusal for a reason of the comparison
pub answered : (i j : Interface) (c : Compared) → IsCompared i j c → (why : CompatFault) → fault_of i c ≡ Some why → IsRefusal i j (NotCompatible why)
answered i j c h why is = (c, h, is)

-- the refusal of an operation that differs
pub difference_refused : (i j : Interface) (k : ℕ) → IsCompared i j (Differs k) → (r : Refusal) → IsDifference i k r → IsRefusal i j r
difference_refused i j k c Memory cause = tt
difference_refused i j k c (NotCompatible why) is = (Differs k, c, is)
difference_refused i j k c (Absent file) cause = absurd cause
difference_refused i j k c (FileFailed file) cause = absurd cause
difference_refused i j k c (BadIdl file line column why) cause = absurd cause
difference_refused i j k c NoOperation cause = absurd cause
difference_refused i j k c (TooLong many) cause = absurd cause
difference_refused i j k c ReadFault cause = absurd cause
difference_refused i j k c (BadOctets place why) cause = absurd cause
difference_refused i j k c (BadText line column why) cause = absurd cause
difference_refused i j k c (BadValue path why) cause = absurd cause
difference_refused i j k c (BadRequest why) cause = absurd cause
difference_refused i j k c (BadLabel why) cause = absurd cause
difference_refused i j k c ShortLabel cause = absurd cause
difference_refused i j k c (TooFewEnds wanted found) cause = absurd cause
difference_refused i j k c (EndFailed which) cause = absurd cause
difference_refused i j k c (BadPdu place why) cause = absurd cause
difference_refused i j k c (BadScript line) cause = absurd cause
difference_refused i j k c LongScript cause = absurd cause
