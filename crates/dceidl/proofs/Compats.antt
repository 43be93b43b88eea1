-- What `compat` answers, from what its files mean: its statuses, the files that are due, and what must come where no load fails.
use Rattle.std.proofs.Common.{◌≡◌, ◌∙◌, ℕ, List, [], ◌∷◌, Option, Some, None, refl, sym, ap, ap₂, subst, inl, inr, ◌⊎◌}
use Rattle.idl_grammar.specs.Files.{Idl}
use Rattle.nd_base.specs.Over.{IsMissing, FilesOver, HasRisen}
use Rattle.nd_types.specs.declared.interface.Interface.{Interface}
use Rattle.idl_compat.specs.declared.pairs.TypePair.{TypePair}
use Rattle.idl_compat.specs.declared.compared.Compared.{Compared}
use Rattle.idl_compat.specs.declared.compared.Compared.TheVariants as compared
use Rattle.idl_compat.specs.Comparison.{IsCompared, IsOneAnswer}
use Rattle.idl_compat.proofs.OneAnswer as answers
use Rattle.command_refusals.specs.declared.refusal.CompatFault.{CompatFault}
use Rattle.command_refusals.specs.declared.refusal.IdlReason.{IdlReason}
use Rattle.command_refusals.specs.declared.refusal.CompatFault.TheVariants as fault
use Rattle.command_refusals.specs.declared.refusal.Refusal.{Refusal}
use Rattle.command_refusals.specs.declared.refusal.Refusal.TheVariants.{Memory, Absent, FileFailed, BadIdl, NoOperation, ReadFault, BadOctets, BadText, BadValue, TooLong, BadRequest, BadLabel}
use Rattle.command_refusals.specs.declared.refusal.Refusal.TheVariants.{ShortLabel, TooFewEnds, EndFailed}
use Rattle.command_refusals.specs.declared.refusal.Refusal.TheVariants.{BadPdu, NotCompatible, BadScript, LongScript}
use Rattle.command_refusals.specs.Lines.{status_of}
use Rattle.command_compile.specs.Compiled.{FileNames, IsCompiled, IsIdlCause}
use Rattle.command_compile.specs.Idl.{Means}
use Rattle.command_compile.proofs.OneInterface.{one_interface}
use Rattle.command_compile.specs.Compat.{first_part, second_part, AfterFirst, IsFilesCause, IsDifferent, IsCompatible, IsNotCompatible, IsCompatCause, fault_of}
use Rattle.dceidl.specs.Held.{IsHeld, IsHeldInterface, MustBeNoIdl, CanBeCompared, AreHeld, MustBeIncomparable, IsDueSecond}
use Rattle.command_streams.specs.Delivery.{IsOneOf}
use Rattle.dceidl.specs.Rows.{IsDueOf}
use Rattle.dceidl.proofs.HeldFiles.{compiled_cause, no_idl, no_idl_cause, means_here}

abbrev Contents : Type 0
Contents = Option (List ℕ → Option (List ℕ))

-- ## Statuses

neither : {B : Type 0} (f : FilesOver) (old : FileNames) → ⊥ ⊎ AfterFirst f old (λ g. ⊥) → B
neither f old (inl cause) = absurd cause
neither f old (inr a) = absurd a.rest

pub compat_status : (f : FilesOver) (old new : FileNames) (status : ℕ) (r : Refusal) → IsCompatCause f old new r → status ≡ status_of r
    → IsOneOf (0 ∷ 1 ∷ 4 ∷ 5 ∷ 6 ∷ 7 ∷ 9 ∷ []) status
compat_status f old new status Memory cause e = inr (inr (inr (inl e)))
compat_status f old new status (Absent file) cause e = inr (inr (inr (inr (inr (inl e)))))
compat_status f old new status (FileFailed file) cause e = inr (inr (inr (inr (inr (inr (inl e))))))
compat_status f old new status (BadIdl file line column why) cause e = inr (inr (inr (inr (inl e))))
compat_status f old new status NoOperation cause e = neither f old cause
compat_status f old new status ReadFault cause e = neither f old cause
compat_status f old new status (BadOctets place why) cause e = neither f old cause
compat_status f old new status (BadText line column why) cause e = neither f old cause
compat_status f old new status (BadValue path why) cause e = neither f old cause
compat_status f old new status (TooLong many) cause e = neither f old cause
compat_status f old new status (BadRequest why) cause e = neither f old cause
compat_status f old new status (BadLabel why) cause e = neither f old cause
compat_status f old new status ShortLabel cause e = neither f old cause
compat_status f old new status (TooFewEnds wanted found) cause e = neither f old cause
compat_status f old new status (EndFailed which) cause e = neither f old cause
compat_status f old new status (BadPdu place why) cause e = neither f old cause
compat_status f old new status (NotCompatible why) cause e = inr (inl e)
compat_status f old new status (BadScript line) cause e = neither f old cause
compat_status f old new status LongScript cause e = neither f old cause

-- files alone are no input
pub compat_read : (f : FilesOver) (old new : FileNames) (r : Refusal) → IsCompatCause f old new r → status_of r ≡ 3 → ⊥
compat_read f old new Memory cause e = cc
compat_read f old new (Absent file) cause e = cc
compat_read f old new (FileFailed file) cause e = cc
compat_read f old new (BadIdl file line column why) cause e = cc
compat_read f old new NoOperation cause e = cc
compat_read f old new ReadFault cause e = neither f old cause
compat_read f old new (BadOctets place why) cause e = cc
compat_read f old new (BadText line column why) cause e = cc
compat_read f old new (BadValue path why) cause e = cc
compat_read f old new (TooLong many) cause e = cc
compat_read f old new (BadRequest why) cause e = cc
compat_read f old new (BadLabel why) cause e = cc
compat_read f old new ShortLabel cause e = cc
compat_read f old new (TooFewEnds wanted found) cause e = cc
compat_read f old new (EndFailed which) cause e = cc
compat_read f old new (BadPdu place why) cause e = cc
compat_read f old new (NotCompatible why) cause e = cc
compat_read f old new (BadScript line) cause e = cc
compat_read f old new LongScript cause e = cc

-- and no end
pub compat_end : (f : FilesOver) (old new : FileNames) (which : ℕ) → IsCompatCause f old new (EndFailed which) → ⊥
compat_end f old new which cause = neither f old cause

-- ## Files that are due

due_second : (f : FilesOver) (old new : FileNames) (mid : List (List ℕ)) (i : Interface) (file : List ℕ) → (c : IsCompiled (first_part f mid) old.idl old.acf i)
    → IsDueOf f.held (Some new) file → IsDueSecond f.held old new file
due_second f old new mid i file c due = (c.file, i, c.loaded, c.means, due)

-- a file that is absent is due and missing
pub compat_absent : (f : FilesOver) (old new : FileNames) (r : Refusal) → IsCompatCause f old new r → status_of r ≡ 7
    → HasRisen f.absences
    × ((file : List ℕ) × (r ≡ Absent file) × (IsDueOf f.held (Some old) file ⊎ IsDueSecond f.held old new file) × IsMissing f.held file)
compat_absent f old new (Absent file) (inl (rose, due, missing)) e = (rose, (file, refl, inl due, missing))
compat_absent f old new (Absent file) (inr a) e =
    let (rose, due, missing) = a.rest in (rose, (file, refl, inr (due_second f old new a.mid a.interface file a.first due), missing))
compat_absent f old new Memory cause e = cc
compat_absent f old new (FileFailed file) cause e = cc
compat_absent f old new (BadIdl file line column why) cause e = cc
compat_absent f old new NoOperation cause e = cc
compat_absent f old new ReadFault cause e = cc
compat_absent f old new (BadOctets place why) cause e = cc
compat_absent f old new (BadText line column why) cause e = cc
compat_absent f old new (BadValue path why) cause e = cc
compat_absent f old new (TooLong many) cause e = cc
compat_absent f old new (BadRequest why) cause e = cc
compat_absent f old new (BadLabel why) cause e = cc
compat_absent f old new ShortLabel cause e = cc
compat_absent f old new (TooFewEnds wanted found) cause e = cc
compat_absent f old new (EndFailed which) cause e = cc
compat_absent f old new (BadPdu place why) cause e = cc
compat_absent f old new (NotCompatible why) cause e = cc
compat_absent f old new (BadScript line) cause e = cc
compat_absent f old new LongScript cause e = cc

-- a file that was not read is due
pub compat_failed : (f : FilesOver) (old new : FileNames) (r : Refusal) → IsCompatCause f old new r → status_of r ≡ 9
    → HasRisen f.faults × ((file : List ℕ) × (r ≡ FileFailed file) × (IsDueOf f.held (Some old) file ⊎ IsDueSecond f.held old new file))
compat_failed f old new (FileFailed file) (inl (rose, due)) e = (rose, (file, refl, inl due))
compat_failed f old new (FileFailed file) (inr a) e =
    let (rose, due) = a.rest in (rose, (file, refl, inr (due_second f old new a.mid a.interface file a.first due)))
compat_failed f old new Memory cause e = cc
compat_failed f old new (Absent file) cause e = cc
compat_failed f old new (BadIdl file line column why) cause e = cc
compat_failed f old new NoOperation cause e = cc
compat_failed f old new ReadFault cause e = cc
compat_failed f old new (BadOctets place why) cause e = cc
compat_failed f old new (BadText line column why) cause e = cc
compat_failed f old new (BadValue path why) cause e = cc
compat_failed f old new (TooLong many) cause e = cc
compat_failed f old new (BadRequest why) cause e = cc
compat_failed f old new (BadLabel why) cause e = cc
compat_failed f old new ShortLabel cause e = cc
compat_failed f old new (TooFewEnds wanted found) cause e = cc
compat_failed f old new (EndFailed which) cause e = cc
compat_failed f old new (BadPdu place why) cause e = cc
compat_failed f old new (NotCompatible why) cause e = cc
compat_failed f old new (BadScript line) cause e = cc
compat_failed f old new LongScript cause e = cc

-- ## Where no load fails

-- a cause over the rest of a run is one over the run
over_all : (f : FilesOver) (mid : List (List ℕ)) (idl : Idl) (acf : Option (List ℕ)) (r : Refusal) → IsIdlCause (second_part f mid) idl acf r
    → IsIdlCause f idl acf r
over_all f mid idl acf Memory cause = cause
over_all f mid idl acf (Absent file) cause = cause
over_all f mid idl acf (FileFailed file) cause = cause
over_all f mid idl acf (BadIdl file line column why) cause = cause
over_all f mid idl acf NoOperation cause = cause
over_all f mid idl acf ReadFault cause = cause
over_all f mid idl acf (BadOctets place why) cause = cause
over_all f mid idl acf (BadText line column why) cause = cause
over_all f mid idl acf (BadValue path why) cause = cause
over_all f mid idl acf (TooLong many) cause = cause
over_all f mid idl acf (BadRequest why) cause = cause
over_all f mid idl acf (BadLabel why) cause = cause
over_all f mid idl acf ShortLabel cause = cause
over_all f mid idl acf (TooFewEnds wanted found) cause = cause
over_all f mid idl acf (EndFailed which) cause = cause
over_all f mid idl acf (BadPdu place why) cause = cause
over_all f mid idl acf (NotCompatible why) cause = cause
over_all f mid idl acf (BadScript line) cause = cause
over_all f mid idl acf LongScript cause = cause

-- two answers of one comparison have one reason
one_reason : (i : Interface) (c d : Compared) → IsOneAnswer c d → fault_of i c ≡ fault_of i d
one_reason i (compared.Yes m) (compared.Yes n) same = refl
one_reason i (compared.Yes m) compared.OtherUuid same = absurd same
one_reason i (compared.Yes m) (compared.OtherMajor x y) same = absurd same
one_reason i (compared.Yes m) (compared.OlderMinor x y) same = absurd same
one_reason i (compared.Yes m) (compared.Fewer x y) same = absurd same
one_reason i (compared.Yes m) (compared.Differs l) same = absurd same
one_reason i compared.OtherUuid (compared.Yes n) same = absurd same
one_reason i compared.OtherUuid compared.OtherUuid same = refl
one_reason i compared.OtherUuid (compared.OtherMajor x y) same = absurd same
one_reason i compared.OtherUuid (compared.OlderMinor x y) same = absurd same
one_reason i compared.OtherUuid (compared.Fewer x y) same = absurd same
one_reason i compared.OtherUuid (compared.Differs l) same = absurd same
one_reason i (compared.OtherMajor a b) (compared.Yes n) same = absurd same
one_reason i (compared.OtherMajor a b) compared.OtherUuid same = absurd same
one_reason i (compared.OtherMajor a b) (compared.OtherMajor x y) (u, v) = ap₂ (λ (s t : ℕ). Some (fault.OtherMajor s t)) u v
one_reason i (compared.OtherMajor a b) (compared.OlderMinor x y) same = absurd same
one_reason i (compared.OtherMajor a b) (compared.Fewer x y) same = absurd same
one_reason i (compared.OtherMajor a b) (compared.Differs l) same = absurd same
one_reason i (compared.OlderMinor a b) (compared.Yes n) same = absurd same
one_reason i (compared.OlderMinor a b) compared.OtherUuid same = absurd same
one_reason i (compared.OlderMinor a b) (compared.OtherMajor x y) same = absurd same
one_reason i (compared.OlderMinor a b) (compared.OlderMinor x y) (u, v) = ap₂ (λ (s t : ℕ). Some (fault.OlderMinor s t)) u v
one_reason i (compared.OlderMinor a b) (compared.Fewer x y) same = absurd same
one_reason i (compared.OlderMinor a b) (compared.Differs l) same = absurd same
one_reason i (compared.Fewer a b) (compared.Yes n) same = absurd same
one_reason i (compared.Fewer a b) compared.OtherUuid same = absurd same
one_reason i (compared.Fewer a b) (compared.OtherMajor x y) same = absurd same
one_reason i (compared.Fewer a b) (compared.OlderMinor x y) same = absurd same
one_reason i (compared.Fewer a b) (compared.Fewer x y) (u, v) = ap₂ (λ (s t : ℕ). Some (fault.Fewer s t)) u v
one_reason i (compared.Fewer a b) (compared.Differs l) same = absurd same
one_reason i (compared.Differs k) (compared.Yes n) same = absurd same
one_reason i (compared.Differs k) compared.OtherUuid same = absurd same
one_reason i (compared.Differs k) (compared.OtherMajor x y) same = absurd same
one_reason i (compared.Differs k) (compared.OlderMinor x y) same = absurd same
one_reason i (compared.Differs k) (compared.Fewer x y) same = absurd same
one_reason i (compared.Differs k) (compared.Differs l) same = ap (λ (n : ℕ). fault_of i (compared.Differs n)) same

-- the reasons of one comparison are equal
same_reason : (i j : Interface) (why because : CompatFault) → IsDifferent i j why → IsDifferent i j because → because ≡ why
same_reason i j why because (c, h, e) (d, k, x) =
    let both : Some because ≡ Some why = sym x ∙ one_reason i d c (answers.same i j d c k h) ∙ e in cc

-- where the second has all operations there is none
no_reason : {B : Type 0} (i j : Interface) (why : CompatFault) → IsDifferent i j why → (m : List TypePair) → IsCompared i j (compared.Yes m) → B
no_reason i j why (c, h, e) m k = let never : None ≡ Some why = one_reason i (compared.Yes m) c (answers.same i j (compared.Yes m) c k h) ∙ e in absurd (cc)

-- what is compiled over a part of a run is what the held files mean
compiled_is : (f p : FilesOver) → p.held ≡ f.held → (named : FileNames) (i j : Interface) → IsHeldInterface f named i → IsCompiled p named.idl named.acf j → j ≡ i
compiled_is f p same named i j h c =
    let (held, told, there) = h.held in
    let own : IsHeld p named.idl.name h.file = (held, same ∙ told, there) in
    one_interface held named.idl h.file named.acf j i
    (subst (λ (k : Contents). Means k named.idl h.file named.acf j) (same ∙ told) (means_here p named.idl h.file named.acf own j c))
    (subst (λ (k : Contents). Means k named.idl h.file named.acf i) told h.means)

module _ (f : FilesOver) (old new : FileNames) where
  -- the causes: memory, the files, and the comparison
  of_cause : (P : Refusal → Type 0) → P Memory → ((r : Refusal) → IsFilesCause f old new r → P r)
      → ((why : CompatFault) → IsNotCompatible f old new why → P (NotCompatible why)) → (r : Refusal) → IsCompatCause f old new r → P r
  of_cause P wanting files differing Memory cause = wanting
  of_cause P wanting files differing (Absent file) cause = files (Absent file) cause
  of_cause P wanting files differing (FileFailed file) cause = files (FileFailed file) cause
  of_cause P wanting files differing (BadIdl file line column why) cause = files (BadIdl file line column why) cause
  of_cause P wanting files differing NoOperation cause = files NoOperation cause
  of_cause P wanting files differing ReadFault cause = files ReadFault cause
  of_cause P wanting files differing (BadOctets place why) cause = files (BadOctets place why) cause
  of_cause P wanting files differing (BadText line column why) cause = files (BadText line column why) cause
  of_cause P wanting files differing (BadValue path why) cause = files (BadValue path why) cause
  of_cause P wanting files differing (TooLong many) cause = files (TooLong many) cause
  of_cause P wanting files differing (BadRequest why) cause = files (BadRequest why) cause
  of_cause P wanting files differing (BadLabel why) cause = files (BadLabel why) cause
  of_cause P wanting files differing ShortLabel cause = files ShortLabel cause
  of_cause P wanting files differing (TooFewEnds wanted found) cause = files (TooFewEnds wanted found) cause
  of_cause P wanting files differing (EndFailed which) cause = files (EndFailed which) cause
  of_cause P wanting files differing (BadPdu place why) cause = files (BadPdu place why) cause
  of_cause P wanting files differing (NotCompatible why) cause = differing why cause
  of_cause P wanting files differing (BadScript line) cause = files (BadScript line) cause
  of_cause P wanting files differing LongScript cause = files LongScript cause

  module _ (loads : HasRisen f.faults → ⊥) where
    -- files that mean interfaces are not refused
    files_good : (i j : Interface) → AreHeld f old new i j → (r : Refusal) → IsFilesCause f old new r → r ≡ Memory
    files_good i j h r (inl cause) = compiled_cause f old.idl old.acf loads h.first.file i h.first.held h.first.means r cause
    files_good i j h r (inr a) =
        compiled_cause f new.idl new.acf loads h.second.file j h.second.held h.second.means r (over_all f a.mid new.idl new.acf r a.rest)

    -- a reason that was answered is one of what the held files mean
    reason_here : (i j : Interface) → AreHeld f old new i j → (why : CompatFault) → IsNotCompatible f old new why → IsDifferent i j why
    reason_here i j h why n =
        let older : n.older ≡ i = compiled_is f (first_part f n.compiled.mid) refl old i n.older h.first n.compiled.first in
        let newer : n.newer ≡ j = compiled_is f (second_part f n.compiled.mid) refl new j n.newer h.second n.compiled.second in
        subst (λ (k : Interface). IsDifferent i k why) newer (subst (λ (k : Interface). IsDifferent k n.newer why) older n.different)

    -- two versions of which the second has all operations of the first are not refused
    pub compat_done : CanBeCompared f old new → (r : Refusal) → IsCompatCause f old new r → r ≡ Memory
    compat_done can r cause =
        let h : AreHeld f old new can.older can.newer = record { first = can.first; second = can.second } in
        of_cause (λ q. q ≡ Memory) refl (files_good can.older can.newer h)
        (λ why n. no_reason can.older can.newer why (reason_here can.older can.newer h why n) can.pairs can.compared) r cause

    -- what must be refused is refused, in one way
    abbrev IsSettled : Refusal → Type 0
    IsSettled r = ((made : List ℕ) → IsCompatible f old new made → ⊥) × ((q : Refusal) → IsCompatCause f old new q → (q ≡ Memory) ⊎ (q ≡ r))

    first_refused : (file : List ℕ) (line column : ℕ) (why : IdlReason) → MustBeNoIdl f old.idl old.acf (BadIdl file line column why)
        → IsSettled (BadIdl file line column why)
    first_refused file line column why must = (
      λ made m. no_idl (first_part f m.compiled.mid) old.idl old.acf loads (BadIdl file line column why) must m.older m.compiled.first,
      of_cause (λ q. (q ≡ Memory) ⊎ (q ≡ BadIdl file line column why)) (inl refl) by
          (λ reason n. absurd (no_idl (first_part f n.compiled.mid) old.idl old.acf loads (BadIdl file line column why) must n.older n.compiled.first)),
    )
      where
        by : (q : Refusal) → IsFilesCause f old new q → (q ≡ Memory) ⊎ (q ≡ BadIdl file line column why)
        by q (inl cause) = no_idl_cause f old.idl old.acf loads (BadIdl file line column why) must q cause
        by q (inr a) = absurd (no_idl (first_part f a.mid) old.idl old.acf loads (BadIdl file line column why) must a.interface a.first)

    second_refused : (file : List ℕ) (line column : ℕ) (why : IdlReason) (i : Interface) → IsHeldInterface f old i
        → MustBeNoIdl f new.idl new.acf (BadIdl file line column why) → IsSettled (BadIdl file line column why)
    second_refused file line column why i h must = (
      λ made m. no_idl (second_part f m.compiled.mid) new.idl new.acf loads (BadIdl file line column why) must m.newer m.compiled.second,
      of_cause (λ q. (q ≡ Memory) ⊎ (q ≡ BadIdl file line column why)) (inl refl) by
          (λ reason n. absurd (no_idl (second_part f n.compiled.mid) new.idl new.acf loads (BadIdl file line column why) must n.newer n.compiled.second)),
    )
      where
        by : (q : Refusal) → IsFilesCause f old new q → (q ≡ Memory) ⊎ (q ≡ BadIdl file line column why)
        by q (inl cause) = inl (compiled_cause f old.idl old.acf loads h.file i h.held h.means q cause)
        by q (inr a) = no_idl_cause f new.idl new.acf loads (BadIdl file line column why) must q (over_all f a.mid new.idl new.acf q a.rest)

    differing : (why : CompatFault) (i j : Interface) → AreHeld f old new i j → IsDifferent i j why → IsSettled (NotCompatible why)
    differing why i j h different = (
      never,
      of_cause (λ q. (q ≡ Memory) ⊎ (q ≡ NotCompatible why)) (inl refl) (λ q cause. inl (files_good i j h q cause))
          (λ because n. inr (ap (λ (z : CompatFault). NotCompatible z) (same_reason i j why because different (reason_here i j h because n)))),
    )
      where
        never : (made : List ℕ) → IsCompatible f old new made → ⊥
        never made m =
            let older : m.older ≡ i = compiled_is f (first_part f m.compiled.mid) refl old i m.older h.first m.compiled.first in
            let newer : m.newer ≡ j = compiled_is f (second_part f m.compiled.mid) refl new j m.newer h.second m.compiled.second in
            let ((pairs, alike), is) = m.answer in
            no_reason i j why different pairs
            (subst (λ (k : Interface). IsCompared i k (compared.Yes pairs)) newer (subst (λ (k : Interface). IsCompared k m.newer (compared.Yes pairs)) older alike))

    pub compat_settled : (r : Refusal) → MustBeIncomparable f old new r → IsSettled r
    compat_settled Memory must = absurd must
    compat_settled (Absent file) must = absurd must
    compat_settled (FileFailed file) must = absurd must
    compat_settled (BadIdl file line column why) (inl must) = first_refused file line column why must
    compat_settled (BadIdl file line column why) (inr (i, h, must)) = second_refused file line column why i h must
    compat_settled NoOperation must = absurd must
    compat_settled ReadFault must = absurd must
    compat_settled (BadOctets place why) must = absurd must
    compat_settled (BadText line column why) must = absurd must
    compat_settled (BadValue path why) must = absurd must
    compat_settled (TooLong many) must = absurd must
    compat_settled (BadRequest why) must = absurd must
    compat_settled (BadLabel why) must = absurd must
    compat_settled ShortLabel must = absurd must
    compat_settled (TooFewEnds wanted found) must = absurd must
    compat_settled (EndFailed which) must = absurd must
    compat_settled (BadPdu place why) must = absurd must
    compat_settled (NotCompatible why) (i, j, h, different) = differing why i j h different
    compat_settled (BadScript line) must = absurd must
    compat_settled LongScript must = absurd must
