-- The rows of a run follow from the whole of it: each goes by the way in which the run ended.
use Rattle.std.proofs.Common.{◌≡◌, ◌∙◌, ℕ, List, [], ◌∷◌, Option, Some, None, refl, sym, ap, subst, inl, inr, ◌⊎◌}
use Rattle.std.specs.Prelude.{◌≢◌, Bool, true, false, codes}
use Rattle.idl_grammar.specs.Files.{Idl}
use Rattle.nd_base.specs.Over.{IsMissing, FilesOver, SourceOver, SinkOver, HasRisen, Got, Rose}
use Rattle.command_streams.specs.declared.outcome.Outcome.{Outcome}
use Rattle.command_streams.specs.declared.outcome.Outcome.TheVariants.{Done, Refused, Reported, Wanting}
use Rattle.command_refusals.specs.declared.refusal.Refusal.{Refusal}
use Rattle.command_refusals.specs.declared.refusal.Refusal.TheVariants.{Memory, Absent, FileFailed, BadIdl, NoOperation, ReadFault, BadOctets, BadText, BadValue, TooLong, BadRequest, BadLabel}
use Rattle.command_refusals.specs.declared.refusal.Refusal.TheVariants.{ShortLabel, TooFewEnds, EndFailed}
use Rattle.command_refusals.specs.declared.refusal.Refusal.TheVariants.{BadPdu, NotCompatible, BadScript, LongScript}
use Rattle.dceidl.specs.Causes.{IsMade, IsCause, IsWrittenBeside, IsUnexplained, statuses_of, values_statuses, tells}
use Rattle.dceidl.specs.Input.{IsNoCall, IsNoWrap, IsOpened, IsTaskCause}
use Rattle.command_refusals.specs.Lines.{status_of, line_of}
use Rattle.command_compile.specs.Compiled.{IsIdlCause}
use Rattle.dceidl.specs.Asked.{IsRequestDue, asks_files, asks_input, drains, Seen}
use Rattle.dceidl.proofs.Drains.{refused_rose}
use Rattle.nd_base.proofs.Rising.{rose_later}
use Rattle.dceidl.specs.Ready.{HasAsked}
use Rattle.ndr_pipe.specs.Ends.{EndsSeen}
use Rattle.nd_base.specs.declared.octets.Order.{Order}
use Rattle.command_line.specs.declared.command.Reading.{Reading}
use Rattle.command_line.specs.declared.command.Reading.TheVariants.{Decode, Explain, Trace, Drain}
use Rattle.command_line.specs.declared.command.OrderWord.{OrderWord}
use Rattle.command_line.specs.declared.command.OrderWord.TheVariants.{Fixed, Label}
use Rattle.command_line.specs.declared.command.Task.{Task}
use Rattle.command_line.specs.declared.command.Task.TheVariants.{Read, Encode, Migrate}
use Rattle.dceidl.specs.Rows.{IsDone, IsRefusedWith, IsRefusedBeside, IsRefused, AreUnknown, tells_refused, ReadsInput}
use Rattle.dceidl.specs.Rows.{IsDueOf, IsDueNext, IsDueAndMissing, IsDueAndReported, EndRose, IsEndReported, HasNotFailed}
use Rattle.command_streams.specs.Delivery.{IsOneOf, IsDelivered}
use Rattle.dceidl.specs.Run.{HasRun, IsOutcome, IsCommandOutcome}
use Rattle.nd_value.specs.Setting.{Setting}
use Rattle.command_line.specs.Words.{Command, Subject, Values, Compile, Plan, Call, Wrap, Compat, Why, Sample, Help, Version, command, idl_of, op_of}
use Rattle.dceidl.proofs.Beside.{beside_one, beside_quiet, one_in}
use Rattle.dceidl.proofs.Compats.{compat_status, compat_read, compat_end, compat_absent, compat_failed}

-- a refusal has none of the statuses 0, 2 and 4
pub not_zero : (r : Refusal) → status_of r ≡ 0 → ⊥
not_zero Memory e = cc
not_zero (Absent file) e = cc
not_zero (FileFailed file) e = cc
not_zero (BadIdl file line column reason) e = cc
not_zero NoOperation e = cc
not_zero (TooLong many) e = cc
not_zero ReadFault e = cc
not_zero (BadOctets place why) e = cc
not_zero (BadText line column reason) e = cc
not_zero (BadValue path reason) e = cc
not_zero (BadRequest fault) e = cc
not_zero (BadLabel fault) e = cc
not_zero ShortLabel e = cc
not_zero (TooFewEnds wanted found) e = cc
not_zero (EndFailed which) e = cc
not_zero (BadPdu spot because) e = cc
not_zero (NotCompatible differing) e = cc
not_zero (BadScript row) e = cc
not_zero LongScript e = cc

-- How a run of a command ends: done, refused, out of memory, or with a fault of out or notes in place of its own status.
pub data Ended (x : Seen) (out notes : SinkOver) (c : Command) (status : ℕ) : Type 0 where
  ended_done : status ≡ 0 → IsDone x out notes c → Ended x out notes c status
  ended_refused : IsRefusedWith x out notes c status → Ended x out notes c status
  ended_unknown : status ≡ 2 → (text : List ℕ) → IsUnexplained c text → Got out text → Got notes (codes "words refused\n") → Ended x out notes c status
  ended_untold : status ≡ 4 → HasRisen out.faults → (text : List ℕ) → IsUnexplained c text → Ended x out notes c status
  ended_told : IsRefusedBeside x out notes c status → Ended x out notes c status
  ended_cut : status ≡ 4 → HasRisen out.faults → (r : Refusal) (text : List ℕ) → IsWrittenBeside x c r text → Ended x out notes c status
  ended_wanting : status ≡ 5 → Ended x out notes c status
  ended_unwritten : status ≡ 4 → HasRisen out.faults → (made : List ℕ) → IsMade x c made → Ended x out notes c status
  ended_unreported : status ≡ 4 → HasRisen notes.faults → Ended x out notes c status

module _ (x : Seen) (out notes : SinkOver) (c : Command) (status : ℕ) where
  abbrev End : Type 0
  End = Ended x out notes c status

  by_outcome : (outcome : Outcome) → IsCommandOutcome x c outcome → IsDelivered out notes outcome status → End
  by_outcome (Done made) is_made (inl (is, given, quiet)) = ended_done is (record { made = made; is_made = is_made; given = given; quiet = quiet })
  by_outcome (Done made) is_made (inr (is, rose, some, warned)) = ended_unwritten is rose made is_made
  by_outcome (Refused own line) r (before, inl (is, told)) =
      ended_refused (record { refusal = r.refusal; cause = r.cause; own_status = is ∙ r.status_is; line = subst (Got notes) r.line_is told; nothing_given = before; untold = r.untold })
  by_outcome (Refused own line) r (before, inr (is, rose, some)) = ended_unreported is rose
  by_outcome (Reported text own line) (inl (nearest, two, same)) (inl (given, inl (is, told))) =
      ended_unknown (is ∙ two) text nearest given (subst (Got notes) same told)
  by_outcome (Reported text own line) (inr d) (inl (given, inl (is, told))) =
      ended_told (record { refusal = d.refusal; text = text; beside = d.beside; own_status = is ∙ d.status_is; line = subst (Got notes) d.line_is told; given = given })
  by_outcome (Reported text own line) r (inl (given, inr (is, rose, some))) = ended_unreported is rose
  by_outcome (Reported text own line) (inl (nearest, two, same)) (inr (is, rose, some, warned)) = ended_untold is rose text nearest
  by_outcome (Reported text own line) (inr d) (inr (is, rose, some, warned)) = ended_cut is rose d.refusal text d.beside
  by_outcome Wanting caused (before, inl (is, told)) = ended_wanting is
  by_outcome Wanting caused (before, inr (is, rose, some)) = ended_unreported is rose

  pub ended : (words : List (List ℕ)) → command words ≡ Some c → HasRun words x out notes status → End
  ended words is run = by_outcome run.outcome (subst (λ o. IsOutcome x o run.outcome) is run.caused) run.delivered

  -- status 0 is a command that was done
  pub done_is : End → status ≡ 0 → IsDone x out notes c
  done_is (ended_done is d) e = d
  done_is (ended_refused r) e = absurd (not_zero r.refusal (sym r.own_status ∙ e))
  done_is (ended_unknown is text nearest given told) e = absurd (never is e)
    where
      never : status ≡ 2 → status ≡ 0 → ⊥
      never a b = cc
  done_is (ended_untold is rose text nearest) e = absurd (never is e)
    where
      never : status ≡ 4 → status ≡ 0 → ⊥
      never a b = cc
  done_is (ended_told t) e = absurd (not_zero t.refusal (sym t.own_status ∙ e))
  done_is (ended_cut is rose r text beside) e = absurd (never is e)
    where
      never : status ≡ 4 → status ≡ 0 → ⊥
      never a b = cc
  done_is (ended_wanting is) e = absurd (never is e)
    where
      never : status ≡ 5 → status ≡ 0 → ⊥
      never a b = cc
  done_is (ended_unwritten is rose made is_made) e = absurd (never is e)
    where
      never : status ≡ 4 → status ≡ 0 → ⊥
      never a b = cc
  done_is (ended_unreported is rose) e = absurd (never is e)
    where
      never : status ≡ 4 → status ≡ 0 → ⊥
      never a b = cc

  -- any other status than 0, 1, 2, 4 and 5 has a cause
  pub has_cause : End → status ≢ 0 → status ≢ 1 → status ≢ 2 → status ≢ 4 → status ≢ 5 → IsRefusedWith x out notes c status
  has_cause (ended_done is d) zero one two four five = absurd (zero is)
  has_cause (ended_refused r) zero one two four five = r
  has_cause (ended_unknown is text nearest given told) zero one two four five = absurd (two is)
  has_cause (ended_untold is rose text nearest) zero one two four five = absurd (four is)
  has_cause (ended_told t) zero one two four five = absurd (one (t.own_status ∙ beside_one x c t.refusal t.text t.beside))
  has_cause (ended_cut is rose r text beside) zero one two four five = absurd (four is)
  has_cause (ended_wanting is) zero one two four five = absurd (five is)
  has_cause (ended_unwritten is rose made is_made) zero one two four five = absurd (four is)
  has_cause (ended_unreported is rose) zero one two four five = absurd (four is)

-- words that have an entry run out of memory alone
memory_of_why : (x : Seen) (out notes : SinkOver) (words : List (List ℕ)) (status : ℕ) → IsRefusedWith x out notes (Why words) status → status ≡ 5
memory_of_why x out notes words status r = r.own_status ∙ ap status_of r.cause

-- what a command that is refused says
refused_as : (x : Seen) (out notes : SinkOver) (c : Command) (status : ℕ) → status ≢ 5 → IsRefusedWith x out notes c status → IsRefused x out notes c status
refused_as x out notes (Why words) status five r = absurd (five (memory_of_why x out notes words status r))
refused_as x out notes (Values task of given) status five r = inl r
refused_as x out notes (Compile idl acf) status five r = inl r
refused_as x out notes (Plan idl acf) status five r = inl r
refused_as x out notes (Call idl acf op) status five r = inl r
refused_as x out notes (Wrap of order call max) status five r = inl r
refused_as x out notes (Compat old old_acf new new_acf why) status five r = inl r
refused_as x out notes (Sample seed count) status five r = inl r
refused_as x out notes Help status five r = inl r
refused_as x out notes Version status five r = inl r

nearest_as : (x : Seen) (out notes : SinkOver) (c : Command) (status : ℕ) → status ≡ 2 → (text : List ℕ) → IsUnexplained c text → Got out text
    → Got notes (codes "words refused\n") → IsRefused x out notes c status
nearest_as x out notes (Why words) status is text nearest given told =
    record { text = text; unexplained = nearest; own_status = is; line = told; given = given }
nearest_as x out notes (Values task of given) status is text nearest gave told = absurd nearest
nearest_as x out notes (Compile idl acf) status is text nearest given told = absurd nearest
nearest_as x out notes (Plan idl acf) status is text nearest given told = absurd nearest
nearest_as x out notes (Call idl acf op) status is text nearest given told = absurd nearest
nearest_as x out notes (Wrap of order call max) status is text nearest given told = absurd nearest
nearest_as x out notes (Compat old old_acf new new_acf why) status is text nearest given told = absurd nearest
nearest_as x out notes (Sample seed count) status is text nearest given told = absurd nearest
nearest_as x out notes Help status is text nearest given told = absurd nearest
nearest_as x out notes Version status is text nearest given told = absurd nearest

beside_as : (x : Seen) (out notes : SinkOver) (c : Command) (status : ℕ) → IsRefusedBeside x out notes c status → IsRefused x out notes c status
beside_as x out notes (Why words) status t = absurd t.beside
beside_as x out notes (Values task of given) status t = inr t
beside_as x out notes (Compile idl acf) status t = inr t
beside_as x out notes (Plan idl acf) status t = inr t
beside_as x out notes (Call idl acf op) status t = inr t
beside_as x out notes (Wrap of order call max) status t = inr t
beside_as x out notes (Compat old old_acf new new_acf why) status t = inr t
beside_as x out notes (Sample seed count) status t = inr t
beside_as x out notes Help status t = inr t
beside_as x out notes Version status t = inr t

-- any other status than 0, 4 and 5 is a refusal
pub refused_is : (x : Seen) (out notes : SinkOver) (c : Command) (status : ℕ) → Ended x out notes c status → status ≢ 0 → status ≢ 4 → status ≢ 5
    → IsRefused x out notes c status
refused_is x out notes c status (ended_done is d) zero four five = absurd (zero is)
refused_is x out notes c status (ended_refused r) zero four five = refused_as x out notes c status five r
refused_is x out notes c status (ended_unknown is text nearest given told) zero four five = nearest_as x out notes c status is text nearest given told
refused_is x out notes c status (ended_untold is rose text nearest) zero four five = absurd (four is)
refused_is x out notes c status (ended_told t) zero four five = beside_as x out notes c status t
refused_is x out notes c status (ended_cut is rose r text beside) zero four five = absurd (four is)
refused_is x out notes c status (ended_wanting is) zero four five = absurd (five is)
refused_is x out notes c status (ended_unwritten is rose made is_made) zero four five = absurd (four is)
refused_is x out notes c status (ended_unreported is rose) zero four five = absurd (four is)

-- ## Statuses

abbrev OfFiles : ℕ → Type 0
OfFiles = IsOneOf (0 ∷ 4 ∷ 5 ∷ 6 ∷ 7 ∷ 9 ∷ [])

-- an end fails only if a command drains
of_values : (t : Bool) (status : ℕ) (r : Refusal) → ((which : ℕ) → r ≡ EndFailed which → t ≡ true) → status ≡ status_of r → IsOneOf (values_statuses t) status
of_values true status Memory ends e = inr (inr (inr (inr (inl e))))
of_values false status Memory ends e = inr (inr (inr (inr (inl e))))
of_values true status (Absent file) ends e = inr (inr (inr (inr (inr (inr (inl e))))))
of_values false status (Absent file) ends e = inr (inr (inr (inr (inr (inr (inl e))))))
of_values true status (FileFailed file) ends e = inr (inr (inr (inr (inr (inr (inr (inr (inl e))))))))
of_values false status (FileFailed file) ends e = inr (inr (inr (inr (inr (inr (inr (inl e)))))))
of_values true status (BadIdl file line column reason) ends e = inr (inr (inr (inr (inr (inl e)))))
of_values false status (BadIdl file line column reason) ends e = inr (inr (inr (inr (inr (inl e)))))
of_values true status NoOperation ends e = inr (inr (inr (inr (inr (inl e)))))
of_values false status NoOperation ends e = inr (inr (inr (inr (inr (inl e)))))
of_values true status ReadFault ends e = inr (inr (inl e))
of_values false status ReadFault ends e = inr (inr (inl e))
of_values true status (BadOctets place why) ends e = inr (inl e)
of_values false status (BadOctets place why) ends e = inr (inl e)
of_values true status (BadText line column reason) ends e = inr (inl e)
of_values false status (BadText line column reason) ends e = inr (inl e)
of_values true status (BadValue path reason) ends e = inr (inl e)
of_values false status (BadValue path reason) ends e = inr (inl e)
of_values true status (TooLong many) ends e = inr (inl e)
of_values false status (TooLong many) ends e = inr (inl e)
of_values true status (BadRequest fault) ends e = inr (inl e)
of_values false status (BadRequest fault) ends e = inr (inl e)
of_values true status (BadLabel fault) ends e = inr (inl e)
of_values false status (BadLabel fault) ends e = inr (inl e)
of_values true status ShortLabel ends e = inr (inl e)
of_values false status ShortLabel ends e = inr (inl e)
of_values true status (TooFewEnds wanted found) ends e = inr (inl e)
of_values false status (TooFewEnds wanted found) ends e = inr (inl e)
of_values true status (EndFailed which) ends e = inr (inr (inr (inr (inr (inr (inr (inl e)))))))
of_values true status (BadPdu spot because) ends e = inr (inl e)
of_values true status (NotCompatible differing) ends e = inr (inl e)
of_values true status (BadScript row) ends e = inr (inl e)
of_values true status LongScript ends e = inr (inl e)
of_values false status (EndFailed which) ends e = let never = ends which refl in cc
of_values false status (BadPdu spot because) ends e = inr (inl e)
of_values false status (NotCompatible differing) ends e = inr (inl e)
of_values false status (BadScript row) ends e = inr (inl e)
of_values false status LongScript ends e = inr (inl e)

zero_of_values : (t : Bool) (status : ℕ) → status ≡ 0 → IsOneOf (values_statuses t) status
zero_of_values true status e = inl e
zero_of_values false status e = inl e

four_of_values : (t : Bool) (status : ℕ) → status ≡ 4 → IsOneOf (values_statuses t) status
four_of_values true status e = inr (inr (inr (inl e)))
four_of_values false status e = inr (inr (inr (inl e)))

five_of_values : (t : Bool) (status : ℕ) → status ≡ 5 → IsOneOf (values_statuses t) status
five_of_values true status e = inr (inr (inr (inr (inl e))))
five_of_values false status e = inr (inr (inr (inr (inl e))))

of_files : (f : FilesOver) (idl : Idl) (acf : Option (List ℕ)) (status : ℕ) (r : Refusal) → IsIdlCause f idl acf r → status ≡ status_of r → OfFiles status
of_files f idl acf status Memory cause e = inr (inr (inl e))
of_files f idl acf status (Absent file) cause e = inr (inr (inr (inr (inl e))))
of_files f idl acf status (FileFailed file) cause e = inr (inr (inr (inr (inr (inl e)))))
of_files f idl acf status (BadIdl file line column reason) cause e = inr (inr (inr (inl e)))
of_files f idl acf status NoOperation cause e = absurd cause
of_files f idl acf status (TooLong many) cause e = absurd cause
of_files f idl acf status ReadFault cause e = absurd cause
of_files f idl acf status (BadOctets place why) cause e = absurd cause
of_files f idl acf status (BadText line column reason) cause e = absurd cause
of_files f idl acf status (BadValue path reason) cause e = absurd cause
of_files f idl acf status (BadRequest fault) cause e = absurd cause
of_files f idl acf status (BadLabel fault) cause e = absurd cause
of_files f idl acf status ShortLabel cause e = absurd cause
of_files f idl acf status (TooFewEnds wanted found) cause e = absurd cause
of_files f idl acf status (EndFailed which) cause e = absurd cause
of_files f idl acf status (BadPdu spot because) cause e = absurd cause
of_files f idl acf status (NotCompatible differing) cause e = absurd cause
of_files f idl acf status (BadScript row) cause e = absurd cause
of_files f idl acf status LongScript cause e = absurd cause

-- an end fails only if a command drains
ends_drain : (x : Seen) (task : Task) (of : Subject) (given : Option (List ℕ)) (which : ℕ) → IsCause x (Values task of given) (EndFailed which) → drains task ≡ true
ends_drain x task of None which (inl (cause, before, kept)) = absurd cause
ends_drain x task of (Some name) which (inl (inl cause, before, kept)) = absurd cause
ends_drain x task of (Some name) which (inl (inr u, before, kept)) = absurd u.cause
ends_drain x (Read Drain word) of given which (inr q) = refl
ends_drain x (Read Decode (Fixed order)) of given which (inr (w, ready, inl (cause, kept))) = absurd cause
ends_drain x (Read Decode Label) of given which (inr (w, ready, inl (cause, kept))) = absurd cause
ends_drain x (Read Decode word) of given which (inr (w, ready, inr (rest, order, opened, cause))) = absurd cause
ends_drain x (Read Explain (Fixed order)) of given which (inr (w, ready, inl (cause, kept))) = absurd cause
ends_drain x (Read Trace (Fixed order)) of given which (inr (w, ready, inl (cause, kept))) = absurd cause
ends_drain x (Read Explain Label) of given which (inr (w, ready, inl (cause, kept))) = absurd cause
ends_drain x (Read Trace Label) of given which (inr (w, ready, inl (cause, kept))) = absurd cause
ends_drain x (Read Explain word) of given which (inr (w, ready, inr (rest, order, opened, cause))) = absurd cause
ends_drain x (Read Trace word) of given which (inr (w, ready, inr (rest, order, opened, cause))) = absurd cause
ends_drain x (Encode word chunk) of given which (inr (w, ready, (text, read, cause))) = absurd cause
ends_drain x Migrate of given which (inr (w, ready, (text, read, cause))) = absurd cause

-- `call` and `wrap` call no end
call_ends : (x : Seen) (idl : Idl) (acf op : Option (List ℕ)) (which : ℕ) → IsNoCall x.files x.input idl acf op (EndFailed which) → ⊥
call_ends x idl acf None which (inl (cause, before)) = cause
call_ends x idl acf (Some name) which (inl (cause, before)) = cause
call_ends x idl acf op which (inr (i, number, ready, cause)) = cause

wrap_ends : (x : Seen) (of : Subject) (which : ℕ) → IsNoWrap x.files x.input of (EndFailed which) → ⊥
wrap_ends x of which (inl (cause, before)) = cause
wrap_ends x of which (inr (w, ready, (text, read, cause))) = cause

refused_status : (x : Seen) (c : Command) (status : ℕ) (r : Refusal) → IsCause x c r → status ≡ status_of r → IsOneOf (statuses_of c) status
refused_status x (Values task of given) status r cause e =
    of_values (drains task) status r (λ which same. ends_drain x task of given which (subst (IsCause x (Values task of given)) same cause)) e
refused_status x (Compile idl acf) status r cause e = of_files x.files idl acf status r cause e
refused_status x (Plan idl acf) status r cause e = of_files x.files idl acf status r cause e
refused_status x (Call idl acf op) status r cause e =
    of_values false status r (λ which same. absurd (call_ends x idl acf op which (subst (IsCause x (Call idl acf op)) same cause))) e
refused_status x (Wrap of order call max) status r cause e =
    of_values false status r (λ which same. absurd (wrap_ends x of which (subst (IsCause x (Wrap of order call max)) same cause))) e
refused_status x (Compat old old_acf new new_acf why) status r cause e = compat_status x.files (record { idl = old; acf = old_acf }) (record { idl = new; acf = new_acf }) status r cause e
refused_status x (Why words) status r cause e = inr (inr (inr (inl (e ∙ ap status_of cause))))
refused_status x (Sample seed count) status r cause e = inr (inr (inl (e ∙ ap status_of cause)))
refused_status x Help status r cause e = inr (inr (inl (e ∙ ap status_of cause)))
refused_status x Version status r cause e = inr (inr (inl (e ∙ ap status_of cause)))

zero_in : (c : Command) (status : ℕ) → status ≡ 0 → IsOneOf (statuses_of c) status
zero_in (Values task of given) status e = zero_of_values (drains task) status e
zero_in (Compile idl acf) status e = inl e
zero_in (Plan idl acf) status e = inl e
zero_in (Call idl acf op) status e = zero_of_values false status e
zero_in (Wrap of order call max) status e = zero_of_values false status e
zero_in (Compat old old_acf new new_acf why) status e = inl e
zero_in (Why words) status e = inl e
zero_in (Sample seed count) status e = inl e
zero_in Help status e = inl e
zero_in Version status e = inl e

four_in : (c : Command) (status : ℕ) → status ≡ 4 → IsOneOf (statuses_of c) status
four_in (Values task of given) status e = four_of_values (drains task) status e
four_in (Compile idl acf) status e = inr (inl e)
four_in (Plan idl acf) status e = inr (inl e)
four_in (Call idl acf op) status e = four_of_values false status e
four_in (Wrap of order call max) status e = four_of_values false status e
four_in (Compat old old_acf new new_acf why) status e = inr (inr (inl e))
four_in (Why words) status e = inr (inr (inl e))
four_in (Sample seed count) status e = inr (inl e)
four_in Help status e = inr (inl e)
four_in Version status e = inr (inl e)

five_in : (c : Command) (status : ℕ) → status ≡ 5 → IsOneOf (statuses_of c) status
five_in (Values task of given) status e = five_of_values (drains task) status e
five_in (Compile idl acf) status e = inr (inr (inl e))
five_in (Plan idl acf) status e = inr (inr (inl e))
five_in (Call idl acf op) status e = five_of_values false status e
five_in (Wrap of order call max) status e = five_of_values false status e
five_in (Compat old old_acf new new_acf why) status e = inr (inr (inr (inl e)))
five_in (Why words) status e = inr (inr (inr (inl e)))
five_in (Sample seed count) status e = inr (inr (inl e))
five_in Help status e = inr (inr (inl e))
five_in Version status e = inr (inr (inl e))

-- only the words of `why` can have no entry
two_in : (c : Command) (text : List ℕ) → IsUnexplained c text → (status : ℕ) → status ≡ 2 → IsOneOf (statuses_of c) status
two_in (Why words) text nearest status e = inr (inl e)
two_in (Values task of given) text nearest status e = absurd nearest
two_in (Compile idl acf) text nearest status e = absurd nearest
two_in (Plan idl acf) text nearest status e = absurd nearest
two_in (Call idl acf op) text nearest status e = absurd nearest
two_in (Wrap of order call max) text nearest status e = absurd nearest
two_in (Compat old old_acf new new_acf why) text nearest status e = absurd nearest
two_in (Sample seed count) text nearest status e = absurd nearest
two_in Help text nearest status e = absurd nearest
two_in Version text nearest status e = absurd nearest

pub status_in : (x : Seen) (out notes : SinkOver) (c : Command) (status : ℕ) → Ended x out notes c status → IsOneOf (statuses_of c) status
status_in x out notes c status (ended_done is d) = zero_in c status is
status_in x out notes c status (ended_refused r) = refused_status x c status r.refusal r.cause r.own_status
status_in x out notes c status (ended_unknown is text nearest given told) = two_in c text nearest status is
status_in x out notes c status (ended_untold is rose text nearest) = four_in c status is
status_in x out notes c status (ended_told t) = one_in x c t.refusal t.text t.beside status (t.own_status ∙ beside_one x c t.refusal t.text t.beside)
status_in x out notes c status (ended_cut is rose r text beside) = four_in c status is
status_in x out notes c status (ended_wanting is) = five_in c status is
status_in x out notes c status (ended_unwritten is rose made is_made) = four_in c status is
status_in x out notes c status (ended_unreported is rose) = four_in c status is

-- ## Words that are no command

-- the statuses of words that are no command
pub data Idle (status : ℕ) : Type 0 where
  idle_two : status ≡ 2 → Idle status
  idle_four : status ≡ 4 → Idle status
  idle_five : status ≡ 5 → Idle status

pub idle : (x : Seen) (out notes : SinkOver) (status : ℕ) (words : List (List ℕ)) → command words ≡ None → HasRun words x out notes status → Idle status
idle x out notes status words is run = by run.outcome (subst (λ o. IsOutcome x o run.outcome) is run.caused) run.delivered
  where
    by : (outcome : Outcome) → IsOutcome x None outcome → IsDelivered out notes outcome status → Idle status
    by (Done made) (inl e) d = cc
    by (Done made) (inr e) d = cc
    by (Refused own line) (inl e) (before, inl (is, told)) = let two : own ≡ 2 = cc in idle_two (is ∙ two)
    by (Refused own line) (inl e) (before, inr (is, rose, some)) = idle_four is
    by (Refused own line) (inr e) d = cc
    by (Reported text own line) (inl e) d = cc
    by (Reported text own line) (inr e) d = cc
    by Wanting e (before, inl (is, told)) = idle_five is
    by Wanting e (before, inr (is, rose, some)) = idle_four is

-- ## What a status says

-- a status of a refusal is that of a command
pub record OfRefusal (x : Seen) (notes : SinkOver) (words : List (List ℕ)) (status : ℕ) : Type 0 where
  pub command_is : Command
  pub is : command words ≡ Some command_is
  pub refusal : Refusal
  pub cause : IsCause x command_is refusal
  pub own : status_of refusal ≡ status
  pub line : Got notes (line_of (idl_of command_is) (op_of command_is) refusal)

abbrev IsOther : ℕ → Type 0
IsOther n = (n ≡ 0 → ⊥) × (n ≡ 1 → ⊥) × (n ≡ 2 → ⊥) × (n ≡ 4 → ⊥) × (n ≡ 5 → ⊥)

pub of_refusal : (x : Seen) (out notes : SinkOver) (status : ℕ) (words : List (List ℕ)) → HasRun words x out notes status → (n : ℕ) → status ≡ n → IsOther n
    → OfRefusal x notes words status
of_refusal x out notes status words run n e (zero, one, two, four, five) = by (command words) refl
  where
    by : (o : Option Command) → command words ≡ o → OfRefusal x notes words status
    by None is = absurd (never (idle x out notes status words is run))
      where
        never : Idle status → ⊥
        never (idle_two h) = two (sym e ∙ h)
        never (idle_four h) = four (sym e ∙ h)
        never (idle_five h) = five (sym e ∙ h)
    by (Some c) is =
        let r =
        has_cause x out notes c status (ended x out notes c status words is run) (λ h. zero (sym e ∙ h)) (λ h. one (sym e ∙ h)) (λ h. two (sym e ∙ h)) (λ h. four (sym e ∙ h)) (λ h. five (sym e ∙ h))
        in
        record { command_is = c; is = is; refusal = r.refusal; cause = r.cause; own = sym r.own_status; line = r.line }

module _ (x : Seen) where
  -- files alone are no input
  idl_read : (idl : Idl) (acf : Option (List ℕ)) (r : Refusal) → IsIdlCause x.files idl acf r → status_of r ≡ 3 → ⊥
  idl_read idl acf ReadFault cause e = absurd cause
  idl_read idl acf Memory cause e = cc
  idl_read idl acf (Absent file) cause e = cc
  idl_read idl acf (FileFailed file) cause e = cc
  idl_read idl acf (BadIdl file line column reason) cause e = cc
  idl_read idl acf NoOperation cause e = cc
  idl_read idl acf (TooLong many) cause e = cc
  idl_read idl acf (BadOctets place why) cause e = cc
  idl_read idl acf (BadText line column reason) cause e = cc
  idl_read idl acf (BadValue path reason) cause e = cc
  idl_read idl acf (BadRequest fault) cause e = cc
  idl_read idl acf (BadLabel fault) cause e = cc
  idl_read idl acf ShortLabel cause e = cc
  idl_read idl acf (TooFewEnds wanted found) cause e = cc
  idl_read idl acf (EndFailed which) cause e = cc
  idl_read idl acf (BadPdu spot because) cause e = cc
  idl_read idl acf (NotCompatible differing) cause e = cc
  idl_read idl acf (BadScript row) cause e = cc
  idl_read idl acf LongScript cause e = cc

  opened_failed : (s rest : SourceOver) (word : OrderWord) (order : Order) → IsOpened word s rest order → HasRisen rest.faults → HasRisen s.faults
  opened_failed s rest (Fixed named) order (same, is) rose = subst (λ r. HasRisen r.faults) same rose
  opened_failed s rest Label order o rose =
      rose_later s.faults.before rest.faults.before s.faults.now o.later (subst (λ k. Rose rest.faults.before k) o.faults rose)

  octets_failed : (s : SourceOver) (ends : EndsSeen) (how : Reading) (word : OrderWord) (w : Setting) → IsTaskCause s ends (Read how word) w ReadFault → HasRisen s.faults
  octets_failed s ends how (Fixed named) w (inl (cause, kept)) = absurd cause
  octets_failed s ends how Label w (inl (rose, kept)) = rose
  octets_failed s ends Decode word w (inr (rest, order, opened, rose)) = opened_failed s rest word order opened rose
  octets_failed s ends Explain word w (inr (rest, order, opened, rose)) = opened_failed s rest word order opened rose
  octets_failed s ends Trace word w (inr (rest, order, opened, rose)) = opened_failed s rest word order opened rose
  octets_failed s ends Drain word w (inr (rest, order, opened, (rose, enough, cause))) = opened_failed s rest word order opened rose

  call_read : (idl : Idl) (acf op : Option (List ℕ)) (r : Refusal) → IsNoCall x.files x.input idl acf op r → status_of r ≡ 3 → HasRisen x.input.faults
  call_read idl acf None ReadFault (inl (cause, before)) e = absurd cause
  call_read idl acf (Some name) ReadFault (inl (cause, before)) e = absurd cause
  call_read idl acf op ReadFault (inr (i, number, ready, h)) e = h.failed
  call_read idl acf op Memory cause e = cc
  call_read idl acf op (Absent file) cause e = cc
  call_read idl acf op (FileFailed file) cause e = cc
  call_read idl acf op (BadIdl file line column reason) cause e = cc
  call_read idl acf op NoOperation cause e = cc
  call_read idl acf op (TooLong many) cause e = cc
  call_read idl acf op (BadOctets place why) cause e = cc
  call_read idl acf op (BadText line column reason) cause e = cc
  call_read idl acf op (BadValue path reason) cause e = cc
  call_read idl acf op (BadRequest fault) cause e = cc
  call_read idl acf op (BadLabel fault) cause e = cc
  call_read idl acf op ShortLabel cause e = cc
  call_read idl acf op (TooFewEnds wanted found) cause e = cc
  call_read idl acf op (EndFailed which) cause e = cc
  call_read idl acf op (BadPdu spot because) cause e = cc
  call_read idl acf op (NotCompatible differing) cause e = cc
  call_read idl acf op (BadScript row) cause e = cc
  call_read idl acf op LongScript cause e = cc

  wrap_read : (of : Subject) (r : Refusal) → IsNoWrap x.files x.input of r → status_of r ≡ 3 → HasRisen x.input.faults
  wrap_read of ReadFault (inl (cause, before)) e = absurd cause
  wrap_read of ReadFault (inr (w, ready, rose)) e = rose
  wrap_read of Memory cause e = cc
  wrap_read of (Absent file) cause e = cc
  wrap_read of (FileFailed file) cause e = cc
  wrap_read of (BadIdl file line column reason) cause e = cc
  wrap_read of NoOperation cause e = cc
  wrap_read of (TooLong many) cause e = cc
  wrap_read of (BadOctets place why) cause e = cc
  wrap_read of (BadText line column reason) cause e = cc
  wrap_read of (BadValue path reason) cause e = cc
  wrap_read of (BadRequest fault) cause e = cc
  wrap_read of (BadLabel fault) cause e = cc
  wrap_read of ShortLabel cause e = cc
  wrap_read of (TooFewEnds wanted found) cause e = cc
  wrap_read of (EndFailed which) cause e = cc
  wrap_read of (BadPdu spot because) cause e = cc
  wrap_read of (NotCompatible differing) cause e = cc
  wrap_read of (BadScript row) cause e = cc
  wrap_read of LongScript cause e = cc

  -- the input is refused only as the input
  read_fault : (c : Command) (r : Refusal) → IsCause x c r → status_of r ≡ 3 → HasRisen x.input.faults × (asks_input c ≡ true)
  read_fault (Values task of None) ReadFault (inl (cause, before, kept)) e = absurd cause
  read_fault (Values task of (Some name)) ReadFault (inl (inl cause, before, kept)) e = absurd cause
  read_fault (Values task of (Some name)) ReadFault (inl (inr u, before, kept)) e = absurd u.cause
  read_fault (Values (Read how word) of given) ReadFault (inr (w, ready, cause)) e = (octets_failed x.input x.ends how word w cause, refl)
  read_fault (Values (Encode word chunk) of given) ReadFault (inr (w, ready, rose)) e = (rose, refl)
  read_fault (Values Migrate of given) ReadFault (inr (w, ready, rose)) e = (rose, refl)
  read_fault (Values task of given) Memory cause e = cc
  read_fault (Values task of given) (Absent file) cause e = cc
  read_fault (Values task of given) (FileFailed file) cause e = cc
  read_fault (Values task of given) (BadIdl file line column reason) cause e = cc
  read_fault (Values task of given) NoOperation cause e = cc
  read_fault (Values task of given) (TooLong many) cause e = cc
  read_fault (Values task of given) (BadOctets place why) cause e = cc
  read_fault (Values task of given) (BadText line column reason) cause e = cc
  read_fault (Values task of given) (BadValue path reason) cause e = cc
  read_fault (Values task of given) (BadRequest fault) cause e = cc
  read_fault (Values task of given) (BadLabel fault) cause e = cc
  read_fault (Values task of given) ShortLabel cause e = cc
  read_fault (Values task of given) (TooFewEnds wanted found) cause e = cc
  read_fault (Values task of given) (EndFailed which) cause e = cc
  read_fault (Values task of given) (BadPdu spot because) cause e = cc
  read_fault (Values task of given) (NotCompatible differing) cause e = cc
  read_fault (Values task of given) (BadScript row) cause e = cc
  read_fault (Values task of given) LongScript cause e = cc
  read_fault (Compile idl acf) r cause e = absurd (idl_read idl acf r cause e)
  read_fault (Plan idl acf) r cause e = absurd (idl_read idl acf r cause e)
  read_fault (Call idl acf op) r cause e = (call_read idl acf op r cause e, refl)
  read_fault (Wrap of order call max) r cause e = (wrap_read of r cause e, refl)
  read_fault (Compat old old_acf new new_acf why) r cause e = absurd (compat_read x.files (record { idl = old; acf = old_acf }) (record { idl = new; acf = new_acf }) r cause e)
  read_fault (Why words) r cause e = let never : status_of Memory ≡ 3 = sym (ap status_of cause) ∙ e in cc
  read_fault (Sample seed count) r cause e = let never : status_of Memory ≡ 3 = sym (ap status_of cause) ∙ e in cc
  read_fault Help r cause e = let never : status_of Memory ≡ 3 = sym (ap status_of cause) ∙ e in cc
  read_fault Version r cause e = let never : status_of Memory ≡ 3 = sym (ap status_of cause) ∙ e in cc

  -- a file of an interface that is absent is due and missing
  idl_absent : (idl : Idl) (acf : Option (List ℕ)) (r : Refusal) → IsIdlCause x.files idl acf r → status_of r ≡ 7
      → HasRisen x.files.absences × ((file : List ℕ) × (r ≡ Absent file) × IsDueOf x.files.held (Some (record { idl = idl; acf = acf })) file × IsMissing x.files.held file)
  idl_absent idl acf (Absent file) (rose, due, missing) e = (rose, (file, refl, due, missing))
  idl_absent idl acf Memory cause e = cc
  idl_absent idl acf (FileFailed file) cause e = cc
  idl_absent idl acf (BadIdl file line column reason) cause e = cc
  idl_absent idl acf NoOperation cause e = cc
  idl_absent idl acf (TooLong many) cause e = cc
  idl_absent idl acf ReadFault cause e = cc
  idl_absent idl acf (BadOctets place why) cause e = cc
  idl_absent idl acf (BadText line column reason) cause e = cc
  idl_absent idl acf (BadValue path reason) cause e = cc
  idl_absent idl acf (BadRequest fault) cause e = cc
  idl_absent idl acf (BadLabel fault) cause e = cc
  idl_absent idl acf ShortLabel cause e = cc
  idl_absent idl acf (TooFewEnds wanted found) cause e = cc
  idl_absent idl acf (EndFailed which) cause e = cc
  idl_absent idl acf (BadPdu spot because) cause e = cc
  idl_absent idl acf (NotCompatible differing) cause e = cc
  idl_absent idl acf (BadScript row) cause e = cc
  idl_absent idl acf LongScript cause e = cc

  call_absent : (idl : Idl) (acf op : Option (List ℕ)) (r : Refusal) → IsNoCall x.files x.input idl acf op r → status_of r ≡ 7
      → HasRisen x.files.absences × ((file : List ℕ) × (r ≡ Absent file) × IsDueOf x.files.held (Some (record { idl = idl; acf = acf })) file × IsMissing x.files.held file)
  call_absent idl acf None (Absent file) (inl ((rose, due, missing), before)) e = (rose, (file, refl, due, missing))
  call_absent idl acf (Some name) (Absent file) (inl ((rose, due, missing), before)) e = (rose, (file, refl, due, missing))
  call_absent idl acf op (Absent file) (inr (i, number, ready, cause)) e = absurd cause
  call_absent idl acf op Memory cause e = cc
  call_absent idl acf op (FileFailed file) cause e = cc
  call_absent idl acf op (BadIdl file line column reason) cause e = cc
  call_absent idl acf op NoOperation cause e = cc
  call_absent idl acf op (TooLong many) cause e = cc
  call_absent idl acf op ReadFault cause e = cc
  call_absent idl acf op (BadOctets place why) cause e = cc
  call_absent idl acf op (BadText line column reason) cause e = cc
  call_absent idl acf op (BadValue path reason) cause e = cc
  call_absent idl acf op (BadRequest fault) cause e = cc
  call_absent idl acf op (BadLabel fault) cause e = cc
  call_absent idl acf op ShortLabel cause e = cc
  call_absent idl acf op (TooFewEnds wanted found) cause e = cc
  call_absent idl acf op (EndFailed which) cause e = cc
  call_absent idl acf op (BadPdu spot because) cause e = cc
  call_absent idl acf op (NotCompatible differing) cause e = cc
  call_absent idl acf op (BadScript row) cause e = cc
  call_absent idl acf op LongScript cause e = cc

  wrap_absent : (of : Subject) (r : Refusal) → IsNoWrap x.files x.input of r → status_of r ≡ 7
      → HasRisen x.files.absences × ((file : List ℕ) × (r ≡ Absent file) × IsDueOf x.files.held (Some (record { idl = of.idl; acf = of.acf })) file × IsMissing x.files.held file)
  wrap_absent of (Absent file) (inl ((rose, due, missing), before)) e = (rose, (file, refl, due, missing))
  wrap_absent of (Absent file) (inr (w, ready, (text, read, cause))) e = absurd cause
  wrap_absent of Memory cause e = cc
  wrap_absent of (FileFailed file) cause e = cc
  wrap_absent of (BadIdl file line column reason) cause e = cc
  wrap_absent of NoOperation cause e = cc
  wrap_absent of (TooLong many) cause e = cc
  wrap_absent of ReadFault cause e = cc
  wrap_absent of (BadOctets place why) cause e = cc
  wrap_absent of (BadText line column reason) cause e = cc
  wrap_absent of (BadValue path reason) cause e = cc
  wrap_absent of (BadRequest fault) cause e = cc
  wrap_absent of (BadLabel fault) cause e = cc
  wrap_absent of ShortLabel cause e = cc
  wrap_absent of (TooFewEnds wanted found) cause e = cc
  wrap_absent of (EndFailed which) cause e = cc
  wrap_absent of (BadPdu spot because) cause e = cc
  wrap_absent of (NotCompatible differing) cause e = cc
  wrap_absent of (BadScript row) cause e = cc
  wrap_absent of LongScript cause e = cc

  abbrev IsDueFor : Command → List ℕ → Type 0
  IsDueFor c file = IsDueOf x.files.held (asks_files c) file ⊎ IsDueNext x.files.held c file

  -- the request of a file is due once what the command speaks of is ready
  request_due : (of : Subject) (name : List ℕ) (w : Setting) → HasAsked x.files of name w → IsRequestDue x.files.held of
  request_due of name w h = record {
    file = h.ready.found.compiled.file;
    interface = h.ready.interface;
    number = h.ready.number;
    loaded = h.ready.found.compiled.loaded;
    means = h.ready.found.compiled.means;
    known = h.ready.found.named.found;
  }

  -- a file that is absent is due and missing
  absent_is : (c : Command) (r : Refusal) → IsCause x c r → status_of r ≡ 7
      → HasRisen x.files.absences × ((file : List ℕ) × (r ≡ Absent file) × IsDueFor c file × IsMissing x.files.held file)
  absent_is (Values task of None) (Absent file) (inl ((rose, due, missing), before, kept)) e = (rose, (file, refl, inl due, missing))
  absent_is (Values task of (Some name)) (Absent file) (inl (inl (rose, due, missing), before, kept)) e = (rose, (file, refl, inl due, missing))
  absent_is (Values task of (Some name)) (Absent file) (inl (inr u, before, kept)) e =
      let (is, rose, missing) = u.cause in
      (rose, (file, refl, inr (is, request_due of name u.own u.has_asked), subst (IsMissing x.files.held) (sym is) missing))
  absent_is (Values (Read Decode (Fixed order)) of given) (Absent file) (inr (w, ready, inl (cause, kept))) e = absurd cause
  absent_is (Values (Read Explain (Fixed order)) of given) (Absent file) (inr (w, ready, inl (cause, kept))) e = absurd cause
  absent_is (Values (Read Trace (Fixed order)) of given) (Absent file) (inr (w, ready, inl (cause, kept))) e = absurd cause
  absent_is (Values (Read Drain (Fixed order)) of given) (Absent file) (inr (w, ready, inl (cause, kept))) e = absurd cause
  absent_is (Values (Read Decode Label) of given) (Absent file) (inr (w, ready, inl (cause, kept))) e = absurd cause
  absent_is (Values (Read Explain Label) of given) (Absent file) (inr (w, ready, inl (cause, kept))) e = absurd cause
  absent_is (Values (Read Trace Label) of given) (Absent file) (inr (w, ready, inl (cause, kept))) e = absurd cause
  absent_is (Values (Read Drain Label) of given) (Absent file) (inr (w, ready, inl (cause, kept))) e = absurd cause
  absent_is (Values (Read Decode word) of given) (Absent file) (inr (w, ready, inr (rest, order, opened, cause))) e = absurd cause
  absent_is (Values (Read Explain word) of given) (Absent file) (inr (w, ready, inr (rest, order, opened, cause))) e = absurd cause
  absent_is (Values (Read Trace word) of given) (Absent file) (inr (w, ready, inr (rest, order, opened, cause))) e = absurd cause
  absent_is (Values (Read Drain word) of given) (Absent file) (inr (w, ready, inr (rest, order, opened, cause))) e = absurd cause
  absent_is (Values (Encode word chunk) of given) (Absent file) (inr (w, ready, (text, read, cause))) e = absurd cause
  absent_is (Values Migrate of given) (Absent file) (inr (w, ready, (text, read, cause))) e = absurd cause
  absent_is (Values task of given) Memory cause e = cc
  absent_is (Values task of given) (FileFailed file) cause e = cc
  absent_is (Values task of given) (BadIdl file line column reason) cause e = cc
  absent_is (Values task of given) NoOperation cause e = cc
  absent_is (Values task of given) (TooLong many) cause e = cc
  absent_is (Values task of given) ReadFault cause e = cc
  absent_is (Values task of given) (BadOctets place why) cause e = cc
  absent_is (Values task of given) (BadText line column reason) cause e = cc
  absent_is (Values task of given) (BadValue path reason) cause e = cc
  absent_is (Values task of given) (BadRequest fault) cause e = cc
  absent_is (Values task of given) (BadLabel fault) cause e = cc
  absent_is (Values task of given) ShortLabel cause e = cc
  absent_is (Values task of given) (TooFewEnds wanted found) cause e = cc
  absent_is (Values task of given) (EndFailed which) cause e = cc
  absent_is (Values task of given) (BadPdu spot because) cause e = cc
  absent_is (Values task of given) (NotCompatible differing) cause e = cc
  absent_is (Values task of given) (BadScript row) cause e = cc
  absent_is (Values task of given) LongScript cause e = cc
  absent_is (Compile idl acf) r cause e = let (rose, (file, same, due, missing)) = idl_absent idl acf r cause e in (rose, (file, same, inl due, missing))
  absent_is (Plan idl acf) r cause e = let (rose, (file, same, due, missing)) = idl_absent idl acf r cause e in (rose, (file, same, inl due, missing))
  absent_is (Call idl acf op) r cause e = let (rose, (file, same, due, missing)) = call_absent idl acf op r cause e in (rose, (file, same, inl due, missing))
  absent_is (Wrap of order call max) r cause e = let (rose, (file, same, due, missing)) = wrap_absent of r cause e in (rose, (file, same, inl due, missing))
  absent_is (Compat old old_acf new new_acf why) r cause e = compat_absent x.files (record { idl = old; acf = old_acf }) (record { idl = new; acf = new_acf }) r cause e
  absent_is (Why words) r cause e = let never : status_of Memory ≡ 7 = sym (ap status_of cause) ∙ e in cc
  absent_is (Sample seed count) r cause e = let never : status_of Memory ≡ 7 = sym (ap status_of cause) ∙ e in cc
  absent_is Help r cause e = let never : status_of Memory ≡ 7 = sym (ap status_of cause) ∙ e in cc
  absent_is Version r cause e = let never : status_of Memory ≡ 7 = sym (ap status_of cause) ∙ e in cc

  -- a file of an interface that was not read is due
  idl_failed : (idl : Idl) (acf : Option (List ℕ)) (r : Refusal) → IsIdlCause x.files idl acf r → status_of r ≡ 9
      → HasRisen x.files.faults × ((file : List ℕ) × (r ≡ FileFailed file) × IsDueOf x.files.held (Some (record { idl = idl; acf = acf })) file)
  idl_failed idl acf (FileFailed file) (rose, due) e = (rose, (file, refl, due))
  idl_failed idl acf Memory cause e = cc
  idl_failed idl acf (Absent file) cause e = cc
  idl_failed idl acf (BadIdl file line column reason) cause e = cc
  idl_failed idl acf NoOperation cause e = cc
  idl_failed idl acf (TooLong many) cause e = cc
  idl_failed idl acf ReadFault cause e = cc
  idl_failed idl acf (BadOctets place why) cause e = cc
  idl_failed idl acf (BadText line column reason) cause e = cc
  idl_failed idl acf (BadValue path reason) cause e = cc
  idl_failed idl acf (BadRequest fault) cause e = cc
  idl_failed idl acf (BadLabel fault) cause e = cc
  idl_failed idl acf ShortLabel cause e = cc
  idl_failed idl acf (TooFewEnds wanted found) cause e = cc
  idl_failed idl acf (EndFailed which) cause e = cc
  idl_failed idl acf (BadPdu spot because) cause e = cc
  idl_failed idl acf (NotCompatible differing) cause e = cc
  idl_failed idl acf (BadScript row) cause e = cc
  idl_failed idl acf LongScript cause e = cc

  call_failed : (idl : Idl) (acf op : Option (List ℕ)) (r : Refusal) → IsNoCall x.files x.input idl acf op r → status_of r ≡ 9
      → HasRisen x.files.faults × ((file : List ℕ) × (r ≡ FileFailed file) × IsDueOf x.files.held (Some (record { idl = idl; acf = acf })) file)
  call_failed idl acf None (FileFailed file) (inl ((rose, due), before)) e = (rose, (file, refl, due))
  call_failed idl acf (Some name) (FileFailed file) (inl ((rose, due), before)) e = (rose, (file, refl, due))
  call_failed idl acf op (FileFailed file) (inr (i, number, ready, cause)) e = absurd cause
  call_failed idl acf op Memory cause e = cc
  call_failed idl acf op (Absent file) cause e = cc
  call_failed idl acf op (BadIdl file line column reason) cause e = cc
  call_failed idl acf op NoOperation cause e = cc
  call_failed idl acf op (TooLong many) cause e = cc
  call_failed idl acf op ReadFault cause e = cc
  call_failed idl acf op (BadOctets place why) cause e = cc
  call_failed idl acf op (BadText line column reason) cause e = cc
  call_failed idl acf op (BadValue path reason) cause e = cc
  call_failed idl acf op (BadRequest fault) cause e = cc
  call_failed idl acf op (BadLabel fault) cause e = cc
  call_failed idl acf op ShortLabel cause e = cc
  call_failed idl acf op (TooFewEnds wanted found) cause e = cc
  call_failed idl acf op (EndFailed which) cause e = cc
  call_failed idl acf op (BadPdu spot because) cause e = cc
  call_failed idl acf op (NotCompatible differing) cause e = cc
  call_failed idl acf op (BadScript row) cause e = cc
  call_failed idl acf op LongScript cause e = cc

  wrap_failed : (of : Subject) (r : Refusal) → IsNoWrap x.files x.input of r → status_of r ≡ 9
      → HasRisen x.files.faults × ((file : List ℕ) × (r ≡ FileFailed file) × IsDueOf x.files.held (Some (record { idl = of.idl; acf = of.acf })) file)
  wrap_failed of (FileFailed file) (inl ((rose, due), before)) e = (rose, (file, refl, due))
  wrap_failed of (FileFailed file) (inr (w, ready, (text, read, cause))) e = absurd cause
  wrap_failed of Memory cause e = cc
  wrap_failed of (Absent file) cause e = cc
  wrap_failed of (BadIdl file line column reason) cause e = cc
  wrap_failed of NoOperation cause e = cc
  wrap_failed of (TooLong many) cause e = cc
  wrap_failed of ReadFault cause e = cc
  wrap_failed of (BadOctets place why) cause e = cc
  wrap_failed of (BadText line column reason) cause e = cc
  wrap_failed of (BadValue path reason) cause e = cc
  wrap_failed of (BadRequest fault) cause e = cc
  wrap_failed of (BadLabel fault) cause e = cc
  wrap_failed of ShortLabel cause e = cc
  wrap_failed of (TooFewEnds wanted found) cause e = cc
  wrap_failed of (EndFailed which) cause e = cc
  wrap_failed of (BadPdu spot because) cause e = cc
  wrap_failed of (NotCompatible differing) cause e = cc
  wrap_failed of (BadScript row) cause e = cc
  wrap_failed of LongScript cause e = cc

  -- a file that was not read is due
  failed_is : (c : Command) (r : Refusal) → IsCause x c r → status_of r ≡ 9
      → HasRisen x.files.faults × ((file : List ℕ) × (r ≡ FileFailed file) × IsDueFor c file)
  failed_is (Values task of None) (FileFailed file) (inl ((rose, due), before, kept)) e = (rose, (file, refl, inl due))
  failed_is (Values task of (Some name)) (FileFailed file) (inl (inl (rose, due), before, kept)) e = (rose, (file, refl, inl due))
  failed_is (Values task of (Some name)) (FileFailed file) (inl (inr u, before, kept)) e =
      let (is, rose) = u.cause in (rose, (file, refl, inr (is, request_due of name u.own u.has_asked)))
  failed_is (Values (Read Decode (Fixed order)) of given) (FileFailed file) (inr (w, ready, inl (cause, kept))) e = absurd cause
  failed_is (Values (Read Explain (Fixed order)) of given) (FileFailed file) (inr (w, ready, inl (cause, kept))) e = absurd cause
  failed_is (Values (Read Trace (Fixed order)) of given) (FileFailed file) (inr (w, ready, inl (cause, kept))) e = absurd cause
  failed_is (Values (Read Drain (Fixed order)) of given) (FileFailed file) (inr (w, ready, inl (cause, kept))) e = absurd cause
  failed_is (Values (Read Decode Label) of given) (FileFailed file) (inr (w, ready, inl (cause, kept))) e = absurd cause
  failed_is (Values (Read Explain Label) of given) (FileFailed file) (inr (w, ready, inl (cause, kept))) e = absurd cause
  failed_is (Values (Read Trace Label) of given) (FileFailed file) (inr (w, ready, inl (cause, kept))) e = absurd cause
  failed_is (Values (Read Drain Label) of given) (FileFailed file) (inr (w, ready, inl (cause, kept))) e = absurd cause
  failed_is (Values (Read Decode word) of given) (FileFailed file) (inr (w, ready, inr (rest, order, opened, cause))) e = absurd cause
  failed_is (Values (Read Explain word) of given) (FileFailed file) (inr (w, ready, inr (rest, order, opened, cause))) e = absurd cause
  failed_is (Values (Read Trace word) of given) (FileFailed file) (inr (w, ready, inr (rest, order, opened, cause))) e = absurd cause
  failed_is (Values (Read Drain word) of given) (FileFailed file) (inr (w, ready, inr (rest, order, opened, cause))) e = absurd cause
  failed_is (Values (Encode word chunk) of given) (FileFailed file) (inr (w, ready, (text, read, cause))) e = absurd cause
  failed_is (Values Migrate of given) (FileFailed file) (inr (w, ready, (text, read, cause))) e = absurd cause
  failed_is (Values task of given) Memory cause e = cc
  failed_is (Values task of given) (Absent file) cause e = cc
  failed_is (Values task of given) (BadIdl file line column reason) cause e = cc
  failed_is (Values task of given) NoOperation cause e = cc
  failed_is (Values task of given) (TooLong many) cause e = cc
  failed_is (Values task of given) ReadFault cause e = cc
  failed_is (Values task of given) (BadOctets place why) cause e = cc
  failed_is (Values task of given) (BadText line column reason) cause e = cc
  failed_is (Values task of given) (BadValue path reason) cause e = cc
  failed_is (Values task of given) (BadRequest fault) cause e = cc
  failed_is (Values task of given) (BadLabel fault) cause e = cc
  failed_is (Values task of given) ShortLabel cause e = cc
  failed_is (Values task of given) (TooFewEnds wanted found) cause e = cc
  failed_is (Values task of given) (EndFailed which) cause e = cc
  failed_is (Values task of given) (BadPdu spot because) cause e = cc
  failed_is (Values task of given) (NotCompatible differing) cause e = cc
  failed_is (Values task of given) (BadScript row) cause e = cc
  failed_is (Values task of given) LongScript cause e = cc
  failed_is (Compile idl acf) r cause e = let (rose, (file, same, due)) = idl_failed idl acf r cause e in (rose, (file, same, inl due))
  failed_is (Plan idl acf) r cause e = let (rose, (file, same, due)) = idl_failed idl acf r cause e in (rose, (file, same, inl due))
  failed_is (Call idl acf op) r cause e = let (rose, (file, same, due)) = call_failed idl acf op r cause e in (rose, (file, same, inl due))
  failed_is (Wrap of order call max) r cause e = let (rose, (file, same, due)) = wrap_failed of r cause e in (rose, (file, same, inl due))
  failed_is (Compat old old_acf new new_acf why) r cause e = compat_failed x.files (record { idl = old; acf = old_acf }) (record { idl = new; acf = new_acf }) r cause e
  failed_is (Why words) r cause e = let never : status_of Memory ≡ 9 = sym (ap status_of cause) ∙ e in cc
  failed_is (Sample seed count) r cause e = let never : status_of Memory ≡ 9 = sym (ap status_of cause) ∙ e in cc
  failed_is Help r cause e = let never : status_of Memory ≡ 9 = sym (ap status_of cause) ∙ e in cc
  failed_is Version r cause e = let never : status_of Memory ≡ 9 = sym (ap status_of cause) ∙ e in cc

  module _ (out notes : SinkOver) (status : ℕ) (words : List (List ℕ)) (run : HasRun words x out notes status) where
    pub read : status ≡ 3 → HasRisen x.input.faults × ReadsInput (command words)
    read e =
        let r = of_refusal x out notes status words run 3 e ((λ h. cc), (λ h. cc), (λ h. cc), (λ h. cc), (λ h. cc)) in
        let (rose, asks) = read_fault r.command_is r.refusal r.cause (r.own ∙ e) in
        (rose, subst ReadsInput (sym r.is) asks)

    pub absent : status ≡ 7 → HasRisen x.files.absences × IsDueAndMissing (command words) x.files.held notes
    absent e =
        let r = of_refusal x out notes status words run 7 e ((λ h. cc), (λ h. cc), (λ h. cc), (λ h. cc), (λ h. cc)) in
        let (rose, (file, same, due, missing)) = absent_is r.command_is r.refusal r.cause (r.own ∙ e) in
        (rose, subst (λ c. IsDueAndMissing c x.files.held notes) (sym r.is) (file, due, missing, subst (λ q. Got notes (line_of (idl_of r.command_is) (op_of r.command_is) q)) same r.line))

    pub file : status ≡ 9 → HasRisen x.files.faults × IsDueAndReported (command words) x.files.held notes
    file e =
        let r = of_refusal x out notes status words run 9 e ((λ h. cc), (λ h. cc), (λ h. cc), (λ h. cc), (λ h. cc)) in
        let (rose, (name, same, due)) = failed_is r.command_is r.refusal r.cause (r.own ∙ e) in
        (rose, subst (λ c. IsDueAndReported c x.files.held notes) (sym r.is) (name, due, subst (λ q. Got notes (line_of (idl_of r.command_is) (op_of r.command_is) q)) same r.line))

-- ## Ends that failed

one_is_no_eight : ◌≡◌ {A = ℕ} 1 8 → ⊥
one_is_no_eight e = cc

three_is_no_eight : ◌≡◌ {A = ℕ} 3 8 → ⊥
three_is_no_eight e = cc

five_is_no_eight : ◌≡◌ {A = ℕ} 5 8 → ⊥
five_is_no_eight e = cc

six_is_no_eight : ◌≡◌ {A = ℕ} 6 8 → ⊥
six_is_no_eight e = cc

seven_is_no_eight : ◌≡◌ {A = ℕ} 7 8 → ⊥
seven_is_no_eight e = cc

nine_is_no_eight : ◌≡◌ {A = ℕ} 9 8 → ⊥
nine_is_no_eight e = cc

module _ (x : Seen) where
  end_failed : (c : Command) (which : ℕ) → IsCause x c (EndFailed which) → EndRose x.ends which
  end_failed (Values task of None) which (inl (cause, before, kept)) = absurd cause
  end_failed (Values task of (Some name)) which (inl (inl cause, before, kept)) = absurd cause
  end_failed (Values task of (Some name)) which (inl (inr u, before, kept)) = absurd u.cause
  end_failed (Values (Read how (Fixed order)) of given) which (inr (w, ready, inl (cause, kept))) = absurd cause
  end_failed (Values (Read how Label) of given) which (inr (w, ready, inl (cause, kept))) = absurd cause
  end_failed (Values (Read Decode word) of given) which (inr (w, ready, inr (rest, order, opened, cause))) = absurd cause
  end_failed (Values (Read Explain word) of given) which (inr (w, ready, inr (rest, order, opened, cause))) = absurd cause
  end_failed (Values (Read Trace word) of given) which (inr (w, ready, inr (rest, order, opened, cause))) = absurd cause
  end_failed (Values (Read Drain word) of given) which (inr (w, ready, inr (rest, order, opened, cause))) = refused_rose rest x.ends w order which cause
  end_failed (Values (Encode word chunk) of given) which (inr (w, ready, (text, read, cause))) = absurd cause
  end_failed (Values Migrate of given) which (inr (w, ready, (text, read, cause))) = absurd cause
  end_failed (Compile idl acf) which cause = absurd cause
  end_failed (Plan idl acf) which cause = absurd cause
  end_failed (Call idl acf op) which cause = absurd (call_ends x idl acf op which cause)
  end_failed (Wrap of order call max) which cause = absurd (wrap_ends x of which cause)
  end_failed (Compat old old_acf new new_acf why) which cause = absurd (compat_end x.files (record { idl = old; acf = old_acf }) (record { idl = new; acf = new_acf }) which cause)
  end_failed (Why words) which cause = let never : status_of (EndFailed which) ≡ status_of Memory = ap status_of cause in cc
  end_failed (Sample seed count) which cause = let never : status_of (EndFailed which) ≡ status_of Memory = ap status_of cause in cc
  end_failed Help which cause = let never : status_of (EndFailed which) ≡ status_of Memory = ap status_of cause in cc
  end_failed Version which cause = let never : status_of (EndFailed which) ≡ status_of Memory = ap status_of cause in cc

  -- status 8 is an end that failed
  ended_by : (c : Command) (r : Refusal) → IsCause x c r → status_of r ≡ 8 → (which : ℕ) × (r ≡ EndFailed which) × EndRose x.ends which
  ended_by c (EndFailed which) cause e = (which, refl, end_failed c which cause)
  ended_by c (BadPdu spot because) cause e = absurd (one_is_no_eight e)
  ended_by c (NotCompatible differing) cause e = absurd (one_is_no_eight e)
  ended_by c (BadScript row) cause e = absurd (one_is_no_eight e)
  ended_by c LongScript cause e = absurd (one_is_no_eight e)
  ended_by c Memory cause e = absurd (five_is_no_eight e)
  ended_by c (Absent file) cause e = absurd (seven_is_no_eight e)
  ended_by c (FileFailed file) cause e = absurd (nine_is_no_eight e)
  ended_by c (BadIdl file line column reason) cause e = absurd (six_is_no_eight e)
  ended_by c NoOperation cause e = absurd (six_is_no_eight e)
  ended_by c ReadFault cause e = absurd (three_is_no_eight e)
  ended_by c (BadOctets place why) cause e = absurd (one_is_no_eight e)
  ended_by c (BadText line column reason) cause e = absurd (one_is_no_eight e)
  ended_by c (BadValue path reason) cause e = absurd (one_is_no_eight e)
  ended_by c (TooLong many) cause e = absurd (one_is_no_eight e)
  ended_by c (BadRequest fault) cause e = absurd (one_is_no_eight e)
  ended_by c (BadLabel fault) cause e = absurd (one_is_no_eight e)
  ended_by c ShortLabel cause e = absurd (one_is_no_eight e)
  ended_by c (TooFewEnds wanted found) cause e = absurd (one_is_no_eight e)

  pub end : (out notes : SinkOver) (status : ℕ) (words : List (List ℕ)) → HasRun words x out notes status → status ≡ 8 → IsEndReported x.ends notes
  end out notes status words run e =
      let r = of_refusal x out notes status words run 8 e ((λ h. cc), (λ h. cc), (λ h. cc), (λ h. cc), (λ h. cc)) in
      let (which, same, rose) = ended_by r.command_is r.refusal r.cause (r.own ∙ e) in
      (which, rose, subst (λ q. Got notes (line_of (idl_of r.command_is) (op_of r.command_is) q)) same r.line)

-- ## Where no count rose

abbrev Unfailed : ℕ → Type 0
Unfailed status = IsOneOf (0 ∷ 1 ∷ 2 ∷ 5 ∷ 6 ∷ []) status

module _ (x : Seen) (out notes : SinkOver) (status : ℕ) (nothing : HasNotFailed x out notes) where
  refused_unfailed : (c : Command) (r : Refusal) → IsCause x c r → status ≡ status_of r → Unfailed status
  refused_unfailed c Memory cause e = inr (inr (inr (inl e)))
  refused_unfailed c (Absent file) cause e = absurd (nothing.found (absent_is x c (Absent file) cause refl).0)
  refused_unfailed c (FileFailed file) cause e = absurd (nothing.loads (failed_is x c (FileFailed file) cause refl).0)
  refused_unfailed c (BadIdl file line column reason) cause e = inr (inr (inr (inr (inl e))))
  refused_unfailed c NoOperation cause e = inr (inr (inr (inr (inl e))))
  refused_unfailed c ReadFault cause e = absurd (nothing.reads (read_fault x c ReadFault cause refl).0)
  refused_unfailed c (BadOctets place why) cause e = inr (inl e)
  refused_unfailed c (BadText line column reason) cause e = inr (inl e)
  refused_unfailed c (BadValue path reason) cause e = inr (inl e)
  refused_unfailed c (TooLong many) cause e = inr (inl e)
  refused_unfailed c (BadRequest fault) cause e = inr (inl e)
  refused_unfailed c (BadLabel fault) cause e = inr (inl e)
  refused_unfailed c ShortLabel cause e = inr (inl e)
  refused_unfailed c (TooFewEnds wanted found) cause e = inr (inl e)
  refused_unfailed c (EndFailed which) cause e = absurd (nothing.ends which (end_failed x c which cause))
  refused_unfailed c (BadPdu spot because) cause e = inr (inl e)
  refused_unfailed c (NotCompatible differing) cause e = inr (inl e)
  refused_unfailed c (BadScript row) cause e = inr (inl e)
  refused_unfailed c LongScript cause e = inr (inl e)

  by_command : (c : Command) → Ended x out notes c status → Unfailed status
  by_command c (ended_done is d) = inl is
  by_command c (ended_refused r) = refused_unfailed c r.refusal r.cause r.own_status
  by_command c (ended_unknown is text nearest given told) = inr (inr (inl is))
  by_command c (ended_untold is rose text nearest) = absurd (nothing.writes rose)
  by_command c (ended_told t) = inr (inl (t.own_status ∙ beside_one x c t.refusal t.text t.beside))
  by_command c (ended_cut is rose r text beside) = absurd (nothing.writes rose)
  by_command c (ended_wanting is) = inr (inr (inr (inl is)))
  by_command c (ended_unwritten is rose made is_made) = absurd (nothing.writes rose)
  by_command c (ended_unreported is rose) = absurd (nothing.reports rose)

  by_words : (words : List (List ℕ)) → (outcome : Outcome) → IsOutcome x None outcome → IsDelivered out notes outcome status → Unfailed status
  by_words words (Done made) (inl e) d = cc
  by_words words (Done made) (inr e) d = cc
  by_words words (Refused own line) (inl e) (before, inl (is, told)) = let two : own ≡ 2 = cc in inr (inr (inl (is ∙ two)))
  by_words words (Refused own line) (inl e) (before, inr (is, rose, some)) = absurd (nothing.reports rose)
  by_words words (Refused own line) (inr e) d = cc
  by_words words (Reported text own line) (inl e) d = cc
  by_words words (Reported text own line) (inr e) d = cc
  by_words words Wanting e (before, inl (is, told)) = inr (inr (inr (inl is)))
  by_words words Wanting e (before, inr (is, rose, some)) = absurd (nothing.reports rose)

  pub unfailed : (words : List (List ℕ)) → HasRun words x out notes status → Unfailed status
  unfailed words run = by (command words) refl
    where
      by : (o : Option Command) → command words ≡ o → Unfailed status
      by None is = by_words words run.outcome (subst (λ o. IsOutcome x o run.outcome) is run.caused) run.delivered
      by (Some c) is = by_command c (ended x out notes c status words is run)

-- ## Words that are no command, and outputs that failed

not_two : (r : Refusal) → status_of r ≡ 2 → ⊥
not_two Memory e = cc
not_two (Absent file) e = cc
not_two (FileFailed file) e = cc
not_two (BadIdl file line column reason) e = cc
not_two NoOperation e = cc
not_two (TooLong many) e = cc
not_two ReadFault e = cc
not_two (BadOctets place why) e = cc
not_two (BadText line column reason) e = cc
not_two (BadValue path reason) e = cc
not_two (BadRequest fault) e = cc
not_two (BadLabel fault) e = cc
not_two ShortLabel e = cc
not_two (TooFewEnds wanted found) e = cc
not_two (EndFailed which) e = cc
not_two (BadPdu spot because) e = cc
not_two (NotCompatible differing) e = cc
not_two (BadScript row) e = cc
not_two LongScript e = cc

not_four : (r : Refusal) → status_of r ≡ 4 → ⊥
not_four Memory e = cc
not_four (Absent file) e = cc
not_four (FileFailed file) e = cc
not_four (BadIdl file line column reason) e = cc
not_four NoOperation e = cc
not_four (TooLong many) e = cc
not_four ReadFault e = cc
not_four (BadOctets place why) e = cc
not_four (BadText line column reason) e = cc
not_four (BadValue path reason) e = cc
not_four (BadRequest fault) e = cc
not_four (BadLabel fault) e = cc
not_four ShortLabel e = cc
not_four (TooFewEnds wanted found) e = cc
not_four (EndFailed which) e = cc
not_four (BadPdu spot because) e = cc
not_four (NotCompatible differing) e = cc
not_four (BadScript row) e = cc
not_four LongScript e = cc

apart : (n a b : ℕ) → n ≡ a → n ≡ b → (a ≡ b → ⊥) → ⊥
apart n a b x y unlike = unlike (sym x ∙ y)

module _ (x : Seen) (out notes : SinkOver) (status : ℕ) (words : List (List ℕ)) (run : HasRun words x out notes status) where
  -- status 2 comes only for words that are no command, and for words of `why` that have no entry
  pub no_command : status ≡ 2 → AreUnknown (command words)
  no_command e = by (command words) refl
    where
      by_end : (c : Command) → Ended x out notes c status → (text : List ℕ) × IsUnexplained c text
      by_end c (ended_done is d) = absurd (apart status 0 2 is e (λ h. cc))
      by_end c (ended_refused r) = absurd (not_two r.refusal (sym r.own_status ∙ e))
      by_end c (ended_unknown is text nearest given told) = (text, nearest)
      by_end c (ended_untold is rose text nearest) = (text, nearest)
      by_end c (ended_told t) = absurd (apart status 1 2 (t.own_status ∙ beside_one x c t.refusal t.text t.beside) e (λ h. cc))
      by_end c (ended_cut is rose r text beside) = absurd (apart status 4 2 is e (λ h. cc))
      by_end c (ended_wanting is) = absurd (apart status 5 2 is e (λ h. cc))
      by_end c (ended_unwritten is rose made is_made) = absurd (apart status 4 2 is e (λ h. cc))
      by_end c (ended_unreported is rose) = absurd (apart status 4 2 is e (λ h. cc))

      by : (o : Option Command) → command words ≡ o → AreUnknown (command words)
      by None is = subst AreUnknown (sym is) tt
      by (Some c) is = subst AreUnknown (sym is) (by_end c (ended x out notes c status words is run))

  -- and its line is this
  pub refused_line : status ≡ 2 → Got notes (codes "words refused\n")
  refused_line e = by_words (command words) refl
    where
      by_end : (c : Command) → Ended x out notes c status → Got notes (codes "words refused\n")
      by_end c (ended_done is d) = absurd (apart status 0 2 is e (λ h. cc))
      by_end c (ended_refused r) = absurd (not_two r.refusal (sym r.own_status ∙ e))
      by_end c (ended_unknown is text nearest given told) = told
      by_end c (ended_untold is rose text nearest) = absurd (apart status 4 2 is e (λ h. cc))
      by_end c (ended_told t) = absurd (apart status 1 2 (t.own_status ∙ beside_one x c t.refusal t.text t.beside) e (λ h. cc))
      by_end c (ended_cut is rose r text beside) = absurd (apart status 4 2 is e (λ h. cc))
      by_end c (ended_wanting is) = absurd (apart status 5 2 is e (λ h. cc))
      by_end c (ended_unwritten is rose made is_made) = absurd (apart status 4 2 is e (λ h. cc))
      by_end c (ended_unreported is rose) = absurd (apart status 4 2 is e (λ h. cc))

      by : (outcome : Outcome) → IsOutcome x None outcome → IsDelivered out notes outcome status → Got notes (codes "words refused\n")
      by (Done made) (inl is) d = cc
      by (Done made) (inr is) d = cc
      by (Refused own line) (inl is) (before, inl (same, told)) = let text : line ≡ codes "words refused\n" = cc in subst (Got notes) text told
      by (Refused own line) (inl is) (before, inr (four, rose, some)) = absurd (apart status 4 2 four e (λ h. cc))
      by (Refused own line) (inr is) d = cc
      by (Reported text own row) (inl is) d = cc
      by (Reported text own row) (inr is) d = cc
      by Wanting is (before, inl (five, told)) = absurd (apart status 5 2 five e (λ h. cc))
      by Wanting is (before, inr (four, rose, some)) = absurd (apart status 4 2 four e (λ h. cc))

      by_words : (o : Option Command) → command words ≡ o → Got notes (codes "words refused\n")
      by_words None is = by run.outcome (subst (λ o. IsOutcome x o run.outcome) is run.caused) run.delivered
      by_words (Some c) is = by_end c (ended x out notes c status words is run)

  -- status 4 comes only if an output failed
  pub write_failed : status ≡ 4 → HasRisen out.faults ⊎ HasRisen notes.faults
  write_failed e = by (command words) refl
    where
      by_end : (c : Command) → Ended x out notes c status → HasRisen out.faults ⊎ HasRisen notes.faults
      by_end c (ended_done is d) = absurd (apart status 0 4 is e (λ h. cc))
      by_end c (ended_refused r) = absurd (not_four r.refusal (sym r.own_status ∙ e))
      by_end c (ended_unknown is text nearest given told) = absurd (apart status 2 4 is e (λ h. cc))
      by_end c (ended_untold is rose text nearest) = inl rose
      by_end c (ended_told t) = absurd (apart status 1 4 (t.own_status ∙ beside_one x c t.refusal t.text t.beside) e (λ h. cc))
      by_end c (ended_cut is rose r text beside) = inl rose
      by_end c (ended_wanting is) = absurd (apart status 5 4 is e (λ h. cc))
      by_end c (ended_unwritten is rose made is_made) = inl rose
      by_end c (ended_unreported is rose) = inr rose

      by_outcome : (outcome : Outcome) → IsOutcome x None outcome → IsDelivered out notes outcome status → HasRisen out.faults ⊎ HasRisen notes.faults
      by_outcome (Done made) (inl is) d = cc
      by_outcome (Done made) (inr is) d = cc
      by_outcome (Refused own line) (inl is) (before, inl (same, told)) = let two : own ≡ 2 = cc in absurd (apart status 2 4 (same ∙ two) e (λ h. cc))
      by_outcome (Refused own line) (inl is) (before, inr (four, rose, some)) = inr rose
      by_outcome (Refused own line) (inr is) d = cc
      by_outcome (Reported text own row) (inl is) d = cc
      by_outcome (Reported text own row) (inr is) d = cc
      by_outcome Wanting is (before, inl (five, told)) = absurd (apart status 5 4 five e (λ h. cc))
      by_outcome Wanting is (before, inr (four, rose, some)) = inr rose

      by : (o : Option Command) → command words ≡ o → HasRisen out.faults ⊎ HasRisen notes.faults
      by None is = by_outcome run.outcome (subst (λ o. IsOutcome x o run.outcome) is run.caused) run.delivered
      by (Some c) is = by_end c (ended x out notes c status words is run)

  -- with status 0 notes are as before
  pub nothing_noted : status ≡ 0 → notes.written_now ≡ notes.written
  nothing_noted e = by (command words) refl
    where
      by_end : (c : Command) → Ended x out notes c status → notes.written_now ≡ notes.written
      by_end c (ended_done is d) = d.quiet.written
      by_end c (ended_refused r) = absurd (not_zero r.refusal (sym r.own_status ∙ e))
      by_end c (ended_unknown is text nearest given told) = absurd (apart status 2 0 is e (λ h. cc))
      by_end c (ended_untold is rose text nearest) = absurd (apart status 4 0 is e (λ h. cc))
      by_end c (ended_told t) = absurd (apart status 1 0 (t.own_status ∙ beside_one x c t.refusal t.text t.beside) e (λ h. cc))
      by_end c (ended_cut is rose r text beside) = absurd (apart status 4 0 is e (λ h. cc))
      by_end c (ended_wanting is) = absurd (apart status 5 0 is e (λ h. cc))
      by_end c (ended_unwritten is rose made is_made) = absurd (apart status 4 0 is e (λ h. cc))
      by_end c (ended_unreported is rose) = absurd (apart status 4 0 is e (λ h. cc))

      by_idle : Idle status → notes.written_now ≡ notes.written
      by_idle (idle_two h) = absurd (apart status 2 0 h e (λ k. cc))
      by_idle (idle_four h) = absurd (apart status 4 0 h e (λ k. cc))
      by_idle (idle_five h) = absurd (apart status 5 0 h e (λ k. cc))

      by : (o : Option Command) → command words ≡ o → notes.written_now ≡ notes.written
      by None is = by_idle (idle x out notes status words is run)
      by (Some c) is = by_end c (ended x out notes c status words is run)

  -- words that are no command end with one of these statuses
  pub no_command_status : command words ≡ None → IsOneOf (2 ∷ 4 ∷ 5 ∷ []) status
  no_command_status none = by (idle x out notes status words none run)
    where
      by : Idle status → IsOneOf (2 ∷ 4 ∷ 5 ∷ []) status
      by (idle_two h) = inl h
      by (idle_four h) = inr (inl h)
      by (idle_five h) = inr (inr (inl h))

  -- nothing is given with another status than 0 and 4, unless the command writes something beside a refusal
  pub nothing_given : tells_refused (command words) ≡ false → status ≢ 0 → status ≢ 4 → out.written_now ≡ out.written
  nothing_given quiet zero four = by (command words) quiet run.outcome run.caused run.delivered
    where
      silent : (c : Command) → tells c ≡ false → (text : List ℕ) → IsUnexplained c text → ⊥
      silent (Why asked) never text nearest = cc
      silent (Values task of given) never text nearest = nearest
      silent (Compile idl acf) never text nearest = nearest
      silent (Plan idl acf) never text nearest = nearest
      silent (Call idl acf op) never text nearest = nearest
      silent (Wrap of order call max) never text nearest = nearest
      silent (Compat old old_acf new new_acf why) never text nearest = nearest
      silent (Sample seed count) never text nearest = nearest
      silent Help never text nearest = nearest
      silent Version never text nearest = nearest

      by : (o : Option Command) → tells_refused o ≡ false → (outcome : Outcome) → IsOutcome x o outcome → IsDelivered out notes outcome status
          → out.written_now ≡ out.written
      by o never (Done made) caused (inl (is, given, noted)) = absurd (zero is)
      by o never (Done made) caused (inr (is, rose, some, warned)) = absurd (four is)
      by o never (Refused own line) caused (before, told) = before.written
      by None never (Reported text own line) (inl e) d = cc
      by None never (Reported text own line) (inr e) d = cc
      by (Some c) never (Reported text own line) (inl (nearest, two, same)) d = absurd (silent c never text nearest)
      by (Some c) never (Reported text own line) (inr b) d = absurd (beside_quiet x c b.refusal text never b.beside)
      by o never Wanting caused (before, told) = before.written
