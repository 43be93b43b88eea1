-- A step refuses for a reason of its own, never for the length of the octets.
-- `s` is the state before.
use Rattle.std.proofs.Common.{ℕ, ◌+◌, ◌-◌, zero, suc, ℤ, Bool, true, false, List, [], ◌∷◌, Option, Some, None}
use Rattle.std.specs.Prelude.{cond, eqb, ltb, if◌then◌else◌, slice_get}
use Rattle.std.specs.Ordering.{int_eq}
use Rattle.nd_base.specs.declared.octets.Order.{Order}
use Rattle.nd_types.specs.declared.types.Attr.{Attr}
use Rattle.nd_types.specs.declared.types.Class.{Class}
use Rattle.nd_types.specs.declared.types.Class.TheVariants.{Ref, Unique, Full}
use Rattle.nd_types.specs.declared.types.TypeId.{TypeId}
use Rattle.nd_types.specs.Number.{unsigned, value_of_octets}
use Rattle.nd_types.specs.declared.types.Primitive.TheVariants.{Short}
use Rattle.nd_value.specs.Agreement.{Agreement, agreement}
use Rattle.nd_grammar.specs.declared.reason.Reason.{Reason}
use Rattle.nd_grammar.specs.declared.reason.Reason.TheVariants as reason
use Rattle.nd_grammar.specs.Refusal.{is_enumerator, text_refusal}
use Rattle.ndr_code.specs.declared.instr.Instr.{Instr}
use Rattle.ndr_code.specs.declared.instr.Instr.TheVariants as op
use Rattle.ndr_code.specs.declared.lists.EnumList.{EnumList}
use Rattle.ndr_code.specs.Code.{enumerators}
use Rattle.ndr_refs.specs.declared.referents.Known.{Known}
use Rattle.ndr_refs.specs.Known.{known}
use Rattle.ndr_decoder_laws.specs.declared.frame.Frame.{Frame}
use Rattle.ndr_decoder_laws.specs.declared.frame.Frame.TheVariants as frame
use Rattle.ndr_decoder_laws.specs.declared.first.First.{First}
use Rattle.ndr_decoder_laws.specs.declared.first.Member.{Member}
use Rattle.ndr_decoder_laws.specs.steps.Steps.{State, Outcome, goes, refused, Phase, begun, gap_read, offset_read, count_read, past, done_after, back_to, owing, full_by, pointer_step, is_owing}
use Rattle.ndr_decoder_laws.specs.steps.Steps.{disagreed, try_all, checked, check_in, text_done, limit_of, vary_by, text_by, hoist_by, tag_form, step, place_of, place_in, first_found, first_number}

abbrev pub IsOwnRefusal : Outcome → Type 0
IsOwnRefusal (refused place reason.TooLong) = ⊥
IsOwnRefusal (refused place reason.Truncated) = ⊥
IsOwnRefusal o = Unit {0}

by_test : (b : Bool) (x y : Outcome) → IsOwnRefusal x → IsOwnRefusal y → IsOwnRefusal (if b then x else y)
by_test true x y p q = p
by_test false x y p q = q

-- ## Frames and agreements

back_own : (f : Frame) (s : State) → IsOwnRefusal (back_to f s)
back_own frame.Home s = tt
back_own (frame.Record back first) s = tt
back_own (frame.Elements zero run back) s = tt
back_own (frame.Elements (suc left) run back) s = tt

disagreed_own : (p : Option ℕ) (z y : ℤ) (o : Outcome) → IsOwnRefusal o → IsOwnRefusal (disagreed p z y o)
disagreed_own None z y o h = h
disagreed_own (Some p) z y o h = tt

tried_own : (ws : List Agreement) (x : First) (s : State) → IsOwnRefusal (try_all ws x s)
tried_own [] x s = tt
tried_own (w ∷ ws) x s =
    by_test (int_eq w.wanted (first_found w.attr x)) (try_all ws x s)
    (disagreed (place_of w.attr s.max_at (place_in x)) w.wanted (first_found w.attr x) (try_all ws x s)) (tried_own ws x s)
    (disagreed_own (place_of w.attr s.max_at (place_in x)) w.wanted (first_found w.attr x) (try_all ws x s) (tried_own ws x s))

checked_own : (ws : List Agreement) (m : Option Member) (x : Option First) (s : State) → IsOwnRefusal (checked ws m x s)
checked_own ws None x s = tt
checked_own ws (Some m) None s = tt
checked_own ws (Some m) (Some x) s = by_test (is_owing x) _ (try_all ws x s) tt (tried_own ws x s)

check_own : (f : Frame) (a : Attr) (field var : ℕ) (s : State) → IsOwnRefusal (check_in f a field var s)
check_own frame.Home a field var s = tt
check_own (frame.Record back first) a field var s =
    checked_own (agreement a (first_number (slice_get s.firsts (first + var)))) (slice_get s.members (first + field)) (slice_get s.firsts (first + field)) s
check_own (frame.Elements left run back) a field var s = tt

-- ## Pointers

full_own : (k : Option Known) (v : ℕ) (to : TypeId) (run : ℕ) (s : State) → IsOwnRefusal (full_by k v to run s)
full_own None v to run s = tt
full_own (Some k) v to run s = by_test (eqb k.of.0 to.0) (goes (done_after 4 (owing Full to run (Some k.cell.0) s))) (refused s.at reason.OtherType) tt tt

pointer_own : (class : Class) (to : TypeId) (run v : ℕ) (s : State) → IsOwnRefusal (pointer_step class to run v s)
pointer_own Ref to run v s = tt
pointer_own Unique to run v s = tt
pointer_own Full to run v s = by_test (eqb v 0) (goes (done_after 4 (owing Full to run None s))) (full_by (known v s.numbers) v to run s) tt (full_own (known v s.numbers) v to run s)

-- ## Strings

abbrev IsTextReason : Option (ℕ × Reason) → Type 0
IsTextReason None = Unit {0}
IsTextReason (Some r) = IsOwnRefusal (refused r.0 r.1)

reason_by_test : (b : Bool) (x y : Option (ℕ × Reason)) → IsTextReason x → IsTextReason y → IsTextReason (cond b x y)
reason_by_test true x y p q = p
reason_by_test false x y p q = q

text_reason : (at : ℕ) (os : List ℕ) → IsTextReason (text_refusal at os)
text_reason at [] = tt
text_reason at (b ∷ []) = reason_by_test (eqb b 0) None (Some (at, reason.TextUnended)) tt tt
text_reason at (b ∷ c ∷ bs) = reason_by_test (eqb b 0) (Some (at, reason.TextZero)) (text_refusal (at + 1) (c ∷ bs)) tt (text_reason (at + 1) (c ∷ bs))

done_own : (r : Option (ℕ × Reason)) (limit : ℕ) (os : List ℕ) (s : State) → IsTextReason r → IsOwnRefusal (text_done r limit os s)
done_own None limit os s h = tt
done_own (Some r) limit os s h = h

-- ## Steps

module _ (values : List EnumList) (order : Order) (os : List ℕ) where
  vary_own : (p : Phase) (limit run : ℕ) (s : State) → IsOwnRefusal (vary_by values order os p limit run s)
  vary_own begun limit run s = tt
  vary_own gap_read limit run s = tt
  vary_own (offset_read o) limit run s = by_test (ltb limit (o + unsigned order os)) (refused s.at reason.PastBound) _ tt tt
  vary_own (count_read c) limit run s = tt

  text_own : (p : Phase) (limit : ℕ) (s : State) → IsOwnRefusal (text_by values order os p limit s)
  text_own begun limit s = by_test (eqb (unsigned order os) 0) (goes (past 4 (offset_read 0) s)) (refused s.at reason.TextOffset) tt tt
  text_own gap_read limit s = by_test (eqb (unsigned order os) 0) (goes (past 4 (offset_read 0) s)) (refused s.at reason.TextOffset) tt tt
  text_own (offset_read o) limit s =
      by_test (eqb (unsigned order os) 0) (refused s.at reason.TextEmpty) _ tt
      (by_test (ltb limit (unsigned order os)) (refused s.at reason.PastBound) (goes (past 4 (count_read (unsigned order os - 1)) s)) tt tt)
  text_own (count_read c) limit s = done_own (text_refusal s.at os) limit os s (text_reason s.at os)

  hoist_own : (p : Phase) (s : State) → IsOwnRefusal (hoist_by values order os p s)
  hoist_own begun s = tt
  hoist_own gap_read s = tt
  hoist_own (offset_read o) s = tt
  hoist_own (count_read c) s = tt

  pub step_own : (i : Instr) (s : State) → IsOwnRefusal (step values order os i s)
  step_own op.Ret s = back_own s.top s
  step_own (op.Num of) s = tt
  step_own (op.Enum of) s = by_test (is_enumerator (enumerators values of.0) (value_of_octets order Short os)) _ (refused s.at reason.EnumValue) tt tt
  step_own (op.Vary bound run) s = vary_own s.phase bound run s
  step_own (op.Confvary run) s = vary_own s.phase s.max run s
  step_own (op.Text bound) s = text_own s.phase (limit_of bound s) s
  step_own op.Hoist s = hoist_own s.phase s
  step_own (op.Tag of) s =
      by_test (is_enumerator (tag_form values of).values (value_of_octets order (tag_form values of).prim os)) _ (refused s.at reason.EnumValue) tt tt
  step_own (op.Pointer class to run) s = pointer_own class to run (unsigned order os) s
  step_own (op.Check a f v star) s = check_own s.top a f v s
  step_own _ s = tt
