-- The step with which a value ends has no octets, and leaves the state as it is.
-- `s` is the state before.
use Rattle.std.proofs.Common.{◌≡◌, ℕ, ◌+◌, ◌-◌, zero, suc, ℤ, Bool, true, false, List, [], ◌∷◌, Option, Some, None, refl, ap, subst}
use Rattle.std.specs.Prelude.{eqb, ltb, if◌then◌else◌, slice_get}
use Rattle.std.specs.Ordering.{int_eq}
use Rattle.nd_base.specs.declared.octets.Order.{Order}
use Rattle.nd_types.specs.declared.types.Attr.{Attr}
use Rattle.nd_types.specs.declared.types.Class.{Class}
use Rattle.nd_types.specs.declared.types.Class.TheVariants.{Ref, Unique, Full}
use Rattle.nd_types.specs.declared.types.TypeId.{TypeId}
use Rattle.nd_types.specs.Number.{unsigned, value_of_octets}
use Rattle.nd_types.specs.declared.types.Primitive.TheVariants.{Short}
use Rattle.nd_value.specs.Agreement.{Agreement, agreement}
use Rattle.nd_grammar.specs.declared.reason.Reason.{Reason}
use Rattle.nd_grammar.specs.declared.reason.Reason.TheVariants as reason
use Rattle.nd_grammar.specs.Refusal.{is_enumerator, text_refusal}
use Rattle.ndr_code.specs.declared.instr.Instr.{Instr}
use Rattle.ndr_code.specs.declared.instr.Instr.TheVariants as op
use Rattle.ndr_code.specs.declared.lists.EnumList.{EnumList}
use Rattle.ndr_code.specs.Code.{enumerators}
use Rattle.ndr_refs.specs.declared.referents.Known.{Known}
use Rattle.ndr_refs.specs.Known.{known}
use Rattle.ndr_decoder_laws.specs.declared.frame.Frame.{Frame}
use Rattle.ndr_decoder_laws.specs.declared.frame.Frame.TheVariants as frame
use Rattle.ndr_decoder_laws.specs.declared.first.First.{First}
use Rattle.ndr_decoder_laws.specs.declared.first.Member.{Member}
use Rattle.ndr_decoder_laws.specs.steps.Steps.{State, Outcome, goes, refused, whole, Phase, begun, gap_read, offset_read, count_read, past, done_after, back_to, owing, full_by, pointer_step, is_owing}
use Rattle.ndr_decoder_laws.specs.steps.Steps.{disagreed, try_all, checked, check_in, text_done, limit_of, vary_by, text_by, hoist_by, tag_form, step, place_of, place_in, first_found, first_number}

abbrev pub StaysAt : State → Outcome → Type 0
StaysAt n (whole t) = t ≡ n
StaysAt n (goes t) = Unit {0}
StaysAt n (refused place why) = Unit {0}

by_test : (n : State) (b : Bool) (x y : Outcome) → StaysAt n x → StaysAt n y → StaysAt n (if b then x else y)
by_test n true x y p q = p
by_test n false x y p q = q

-- ## Frames and agreements

back_stays : (f : Frame) (s : State) → StaysAt s (back_to f s)
back_stays frame.Home s = refl
back_stays (frame.Record back first) s = tt
back_stays (frame.Elements zero run back) s = tt
back_stays (frame.Elements (suc left) run back) s = tt

disagreed_stays : (n : State) (p : Option ℕ) (z y : ℤ) (o : Outcome) → StaysAt n o → StaysAt n (disagreed p z y o)
disagreed_stays n None z y o h = h
disagreed_stays n (Some p) z y o h = tt

tried_stays : (ws : List Agreement) (x : First) (s : State) → StaysAt s (try_all ws x s)
tried_stays [] x s = tt
tried_stays (w ∷ ws) x s =
    by_test s (int_eq w.wanted (first_found w.attr x)) (try_all ws x s)
    (disagreed (place_of w.attr s.max_at (place_in x)) w.wanted (first_found w.attr x) (try_all ws x s)) (tried_stays ws x s)
    (disagreed_stays s (place_of w.attr s.max_at (place_in x)) w.wanted (first_found w.attr x) (try_all ws x s) (tried_stays ws x s))

checked_stays : (ws : List Agreement) (m : Option Member) (x : Option First) (s : State) → StaysAt s (checked ws m x s)
checked_stays ws None x s = tt
checked_stays ws (Some m) None s = tt
checked_stays ws (Some m) (Some x) s = by_test s (is_owing x) _ (try_all ws x s) tt (tried_stays ws x s)

check_stays : (f : Frame) (a : Attr) (field var : ℕ) (s : State) → StaysAt s (check_in f a field var s)
check_stays frame.Home a field var s = tt
check_stays (frame.Record back first) a field var s =
    checked_stays (agreement a (first_number (slice_get s.firsts (first + var)))) (slice_get s.members (first + field)) (slice_get s.firsts (first + field)) s
check_stays (frame.Elements left run back) a field var s = tt

-- ## Pointers

full_stays : (k : Option Known) (v : ℕ) (to : TypeId) (run : ℕ) (s : State) → StaysAt s (full_by k v to run s)
full_stays None v to run s = tt
full_stays (Some k) v to run s = by_test s (eqb k.of.0 to.0) (goes (done_after 4 (owing Full to run (Some k.cell.0) s))) (refused s.at reason.OtherType) tt tt

pointer_stays : (class : Class) (to : TypeId) (run v : ℕ) (s : State) → StaysAt s (pointer_step class to run v s)
pointer_stays Ref to run v s = tt
pointer_stays Unique to run v s = tt
pointer_stays Full to run v s = by_test s (eqb v 0) (goes (done_after 4 (owing Full to run None s))) (full_by (known v s.numbers) v to run s) tt (full_stays (known v s.numbers) v to run s)

-- ## Strings

done_stays : (r : Option (ℕ × Reason)) (limit : ℕ) (os : List ℕ) (s : State) → StaysAt s (text_done r limit os s)
done_stays None limit os s = tt
done_stays (Some r) limit os s = tt

-- ## Steps

module _ (values : List EnumList) (order : Order) (os : List ℕ) where
  vary_stays : (p : Phase) (limit run : ℕ) (s : State) → StaysAt s (vary_by values order os p limit run s)
  vary_stays begun limit run s = tt
  vary_stays gap_read limit run s = tt
  vary_stays (offset_read o) limit run s = by_test s (ltb limit (o + unsigned order os)) (refused s.at reason.PastBound) _ tt tt
  vary_stays (count_read c) limit run s = tt

  text_stays : (p : Phase) (limit : ℕ) (s : State) → StaysAt s (text_by values order os p limit s)
  text_stays begun limit s = by_test s (eqb (unsigned order os) 0) (goes (past 4 (offset_read 0) s)) (refused s.at reason.TextOffset) tt tt
  text_stays gap_read limit s = by_test s (eqb (unsigned order os) 0) (goes (past 4 (offset_read 0) s)) (refused s.at reason.TextOffset) tt tt
  text_stays (offset_read o) limit s =
      by_test s (eqb (unsigned order os) 0) (refused s.at reason.TextEmpty) _ tt
      (by_test s (ltb limit (unsigned order os)) (refused s.at reason.PastBound) (goes (past 4 (count_read (unsigned order os - 1)) s)) tt tt)
  text_stays (count_read c) limit s = done_stays (text_refusal s.at os) limit os s

  hoist_stays : (p : Phase) (s : State) → StaysAt s (hoist_by values order os p s)
  hoist_stays begun s = tt
  hoist_stays gap_read s = tt
  hoist_stays (offset_read o) s = tt
  hoist_stays (count_read c) s = tt

  pub step_stays : (i : Instr) (s : State) → StaysAt s (step values order os i s)
  step_stays op.Ret s = back_stays s.top s
  step_stays (op.Num of) s = tt
  step_stays (op.Enum of) s = by_test s (is_enumerator (enumerators values of.0) (value_of_octets order Short os)) _ (refused s.at reason.EnumValue) tt tt
  step_stays (op.Vary bound run) s = vary_stays s.phase bound run s
  step_stays (op.Confvary run) s = vary_stays s.phase s.max run s
  step_stays (op.Text bound) s = text_stays s.phase (limit_of bound s) s
  step_stays op.Hoist s = hoist_stays s.phase s
  step_stays (op.Tag of) s =
      by_test s (is_enumerator (tag_form values of).values (value_of_octets order (tag_form values of).prim os)) _ (refused s.at reason.EnumValue) tt tt
  step_stays (op.Pointer class to run) s = pointer_stays class to run (unsigned order os) s
  step_stays (op.Check a f v star) s = check_stays s.top a f v s
  step_stays (op.Direct to run) s = refl
  step_stays (op.Given a f v star) s = refl
  step_stays (op.Pipe run) s = refl
  step_stays op.Defer s = refl
  step_stays _ s = tt

  pub whole_is : (i : Instr) (s t : State) → step values order os i s ≡ whole t → t ≡ s
  whole_is i s t e = subst (StaysAt s) e (step_stays i s)

  pub whole_stays : (i : Instr) (s t : State) → step values order os i s ≡ whole t → t.at ≡ s.at
  whole_stays i s t e = ap (λ (u : State). u.at) (whole_is i s t e)
