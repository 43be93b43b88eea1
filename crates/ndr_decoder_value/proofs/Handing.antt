-- Results that are handed on, and instructions that read nothing.
-- `o` is what a step comes to, `r` a result, `e` its fault, `s` the state before, `t` the one after, `n` what was noted and counted.
use Rattle.std.proofs.Common.{◌≡◌, ℕ, ◌+◌, zero, suc, ℤ, Bool, true, false, List, [], ◌∷◌, take, Option, Some, None, Result, Ok, Err, refl, subst, arith}
use Rattle.std.specs.Prelude.{if◌then◌else◌, slice_get}
use Rattle.std.specs.Ordering.{int_eq}
use Rattle.nd_base.specs.declared.octets.Order.{Order}
use Rattle.nd_types.specs.declared.types.Attr.{Attr}
use Rattle.nd_types.specs.declared.types.TypeId.{TypeId}
use Rattle.nd_types.specs.Number.{value_of_octets}
use Rattle.nd_value.specs.Agreement.{Agreement, agreement}
use Rattle.nd_value.specs.Logged.{Logged}
use Rattle.nd_grammar.specs.declared.reason.Reason.TheVariants as reason
use Rattle.nd_grammar.specs.Refusal.{is_enumerator}
use Rattle.ndr_code.specs.declared.lists.EnumList.{EnumList}
use Rattle.ndr_decoder_laws.specs.declared.first.First.{First}
use Rattle.ndr_decoder_laws.specs.declared.first.Member.{Member}
use Rattle.ndr_decoder_laws.specs.declared.frame.Frame.{Frame}
use Rattle.ndr_decoder_laws.specs.declared.frame.Frame.TheVariants as frame
use Rattle.ndr_decoder_laws.specs.steps.Steps.{State, Outcome, goes, refused, whole, next, popped_to, with_members, with_tag, tag_form, tag_step, elements, call_from, back_to, close_of, is_owing}
use Rattle.ndr_decoder_laws.specs.steps.Steps.{disagreed, try_all, checked, check_in, place_of, place_in, first_found, first_number}
use Rattle.ndr_decoder_state.specs.declared.fault.DecodeFault.{DecodeFault}
use Rattle.ndr_decoder_state.specs.declared.fault.DecodeFault.TheVariants as fault
use Rattle.ndr_decoder_state.specs.declared.fault.Progress.{Progress}
use Rattle.ndr_decoder_state.specs.declared.fault.Progress.TheVariants as progress
use Rattle.ndr_decoder_state.specs.declared.machine.Machine.{Machine}
use Rattle.ndr_decoder_state.specs.Notes.{notes_seen, nothing_noted, Noted, all_noted, ticks}
use Rattle.ndr_decoder_state.specs.Seen.{state_of, Does, Comes}
use Rattle.ndr_decoder_value.proofs.Noting.{same_cells as same_count}

-- ## A fault that is handed on

-- ## Instructions that leave the cells as they are

-- where it goes on or is whole, these are the cells
abbrev pub Leaves : List ℕ → Outcome → Type 0
Leaves cells (goes t) = t.cells ≡ cells
Leaves cells (refused place why) = Unit {0}
Leaves cells (whole t) = t.cells ≡ cells

by_test : (cells : List ℕ) (b : Bool) (x y : Outcome) → Leaves cells x → Leaves cells y → Leaves cells (if b then x else y)
by_test cells true x y p q = p
by_test cells false x y p q = q

popped_cells : (fs : List Frame) (s : State) → (popped_to fs s).cells ≡ s.cells
popped_cells [] s = refl
popped_cells (f ∷ fs) s = refl

pub back_leaves : (f : Frame) (s : State) → Leaves s.cells (back_to f s)
back_leaves frame.Home s = refl
back_leaves (frame.Record back first) s = refl
back_leaves (frame.Elements zero run back) s = popped_cells s.stack s
back_leaves (frame.Elements (suc left) run back) s = refl

pub close_leaves : (f : Frame) (s : State) → Leaves s.cells (goes (close_of f s))
close_leaves frame.Home s = popped_cells s.stack s
close_leaves (frame.Record back first) s = popped_cells s.stack (with_members (take first s.members) (take first s.firsts) s)
close_leaves (frame.Elements left run back) s = popped_cells s.stack s

pub call_leaves : (f : Frame) (run : ℕ) (s : State) → Leaves s.cells (goes (call_from f run s))
call_leaves frame.Home run s = refl
call_leaves (frame.Record back first) run s = refl
call_leaves (frame.Elements left r back) run s = refl

pub elements_leave : (n run : ℕ) (s : State) → Leaves s.cells (goes (elements n run s))
elements_leave zero run s = refl
elements_leave (suc n) run s = refl

pub tag_leaves : (values : List EnumList) (order : Order) (os : List ℕ) (of : TypeId) (s : State) → Leaves s.cells (tag_step values order os (tag_form values of) s)
tag_leaves values order os of s =
    let form = tag_form values of in
    by_test s.cells (is_enumerator form.values (value_of_octets order form.prim os)) (goes (next (with_tag (value_of_octets order form.prim os) form.prim s)))
    (refused s.at reason.EnumValue) refl tt

disagreed_leaves : (cells : List ℕ) (p : Option ℕ) (z y : ℤ) (o : Outcome) → Leaves cells o → Leaves cells (disagreed p z y o)
disagreed_leaves cells None z y o h = h
disagreed_leaves cells (Some p) z y o h = tt

tried_leaves : (ws : List Agreement) (x : First) (s : State) → Leaves s.cells (try_all ws x s)
tried_leaves [] x s = refl
tried_leaves (w ∷ ws) x s =
    by_test s.cells (int_eq w.wanted (first_found w.attr x)) (try_all ws x s)
    (disagreed (place_of w.attr s.max_at (place_in x)) w.wanted (first_found w.attr x) (try_all ws x s)) (tried_leaves ws x s)
    (disagreed_leaves s.cells (place_of w.attr s.max_at (place_in x)) w.wanted (first_found w.attr x) (try_all ws x s) (tried_leaves ws x s))

checked_leaves : (ws : List Agreement) (m : Option Member) (x : Option First) (s : State) → Leaves s.cells (checked ws m x s)
checked_leaves ws None x s = refl
checked_leaves ws (Some m) None s = refl
checked_leaves ws (Some m) (Some x) s = by_test s.cells (is_owing x) _ (try_all ws x s) refl (tried_leaves ws x s)

pub check_leaves : (f : Frame) (a : Attr) (field var : ℕ) (s : State) → Leaves s.cells (check_in f a field var s)
check_leaves frame.Home a field var s = refl
check_leaves (frame.Record back first) a field var s =
    checked_leaves (agreement a (first_number (slice_get s.firsts (first + var)))) (slice_get s.members (first + field)) (slice_get s.firsts (first + field)) s
check_leaves (frame.Elements left run back) a field var s = refl

-- ## They note nothing

none_counted : (log : Logged) (n : ℕ) (m new : Machine) → (state_of new).cells ≡ (state_of m).cells → (log ≡ all_noted [] log) × (n + m.cells ≡ n + ticks [] + new.cells)
none_counted log n m new e = let same : new.cells ≡ m.cells = same_count m new e in (refl, omega (arith, same))

pub quiet : (o : Outcome) (log : Logged) (n : ℕ) (m new : Machine) (r : Result (Unit {0}) DecodeFault) → Leaves (state_of m).cells o → Does o r (state_of new)
    → Noted o [] (notes_seen log log n n m.cells new.cells) r
quiet o log n m new (Ok u) l d = none_counted log n m new (subst (Leaves (state_of m).cells) d l)
quiet o log n m new (Err fault.Memory) l d = nothing_noted refl (omega arith)
quiet o log n m new (Err fault.ReadFault) l d = absurd d
quiet o log n m new (Err (fault.Bad place why)) l d = (refl, refl)

-- the same of an end
pub quiet_end : (o : Outcome) (log : Logged) (n : ℕ) (m new : Machine) (p : Progress) → Leaves (state_of m).cells o → Comes o (Ok p) (state_of new)
    → (log ≡ all_noted [] log) × (n + m.cells ≡ n + ticks [] + new.cells)
quiet_end o log n m new progress.More l d = none_counted log n m new (subst (Leaves (state_of m).cells) d l)
quiet_end o log n m new progress.Whole l d = none_counted log n m new (subst (Leaves (state_of m).cells) d l)
