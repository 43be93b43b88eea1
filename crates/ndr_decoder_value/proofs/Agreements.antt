-- Agreements that are tried, and agreements of pointers.
use Rattle.std.proofs.Common.{◌≡◌, ℕ, ◌-◌, zero, suc, ℤ, Bool, true, false, List, [], ◌∷◌, Option, Some, None, Result, Ok, Err, IsErrAnd, refl, sym, ap, subst, ◌∙◌, append-nil}
use Rattle.std.specs.Prelude.{if◌then◌else◌, option_map}
use Rattle.std.proofs.lemmas.Option.{same_Some}
use Rattle.nd_types.specs.declared.types.Attr.TheVariants as attr
use Rattle.nd_value.specs.Agreement.{Agreement}
use Rattle.nd_grammar.specs.declared.reason.Reason.{Reason}
use Rattle.nd_grammar.specs.declared.reason.Reason.TheVariants as reason
use Rattle.ndr_decoder_laws.specs.declared.first.First.{First}
use Rattle.ndr_decoder_laws.specs.declared.first.First.TheVariants as first
use Rattle.ndr_decoder_laws.specs.declared.first.Member.{Member}
use Rattle.ndr_decoder_laws.specs.steps.Steps.{State, Outcome, goes, refused, next, Owed, with_fresh, joined_by, checked, try_all, is_owing, disagreed, place_of, place_in}
use Rattle.ndr_decoder_state.specs.declared.fault.DecodeFault.{DecodeFault}
use Rattle.ndr_decoder_state.specs.declared.fault.DecodeFault.TheVariants as fault
use Rattle.ndr_decoder_state.specs.Seen.{Does}
use Rattle.ndr_decoder_value.specs.Parts.{disagreement, IsTried}

-- ## Places

-- ## One agreement

-- why it does not hold at a place
abbrev failing : ℤ → ℤ → ℕ → ℕ × Reason
failing z y place = (place, reason.Disagrees z y)

held_by : (b : Bool) (p : Option ℕ) (z y : ℤ) (o : Outcome) → (if b then None else option_map (failing z y) p) ≡ None
    → (if b then o else disagreed p z y o) ≡ o
held_by true p z y o h = refl
held_by false None z y o h = refl
held_by false (Some p) z y o h = cc

failed_by : (b : Bool) (p : Option ℕ) (z y : ℤ) (o : Outcome) (place : ℕ) (why : Reason)
    → (if b then None else option_map (failing z y) p) ≡ Some (place, why) → (if b then o else disagreed p z y o) ≡ refused place why
failed_by true p z y o place why h = cc
failed_by false None z y o place why h = cc
failed_by false (Some p) z y o place why h =
    let found : ℕ × Reason = (place, why) in
    ap (λ (r : ℕ × Reason). refused r.0 r.1) (same_Some (failing z y p) found h)

pub tried_held : (w : Agreement) (x : First) (s : State) → disagreement w x s.max_at ≡ None → try_all (w ∷ []) x s ≡ goes (next s)
tried_held w x s h = held_by _ (place_of w.attr s.max_at (place_in x)) w.wanted _ (goes (next s)) h

pub tried_failed : (w : Agreement) (x : First) (s : State) (place : ℕ) (why : Reason) → disagreement w x s.max_at ≡ Some (place, why)
    → try_all (w ∷ []) x s ≡ refused place why
tried_failed w x s place why h = failed_by _ (place_of w.attr s.max_at (place_in x)) w.wanted _ (goes (next s)) place why h

-- ## Where it does not hold

-- ## No agreement

pub joined_none : (os : List Owed) (n : ℕ) → joined_by [] os n ≡ os
joined_none [] n = refl
joined_none (o ∷ os) zero = ap (λ (a : List Agreement). record { class = o.class; to = o.to; run = o.run; cell = o.cell; agreements = a } ∷ os) (append-nil o.agreements)
joined_none (o ∷ os) (suc n) = ap (λ (l : List Owed). o ∷ l) (joined_none os n)

pub none_checked : (m : Option Member) (x : Option First) (s : State) → checked [] m x s ≡ goes (next s)
none_checked None x s = refl
none_checked (Some m) None s = refl
none_checked (Some m) (Some (first.Number z)) s = refl
none_checked (Some m) (Some first.Pointer) s = ap (λ (os : List Owed). goes (next (with_fresh os s))) (joined_none s.fresh m.pending)
none_checked (Some m) (Some (first.Counted max offset actual place)) s = refl
none_checked (Some m) (Some (first.Tag tag place)) s = refl
none_checked (Some m) (Some first.Other) s = refl

-- ## The agreement of a member

pub other_checked : (w : Agreement) (m : Member) (x : First) (s : State) → is_owing x ≡ false → checked (w ∷ []) (Some m) (Some x) s ≡ try_all (w ∷ []) x s
other_checked w m x s h = ap (λ (b : Bool). if b then goes (next (with_fresh (joined_by (w ∷ []) s.fresh m.pending) s)) else try_all (w ∷ []) x s) h

-- it does not hold, and that is what the member's agreement comes to
pub tried_refused : (w : Agreement) (m : Member) (x : First) (s t : State) (e : DecodeFault) (r : Result (Unit {0}) DecodeFault) → IsErrAnd r (λ y. y ≡ e)
    → is_owing x ≡ false → IsTried (disagreement w x s.max_at) (Err e) → Does (checked (w ∷ []) (Some m) (Some x) s) r t
tried_refused w m x s t e (Ok u) h o d = absurd h
tried_refused w m x s t e (Err y) h o d =
    by y (subst (λ (z : DecodeFault). IsTried (disagreement w x s.max_at) (Err z)) (sym h) d)
  where
    by : (y : DecodeFault) → IsTried (disagreement w x s.max_at) (Err y) → Does (checked (w ∷ []) (Some m) (Some x) s) (Err y) t
    by (fault.Bad place why) d = other_checked w m x s o ∙ tried_failed w x s place why d
    by fault.ReadFault d = d
    by fault.Memory d = absurd d
