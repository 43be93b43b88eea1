-- How far reading goes: places only grow, and stay within the octets; and what a pointer costs.
use Rattle.std.proofs.Common.{◌≡◌, ℕ, ◌+◌, ◌^◌, ◌<◌, ◌≤◌, zero, suc, Bool, true, false, List, [], ◌∷◌, length, Option, Some, None, refl, ap, sym, ◌∙◌, arith, length-append}
use Rattle.std.specs.Prelude.{eqb, ltb, cond}
use Rattle.std.specs.List.{AllByRecursion}
use Rattle.std.proofs.lemmas.Bool.{ltb-false, eqb-false}
use Rattle.nd_base.specs.declared.octets.Order.{Order}
use Rattle.nd_base.specs.declared.TheConstants.{STREAM_LIMIT}
use Rattle.nd_types.specs.declared.types.Class.{Class}
use Rattle.nd_types.specs.declared.types.Class.TheVariants.{Ref, Unique, Full}
use Rattle.nd_value.proofs.Apart.{all_weaker}
use Rattle.nd_grammar.specs.declared.reason.Reason.{Reason}
use Rattle.nd_grammar.specs.declared.reason.Reason.TheVariants as reason
use Rattle.nd_grammar.specs.Entry.{Entry, size_at}
use Rattle.nd_grammar.specs.Refusal.{refusal, is_long}
use Rattle.nd_grammar.specs.Reader.{Progress, Names, Named, here, advanced, pass, pass_all, named, numbered, new_cell, full_by, fresh, with_cell}
use Rattle.nd_grammar.proofs.reader.ReaderNodes.{if_not}
use Rattle.nd_grammar.specs.ReaderState.{stopped, paid, NumberOk, Differ, NumbersOk}

module _ (order : Order) (octets : List ℕ) where
  -- from one place to a later one
  pub record Moves (p q : Progress) : Type 0 where
    pub paid_more : paid p ≤ paid q
    pub later : p.at ≤ q.at
    pub within : p.at ≤ length octets → q.at ≤ length octets

  pub stays_there : (p : Progress) → Moves p p
  stays_there p = record { paid_more = omega arith; later = omega arith; within = λ h. h }

  pub moves_twice : (p q r : Progress) → Moves p q → Moves q r → Moves p r
  moves_twice p q r a b = record {
    paid_more = omega (arith, a.paid_more, b.paid_more);
    later = omega (arith, a.later, b.later);
    within = λ h. b.within (a.within h);
  }

  accepted_end : (p : Progress) (m : Entry) → refusal order octets p.seen (here p m) ≡ None → p.at + size_at p.at m.kind ≤ length octets
  accepted_end p m e =
      let (a, b) = if_not (is_long p.at m.kind) (STREAM_LIMIT, reason.TooLong) _ e in
      let (c, d) = if_not (ltb (length octets) (p.at + size_at p.at m.kind)) (length octets, reason.Truncated) _ b in
      ltb-false (length octets) (p.at + size_at p.at m.kind) c

  pub pass_moves : (m : Entry) (p : Progress) → Moves p (pass order octets m p)
  pass_moves m p = go p.stop (refusal order octets p.seen (here p m)) refl refl
    where
      go : (o r : Option (ℕ × Reason)) → p.stop ≡ o → refusal order octets p.seen (here p m) ≡ r → Moves p (advanced o r p m)
      go (Some x) r e f = stays_there p
      go None (Some x) e f =
          let z : stopped p.stop ≡ 0 = ap stopped e in
          record { paid_more = omega (arith, z); later = omega arith; within = λ h. h }
      go None None e f =
          let z : stopped p.stop ≡ 0 = ap stopped e in
          record { paid_more = omega (arith, z); later = omega arith; within = λ h. accepted_end p m f }

  pub all_moves : (ms : List Entry) (p : Progress) → Moves p (pass_all order octets ms p)
  all_moves [] p = stays_there p
  all_moves (m ∷ ms) p = moves_twice p (pass order octets m p) (pass_all order octets ms (pass order octets m p)) (pass_moves m p) (all_moves ms (pass order octets m p))

  -- an entry of four octets that is passed is paid, by its octets or by the stop at it
  four_paid : (m : Entry) (p : Progress) → size_at p.at m.kind ≡ 4 → p.at + 4 ≤ paid (pass order octets m p)
  four_paid m p s = go p.stop (refusal order octets p.seen (here p m)) refl
    where
      go : (o r : Option (ℕ × Reason)) → p.stop ≡ o → p.at + 4 ≤ paid (advanced o r p m)
      go (Some x) r e = let z : stopped p.stop ≡ 1 = ap stopped e in omega (arith, z)
      go None (Some x) e = omega arith
      go None None e = omega (arith, s)

  pub pointer_paid : (gap m : Entry) (p : Progress) → p.stop ≡ None → ((at : ℕ) → size_at at m.kind ≡ 4)
      → 4 + paid p ≤ paid (pass order octets m (pass order octets gap p))
  pointer_paid gap m p e s =
      let z : stopped p.stop ≡ 0 = ap stopped e in
      let a : Moves p (pass order octets gap p) = pass_moves gap p in
      omega (arith, z, a.later, four_paid m (pass order octets gap p) (s (pass order octets gap p).at))

-- what naming a cell does
pub record NamedMakes (s : Names) (it : Named) : Type 0 where
  pub cells : length it.names.cells ≤ length s.cells + 1
  pub covered : (c : ℕ) → length s.cells < c → c ≤ length it.names.cells → it.cell ≡ Some c
  pub numbers : NumbersOk s → NumbersOk it.names

pub one_more : (to : ℕ) (s : Names) → length (with_cell to s).cells ≡ length s.cells + 1
one_more to s = length-append s.cells _ ∙ omega arith

fresh_covers : (to : ℕ) (s : Names) (n : ℕ) → n ≡ length s.cells + 1 → (c : ℕ) → length s.cells < c → c ≤ n → Some (fresh to s) ≡ Some c
fresh_covers to s n e c a b = ap Some (omega arith)

more_cells : (m n : ℕ) → m ≤ n → (xs : List (ℕ × ℕ)) → AllByRecursion (NumberOk m) xs → AllByRecursion (NumberOk n) xs
more_cells m n h xs a = all_weaker (NumberOk m) (NumberOk n) (λ x k. (k.0, k.1, omega (arith, k.2))) xs a

pub new_makes : (to : ℕ) (s : Names) → NamedMakes s (new_cell to s)
new_makes to s = record {
  cells = omega (arith, one_more to s);
  covered = fresh_covers to s (length (with_cell to s).cells) (one_more to s);
  numbers = λ k. record {
    each = more_cells (length s.cells) (length (with_cell to s).cells) (omega (arith, one_more to s)) s.numbers k.each;
    apart = k.apart;
  };
}

none_makes : (s : Names) → NamedMakes s (record { cell = None; names = s })
none_makes s = record { cells = omega arith; covered = λ c a b. absurd (omega arith); numbers = λ k. k }

old_makes : (c : ℕ) (s : Names) → NamedMakes s (record { cell = Some c; names = s })
old_makes c s = record { cells = omega arith; covered = λ k a b. absurd (omega arith); numbers = λ k. k }

not_numbered : (n : ℕ) (xs : List (ℕ × ℕ)) (v c : ℕ) → numbered xs v ≡ None → n < c → AllByRecursion (NumberOk n) xs → AllByRecursion (Differ (v, c)) xs
not_numbered n [] v c e h a = tt
not_numbered n (x ∷ xs) v c e h a = go (eqb x.0 v) refl e (λ f. not_numbered n xs v c f h a.1)
  where
    go : (t : Bool) → eqb x.0 v ≡ t → cond t (Some x.1) (numbered xs v) ≡ None → (numbered xs v ≡ None → AllByRecursion (Differ (v, c)) xs)
        → AllByRecursion (Differ (v, c)) (x ∷ xs)
    go true f g r = cc
    go false f g r = (((λ k. eqb-false x.0 v f (sym k)), (λ k. absurd (omega (arith, a.0.2)))), r g)

full_makes : (o : Option ℕ) (v to : ℕ) (s : Names) → numbered s.numbers v ≡ o → eqb v 0 ≡ false → v < 2 ^ 32 → NamedMakes s (full_by o v to s)
full_makes (Some c) v to s e z h = old_makes c s
full_makes None v to s e z h = record {
  cells = omega (arith, one_more to s);
  covered = fresh_covers to s (length (with_cell to s).cells) (one_more to s);
  numbers = λ k. record {
    each = (
      (positive v z, h, omega (arith, one_more to s)),
      more_cells (length s.cells) (length (with_cell to s).cells) (omega (arith, one_more to s)) s.numbers k.each,
    );
    apart = (not_numbered (length s.cells) s.numbers v (fresh to s) e (omega arith) k.each, k.apart);
  };
}
  where
    positive : (v : ℕ) → eqb v 0 ≡ false → 0 < v
    positive zero e = absurd (eqb-false 0 0 e refl)
    positive (suc v) e = omega arith

pub named_makes : (k : Class) (to : ℕ) (os : Option (List ℕ)) (v : ℕ) (s : Names) → v < 2 ^ 32 → NamedMakes s (named k to os v s)
named_makes Ref to os v s h = new_makes to s
named_makes Unique to None v s h = none_makes s
named_makes Full to None v s h = none_makes s
named_makes Unique to (Some os) v s h = go (eqb v 0)
  where
    go : (t : Bool) → NamedMakes s (cond t (record { cell = None; names = s }) (new_cell to s))
    go true = none_makes s
    go false = new_makes to s
named_makes Full to (Some os) v s h = go (eqb v 0) refl
  where
    go : (t : Bool) → eqb v 0 ≡ t → NamedMakes s (cond t (record { cell = None; names = s }) (full_by (numbered s.numbers v) v to s))
    go true e = none_makes s
    go false e = full_makes (numbered s.numbers v) v to s refl e h
